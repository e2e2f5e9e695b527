use Rattle.schedule_text.proofs.WrittenLemmas.{read_back}
use Rattle.schedule_text.proofs.laws.written_is_read_back.Goals as goal

pub returns : goal.returns
returns c = read_back
