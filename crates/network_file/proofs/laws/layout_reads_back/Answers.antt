use Rattle.network_file.proofs.ReadingLemmas.{reads_back}
use Rattle.network_file.proofs.laws.layout_reads_back.Goals as goal

pub returns : goal.returns
returns c = reads_back c.layout_is_file.ensures
