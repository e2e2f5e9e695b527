use Rattle.std.proofs.Common.{◌≡◌}
use Rattle.std.proofs.lemmas.Result.{IfOk-weaker}
use Rattle.schedule_file.specs.Reading.{IsReadAs}
use Rattle.schedule_file.proofs.reading.read.Goals as goal

pub returns-clause-exact : goal.returns-clause-exact
returns-clause-exact c =
    λ reading is. IfOk-weaker c.read_text.result (IsReadAs c.args.net.now c.args.text.now) (λ found. found ≡ reading)
    (λ found read. c.one_reading.ensures c.args.net.now c.args.text.now found reading c.sound.ensures read is)
    c.read_text.ensures.read
