use Rattle.std.proofs.Common.{length}
use Rattle.concrete_net.proofs.outputs.+put_out_all.Given as goal

abbrev pub decreases-put_out_all : goal.decreases-put_out_all
decreases-put_out_all l = length l.outputs.now
