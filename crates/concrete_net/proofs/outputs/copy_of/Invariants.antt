use Rattle.std.proofs.Common.{◌≡◌, take}
use Rattle.concrete_net.proofs.outputs.copy_of.Given as goal

abbrev pub invariant-loop-packet : goal.invariant-loop-packet
invariant-loop-packet l = l.copy ≡ take l.packet-index l.packets
