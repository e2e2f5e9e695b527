use Rattle.std.proofs.Common.{◌≡◌, map}
use Rattle.std.specs.List.{range_with_len}
use Rattle.header_set.specs.Headers.{field_of}
use Rattle.handler_runs.proofs.handling.fields_of.Given as goal

abbrev pub invariant-loop-k : goal.invariant-loop-k
invariant-loop-k l = l.fields ≡ map (field_of l.headers l.packet) (range_with_len 0 l.k)
