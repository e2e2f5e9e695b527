use Rattle.outside.proofs.FilesLemmas.{AppendsFront-take}
use Rattle.outside.proofs.memory.MemorySinkSink.put.Goals as goal

pub returns-in_ok-extend_from_slice-in-Some-clause-partly : goal.returns-in_ok-extend_from_slice-in-Some-clause-partly
returns-in_ok-extend_from_slice-in-Some-clause-partly c =
    rw (← c.self.view_is)
    (AppendsFront-take _ _ _ _ c.in-Some.kept c.front.ensures c.in_ok-extend_from_slice-in-Some.ensures.items)
