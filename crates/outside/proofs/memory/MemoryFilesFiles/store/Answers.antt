use Rattle.outside.proofs.FilesLemmas.{StoresFront-take}
use Rattle.outside.proofs.memory.MemoryFilesFiles.store.Goals as goal

pub returns-in_ok-keep-in-Some-clause-partly : goal.returns-in_ok-keep-in-Some-clause-partly
returns-in_ok-keep-in-Some-clause-partly c =
    rw (← c.self.view_is) (StoresFront-take _ _ _ _ _ c.in-Some.kept c.front.ensures c.in_ok-keep-in-Some.ensures.ok)
