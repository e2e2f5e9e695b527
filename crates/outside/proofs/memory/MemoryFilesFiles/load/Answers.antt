use Rattle.outside.proofs.FilesLemmas.{HasPartly-take}
use Rattle.outside.proofs.memory.MemoryFilesFiles.load.Goals as goal

pub returns-in_ok-load_front-in-Some-clause-partly : goal.returns-in_ok-load_front-in-Some-clause-partly
returns-in_ok-load_front-in-Some-clause-partly c =
    rw (← c.self.view_is) (HasPartly-take _ _ _ c.in-Some.kept _ _ c.in_ok-load_front-in-Some.ensures.ok)
