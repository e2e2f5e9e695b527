use Rattle.outside.proofs.KeepingLemmas.{file_of-files_of}
use Rattle.outside.proofs.keeping.KeptFiles.bytes.Goals as goal

pub returns : goal.returns
returns c = rw (← c.self.view_is, file_of-files_of, c.bytes_in.ensures, c.deref.ensures.value, c.as_bytes.ensures.value)
