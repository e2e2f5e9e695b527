use Rattle.outside.proofs.FilesLemmas.{file_of-with_file-same, file_of-with_file-other}
use Rattle.outside.proofs.laws.set_file_alone_changes.Goals as goal

pub returns : goal.returns
returns c = λ files name bytes. (file_of-with_file-same files name bytes, file_of-with_file-other files name bytes)
