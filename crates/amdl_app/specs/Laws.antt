-- Laws over the definitions.
use Rattle.std.specs.Prelude.{◌≡◌, ℕ, List, Some}
use Rattle.outside.specs.Files.{FileMap}
use Rattle.amdl_app.specs.Reply.{Reply}
use Rattle.amdl_app.specs.Command.{Command, stored_name_of}
use Rattle.amdl_app.specs.Loaded.{Loaded}
use Rattle.amdl_app.specs.Answer.{IsReplyTo, IsAnswer}

-- no command has two replies to the same outcomes of its loads
abbrev pub ReplyIsUnique : Type 0
ReplyIsUnique =
    (command : Command) (loads : List Loaded) (one two : Reply) →
    IsReplyTo command loads one → IsReplyTo command loads two → one ≡ two

-- no words and files have two answers
abbrev pub AnswerIsUnique : Type 0
AnswerIsUnique =
    (words : List (List ℕ)) (files : FileMap) (one two : Reply) →
    IsAnswer words files one → IsAnswer words files two → one ≡ two

-- a reply stores a file under the name of its command alone
abbrev pub StoresItsFile : Type 0
StoresItsFile =
    (command : Command) (loads : List Loaded) (reply : Reply) → IsReplyTo command loads reply →
    (file : List ℕ × List ℕ) → reply.stored ≡ Some file → stored_name_of command ≡ Some file.0
