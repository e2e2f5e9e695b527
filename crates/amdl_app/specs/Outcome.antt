-- How a reply is carried out.
use Rattle.std.specs.Prelude.{◌≡◌, ℕ, List, Option, Some, None}
use Rattle.std.specs.Io.KnownBytes.{append_known}
use Rattle.outside.specs.Faults.{Rose}
use Rattle.outside.specs.Files.{FileMap, with_known_file}
use Rattle.outside.specs.Sink.{AppendsFront}
use Rattle.amdl_app.specs.Reply.{Reply}
use Rattle.amdl_app.specs.Seen.{Seen, SinkSeen}
use Rattle.amdl_app.specs.Loaded.{MayCome}
use Rattle.amdl_app.specs.Answer.{IsReply}

-- what a reply stores, a name and its bytes, stands after the call, and every other file is as before
abbrev pub Leaves : Option (List ℕ × List ℕ) → Option FileMap → Option FileMap → Type 0
Leaves None before after = after ≡ before
Leaves (Some file) before after = after ≡ with_known_file before file.0 file.1

-- a reply was put out, whole or in part
pub data IsPutOut (reply : Reply) (before after : SinkSeen) (status : ℕ) : Type 0 where
  whole : status ≡ reply.status → after.written ≡ append_known before.written reply.text →
      IsPutOut reply before after status
  failed : status ≡ 5 → Rose before.faults after.faults → AppendsFront before.written after.written reply.text →
      IsPutOut reply before after status
  unfinished : status ≡ 6 → AppendsFront before.written after.written reply.text → IsPutOut reply before after status

-- a call of the program: it found no memory for a reply and changed nothing, or it carried one out
pub data IsCall (words : List (List ℕ)) (before after : Seen) (status : ℕ) : Type 0 where
  no_memory : status ≡ 6 → after.sink.written ≡ before.sink.written → after.files.told ≡ before.files.told →
      IsCall words before after status
  replied : (reply : Reply) → IsReply (MayCome before.files after.files) words reply →
      Leaves reply.stored before.files.told after.files.told → IsPutOut reply before.sink after.sink status →
      IsCall words before after status
