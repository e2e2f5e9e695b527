-- What writes do to the contents of a box and to its answers.
use Rattle.std.specs.Prelude.{◌≡◌, ◌≢◌, ℕ, ◌<◌, Bool, true, false, List, [], ◌∷◌, ◌++◌, Some, slice_get}
use Rattle.std.specs.List.{Contains}
use Rattle.std.specs.Int.{bit_at}
use Rattle.box_contents.specs.declared.entry.Entry.{Entry}
use Rattle.box_contents.specs.Contents.{with_entry, without_entry}
use Rattle.box_handlers.specs.declared.act.Query.{Query}
use Rattle.box_executions.specs.Shape.{AreContents}
use Rattle.net_plan.specs.declared.plan.Plan.{Plan}
use Rattle.net_plan.specs.Plan.{box_at, masks_of}
use Rattle.net_plan.specs.Reading.{tuple_at}
use Rattle.net_runs.specs.World.{relations_of}
use Rattle.packet_state.specs.Answers.{class_of_box, answers}
use Rattle.box_masks.specs.declared.write.Write.{Write}

-- contents of the box
abbrev pub AreContentsOf : Plan → ℕ → List Entry → Type 0
AreContentsOf plan box contents = AreContents (relations_of plan (class_of_box plan box)) contents

-- the contents after a write, and after writes in their order
abbrev pub after_write : List Entry → Entry → Bool → List Entry
after_write contents entry true = with_entry contents entry
after_write contents entry false = without_entry contents entry

abbrev pub after_writes : List Entry → List Write → List Entry
after_writes contents [] = contents
after_writes contents (write ∷ writes) = after_writes (after_write contents write.entry write.add) writes

-- some contents of the box answer with the one mask at the one packet and with the other at the other
abbrev pub AreShown : Plan → ℕ → ℕ → ℕ → ℕ → ℕ → Type 0
AreShown plan box packet mask other_packet other_mask =
    (contents : List Entry) × AreContentsOf plan box contents × (answers plan box packet contents ≡ mask)
    × (answers plan box other_packet contents ≡ other_mask)

-- the mask is one of the box
abbrev pub IsMaskOf : Plan → ℕ → ℕ → Type 0
IsMaskOf plan box mask = mask < masks_of plan (box_at plan box)

-- the last of the writes to the entry, after which none writes it
pub record IsLastWrite (writes : List Write) (entry : Entry) (add : Bool) : Type 0 where
  pub earlier : List Write
  pub later : List Write
  pub stands : writes ≡ earlier ++ (record { entry = entry; add = add } ∷ later)
  pub last : (write : Write) → Contains later write → write.entry ≢ entry

-- no write is to the entry
abbrev pub IsUnwritten : List Write → Entry → Type 0
IsUnwritten writes entry = (write : Write) → Contains writes write → write.entry ≢ entry

-- the bit of a query after the writes: what the last write to its tuple does, and the bit from before where there is none
pub record IsPatchedBit (writes : List Write) (entry : Entry) (old new : ℕ) : Type 0 where
  pub added : IsLastWrite writes entry true → new ≡ 1
  pub removed : IsLastWrite writes entry false → new ≡ 0
  pub kept : IsUnwritten writes entry → new ≡ old

-- each bit of the mask is patched so, at the tuple of its query at the packet
abbrev pub IsPatched : Plan → ℕ → List Write → ℕ → ℕ → ℕ → Type 0
IsPatched plan box writes packet old new =
    (k : ℕ) (query : Query) → slice_get (class_of_box plan box).queries k ≡ Some query →
    IsPatchedBit writes (tuple_at plan (class_of_box plan box) packet [] query) (bit_at old k) (bit_at new k)
