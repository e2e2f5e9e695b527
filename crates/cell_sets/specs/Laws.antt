-- Laws of sets of cells.
use Rattle.std.specs.Prelude.{◌≡◌, ℕ, ◌↔◌, Bool, List, length}
use Rattle.std.specs.List.{Contains}
use Rattle.cell_sets.specs.Marks.{HasCell, members_in, members_of}

-- the list of the members has each of them and no other, and is as long as they are many
abbrev pub MembersAreListed : Type 0
MembersAreListed =
    (marks : List Bool) →
    ((cell : ℕ) → Contains (members_of marks) cell ↔ HasCell marks cell)
    × (length (members_of marks) ≡ members_in marks)
