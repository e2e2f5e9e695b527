-- What holds of contents with and without an entry.
use Rattle.std.specs.Prelude.{◌≡◌, List, ◌↔◌, not, ◌&&◌, ◌||◌, IsTrue, Contains}
use Rattle.box_contents.specs.declared.entry.Entry.{Entry}
use Rattle.box_contents.specs.Contents.{same_entry, IsRising, holds_entry, with_entry, without_entry}

-- a list holds an entry exactly where it is a member
abbrev pub HeldIsMember : Type 0
HeldIsMember = (entries : List Entry) (entry : Entry) → IsTrue (holds_entry entries entry) ↔ Contains entries entry

abbrev pub WithKeepsRising : Type 0
WithKeepsRising = (entries : List Entry) (entry : Entry) → IsRising entries → IsRising (with_entry entries entry)

abbrev pub WithoutKeepsRising : Type 0
WithoutKeepsRising = (entries : List Entry) (entry : Entry) → IsRising entries → IsRising (without_entry entries entry)

-- what is held with an entry more, whether the list rises or not
abbrev pub HeldWith : Type 0
HeldWith =
    (entries : List Entry) (entry other : Entry) →
    holds_entry (with_entry entries entry) other ≡ (same_entry other entry || holds_entry entries other)

-- what is held without an entry, whether the list rises or not
abbrev pub HeldWithout : Type 0
HeldWithout =
    (entries : List Entry) (entry other : Entry) →
    holds_entry (without_entry entries entry) other ≡ (not (same_entry other entry) && holds_entry entries other)

-- two rising lists that hold the same entries are one list
abbrev pub RisingIsSettled : Type 0
RisingIsSettled =
    (one two : List Entry) → IsRising one → IsRising two →
    ((entry : Entry) → holds_entry one entry ≡ holds_entry two entry) → one ≡ two
