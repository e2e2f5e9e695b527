-- The contents of a box as a rising list of entries.
use Rattle.std.specs.Prelude.{Bool, not, List}
use Rattle.std.specs.declared.cmp.Ordering.{Ordering}
use Rattle.std.specs.Ordering.{nat_cmp, on, then_cmp, eq_by_cmp}
use Rattle.std.specs.List.{filter, list_any}
use Rattle.std.specs.List.Sorted.{IsStrictlySortedBy}
use Rattle.std.specs.BTreeSet.{insert_key}
use Rattle.box_contents.specs.declared.entry.Entry.{Entry}

-- entries are compared by relation and then by tuple
abbrev pub entry_cmp : Entry → Entry → Ordering
entry_cmp = then_cmp (on (λ (entry : Entry). entry.relation) nat_cmp) (on (λ (entry : Entry). entry.tuple) nat_cmp)

-- two entries are one
abbrev pub same_entry : Entry → Entry → Bool
same_entry = eq_by_cmp entry_cmp

-- each entry is below those behind it, so none stands twice
abbrev pub IsRising : List Entry → Type 0
IsRising entries = IsStrictlySortedBy entry_cmp entries

-- whether the entry is among them
abbrev pub holds_entry : List Entry → Entry → Bool
holds_entry entries entry = list_any (same_entry entry) entries

-- the list with the entry at its place in the order, unless it is there
abbrev pub with_entry : List Entry → Entry → List Entry
with_entry entries entry = insert_key entry_cmp entries entry

-- the list without the entry
abbrev pub without_entry : List Entry → Entry → List Entry
without_entry entries entry = filter (λ other. not (same_entry entry other)) entries
