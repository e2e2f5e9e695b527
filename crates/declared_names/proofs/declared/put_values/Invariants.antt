use Rattle.std.proofs.Common.{◌≡◌, ℕ, List, take}
use Rattle.std.specs.Option.{option_or}
use Rattle.name_tables.specs.Names.{told}
use Rattle.declared_names.specs.Declares.{told_among}
use Rattle.declared_names.proofs.declared.put_values.Given as goal

-- the values so far tell the type
abbrev pub invariant-loop-value : goal.invariant-loop-value
invariant-loop-value l =
    (name : List ℕ) →
    told l.map name ≡ option_or (told l.initial.map name) (told_among (take l.value-index l.values) l.kind name)
