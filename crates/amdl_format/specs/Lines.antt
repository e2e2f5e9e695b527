-- Lines that stand some levels in, and lists whose parts have a text in front.
use Rattle.std.specs.Prelude.{ℕ, zero, suc, List, [], ◌∷◌, ◌++◌, codes}
use Rattle.std.specs.List.{flat_map}
use Rattle.amdl_tree.specs.Layout.{line, indented, behind_text, Branch, lines_of_branch}

-- two blanks for each level
abbrev pub blanks : ℕ → List ℕ
blanks zero = []
blanks (suc level) = blanks level ++ codes "  "

-- a line with its end, so many levels in
abbrev pub line_at : ℕ → List ℕ → List ℕ
line_at level text = blanks level ++ line text

-- the text of lines that stand so many levels in
abbrev pub text_at : ℕ → List (List ℕ) → List ℕ
text_at level lines = flat_map (line_at level) lines

-- the parts, each with a text in front: the first with one, the others with another
abbrev pub led : {A : Type 0} → List ℕ → List ℕ → (A → List ℕ) → List A → List ℕ
led first text written [] = []
led first text written (part ∷ parts) = first ++ written part ++ flat_map (behind_text text written) parts

-- the lines of an alternative, with a text in front of its guard
abbrev pub branch_behind : List ℕ → Branch → List (List ℕ)
branch_behind first branch = (first ++ branch.guard ++ codes " -> {") ∷ indented branch.block

-- the lines of alternatives, with a text in front of the first guard, and without the last brace
abbrev pub branches_behind : List ℕ → List Branch → List (List ℕ)
branches_behind first [] = []
branches_behind first (branch ∷ branches) = branch_behind first branch ++ flat_map lines_of_branch branches
