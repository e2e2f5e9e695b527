-- Lines some levels in.
use Rattle.std.proofs.Common.{◌≡◌, ℕ, ◌+◌, List, [], ◌∷◌, ◌++◌, map, codes, refl, sym, ap, ◌∙◌, append_assoc}
use Rattle.std.proofs.Common.{append-nil, add-one}
use Rattle.std.specs.List.{flat_map}
use Rattle.std.proofs.lemmas.List.Concat.{flat_map-append}
use Rattle.amdl_tree.specs.Layout.{line, further_in, indented, layout_of_class, lines_within_class}
use Rattle.amdl_tree.specs.declared.class.Class.{Class}
use Rattle.amdl_format.specs.Lines.{blanks, line_at, text_at}

-- one level more
pub blanks_more : (level : ℕ) → blanks (level + 1) ≡ blanks level ++ codes "  "
blanks_more level = ap blanks (add-one level)

-- a line further in is a line one level more
further_line : (level : ℕ) (text : List ℕ) → line_at level (further_in text) ≡ line_at (level + 1) text
further_line level text =
    sym (append_assoc (blanks level) (codes "  ") (line text)) ∙ ap (λ t. t ++ line text) (sym (blanks_more level))

pub further_lines : (level : ℕ) (lines : List (List ℕ)) → text_at level (indented lines) ≡ text_at (level + 1) lines
further_lines level [] = refl
further_lines level (text ∷ texts) = λ i. further_line level text i ++ further_lines level texts i

pub text_append : (level : ℕ) (a b : List (List ℕ)) → text_at level (a ++ b) ≡ text_at level a ++ text_at level b
text_append level = flat_map-append (line_at level)

-- the text of lines that parts make
pub text_of_parts : {A : Type 0} (level : ℕ) (lines : A → List (List ℕ)) (parts : List A) →
    text_at level (flat_map lines parts) ≡ flat_map (λ part. text_at level (lines part)) parts
text_of_parts level lines [] = refl
text_of_parts level lines (part ∷ parts) =
    text_append level (lines part) (flat_map lines parts)
    ∙ ap (λ t. text_at level (lines part) ++ t) (text_of_parts level lines parts)

-- a block one level further in
pub text_of_block : {A : Type 0} (level : ℕ) (lines : A → List (List ℕ)) (parts : List A) →
    text_at level (indented (flat_map lines parts)) ≡ flat_map (λ part. text_at (level + 1) (lines part)) parts
text_of_block level lines parts = further_lines level (flat_map lines parts) ∙ text_of_parts (level + 1) lines parts

-- one line of each part
pub text_of_lines : {A : Type 0} (level : ℕ) (lined : A → List ℕ) (parts : List A) →
    text_at level (map lined parts) ≡ flat_map (λ part. line_at level (lined part)) parts
text_of_lines level lined [] = refl
text_of_lines level lined (part ∷ parts) = ap (λ t. line_at level (lined part) ++ t) (text_of_lines level lined parts)

-- a block with a line before it and a line behind it
pub text_of_framed : (level : ℕ) (first : List ℕ) (block : List (List ℕ)) (last : List ℕ) →
    text_at level (first ∷ block ++ last ∷ []) ≡ line_at level first
    ++ (text_at level block ++ (line_at level last ++ []))
text_of_framed level first block last = ap (λ t. line_at level first ++ t) (text_append level block (last ∷ []))

-- the same, grouped as it is put
pub framed_parts : (level : ℕ) (first : List ℕ) (block : List (List ℕ)) (last : List ℕ) →
    text_at level (first ∷ block ++ last ∷ []) ≡ (line_at level first ++ text_at level block) ++ line_at level last
framed_parts level first block last =
    text_of_framed level first block last
    ∙ ap (λ t. line_at level first ++ (text_at level block ++ t)) (append-nil (line_at level last))
    ∙ sym (append_assoc (line_at level first) (text_at level block) (line_at level last))

-- a class is its head, the lines within it, and its last brace
pub class_parts : (class : Class) →
    line (layout_of_class class)
    ≡ line (codes "middlebox " ++ class.name ++ codes " {") ++ text_at 1 (lines_within_class class) ++ line (codes "}")
class_parts class =
    let head = line (codes "middlebox " ++ class.name ++ codes " {") in
    append_assoc (head ++ flat_map line (indented (lines_within_class class))) (codes "}") (10 ∷ [])
    ∙ ap (λ t. head ++ t ++ line (codes "}")) (further_lines 0 (lines_within_class class))
