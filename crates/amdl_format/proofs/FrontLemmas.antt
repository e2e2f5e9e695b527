-- What a text begins with while more is appended.
use Rattle.std.proofs.Common.{◌≡◌, ℕ, List, [], ◌++◌, length, take, sym, ap, ◌∙◌, append_assoc, append-nil}
use Rattle.std.proofs.lemmas.List.{take_at}
use Rattle.amdl_tree.specs.Appends.{Keeps}
use Rattle.amdl_format.specs.Fronts.{BeginsWith, KeepsFronts}

-- what stood before, and each front of it, stands in front of what was appended
pub fronts_kept : (old new : List ℕ) → Keeps old new → KeepsFronts old new
unfolding BeginsWith
fronts_kept old new kept front begun = (
  begun.0 ++ kept.more,
  kept.appended ∙ ap (λ t. t ++ kept.more) begun.1 ∙ append_assoc front begun.0 kept.more,
)

-- the whole of what stood before is taken from the front
pub front_taken : (old new : List ℕ) (n : ℕ) → length old ≡ n → KeepsFronts old new → take n new ≡ old
unfolding BeginsWith
front_taken old new n size kept =
    let whole = kept old ([], sym (append-nil old)) in
    ap (take n) whole.1 ∙ take_at old whole.0 n size
