-- How a name is kept: its bytes, then zeros.
use Rattle.std.specs.Prelude.{◌≡◌, ◌≤◌, ◌-◌, ◌++◌, ℕ, List, length, take, drop, replicate}
use Rattle.std.proofs.Common.{ap, ◌∙◌, arith}
use Rattle.std.proofs.lemmas.List.{take-append-drop, length-take-le}
use Rattle.amdl_tree.specs.Word.{IsName}
use Rattle.amdl_tree.specs.declared.name.Name.TheInside.{Inside}

pub record IsPadded (name : Inside) : Type 0 where
  pub room : length name.bytes ≡ 24
  pub fits : name.len ≤ 24
  pub zeros : drop name.len name.bytes ≡ replicate (24 - name.len) 0
  pub named : IsName (take name.len name.bytes)

abbrev kept_as : List ℕ → ℕ → Inside
kept_as bytes len = record { bytes = bytes; len = len }

abbrev pub padded : List ℕ → Inside
padded name = record { bytes = name ++ replicate (24 - length name) 0; len = length name }

pub padded_back : (name : Inside) → IsPadded name → padded (take name.len name.bytes) ≡ name
padded_back name kept =
    let room : name.len ≤ length name.bytes = omega (arith, kept.room, kept.fits) in
    let size : length (take name.len name.bytes) ≡ name.len = length-take-le name.len name.bytes room in
    let bytes : take name.len name.bytes ++ replicate (24 - length (take name.len name.bytes)) 0 ≡ name.bytes =
    rw size (rw (← kept.zeros) (take-append-drop name.len name.bytes)) in
    ap (λ b. kept_as b (length (take name.len name.bytes))) bytes ∙ ap (kept_as name.bytes) size
