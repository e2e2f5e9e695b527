-- A name that is copied over zeros.
use Rattle.std.proofs.Common.{◌≡◌, ◌++◌, ℕ, List, length, drop, refl, replicate, sym, ◌∙◌, arith, subst, length-append}
use Rattle.std.proofs.lemmas.List.{drop-replicate, length-drop}
use Rattle.std.proofs.Math.Seq.{take-append_seam, drop-append_seam}
use Rattle.amdl_tree.specs.Word.{IsName}
use Rattle.amdl_tree.specs.NameBytes.{IsPadded}

pub copied : (name : List ℕ) → IsName name →
    IsPadded (record { bytes = name ++ drop (length name) (replicate 24 0); len = length name })
copied name named = record {
  room =
      let zeros : List ℕ = replicate 24 0 in
      let all : length zeros ≡ 24 = refl in
      omega (arith, named.short, all, length-append name (drop (length name) zeros), length-drop (length name) zeros);
  fits = named.short;
  zeros = drop-append_seam name (drop (length name) (replicate 24 0)) ∙ drop-replicate (length name) 24 0;
  named = subst IsName (sym (take-append_seam name (drop (length name) (replicate 24 0)))) named;
}
