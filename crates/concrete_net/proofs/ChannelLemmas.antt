-- Channels with a packet more.
use Rattle.std.proofs.Common.{◌≡◌, ℕ, zero, suc, List, [], ◌∷◌, Some, slice_set, refl, sym, ap}
use Rattle.std.proofs.Common.{◌∙◌}
use Rattle.std.specs.Prelude.{slice_get, Result, Ok, Err, OnOk}
use Rattle.net_plan.specs.declared.plan.Plan.{Plan}
use Rattle.net_plan.specs.Ends.{IsLinked}
use Rattle.net_runs.proofs.ListLemmas.{some_inside}
use Rattle.concrete_net.specs.PutOut.{IsPushed, PutsOutThere, world_of}

pub on_ok : {X E : Type 0} (result : Result X E) (P Q : Type 0) → (P → Q) → OnOk result P → OnOk result Q
on_ok (Ok x) P Q more found = more found
on_ok (Err e) P Q more found = tt

module _ {X : Type 0} where
  pub set_twice : (xs : List X) (i : ℕ) (x y : X) → slice_set (slice_set xs i x) i y ≡ slice_set xs i y
  set_twice [] i x y = refl
  set_twice (z ∷ xs) zero x y = refl
  set_twice (z ∷ xs) (suc i) x y = ap (λ (l : List X). z ∷ l) (set_twice xs i x y)

  pub set_same : (xs : List X) (i : ℕ) (x : X) → slice_get xs i ≡ Some x → slice_set xs i x ≡ xs
  set_same [] i x e = refl
  set_same (z ∷ xs) zero x e = ap (λ (y : X). y ∷ xs) (sym (some_inside e))
  set_same (z ∷ xs) (suc i) x e = ap (λ (l : List X). z ∷ l) (set_same xs i x e)

  -- what was taken out for a while is put back
  pub given_back : (xs : List X) (i : ℕ) (x y : X) → slice_get xs i ≡ Some x →
      slice_set (slice_set xs i y) i x ≡ xs
  given_back xs i x y e = set_twice xs i y x ∙ set_same xs i x e

pub goes_last : (plan : Plan) (end packet other : ℕ) (old new : List (List ℕ)) → IsLinked plan end other →
    IsPushed end packet old new → PutsOutThere plan end packet old new
goes_last plan end packet other old new linked push contents = record {
  linked = λ far also. record {
    packets = push.0;
    waits = push.1;
    leaves = ap (λ (waiting : List (List ℕ)). world_of waiting contents) push.2;
  };
  unlinked = λ none. absurd (none other linked);
}

pub goes_nowhere : (plan : Plan) (end packet : ℕ) (old : List (List ℕ)) →
    ((other : ℕ) → IsLinked plan end other → ⊥) → PutsOutThere plan end packet old old
goes_nowhere plan end packet old none contents = record {
  linked = λ other linked. absurd (none other linked);
  unlinked = λ bare. refl;
}
