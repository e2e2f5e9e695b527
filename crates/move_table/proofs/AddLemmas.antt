-- How notes of moves come together.
use Rattle.std.proofs.Common.{◌≡◌, ℕ, ◌+◌, ◌<◌, ◌≤◌, ◌⊎◌, inl, inr, Bool, List, sym, subst, arith}
use Rattle.std.proofs.lemmas.Bool.{cases_lt}
use Rattle.net_plan.specs.declared.plan.Plan.{Plan}
use Rattle.net_plan.specs.declared.fact.Fact.{Fact}
use Rattle.box_moves.specs.Moves.{IsSized}
use Rattle.move_table.specs.Offered.{IsDone, HasNone, HasNoneFrom}
use Rattle.move_table.specs.Moves.{Move, IsOne, Adds}

module _ (plan : Plan) where
  -- nothing
  pub adds_none : (P : Move → Type 0) (old : List (List Bool)) → IsSized plan old →
      ((move : Move) → P move → ⊥) → Adds plan P old old
  adds_none P old sized none = record {
    sized = sized;
    stays = λ move has. has;
    all = λ move kept is holds. absurd (none move holds);
    only = λ move has. inl has;
  }

  -- the same, said in other words
  pub adds_as : (P Q : Move → Type 0) (old new : List (List Bool)) → ((move : Move) → P move → Q move) →
      ((move : Move) → IsOne plan move → Q move → P move) → Adds plan P old new → Adds plan Q old new
  adds_as P Q old new there back adds = record {
    sized = adds.sized;
    stays = adds.stays;
    all = λ move kept is holds. adds.all move kept is (back move is holds);
    only = λ move has. elim (adds.only move has) [
      | inl before ↦ inl before
      | inr now ↦ inr (there move now)
    ];
  }

  -- one after another
  pub adds_both : (P Q : Move → Type 0) (old mid new : List (List Bool)) → Adds plan P old mid →
      Adds plan Q mid new → Adds plan (λ move. P move ⊎ Q move) old new
  adds_both P Q old mid new first second = record {
    sized = second.sized;
    stays = λ move has. second.stays move (first.stays move has);
    all = λ move kept is holds. elim holds [
      | inl one ↦ elim (first.all move kept is one) [
        | inl has ↦ inl (second.stays move has)
        | inr same ↦ inr same
      ]
      | inr two ↦ second.all move kept is two
    ];
    only = λ move has. elim (second.only move has) [
      | inl before ↦ elim (first.only move before) [
        | inl known ↦ inl known
        | inr one ↦ inr (inl one)
      ]
      | inr two ↦ inr (inr two)
    ];
  }

  -- in a loop: for a number below `at`
  abbrev pub MovesUpTo : (ℕ → Move → Type 0) → ℕ → Move → Type 0
  MovesUpTo R at move = (k : ℕ) × (k < at) × R k move

  pub adds_zero : (R : ℕ → Move → Type 0) (old : List (List Bool)) → IsSized plan old →
      Adds plan (MovesUpTo R 0) old old
  adds_zero R old sized = adds_none (MovesUpTo R 0) old sized (λ move up. absurd (omega (arith, up.1)))

  -- the turn of a number, where none was left out before it
  pub adds_next : (R : ℕ → Move → Type 0) (at here : ℕ) (old now new : List (List Bool)) → at ≤ here →
      ((move : Move) → HasNone (λ k. R k move) at here) → Adds plan (MovesUpTo R at) old now →
      Adds plan (R here) now new → Adds plan (MovesUpTo R (here + 1)) old new
  adds_next R at here old now new from none so_far turn =
      adds_as (λ move. MovesUpTo R at move ⊎ R here move) (MovesUpTo R (here + 1)) old new
      (λ move holds. elim holds [
        | inl before ↦ (before.0, omega (arith, before.1, from), before.2)
        | inr one ↦ (here, omega arith, one)
      ])
      (λ move is up. elim (cases_lt up.0 at) [
        | inl before ↦ inl (up.0, before, up.2)
        | inr later ↦ elim (cases_lt up.0 here) [
          | inl between ↦ absurd (none move up.0 later between up.2)
          | inr last ↦ let same : up.0 ≡ here = omega (arith, up.1, last) in
              inr (subst (λ k. R k move) same up.2)
        ]
      ])
      (adds_both (MovesUpTo R at) (R here) old now new so_far turn)

  -- without a gap
  pub adds_more : (R : ℕ → Move → Type 0) (at : ℕ) (old now new : List (List Bool)) →
      Adds plan (MovesUpTo R at) old now → Adds plan (R at) now new → Adds plan (MovesUpTo R (at + 1)) old new
  adds_more R at old now new so_far turn =
      adds_next R at at old now new (omega arith)
      (λ move k from below holds. absurd (omega (arith, from, below))) so_far turn

  -- and the end of the loop
  pub adds_all : (R : ℕ → Move → Type 0) (Q : Move → Type 0) (at : ℕ) (old new : List (List Bool)) →
      ((k : ℕ) (move : Move) → R k move → Q move) →
      ((move : Move) → IsOne plan move → Q move → MovesUpTo R at move) → Adds plan (MovesUpTo R at) old new →
      Adds plan Q old new
  adds_all R Q at old new there back adds =
      adds_as (MovesUpTo R at) Q old new (λ move up. there up.0 move up.2) back adds

-- numbers below a count
module _ (plan : Plan) (count : ℕ) (P : ℕ → Move → Type 0) where
  abbrev pub MovesBelow : ℕ → Move → Type 0
  MovesBelow k move = (k < count) × P k move

  pub moves_below_turn : (at : ℕ) (old now new : List (List Bool)) → at < count →
      Adds plan (MovesUpTo plan MovesBelow at) old now → Adds plan (P at) now new →
      Adds plan (MovesUpTo plan MovesBelow (at + 1)) old new
  moves_below_turn at old now new less so_far turn =
      adds_more plan MovesBelow at old now new so_far
      (adds_as plan (P at) (MovesBelow at) now new (λ move holds. (less, holds)) (λ move is holds. holds.1) turn)

  pub moves_below_all : (at : ℕ) (old new : List (List Bool)) → count ≤ at →
      Adds plan (MovesUpTo plan MovesBelow at) old new →
      Adds plan (λ move. (k : ℕ) × (k < count) × P k move) old new
  moves_below_all at old new past adds =
      adds_all plan MovesBelow (λ move. (k : ℕ) × (k < count) × P k move) at old new
      (λ k move holds. (k, holds.0, holds.1))
      (λ move is some. (some.0, omega (arith, some.1, past), (some.1, some.2))) adds

-- numbers of facts that are done
module _ (plan : Plan) (done : List ℕ) (place : ℕ → Fact) (P : ℕ → Move → Type 0) where
  abbrev pub MovesKnown : ℕ → Move → Type 0
  MovesKnown k move = IsDone plan done (place k) × P k move

  pub moves_known_turn : (now_done : List ℕ) (at here : ℕ) (old now new : List (List Bool)) → now_done ≡ done →
      at ≤ here → IsDone plan now_done (place here) → HasNone (λ k. IsDone plan now_done (place k)) at here →
      Adds plan (MovesUpTo plan MovesKnown at) old now → Adds plan (P here) now new →
      Adds plan (MovesUpTo plan MovesKnown (here + 1)) old new
  moves_known_turn now_done at here old now new same from known none so_far turn =
      adds_next plan MovesKnown at here old now new from
      (λ move k low high holds. none k low high
      (subst (λ (d : List ℕ). IsDone plan d (place k)) (sym same) holds.0))
      so_far
      (adds_as plan (P here) (MovesKnown here) now new
      (λ move holds. (subst (λ (d : List ℕ). IsDone plan d (place here)) same known, holds))
      (λ move is holds. holds.1) turn)

  pub moves_known_all : (now_done : List ℕ) (at : ℕ) (old new : List (List Bool)) → now_done ≡ done →
      HasNoneFrom (λ k. IsDone plan now_done (place k)) at → Adds plan (MovesUpTo plan MovesKnown at) old new →
      Adds plan (λ move. (k : ℕ) × IsDone plan done (place k) × P k move) old new
  moves_known_all now_done at old new same none adds =
      adds_all plan MovesKnown (λ move. (k : ℕ) × IsDone plan done (place k) × P k move) at old new
      (λ k move holds. (k, holds.0, holds.1))
      (λ move is some. elim (cases_lt some.0 at) [
        | inl before ↦ (some.0, before, (some.1, some.2))
        | inr later ↦ absurd (none some.0 later
            (subst (λ (d : List ℕ). IsDone plan d (place some.0)) (sym same) some.1))
      ])
      adds
