-- How offers of cells come together.
use Rattle.std.proofs.Common.{◌≡◌, ℕ, ◌+◌, ◌<◌, ◌≤◌, ◌⊎◌, inl, inr, List, length, get_or, refl, sym, subst, ◌∙◌, arith}
use Rattle.std.specs.List.{Contains}
use Rattle.std.proofs.lemmas.Bool.{cases_lt}
use Rattle.std.proofs.lemmas.List.{get_or_default}
use Rattle.fix_engine.specs.Progress.{Progress, found_in, Offers, Grows}
use Rattle.fix_engine.proofs.ProgressLemmas.{Grows-none, Grows-more, found_stays, Offers-grows, Offers-found, Offers-only}
use Rattle.net_plan.specs.declared.plan.Plan.{Plan}
use Rattle.net_plan.specs.declared.fact.Fact.{Fact}
use Rattle.net_plan.specs.Cells.{IsInRange, cell_of}
use Rattle.move_table.specs.Offered.{Offered, Is, IsDone, HasNone, HasNoneFrom}

module _ (plan : Plan) where
  -- nothing
  pub offered_none : (P : Fact → Type 0) (old : Progress) → ((fact : Fact) → IsInRange plan fact → P fact → ⊥) →
      Offered plan P old old
  offered_none P old none = record {
    grows = Grows-none old;
    all = λ fact in' holds. absurd (none fact in' holds);
    only = λ cell found. inl found;
  }

  -- one fact
  pub offered_one : (fact : Fact) (old new : Progress) → IsInRange plan fact → Offers old (cell_of plan fact) new →
      Offered plan (Is fact) old new
  offered_one fact old new in' offers = record {
    grows = Offers-grows old (cell_of plan fact) new offers;
    all = λ other within same. subst (λ f. Contains (found_in new) (cell_of plan f)) (sym same)
        (Offers-found old (cell_of plan fact) new offers);
    only = λ cell found. elim (Offers-only old (cell_of plan fact) new offers cell found) [
      | inl before ↦ inl before
      | inr same ↦ inr (fact, in', refl, sym same)
    ];
  }

  -- the same, said in other words
  pub offered_as : (P Q : Fact → Type 0) (old new : Progress) →
      ((fact : Fact) → IsInRange plan fact → P fact → Q fact) →
      ((fact : Fact) → IsInRange plan fact → Q fact → P fact) → Offered plan P old new → Offered plan Q old new
  offered_as P Q old new there back offered = record {
    grows = offered.grows;
    all = λ fact in' holds. offered.all fact in' (back fact in' holds);
    only = λ cell found. elim (offered.only cell found) [
      | inl before ↦ inl before
      | inr new ↦ inr (new.0, new.1, there new.0 new.1 new.2, new.3)
    ];
  }

  -- one after another
  pub offered_both : (P Q : Fact → Type 0) (old mid new : Progress) → Offered plan P old mid → Offered plan Q mid new →
      Offered plan (λ fact. P fact ⊎ Q fact) old new
  offered_both P Q old mid new first second = record {
    grows = Grows-more old mid new first.grows second.grows;
    all = λ fact in' holds. elim holds [
      | inl one ↦ found_stays mid new second.grows (cell_of plan fact) (first.all fact in' one)
      | inr two ↦ second.all fact in' two
    ];
    only = λ cell found. elim (second.only cell found) [
      | inl before ↦ elim (first.only cell before) [
        | inl known ↦ inl known
        | inr one ↦ inr (one.0, one.1, inl one.2, one.3)
      ]
      | inr two ↦ inr (two.0, two.1, inr two.2, two.3)
    ];
  }

  -- in a loop: for a number below `at`
  abbrev pub UpTo : (ℕ → Fact → Type 0) → ℕ → Fact → Type 0
  UpTo R at fact = (k : ℕ) × (k < at) × R k fact

  pub offered_zero : (R : ℕ → Fact → Type 0) (old : Progress) → Offered plan (UpTo R 0) old old
  offered_zero R old = offered_none (UpTo R 0) old (λ fact in' up. absurd (omega (arith, up.1)))

  -- the turn of a number, where none was left out before it
  pub offered_next : (R : ℕ → Fact → Type 0) (at here : ℕ) (old now new : Progress) → at ≤ here →
      ((fact : Fact) → IsInRange plan fact → HasNone (λ k. R k fact) at here) → Offered plan (UpTo R at) old now →
      Offered plan (R here) now new → Offered plan (UpTo R (here + 1)) old new
  offered_next R at here old now new from none so_far turn =
      offered_as (λ fact. UpTo R at fact ⊎ R here fact) (UpTo R (here + 1)) old new
      (λ fact in' holds. elim holds [
        | inl before ↦ (before.0, omega (arith, before.1, from), before.2)
        | inr one ↦ (here, omega arith, one)
      ])
      (λ fact in' up. elim (cases_lt up.0 at) [
        | inl before ↦ inl (up.0, before, up.2)
        | inr later ↦ elim (cases_lt up.0 here) [
          | inl between ↦ absurd (none fact in' up.0 later between up.2)
          | inr last ↦ let same : up.0 ≡ here = omega (arith, up.1, last) in
              inr (subst (λ k. R k fact) same up.2)
        ]
      ])
      (offered_both (UpTo R at) (R here) old now new so_far turn)

  -- without a gap
  pub offered_more : (R : ℕ → Fact → Type 0) (at : ℕ) (old now new : Progress) → Offered plan (UpTo R at) old now →
      Offered plan (R at) now new → Offered plan (UpTo R (at + 1)) old new
  offered_more R at old now new so_far turn =
      offered_next R at at old now new (omega arith)
      (λ fact in' k from below holds. absurd (omega (arith, from, below))) so_far turn

  -- and the end of the loop
  pub offered_all : (R : ℕ → Fact → Type 0) (Q : Fact → Type 0) (at : ℕ) (old new : Progress) →
      ((k : ℕ) (fact : Fact) → IsInRange plan fact → R k fact → Q fact) →
      ((fact : Fact) → IsInRange plan fact → Q fact → UpTo R at fact) → Offered plan (UpTo R at) old new →
      Offered plan Q old new
  offered_all R Q at old new there back offered =
      offered_as (UpTo R at) Q old new (λ fact in' up. there up.0 fact in' up.2) back offered

-- what is done stays so
pub done_same : (P : List ℕ → Type 0) (old now : Progress) → Grows old now → P now.done → P old.done
done_same P old now grows holds = subst P grows.done holds

pub cells_same : (count : ℕ) (old now : Progress) → Grows old now → old.cells ≡ count → now.cells ≡ count
cells_same count old now grows same = subst (λ n. n ≡ count) (sym grows.cells) same

-- members of a list, by their places
module _ {X : Type 0} (plan : Plan) (P : X → Fact → Type 0) (xs : List X) where
  abbrev pub Member : ℕ → Fact → Type 0
  Member k fact = (x : X) × (k < length xs) × (get_or xs k x ≡ x) × P x fact

  abbrev pub Some : Fact → Type 0
  Some fact = (x : X) × Contains xs x × P x fact

  -- the turn of a member
  pub member_turn : (k : ℕ) (x : X) (now new : Progress) → k < length xs → get_or xs k x ≡ x →
      Offered plan (P x) now new → Offered plan (Member k) now new
  member_turn k x now new in' here turn =
      offered_as plan (P x) (Member k) now new
      (λ fact within holds. (x, in', here, holds))
      (λ fact within member. subst (λ y. P y fact)
      (sym member.2 ∙ get_or_default xs k member.0 x member.1 ∙ here) member.3)
      turn

  pub place_turn : (k : ℕ) (d : X) (now new : Progress) → k < length xs → Offered plan (P (get_or xs k d)) now new →
      Offered plan (Member k) now new
  place_turn k d now new in' turn =
      member_turn k (get_or xs k d) now new in' (get_or_default xs k (get_or xs k d) d in') turn

  pub members_all : (at : ℕ) (old new : Progress) → length xs ≤ at → Offered plan (UpTo plan Member at) old new →
      Offered plan Some old new
  members_all at old new past offered =
      offered_all plan Member Some at old new
      (λ k fact in' member. (member.0, (k, member.1, member.2), member.3))
      (λ fact in' some. (some.1.0, omega (arith, some.1.1, past), (some.0, some.1.1, some.1.2, some.2))) offered

-- numbers below a count
module _ (plan : Plan) (count : ℕ) (P : List ℕ → ℕ → Fact → Type 0) where
  abbrev pub Below : List ℕ → ℕ → Fact → Type 0
  Below done k fact = (k < count) × P done k fact

  pub below_turn : (at : ℕ) (old now new : Progress) → at < count → Offered plan (UpTo plan (Below old.done) at) old now →
      Offered plan (P now.done at) now new → Offered plan (UpTo plan (Below old.done) (at + 1)) old new
  below_turn at old now new less so_far turn =
      offered_more plan (Below old.done) at old now new so_far
      (offered_as plan (P old.done at) (Below old.done at) now new (λ fact in' holds. (less, holds))
      (λ fact in' holds. holds.1)
      (subst (λ (d : List ℕ). Offered plan (P d at) now new) so_far.grows.done turn))

  pub below_all : (at : ℕ) (old new : Progress) → count ≤ at → Offered plan (UpTo plan (Below old.done) at) old new →
      Offered plan (λ fact. (k : ℕ) × (k < count) × P old.done k fact) old new
  below_all at old new past offered =
      offered_all plan (Below old.done) (λ fact. (k : ℕ) × (k < count) × P old.done k fact) at old new
      (λ k fact in' holds. (k, holds.0, holds.1))
      (λ fact in' some. (some.0, omega (arith, some.1, past), (some.1, some.2))) offered

-- numbers of facts that are done
module _ (plan : Plan) (place : ℕ → Fact) (P : List ℕ → ℕ → Fact → Type 0) where
  abbrev pub Known : List ℕ → ℕ → Fact → Type 0
  Known done k fact = IsDone plan done (place k) × P done k fact

  pub known_turn : (at here : ℕ) (old now new : Progress) → at ≤ here → IsDone plan now.done (place here) →
      HasNone (λ k. IsDone plan now.done (place k)) at here → Offered plan (UpTo plan (Known old.done) at) old now →
      Offered plan (P now.done here) now new → Offered plan (UpTo plan (Known old.done) (here + 1)) old new
  known_turn at here old now new from known none so_far turn =
      offered_next plan (Known old.done) at here old now new from
      (λ fact in' k low high holds. none k low high
      (subst (λ (d : List ℕ). IsDone plan d (place k)) (sym so_far.grows.done) holds.0))
      so_far
      (offered_as plan (P old.done here) (Known old.done here) now new
      (λ fact in' holds. (subst (λ (d : List ℕ). IsDone plan d (place here)) so_far.grows.done known, holds))
      (λ fact in' holds. holds.1)
      (subst (λ (d : List ℕ). Offered plan (P d here) now new) so_far.grows.done turn))

  pub known_all : (at : ℕ) (old new : Progress) → HasNoneFrom (λ k. IsDone plan new.done (place k)) at →
      Offered plan (UpTo plan (Known old.done) at) old new →
      Offered plan (λ fact. (k : ℕ) × IsDone plan old.done (place k) × P old.done k fact) old new
  known_all at old new none offered =
      offered_all plan (Known old.done) (λ fact. (k : ℕ) × IsDone plan old.done (place k) × P old.done k fact) at old new
      (λ k fact in' holds. (k, holds.0, holds.1))
      (λ fact in' some. elim (cases_lt some.0 at) [
        | inl before ↦ (some.0, before, (some.1, some.2))
        | inr later ↦ absurd (none some.0 later
            (subst (λ (d : List ℕ). IsDone plan d (place some.0)) (sym offered.grows.done) some.1))
      ])
      offered
