-- How progress goes on, step by step.
use Rattle.std.proofs.Common.{◌≡◌, ℕ, ◌⊎◌, inl, inr, List, [], ◌∷◌, ◌++◌, refl, sym, ap, subst, ◌∙◌, append_assoc}
use Rattle.std.specs.List.{Contains}
use Rattle.std.proofs.lemmas.List.{append-nil}
use Rattle.std.proofs.lemmas.List.Elements.{Contains-push, Contains-push_cases, Contains-append_left}
use Rattle.fix_engine.specs.Progress.{Progress, found_in, Offers, Takes, Grows}

pub Grows-none : (progress : Progress) → Grows progress progress
Grows-none progress = record { cells = refl; done = refl; todo = ([], sym (append-nil progress.todo)) }

pub Grows-more : (old mid new : Progress) → Grows old mid → Grows mid new → Grows old new
Grows-more old mid new first second =
    record {
      cells = second.cells ∙ first.cells;
      done = second.done ∙ first.done;
      todo = (
        first.todo.0 ++ second.todo.0,
        second.todo.1 ∙ ap (λ l. l ++ second.todo.0) first.todo.1
            ∙ append_assoc old.todo first.todo.0 second.todo.0,
      );
    }

pub found_grows : (old new : Progress) → Grows old new → (more : List ℕ) × (found_in new ≡ found_in old ++ more)
found_grows old new grows = (
  grows.todo.0,
  ap (λ l. l ++ new.todo) grows.done ∙ ap (λ l. old.done ++ l) grows.todo.1
      ∙ sym (append_assoc old.done old.todo grows.todo.0),
)

-- what is found stays found
pub found_stays : (old new : Progress) → Grows old new → (cell : ℕ) → Contains (found_in old) cell →
    Contains (found_in new) cell
found_stays old new grows cell found =
    let more = found_grows old new grows in
    subst (λ l. Contains l cell) (sym more.1) (Contains-append_left (found_in old) more.0 cell found)

pub Offers-grows : (old : Progress) (cell : ℕ) (new : Progress) → Offers old cell new → Grows old new
Offers-grows old cell new offers = elim offers [
  | inl known ↦ subst (Grows old) (sym known.1) (Grows-none old)
  | inr fresh ↦ subst (Grows old) (sym fresh.1) record { cells = refl; done = refl; todo = (cell ∷ [], refl) }
]

found_fresh : (old : Progress) (cell : ℕ) (new : Progress) → new ≡ record old { todo = old.todo ++ cell ∷ [] } →
    found_in new ≡ found_in old ++ cell ∷ []
found_fresh old cell new e = ap found_in e ∙ sym (append_assoc old.done old.todo (cell ∷ []))

-- an offered cell is found
pub Offers-found : (old : Progress) (cell : ℕ) (new : Progress) → Offers old cell new → Contains (found_in new) cell
Offers-found old cell new offers = elim offers [
  | inl known ↦ subst (λ p. Contains (found_in p) cell) (sym known.1) known.0
  | inr fresh ↦ subst (λ l. Contains l cell) (sym (found_fresh old cell new fresh.1))
      (Contains-push (found_in old) cell)
]

-- and no other one besides those that were
pub Offers-only : (old : Progress) (cell : ℕ) (new : Progress) → Offers old cell new → (other : ℕ) →
    Contains (found_in new) other → Contains (found_in old) other ⊎ (cell ≡ other)
Offers-only old cell new offers other found = elim offers [
  | inl known ↦ inl (subst (λ p. Contains (found_in p) other) known.1 found)
  | inr fresh ↦ Contains-push_cases (found_in old) cell other
      (subst (λ l. Contains l other) (found_fresh old cell new fresh.1) found)
]

-- taking finds nothing new
pub Takes-found : (old : Progress) (cell : ℕ) (new : Progress) → Takes old cell new → found_in new ≡ found_in old
Takes-found old cell new takes =
    ap (λ l. l ++ new.todo) takes.done ∙ append_assoc old.done (cell ∷ []) new.todo
    ∙ ap (λ l. old.done ++ l) (sym takes.todo)

-- the cell that was taken last is done
pub Takes-done : (old : Progress) (cell : ℕ) (new : Progress) → Takes old cell new → Contains new.done cell
Takes-done old cell new takes = subst (λ l. Contains l cell) (sym takes.done) (Contains-push old.done cell)

-- cells were offered of which each was found before or has the property; for loops that offer one after another
pub record Adds (P : ℕ → Type 0) (old new : Progress) : Type 0 where
  pub grows : Grows old new
  pub only : (cell : ℕ) → Contains (found_in new) cell → Contains (found_in old) cell ⊎ P cell

pub Adds-none : (P : ℕ → Type 0) (progress : Progress) → Adds P progress progress
Adds-none P progress = record { grows = Grows-none progress; only = λ cell found. inl found }

pub Adds-more : (P : ℕ → Type 0) (old mid new : Progress) → Adds P old mid → Adds P mid new → Adds P old new
Adds-more P old mid new first second =
    record {
      grows = Grows-more old mid new first.grows second.grows;
      only = λ cell found. elim (second.only cell found) [
        | inl before ↦ first.only cell before
        | inr holds ↦ inr holds
      ];
    }

pub Adds-offer : (P : ℕ → Type 0) (old mid new : Progress) (cell : ℕ) → Adds P old mid → Offers mid cell new → P cell →
    Adds P old new
Adds-offer P old mid new cell adds offers holds =
    Adds-more P old mid new adds record {
      grows = Offers-grows mid cell new offers;
      only = λ other found. elim (Offers-only mid cell new offers other found) [
        | inl before ↦ inl before
        | inr same ↦ inr (subst P same holds)
      ];
    }

pub Adds-wider : (P Q : ℕ → Type 0) → ((cell : ℕ) → P cell → Q cell) → (old new : Progress) → Adds P old new →
    Adds Q old new
Adds-wider P Q wider old new adds =
    record {
      grows = adds.grows;
      only = λ cell found. elim (adds.only cell found) [
        | inl before ↦ inl before
        | inr holds ↦ inr (wider cell holds)
      ];
    }
