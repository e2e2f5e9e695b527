-- What a work space says of its progress, and how it is kept when a cell is offered and when one is taken.
use Rattle.std.proofs.Common.{◌≡◌, ◌≢◌, ℕ, ◌+◌, ◌<◌, ◌≤◌, ◌↔◌, inl, inr, Bool, true, false, not, Option, Some, None}
use Rattle.std.proofs.Common.{MatchOption, IsTrue, List, [], ◌∷◌, ◌++◌, length, get_or, set, take, drop, refl, sym, ap}
use Rattle.std.proofs.Common.{subst, ◌∙◌, arith}
use Rattle.std.specs.List.{AllPairs, Contains}
use Rattle.std.proofs.lemmas.List.{length-set, length-append, length_push, take-append-drop, take-append-le, take_more}
use Rattle.std.proofs.lemmas.List.{drop_more, drop-append-le, get_or_append_left, get_or-append-add}
use Rattle.std.proofs.lemmas.List.Elements.{Contains-get_or, Contains-append_left, Contains-append_cases, Contains-push}
use Rattle.std.proofs.lemmas.List.Elements.{Contains-push_cases}
use Rattle.std.proofs.lemmas.List.Quantifiers.{all_pairs_push}
use Rattle.std.proofs.lemmas.List.Sums.{count_by-le-length}
use Rattle.cell_sets.specs.Marks.{HasCell, HasNoneFrom, members_in}
use Rattle.cell_sets.proofs.MarkLemmas.{members_in-add, members_in-room, set_there, HasCell-add}
use Rattle.fix_engine.specs.Closed.{AreBelow}
use Rattle.fix_engine.specs.Progress.{Progress, found_in, Offers, Takes, HasNoneOf}
use Rattle.fix_engine.specs.Space.{progress_of, IsSpace}

pub not_true : (b : Bool) → true ≡ not b → b ≡ false
not_true true e = absurd (cc)
not_true false e = refl

pub not_false : (b : Bool) → false ≡ not b → b ≡ true
not_false true e = refl
not_false false e = absurd (cc)

-- a list without repeats has nothing on both sides of a cut
apart : (xs ys : List ℕ) → AllPairs (λ one other. one ≢ other) (xs ++ ys) → (cell : ℕ) → Contains xs cell →
    Contains ys cell → ⊥
apart xs ys once cell left right =
    let low = get_or_append_left xs ys cell left.0 left.1 ∙ left.2 in
    let high = get_or-append-add xs ys right.0 cell ∙ right.2 in
    once left.0 (length xs + right.0) cell (omega (arith, left.1)) (omega (arith, right.1, length-append xs ys))
    (low ∙ sym high)

-- the next member of a set, where a list has the same members
pub next_listed : (marks : List Bool) (list : List ℕ) (cells : ℕ) → length marks ≡ cells →
    ((cell : ℕ) → HasCell marks cell ↔ Contains list cell) → (from : ℕ) (result : Option ℕ)
    → MatchOption result (HasNoneFrom marks from (length marks))
    (λ cell. (from ≤ cell) × HasCell marks cell × HasNoneFrom marks from cell)
    → MatchOption result (HasNoneOf list from cells)
    (λ cell. (from ≤ cell) × Contains list cell × HasNoneOf list from cell)
next_listed marks list cells size same from None none =
    λ cell low high has. none cell low (subst (λ n. cell < n) (sym size) high) ((same cell).1 has)
next_listed marks list cells size same from (Some found) next =
    (next.0, (same found).0 next.1, λ cell low high has. next.2 cell low high ((same cell).1 has))

module _ (found taken : List Bool) (order : List ℕ) (next room : ℕ) (space : IsSpace found taken order next room) where
  module _ (progress : Progress) (view : progress_of found order next ≡ progress) where
    pub cells_are : length found ≡ progress.cells
    cells_are = ap (λ p. p.cells) view

    pub all_found : found_in progress ≡ order
    all_found = sym (ap found_in view) ∙ take-append-drop next order

    pub found_iff : (cell : ℕ) → HasCell found cell ↔ Contains (found_in progress) cell
    found_iff cell = subst (λ l. HasCell found cell ↔ Contains l cell) (sym all_found) (space.finds cell)

    pub done_iff : (cell : ℕ) → HasCell taken cell ↔ Contains progress.done cell
    done_iff cell = subst (λ p. HasCell taken cell ↔ Contains p.done cell) view (space.takes cell)

    pub found_below : AreBelow progress.cells (found_in progress)
    found_below k d below =
        subst (λ n. get_or (found_in progress) k d < n) cells_are
        ((found_iff (get_or (found_in progress) k d)).1 (Contains-get_or (found_in progress) k d below)).0

    pub once_found : AllPairs (λ one other. one ≢ other) (found_in progress)
    once_found = subst (AllPairs (λ one other. one ≢ other)) (sym all_found) space.once

    pub waits_iff : (cell : ℕ) (done : Bool) → get_or found cell false ≡ true → cell < length found →
        done ≡ get_or taken cell false
        → (IsTrue (not done) → Contains progress.todo cell) × (Contains progress.todo cell → IsTrue (not done))
    waits_iff cell true present within is = (
      λ waits. absurd (cc),
      λ waits. absurd
          (apart progress.done progress.todo once_found cell
          ((done_iff cell).0 (subst (λ n. cell < n) (sym space.sizes) within, sym is)) waits),
    )
    waits_iff cell false present within is = (
      λ waits. elim (Contains-append_cases progress.done progress.todo cell ((found_iff cell).0 (within, present))) [
        | inl done ↦ absurd (cc (is, ((done_iff cell).1 done).1))
        | inr todo ↦ todo
      ],
      λ waits. refl,
    )

  pub few_found : length order ≤ length found
  few_found = omega (arith, space.count, count_by-le-length (λ mark. mark) found)

  module _ (cell : ℕ) (within : cell < length found) (absent : get_or found cell false ≡ false) where
    pub room_left : length order < room
    room_left = omega (arith, space.count, space.fits, members_in-room found cell within absent)

    not_yet : Contains order cell → ⊥
    not_yet has = cc (absent, ((space.finds cell).1 has).1)

    pub space_offered : (after : List Bool) → after ≡ set found cell true → (more : List ℕ) →
        more ≡ order ++ cell ∷ [] → (room' : ℕ) → room ≤ room' → IsSpace after taken more next room'
    space_offered after added more pushed room' wide =
        let longer : length more ≡ length order + 1 = ap length pushed ∙ length_push order cell in
        let size : length after ≡ length found = ap length added ∙ length-set found cell true in
        record {
          sizes = space.sizes ∙ sym size;
          fits = omega (arith, size, space.fits);
          count = longer ∙ ap (λ n. n + 1) space.count
              ∙ sym (ap members_in added ∙ members_in-add found cell within absent);
          within = omega (arith, longer, space.within);
          once = subst (AllPairs (λ one other. one ≢ other)) (sym pushed)
              (all_pairs_push (λ one other. one ≢ other) order cell space.once
              (λ k d below same. not_yet (subst (Contains order) same (Contains-get_or order k d below))));
          finds = λ other. (
            λ has. elim ((HasCell-add found cell within other).0 (subst (λ m. HasCell m other) added has)) [
              | inl before ↦ subst (λ l. Contains l other) (sym pushed)
                  (Contains-append_left order (cell ∷ []) other ((space.finds other).0 before))
              | inr same ↦ subst (λ l. Contains l other) (sym pushed)
                  (subst (Contains (order ++ cell ∷ [])) same (Contains-push order cell))
            ],
            λ has. subst (λ m. HasCell m other) (sym added)
                ((HasCell-add found cell within other).1
                (elim (Contains-push_cases order cell other (subst (λ l. Contains l other) pushed has)) [
                  | inl before ↦ inl ((space.finds other).1 before)
                  | inr same ↦ inr same
                ])),
          );
          takes = λ other. subst (λ l. HasCell taken other ↔ Contains l other)
              (sym (ap (take next) pushed ∙ take-append-le next order (cell ∷ []) space.within)) (space.takes other);
        }

    pub offers_fresh : (progress : Progress) → progress_of found order next ≡ progress → (after : List Bool) →
        after ≡ set found cell true → (more : List ℕ) → more ≡ order ++ cell ∷ [] →
        Offers progress cell (progress_of after more next)
    offers_fresh progress view after added more pushed =
        let size : length after ≡ length found = ap length added ∙ length-set found cell true in
        let done : take next more ≡ take next order =
        ap (take next) pushed ∙ take-append-le next order (cell ∷ []) space.within in
        let todo : drop next more ≡ drop next order ++ cell ∷ [] =
        ap (drop next) pushed ∙ drop-append-le next order (cell ∷ []) space.within in
        let old : Progress = progress_of found order next in
        let new : progress_of after more next ≡ record old { todo = old.todo ++ cell ∷ [] } = cc (size, done, todo) in
        subst (λ p. Offers p cell (progress_of after more next)) view
        (inr (λ has. not_yet (subst (λ l. Contains l cell) (take-append-drop next order) has), new))

  module _ (cell : ℕ) (within : cell < length found) (present : get_or found cell false ≡ true) where
    pub space_known : (after : List Bool) → after ≡ set found cell true → IsSpace after taken order next room
    space_known after added =
        subst (λ m. IsSpace m taken order next room) (sym (added ∙ set_there found cell true present)) space

    pub offers_known : (progress : Progress) (view : progress_of found order next ≡ progress) (after : List Bool) →
        after ≡ set found cell true → Offers progress cell (progress_of after order next)
    offers_known progress view after added =
        inl (
          (found_iff progress view cell).0 (within, present),
          ap (λ m. progress_of m order next) (added ∙ set_there found cell true present) ∙ view,
        )

  module _ (cell : ℕ) (waits : next < length order) (is : cell ≡ get_or order next cell) where
    listed : Contains order cell
    listed = subst (Contains order) (sym is) (Contains-get_or order next cell waits)

    pub taken_in_range : cell < length taken
    taken_in_range = subst (λ n. cell < n) (sym space.sizes) ((space.finds cell).1 listed).0

    done_more : take (next + 1) order ≡ take next order ++ cell ∷ []
    done_more = take_more order next cell waits ∙ ap (λ c. take next order ++ c ∷ []) (sym is)

    pub space_taken : (after : List Bool) → after ≡ set taken cell true → IsSpace found after order (next + 1) room
    space_taken after added =
        record {
          sizes = ap length added ∙ length-set taken cell true ∙ space.sizes;
          fits = space.fits;
          count = space.count;
          within = omega (arith, waits);
          once = space.once;
          finds = space.finds;
          takes = λ other. (
            λ has. elim ((HasCell-add taken cell taken_in_range other).0 (subst (λ m. HasCell m other) added has)) [
              | inl before ↦ subst (λ l. Contains l other) (sym done_more)
                  (Contains-append_left (take next order) (cell ∷ []) other ((space.takes other).0 before))
              | inr same ↦ subst (λ l. Contains l other) (sym done_more)
                  (subst (Contains (take next order ++ cell ∷ [])) same (Contains-push (take next order) cell))
            ],
            λ has. subst (λ m. HasCell m other) (sym added)
                ((HasCell-add taken cell taken_in_range other).1
                (elim (Contains-push_cases (take next order) cell other (subst (λ l. Contains l other) done_more has)) [
                  | inl before ↦ inl ((space.takes other).1 before)
                  | inr same ↦ inr same
                ])),
          );
        }

    pub takes_cell : (progress : Progress) → progress_of found order next ≡ progress →
        Takes progress cell (progress_of found order (next + 1))
    takes_cell progress view =
        subst (λ p. Takes p cell (progress_of found order (next + 1))) view
        record {
          cells = refl;
          todo = drop_more order next cell waits
              ∙ ap (λ c. c ∷ drop (next + 1) order) (sym is);
          done = done_more;
        }
