-- How notes of some moves among others come together.
use Rattle.std.proofs.Common.{◌≡◌, ℕ, ◌+◌, ◌<◌, ◌≤◌, ◌⊎◌, inl, inr, Bool, List, get_or, sym, subst, arith}
use Rattle.std.specs.List.{Contains}
use Rattle.std.proofs.lemmas.Bool.{cases_lt}
use Rattle.std.proofs.lemmas.List.Elements.{Contains-append_left}
use Rattle.fix_engine.specs.Progress.{Progress, found_in, Grows}
use Rattle.fix_engine.proofs.ProgressLemmas.{Grows-none, Grows-more, found_stays}
use Rattle.net_plan.specs.declared.plan.Plan.{Plan}
use Rattle.net_plan.specs.declared.fact.Fact.{Fact}
use Rattle.net_plan.specs.declared.fact.Fact.TheVariants.{State}
use Rattle.net_plan.specs.Cells.{IsInRange, cell_of}
use Rattle.box_moves.specs.Moves.{IsSized}
use Rattle.move_table.specs.Offered.{IsDone}
use Rattle.move_table.specs.Moves.{Move, IsOne, Has, before_of, after_of, Noted, AreFollowed}
use Rattle.move_table.specs.Within.{NotedWithin}

-- the move was noted, or it is none
abbrev pub IsKnown : Plan → List (List Bool) → Move → Type 0
IsKnown plan moves move = Has plan moves move ⊎ (move.mask ≡ move.other)

module _ (plan : Plan) where
  -- what a known move makes of a fact that is done is found
  pub known_found : (moves : List (List Bool)) (work : Progress) (move : Move) → AreFollowed plan moves work →
      IsDone plan work.done (before_of move) → IsKnown plan moves move →
      Contains (found_in work) (cell_of plan (after_of move))
  known_found moves work move followed known is = elim is [
    | inl has ↦ followed move has known
    | inr same ↦ subst (λ (m : ℕ). Contains (found_in work) (cell_of plan (State move.box move.packet m))) same
        (Contains-append_left work.done work.todo (cell_of plan (before_of move)) known.1)
  ]

  done_before : (old new : Progress) → new.done ≡ old.done → (fact : Fact) → IsDone plan new.done fact →
      IsDone plan old.done fact
  done_before old new same fact known = subst (λ (d : List ℕ). IsDone plan d fact) same known

  -- noted moves stay followed while more is found
  pub followed_stays : (moves : List (List Bool)) (old new : Progress) → Grows old new → AreFollowed plan moves old →
      AreFollowed plan moves new
  followed_stays moves old new grows followed move has known =
      found_stays old new grows (cell_of plan (after_of move))
      (followed move has (done_before old new grows.done (before_of move) known))

  -- and while they are noted
  pub followed_noted : (P : Move → Type 0) (old_moves new_moves : List (List Bool)) (old new : Progress) →
      Noted plan P old_moves new_moves old new → AreFollowed plan old_moves old → AreFollowed plan new_moves new
  followed_noted P old_moves new_moves old new noted followed move has known =
      let before = done_before old new noted.offered.grows.done (before_of move) known in
      elim (noted.adds.only move has) [
        | inl there ↦ found_stays old new noted.offered.grows (cell_of plan (after_of move)) (followed move there before)
        | inr holds ↦ let is = has.is_move in
            let in' : IsInRange plan (after_of move) = (is.boxed, is.packet_is, is.other_is) in
            noted.offered.all (after_of move) in' (move, is, before, holds, λ i. after_of move)
      ]

  module _ (L M : Move → Type 0) where
    -- nothing new, where all was known
    pub within_known : (moves : List (List Bool)) (work : Progress) → IsSized plan moves →
        AreFollowed plan moves work → ((move : Move) → IsOne plan move → L move → IsKnown plan moves move) →
        NotedWithin plan L M moves moves work work
    within_known moves work sized followed known = record {
      sized = sized;
      stays = λ move has. has;
      all = λ move kept is holds. known move is holds;
      only = λ move has. inl has;
      grows = Grows-none work;
      found = λ fact in' moved. subst (λ (f : Fact). Contains (found_in work) (cell_of plan f)) (sym moved.4)
          (known_found moves work moved.0 followed moved.2 (known moved.0 moved.1 moved.3));
      offered = λ cell found. inl found;
      followed = λ before. before;
    }

    pub within_of : (P : Move → Type 0) (old_moves new_moves : List (List Bool)) (old new : Progress) →
        ((move : Move) → IsOne plan move → L move → P move) → ((move : Move) → P move → M move) →
        Noted plan P old_moves new_moves old new → NotedWithin plan L M old_moves new_moves old new
    within_of P old_moves new_moves old new below above noted = record {
      sized = noted.adds.sized;
      stays = noted.adds.stays;
      all = λ move kept is holds. noted.adds.all move kept is (below move is holds);
      only = λ move has. elim (noted.adds.only move has) [
        | inl before ↦ inl before
        | inr holds ↦ inr (above move holds)
      ];
      grows = noted.offered.grows;
      found = λ fact in' moved. noted.offered.all fact in'
          (moved.0, moved.1, moved.2, below moved.0 moved.1 moved.3, moved.4);
      offered = λ cell found. elim (noted.offered.only cell found) [
        | inl before ↦ inl before
        | inr of ↦ inr (of.0, of.1, (of.2.0, of.2.1, of.2.2, above of.2.0 of.2.3, of.2.4), of.3)
      ];
      followed = followed_noted P old_moves new_moves old new noted;
    }

    -- less of them
    pub within_less : (P : Move → Type 0) (old_moves new_moves : List (List Bool)) (old new : Progress) →
        ((move : Move) → IsOne plan move → L move → P move) → NotedWithin plan P M old_moves new_moves old new →
        NotedWithin plan L M old_moves new_moves old new
    within_less P old_moves new_moves old new below within = record {
      sized = within.sized;
      stays = within.stays;
      all = λ move kept is holds. within.all move kept is (below move is holds);
      only = within.only;
      grows = within.grows;
      found = λ fact in' moved. within.found fact in'
          (moved.0, moved.1, moved.2, below moved.0 moved.1 moved.3, moved.4);
      offered = within.offered;
      followed = within.followed;
    }

    -- one after another
    pub within_both : (P : Move → Type 0) (old_moves mid_moves new_moves : List (List Bool)) (old mid new : Progress) →
        NotedWithin plan L M old_moves mid_moves old mid → NotedWithin plan P M mid_moves new_moves mid new →
        NotedWithin plan (λ move. L move ⊎ P move) M old_moves new_moves old new
    within_both P old_moves mid_moves new_moves old mid new first second = record {
      sized = second.sized;
      stays = λ move has. second.stays move (first.stays move has);
      all = λ move kept is holds. elim holds [
        | inl one ↦ elim (first.all move kept is one) [
          | inl has ↦ inl (second.stays move has)
          | inr same ↦ inr same
        ]
        | inr two ↦ second.all move kept is two
      ];
      only = λ move has. elim (second.only move has) [
        | inl before ↦ first.only move before
        | inr most ↦ inr most
      ];
      grows = Grows-more old mid new first.grows second.grows;
      found = λ fact in' moved. elim moved.3 [
        | inl one ↦ found_stays mid new second.grows (cell_of plan fact)
            (first.found fact in' (moved.0, moved.1, moved.2, one, moved.4))
        | inr two ↦ second.found fact in' (
          moved.0,
          moved.1,
          subst (λ (d : List ℕ). IsDone plan d (before_of moved.0)) (sym first.grows.done) moved.2,
          two,
          moved.4,
        )
      ];
      offered = λ cell found. elim (second.offered cell found) [
        | inl before ↦ first.offered cell before
        | inr of ↦ inr (
          of.0,
          of.1,
          (of.2.0, of.2.1, done_before old mid first.grows.done (before_of of.2.0) of.2.2, of.2.3, of.2.4),
          of.3,
        )
      ];
      followed = λ before. second.followed (first.followed before);
    }

    -- all of them, where the others were known
    pub within_all : (old_moves new_moves : List (List Bool)) (old new : Progress) →
        ((move : Move) → IsOne plan move → M move → L move ⊎ IsKnown plan old_moves move) →
        AreFollowed plan old_moves old → NotedWithin plan L M old_moves new_moves old new →
        Noted plan M old_moves new_moves old new
    within_all old_moves new_moves old new cases followed within = record {
      adds = record {
        sized = within.sized;
        stays = within.stays;
        all = λ move kept is holds. elim (cases move is holds) [
          | inl least ↦ within.all move kept is least
          | inr known ↦ elim known [ inl has ↦ inl (within.stays move has) | inr same ↦ inr same ]
        ];
        only = within.only;
      };
      offered = record {
        grows = within.grows;
        all = λ fact in' moved. elim (cases moved.0 moved.1 moved.3) [
          | inl least ↦ within.found fact in' (moved.0, moved.1, moved.2, least, moved.4)
          | inr known ↦ found_stays old new within.grows (cell_of plan fact)
              (subst (λ (f : Fact). Contains (found_in old) (cell_of plan f)) (sym moved.4)
              (known_found old_moves old moved.0 followed moved.2 known))
        ];
        only = within.offered;
      };
    }

  -- in a loop: for a number below `at`
  module _ (R : ℕ → Move → Type 0) (M : Move → Type 0) where
    abbrev pub Turns : ℕ → Move → Type 0
    Turns at move = (k : ℕ) × (k < at) × R k move

    pub turns_none : (moves : List (List Bool)) (work : Progress) → IsSized plan moves → AreFollowed plan moves work →
        NotedWithin plan (Turns 0) M moves moves work work
    turns_none moves work sized followed =
        within_known (Turns 0) M moves work sized followed (λ move is turns. absurd (omega (arith, turns.1)))

    pub turns_next : (at : ℕ) (old_moves now_moves new_moves : List (List Bool)) (old now new : Progress) →
        NotedWithin plan (Turns at) M old_moves now_moves old now →
        NotedWithin plan (R at) M now_moves new_moves now new →
        NotedWithin plan (Turns (at + 1)) M old_moves new_moves old new
    turns_next at old_moves now_moves new_moves old now new so_far turn =
        within_less (Turns (at + 1)) M (λ move. Turns at move ⊎ R at move) old_moves new_moves old new
        (λ move is turns. elim (cases_lt turns.0 at) [
          | inl before ↦ inl (turns.0, before, turns.2)
          | inr later ↦ let same : turns.0 ≡ at = omega (arith, turns.1, later) in
              inr (subst (λ (k : ℕ). R k move) same turns.2)
        ])
        (within_both (Turns at) M (R at) old_moves now_moves new_moves old now new so_far turn)

-- in a loop over the packets of moves: those below `at`
module _ (plan : Plan) (Q M : Move → Type 0) where
  abbrev pub Below : ℕ → Move → Type 0
  Below at move = Q move × (move.packet < at)

  pub below_none : (moves : List (List Bool)) (work : Progress) → IsSized plan moves → AreFollowed plan moves work →
      NotedWithin plan (Below 0) M moves moves work work
  below_none moves work sized followed =
      within_known plan (Below 0) M moves work sized followed (λ move is holds. absurd (omega (arith, holds.1)))

  pub below_next : (at next : ℕ) (P : Move → Type 0) (old_moves now_moves new_moves : List (List Bool))
      (old now new : Progress) →
      ((move : Move) → Q move → at ≤ move.packet → move.packet < next → ⊥) →
      ((move : Move) → Q move → move.packet ≡ next → P move) →
      NotedWithin plan (Below at) M old_moves now_moves old now → NotedWithin plan P M now_moves new_moves now new →
      NotedWithin plan (Below (next + 1)) M old_moves new_moves old new
  below_next at next P old_moves now_moves new_moves old now new none here so_far turn =
      within_less plan (Below (next + 1)) M (λ move. Below at move ⊎ P move) old_moves new_moves old new
      (λ move is holds. elim (cases_lt move.packet at) [
        | inl before ↦ inl (holds.0, before)
        | inr later ↦ elim (cases_lt move.packet next) [
          | inl between ↦ absurd (none move holds.0 later between)
          | inr past ↦ inr (here move holds.0 (let same : move.packet ≡ next = omega (arith, holds.1, past) in same))
        ]
      ])
      (within_both plan (Below at) M P old_moves now_moves new_moves old now new so_far turn)

  pub below_all : (at : ℕ) (old_moves new_moves : List (List Bool)) (old new : Progress) →
      ((move : Move) → Q move → at ≤ move.packet → ⊥) → NotedWithin plan (Below at) M old_moves new_moves old new →
      NotedWithin plan Q M old_moves new_moves old new
  below_all at old_moves new_moves old new none so_far =
      within_less plan Q M (Below at) old_moves new_moves old new
      (λ move is holds. elim (cases_lt move.packet at) [
        | inl before ↦ (holds, before)
        | inr later ↦ absurd (none move holds later)
      ]) so_far

-- in a loop that begins at a number
module _ (plan : Plan) (R : ℕ → Move → Type 0) (M : Move → Type 0) (from : ℕ) where
  abbrev pub FromThen : ℕ → Move → Type 0
  FromThen k move = (from ≤ k) × R k move

  abbrev pub TurnsFrom : ℕ → Move → Type 0
  TurnsFrom = Turns plan FromThen M

  pub from_none : (moves : List (List Bool)) (work : Progress) → IsSized plan moves → AreFollowed plan moves work →
      NotedWithin plan (TurnsFrom from) M moves moves work work
  from_none moves work sized followed =
      within_known plan (TurnsFrom from) M moves work sized followed
      (λ move is turns. absurd (omega (arith, turns.1, turns.2.0)))

  pub from_next : (at : ℕ) (old_moves now_moves new_moves : List (List Bool)) (old now new : Progress) →
      NotedWithin plan (TurnsFrom at) M old_moves now_moves old now →
      NotedWithin plan (R at) M now_moves new_moves now new →
      NotedWithin plan (TurnsFrom (at + 1)) M old_moves new_moves old new
  from_next at old_moves now_moves new_moves old now new so_far turn =
      turns_next plan FromThen M at old_moves now_moves new_moves old now new so_far
      (within_less plan (FromThen at) M (R at) now_moves new_moves now new (λ move is holds. holds.1) turn)

-- in a loop over packets: the moves at those before `at`
abbrev pub IsTurn : List ℕ → (Move → Type 0) → ℕ → Move → Type 0
IsTurn packets P k move = P move × ((d : ℕ) → move.packet ≡ get_or packets k d)
