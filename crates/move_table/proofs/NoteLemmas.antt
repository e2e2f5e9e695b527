-- How notes of moves come together with what the moves make of facts that are done.
use Rattle.std.proofs.Common.{◌≡◌, ℕ, ◌+◌, ◌<◌, ◌≤◌, ◌⊎◌, ◌↔◌, inl, inr, Bool, List, length, get_or, refl, sym, ap, subst}
use Rattle.std.proofs.Common.{◌∙◌, arith}
use Rattle.std.specs.List.{Contains}
use Rattle.std.proofs.lemmas.Bool.{cases_lt}
use Rattle.std.proofs.lemmas.List.{get_or_default}
use Rattle.std.proofs.lemmas.List.Elements.{Contains-append_left}
use Rattle.fix_engine.specs.Progress.{Progress, found_in}
use Rattle.fix_engine.proofs.ProgressLemmas.{Grows-none}
use Rattle.net_plan.specs.declared.plan.Plan.{Plan}
use Rattle.net_plan.specs.declared.fact.Fact.{Fact}
use Rattle.net_plan.specs.declared.fact.Fact.TheVariants.{State}
use Rattle.net_plan.specs.Cells.{cell_of}
use Rattle.box_masks.specs.declared.write.Write.{Write}
use Rattle.box_masks.specs.Writes.{AreShown}
use Rattle.packet_state.specs.Answers.{answers}
use Rattle.box_moves.specs.Moves.{IsSized, IsMove, HasMove}
use Rattle.move_table.specs.Offered.{Offered, Is, IsDone}
use Rattle.move_table.specs.Moves.{Move, IsOne, before_of, after_of, Has, Adds, Moved, Noted, AreFollowed, Patches}
use Rattle.move_table.specs.Moves.{IsPatch}
use Rattle.move_table.proofs.OfferedLemmas.{offered_none, offered_as, offered_both}
use Rattle.move_table.proofs.AddLemmas.{adds_none, adds_as, adds_both}

-- a move is known by its numbers
abbrev move_of : ℕ → ℕ → ℕ → ℕ → Move
move_of box packet mask other = record { box = box; packet = packet; mask = mask; other = other }

same_numbers : (move : Move) (box packet mask other : ℕ) → move.box ≡ box → move.packet ≡ packet → move.mask ≡ mask →
    move.other ≡ other → move ≡ record { box = box; packet = packet; mask = mask; other = other }
same_numbers move box packet mask other one two three four =
    ap (λ (n : ℕ). move_of n move.packet move.mask move.other) one
    ∙ ap (λ (n : ℕ). move_of box n move.mask move.other) two
    ∙ ap (λ (n : ℕ). move_of box packet n move.other) three
    ∙ ap (λ (n : ℕ). move_of box packet mask n) four

module _ (plan : Plan) where
  pub noted_none : (P : Move → Type 0) (moves : List (List Bool)) (work : Progress) → IsSized plan moves →
      ((move : Move) → P move → ⊥) → Noted plan P moves moves work work
  noted_none P moves work sized none = record {
    adds = adds_none plan P moves sized none;
    offered = offered_none plan (Moved plan P work.done) work (λ fact in' moved. none moved.0 moved.3);
  }

  -- moves that change no mask make nothing that isn't found
  pub noted_same : (P : Move → Type 0) (moves : List (List Bool)) (work : Progress) → IsSized plan moves →
      ((move : Move) → P move → move.mask ≡ move.other) → Noted plan P moves moves work work
  noted_same P moves work sized same = record {
    adds = record {
      sized = sized;
      stays = λ move has. has;
      all = λ move kept is holds. inr (same move holds);
      only = λ move has. inl has;
    };
    offered = record {
      grows = Grows-none work;
      all = λ fact in' moved.
          subst (λ (f : Fact). Contains (found_in work) (cell_of plan f)) (sym moved.4)
          (subst (λ (m : ℕ). Contains (found_in work) (cell_of plan (State moved.0.box moved.0.packet m)))
          (same moved.0 moved.3)
          (Contains-append_left work.done work.todo (cell_of plan (before_of moved.0)) moved.2.1));
      only = λ cell found. inl found;
    };
  }

  -- moves that were noted and are followed make nothing that isn't found
  pub noted_known : (P : Move → Type 0) (moves : List (List Bool)) (work : Progress) → IsSized plan moves →
      AreFollowed plan moves work → ((move : Move) → P move → Has plan moves move) → Noted plan P moves moves work work
  noted_known P moves work sized followed known = record {
    adds = record {
      sized = sized;
      stays = λ move has. has;
      all = λ move kept is holds. inl (known move holds);
      only = λ move has. inl has;
    };
    offered = record {
      grows = Grows-none work;
      all = λ fact in' moved. subst (λ (f : Fact). Contains (found_in work) (cell_of plan f)) (sym moved.4)
          (followed moved.0 (known moved.0 moved.3) moved.2);
      only = λ cell found. inl found;
    };
  }

  pub noted_as : (P Q : Move → Type 0) (old_moves new_moves : List (List Bool)) (old new : Progress) →
      ((move : Move) → P move → Q move) → ((move : Move) → IsOne plan move → Q move → P move) →
      Noted plan P old_moves new_moves old new → Noted plan Q old_moves new_moves old new
  noted_as P Q old_moves new_moves old new there back noted = record {
    adds = adds_as plan P Q old_moves new_moves there back noted.adds;
    offered = offered_as plan (Moved plan P old.done) (Moved plan Q old.done) old new
        (λ fact in' moved. (moved.0, moved.1, moved.2, there moved.0 moved.3, moved.4))
        (λ fact in' moved. (moved.0, moved.1, moved.2, back moved.0 moved.1 moved.3, moved.4)) noted.offered;
  }

  pub noted_both : (P Q : Move → Type 0) (old_moves mid_moves new_moves : List (List Bool)) (old mid new : Progress) →
      Noted plan P old_moves mid_moves old mid → Noted plan Q mid_moves new_moves mid new →
      Noted plan (λ move. P move ⊎ Q move) old_moves new_moves old new
  noted_both P Q old_moves mid_moves new_moves old mid new first second = record {
    adds = adds_both plan P Q old_moves mid_moves new_moves first.adds second.adds;
    offered = offered_as plan (λ fact. Moved plan P old.done fact ⊎ Moved plan Q old.done fact)
        (Moved plan (λ move. P move ⊎ Q move) old.done) old new
        (λ fact in' either. elim either [
          | inl one ↦ (one.0, one.1, one.2, inl one.3, one.4)
          | inr two ↦ (two.0, two.1, two.2, inr two.3, two.4)
        ])
        (λ fact in' moved. elim moved.3 [
          | inl one ↦ inl (moved.0, moved.1, moved.2, one, moved.4)
          | inr two ↦ inr (moved.0, moved.1, moved.2, two, moved.4)
        ])
        (offered_both plan (Moved plan P old.done) (Moved plan Q old.done) old mid new first.offered
        (subst (λ (d : List ℕ). Offered plan (Moved plan Q d) mid new) first.offered.grows.done second.offered));
  }

  -- in a loop over a number of the move: those below `at`
  module _ (Q : Move → Type 0) (f : Move → ℕ) where
    abbrev pub FirstMoves : ℕ → Move → Type 0
    FirstMoves at move = Q move × (f move < at)

    pub first_none : (moves : List (List Bool)) (work : Progress) → IsSized plan moves →
        Noted plan (FirstMoves 0) moves moves work work
    first_none moves work sized =
        noted_none (FirstMoves 0) moves work sized (λ move holds. omega (arith, holds.1))

    pub first_turn : (at : ℕ) (old_moves now_moves new_moves : List (List Bool)) (old now new : Progress) →
        Noted plan (FirstMoves at) old_moves now_moves old now →
        Noted plan (λ move. Q move × (f move ≡ at)) now_moves new_moves now new →
        Noted plan (FirstMoves (at + 1)) old_moves new_moves old new
    first_turn at old_moves now_moves new_moves old now new so_far turn =
        noted_as (λ move. FirstMoves at move ⊎ (Q move × (f move ≡ at))) (FirstMoves (at + 1)) old_moves new_moves old new
        (λ move holds. elim holds [
          | inl before ↦ (before.0, omega (arith, before.1))
          | inr here ↦ (here.0, omega (arith, here.1))
        ])
        (λ move is holds. elim (cases_lt (f move) at) [
          | inl before ↦ inl (holds.0, before)
          | inr later ↦ inr (holds.0, (let same : f move ≡ at = omega (arith, holds.1, later) in same))
        ])
        (noted_both (FirstMoves at) (λ move. Q move × (f move ≡ at)) old_moves now_moves new_moves old now new so_far turn)

    -- past numbers that no such move has
    pub first_jump : (at next : ℕ) (old_moves now_moves : List (List Bool)) (old now : Progress) → at ≤ next →
        ((move : Move) → IsOne plan move → Q move → at ≤ f move → f move < next → ⊥) →
        Noted plan (FirstMoves at) old_moves now_moves old now → Noted plan (FirstMoves next) old_moves now_moves old now
    first_jump at next old_moves now_moves old now up none noted =
        noted_as (FirstMoves at) (FirstMoves next) old_moves now_moves old now
        (λ move holds. (holds.0, omega (arith, holds.1, up)))
        (λ move is holds. elim (cases_lt (f move) at) [
          | inl before ↦ (holds.0, before)
          | inr later ↦ absurd (none move is holds.0 later holds.1)
        ]) noted

    pub first_all : (at : ℕ) (old_moves new_moves : List (List Bool)) (old new : Progress) →
        ((move : Move) → IsOne plan move → Q move → f move < at) →
        Noted plan (FirstMoves at) old_moves new_moves old new → Noted plan Q old_moves new_moves old new
    first_all at old_moves new_moves old new below noted =
        noted_as (FirstMoves at) Q old_moves new_moves old new (λ move holds. holds.0)
        (λ move is holds. (holds, below move is holds)) noted

  -- in a loop over a list: the members before a place
  module _ {X : Type 0} (xs : List X) (P : X → Move → Type 0) where
    abbrev pub AmongFirst : ℕ → Move → Type 0
    AmongFirst at move = (x : X) × (k : ℕ) × (k < at) × (k < length xs) × (get_or xs k x ≡ x) × P x move

    pub among_none : (moves : List (List Bool)) (work : Progress) → IsSized plan moves →
        Noted plan (AmongFirst 0) moves moves work work
    among_none moves work sized =
        noted_none (AmongFirst 0) moves work sized (λ move holds. omega (arith, holds.2))

    pub among_turn : (at : ℕ) (d : X) (old_moves now_moves new_moves : List (List Bool)) (old now new : Progress) →
        at < length xs → Noted plan (AmongFirst at) old_moves now_moves old now →
        Noted plan (P (get_or xs at d)) now_moves new_moves now new →
        Noted plan (AmongFirst (at + 1)) old_moves new_moves old new
    among_turn at d old_moves now_moves new_moves old now new within so_far turn =
        noted_as (λ move. AmongFirst at move ⊎ P (get_or xs at d) move) (AmongFirst (at + 1)) old_moves new_moves old new
        (λ move holds. elim holds [
          | inl b ↦ (b.0, b.1, omega (arith, b.2), b.3, b.4, b.5)
          | inr here ↦ (get_or xs at d, at, omega arith, within, get_or_default xs at (get_or xs at d) d within, here)
        ])
        (λ move is h. elim (cases_lt h.1 at) [
          | inl before ↦ inl (h.0, h.1, before, h.3, h.4, h.5)
          | inr later ↦ let same : h.1 ≡ at = omega (arith, h.2, later) in
              inr (subst (λ x. P x move)
              (sym h.4 ∙ get_or_default xs h.1 h.0 d h.3 ∙ ap (λ (n : ℕ). get_or xs n d) same) h.5)
        ])
        (noted_both (AmongFirst at) (P (get_or xs at d)) old_moves now_moves new_moves old now new so_far turn)

    pub among_all : (at : ℕ) (old_moves new_moves : List (List Bool)) (old new : Progress) → length xs ≤ at →
        Noted plan (AmongFirst at) old_moves new_moves old new →
        Noted plan (λ move. (x : X) × Contains xs x × P x move) old_moves new_moves old new
    among_all at old_moves new_moves old new past noted =
        noted_as (AmongFirst at) (λ move. (x : X) × Contains xs x × P x move) old_moves new_moves old new
        (λ move h. (h.0, (h.1, h.3, h.4), h.5))
        (λ move is h. (h.0, h.1.0, omega (arith, h.1.1, past), h.1.1, h.1.2, h.2)) noted

-- a fired handler, and the moves of its results
module _ (plan : Plan) (box packet mask : ℕ) where
  -- the writes have at most one move from each mask
  pub patches_one : (writes : List Write) (q w after : ℕ) → AreShown plan box packet mask q w →
      IsPatch plan box writes q w after → (old_moves new_moves : List (List Bool)) (old new : Progress) →
      Noted plan (λ move. move ≡ record { box = box; packet = q; mask = w; other = after }) old_moves new_moves old new →
      Noted plan (λ move. (Patches plan box packet mask writes move × (move.packet ≡ q)) × (move.mask ≡ w))
      old_moves new_moves old new
  patches_one writes q w after shown patch old_moves new_moves old new noted =
      noted_as plan (λ move. move ≡ record { box = box; packet = q; mask = w; other = after })
      (λ move. (Patches plan box packet mask writes move × (move.packet ≡ q)) × (move.mask ≡ w)) old_moves new_moves old new
      (λ move is. subst
      (λ (m : Move). (Patches plan box packet mask writes m × (m.packet ≡ q)) × (m.mask ≡ w)) (sym is)
      ((record { boxed = refl; shown = shown; patched = patch }, refl), refl))
      (λ move is holds. same_move move holds.0.0.boxed holds.0.1 holds.1 (same_patch move holds)) noted
    where
      same_patch : (move : Move) → (Patches plan box packet mask writes move × (move.packet ≡ q)) × (move.mask ≡ w) →
          move.other ≡ after
      same_patch move holds =
          let answered : answers plan box q shown.0 ≡ w = shown.3 in
          sym (subst (λ (p : ℕ). IsPatch plan box writes p w move.other) holds.0.1
          (subst (λ (m : ℕ). IsPatch plan box writes move.packet m move.other) holds.1 holds.0.0.patched) shown.0 answered)
          ∙ patch shown.0 answered

      same_move : (move : Move) → move.box ≡ box → move.packet ≡ q → move.mask ≡ w → move.other ≡ after →
          move ≡ record { box = box; packet = q; mask = w; other = after }
      same_move move one two three four = same_numbers move box q w after one two three four

  -- where the mask stays, they have none that changes it
  pub patches_same : (writes : List Write) (q w : ℕ) → IsPatch plan box writes q w w → (moves : List (List Bool))
      (work : Progress) → IsSized plan moves →
      Noted plan (λ move. (Patches plan box packet mask writes move × (move.packet ≡ q)) × (move.mask ≡ w))
      moves moves work work
  patches_same writes q w patch moves work sized =
      noted_same plan (λ move. (Patches plan box packet mask writes move × (move.packet ≡ q)) × (move.mask ≡ w))
      moves work sized (λ move holds.
      let shown : AreShown plan box packet mask q w =
      subst (λ (p : ℕ). AreShown plan box packet mask p w) holds.0.1
      (subst (λ (m : ℕ). AreShown plan box packet mask move.packet m) holds.1 holds.0.0.shown) in
      let now : IsPatch plan box writes q w move.other =
      subst (λ (p : ℕ). IsPatch plan box writes p w move.other) holds.0.1
      (subst (λ (m : ℕ). IsPatch plan box writes move.packet m move.other) holds.1 holds.0.0.patched) in
      holds.1 ∙ sym (patch shown.0 shown.3) ∙ now shown.0 shown.3)

  -- where the one move was noted and is followed, nothing is left to do
  pub patches_known : (writes : List Write) (q w after : ℕ) → IsPatch plan box writes q w after →
      (moves : List (List Bool)) (work : Progress) → IsSized plan moves → AreFollowed plan moves work →
      HasMove plan moves box q w after →
      Noted plan (λ move. (Patches plan box packet mask writes move × (move.packet ≡ q)) × (move.mask ≡ w))
      moves moves work work
  patches_known writes q w after patch moves work sized followed has =
      noted_known plan (λ move. (Patches plan box packet mask writes move × (move.packet ≡ q)) × (move.mask ≡ w))
      moves work sized followed (λ move holds.
      let shown : AreShown plan box packet mask q w =
      subst (λ (p : ℕ). AreShown plan box packet mask p w) holds.0.1
      (subst (λ (m : ℕ). AreShown plan box packet mask move.packet m) holds.1 holds.0.0.shown) in
      let now : IsPatch plan box writes q w move.other =
      subst (λ (p : ℕ). IsPatch plan box writes p w move.other) holds.0.1
      (subst (λ (m : ℕ). IsPatch plan box writes move.packet m move.other) holds.1 holds.0.0.patched) in
      subst (Has plan moves)
      (sym (same_numbers move box q w after holds.0.0.boxed holds.0.1 holds.1
      (sym (now shown.0 shown.3) ∙ patch shown.0 shown.3))) has)

  pub patches_not : (writes : List Write) (q w : ℕ) → (AreShown plan box packet mask q w → ⊥) → (moves : List (List Bool))
      (work : Progress) → IsSized plan moves →
      Noted plan (λ move. (Patches plan box packet mask writes move × (move.packet ≡ q)) × (move.mask ≡ w))
      moves moves work work
  patches_not writes q w never moves work sized =
      noted_none plan (λ move. (Patches plan box packet mask writes move × (move.packet ≡ q)) × (move.mask ≡ w)) moves work
      sized
      (λ move holds. never (subst (λ (p : ℕ). AreShown plan box packet mask p w) holds.0.1
      (subst (λ (m : ℕ). AreShown plan box packet mask move.packet m) holds.1 holds.0.0.shown)))

-- one move
module _ (plan : Plan) (box packet mask other : ℕ) where
  abbrev pub This : Move
  This = record { box = box; packet = packet; mask = mask; other = other }

  pub adds_one : (old new : List (List Bool)) → IsSized plan new →
      ((b q w x : ℕ) → HasMove plan new b q w x
      ↔ (HasMove plan old b q w x ⊎ ((box ≡ b) × (packet ≡ q) × (mask ≡ w) × (other ≡ x)))) →
      Adds plan (λ move. move ≡ This) old new
  adds_one old new sized exactly = record {
    sized = sized;
    stays = λ move has. (exactly move.box move.packet move.mask move.other).1 (inl has);
    all = λ move kept is same. inl ((exactly move.box move.packet move.mask move.other).1
        (inr (ap (λ m. m.box) (sym same), ap (λ m. m.packet) (sym same), ap (λ m. m.mask) (sym same), ap (λ m. m.other) (sym same))));
    only = λ move has. elim ((exactly move.box move.packet move.mask move.other).0 has) [
      | inl before ↦ inl before
      | inr e ↦ inr (same_move move (sym e.0) (sym e.1) (sym e.2) (sym e.3))
    ];
  }
    where
      same_move : (move : Move) → move.box ≡ box → move.packet ≡ packet → move.mask ≡ mask → move.other ≡ other →
          move ≡ This
      same_move move one two three four = same_numbers move box packet mask other one two three four

  pub adds_same : (old : List (List Bool)) → IsSized plan old → other ≡ mask → Adds plan (λ move. move ≡ This) old old
  adds_same old sized same = record {
    sized = sized;
    stays = λ move has. has;
    all = λ move kept is here. inr (ap (λ m. m.mask) here ∙ sym same ∙ sym (ap (λ m. m.other) here));
    only = λ move has. inl has;
  }

  pub noted_one : (old_moves new_moves : List (List Bool)) (old new : Progress) → IsMove plan box packet mask other →
      Adds plan (λ move. move ≡ This) old_moves new_moves → IsDone plan old.done (State box packet mask) →
      Offered plan (Is (State box packet other)) old new →
      Noted plan (λ move. move ≡ This) old_moves new_moves old new
  noted_one old_moves new_moves old new is adds known offered = record {
    adds = adds;
    offered = offered_as plan (Is (State box packet other)) (Moved plan (λ move. move ≡ This) old.done) old new
        (λ fact in' same. (This, is, known, refl, same))
        (λ fact in' moved. moved.4 ∙ ap after_of moved.3) offered;
  }

  pub noted_only : (old_moves new_moves : List (List Bool)) (work : Progress) →
      Adds plan (λ move. move ≡ This) old_moves new_moves → (IsDone plan work.done (State box packet mask) → ⊥) →
      Noted plan (λ move. move ≡ This) old_moves new_moves work work
  noted_only old_moves new_moves work adds never = record {
    adds = adds;
    offered = offered_none plan (Moved plan (λ move. move ≡ This) work.done) work
        (λ fact in' moved. never (subst (λ (m : Move). IsDone plan work.done (before_of m)) moved.3 moved.2));
  }
