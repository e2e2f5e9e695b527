-- Why moves are noted, in terms of what follows, and what the table says after a step of the work.
use Rattle.std.proofs.Common.{◌≡◌, ℕ, ◌+◌, ◌^◌, ◌<◌, ◌≤◌, ◌⊎◌, inl, inr, zero, suc, Bool, List, [], ◌∷◌, refl, sym, ap, subst, ◌∙◌, arith}
use Rattle.std.specs.List.{Contains}
use Rattle.std.proofs.lemmas.List.Elements.{Contains-append_left, Contains-append_right, Contains-append_cases}
use Rattle.std.proofs.lemmas.Bool.{cases_lt}
use Rattle.fix_engine.specs.Progress.{Progress, found_in, Takes}
use Rattle.fix_engine.proofs.ProgressLemmas.{Grows-more, found_stays, Takes-found}
use Rattle.net_plan.specs.declared.plan.Plan.{Plan}
use Rattle.net_plan.specs.declared.fact.Fact.{Fact}
use Rattle.net_plan.specs.declared.fact.Fact.TheVariants.{Out, State, Abort}
use Rattle.net_plan.specs.Plan.{box_at, ports_of}
use Rattle.net_plan.specs.Cells.{IsInRange, cell_of}
use Rattle.net_plan.specs.Laws.{PartnerIsUnique}
use Rattle.net_plan.specs.Sound.{IsSound}
use Rattle.net_plan.proofs.CellLemmas.{cell_once}
use Rattle.net_plan.proofs.Rising.{head_contained}
use Rattle.packet_state.specs.Follows.{Follows}
use Rattle.box_moves.specs.Moves.{masks_at, moves_over, IsKept, IsSized, HasMove, HasNoMoveFrom}
use Rattle.abstract_step.specs.Step.{Result}
use Rattle.packet_domain.specs.declared.inlet.Inlet.{Inlet}
use Rattle.move_table.specs.Offered.{Offered, Is, IsDone}
use Rattle.packet_domain.specs.Inlet.{IsInlet}
use Rattle.move_table.specs.Moves.{IsPatch, AreFollowed}
use Rattle.packet_domain.specs.Reasons.{LeadsTo, AsState, AsChanged, Reacts}
use Rattle.packet_domain.specs.Laws.{IsExact}
use Rattle.move_table.specs.Moves.{Move, IsOne, Has, before_of, after_of, Adds}
use Rattle.packet_domain.specs.Table.{SomeMoves, Tracks}
use Rattle.packet_domain.specs.Table.{MovesBy, MovesTo, MovesFrom, MovesAsOut, MovesAsState, MovesAsStateAt, MovesAs}
use Rattle.packet_domain.specs.Table.{IsMoved, ChangesAs}
use Rattle.move_table.proofs.AddLemmas.{adds_none, adds_as}
use Rattle.move_table.proofs.OfferedLemmas.{UpTo, offered_as, offered_next, offered_all}
use Rattle.packet_domain.proofs.PlaceLemmas.{leads_once, once_before}
use Rattle.packet_domain.proofs.RoleLemmas.{led_too, port_below}

-- the box of what changes is that of the delivery
same_box : (plan : Plan) (end packet box mask : ℕ) (move : Move) → MovesBy plan end packet box mask move → move.box ≡ box
same_box plan end packet box mask move follows = follows.1

as_led : (plan : Plan) (end packet box mask : ℕ) (move : Move) → MovesBy plan end packet box mask move →
    Follows plan (Out end packet ∷ State box packet mask ∷ State box move.packet move.mask ∷ []) (after_of move)
as_led plan end packet box mask move follows =
    subst (λ (b : ℕ). Follows plan (Out end packet ∷ State box packet mask ∷ State b move.packet move.mask ∷ [])
    (after_of move)) (same_box plan end packet box mask move follows) follows

other_of : {b q x y : ℕ} → State b q x ≡ State b q y → x ≡ y
other_of e = cc

-- the moves of the results are those that follow
pub moves_by : (plan : Plan) (end packet box mask : ℕ) (results : List Result) →
    IsExact plan end packet box mask results → (old new : List (List Bool)) →
    Adds plan (SomeMoves plan box packet mask results) old new → Adds plan (MovesBy plan end packet box mask) old new
moves_by plan end packet box mask results exact old new adds = record {
  sized = adds.sized;
  stays = adds.stays;
  all = λ move kept is follows. adds.all move kept is (back move is follows);
  only = λ move has. elim (adds.only move has) [
    | inl before ↦ inl before
    | inr some ↦ inr (there move (adds_one_of move has) some)
  ];
}
  where
    adds_one_of : (move : Move) → Has plan new move → IsOne plan move
    adds_one_of move has = has.is_move

    there : (move : Move) → IsOne plan move → SomeMoves plan box packet mask results move →
        MovesBy plan end packet box mask move
    there move is (result, among, (goes, patches)) =
        subst
        (λ (b : ℕ). Follows plan (Out end packet ∷ State box packet mask ∷ State b move.packet move.mask ∷ [])
        (State b move.packet move.other)) (sym patches.boxed)
        ((exact.changes move.packet move.mask (State box move.packet move.other) is.packet_is).0 (
          patches.shown,
          (result, among, record { goes_on = goes; after = move.other; patched = patches.patched; is = refl }),
        ))

    back : (move : Move) → IsOne plan move → MovesBy plan end packet box mask move →
        SomeMoves plan box packet mask results move
    back move is follows =
        let boxed = same_box plan end packet box mask move follows in
        let change = (exact.changes move.packet move.mask (State box move.packet move.other) is.packet_is).1
        (subst
        (λ (b : ℕ). Follows plan (Out end packet ∷ State box packet mask ∷ State b move.packet move.mask ∷ [])
        (State b move.packet move.other)) boxed follows) in (
          change.1.0,
          change.1.1,
          (
            change.1.2.goes_on,
            record {
              boxed = boxed;
              shown = change.0;
              patched = subst (IsPatch plan box change.1.0.writes move.packet move.mask)
                  (sym (other_of change.1.2.is)) change.1.2.patched;
            },
          ),
        )

module _ (unique : PartnerIsUnique) (plan : Plan) (sound : IsSound plan) (done : List ℕ) (old new : List (List Bool))
    (inlet : Inlet) (is : IsInlet plan inlet) (packet : ℕ) where
  pub moves_as_out : Adds plan (MovesTo plan done inlet.end packet inlet.b) old new →
      Adds plan (MovesAsOut plan done inlet.end packet) old new
  moves_as_out adds =
      adds_as plan (MovesTo plan done inlet.end packet inlet.b) (MovesAsOut plan done inlet.end packet) old new
      (λ move moves. (inlet.b, moves))
      (λ move one out.
      let leads = led_too plan inlet.end packet out.0 out.1.0 move.packet move.mask (after_of move)
      (as_led plan inlet.end packet out.0 out.1.0 move out.1.2) in
      let same : out.0 ≡ inlet.b =
      leads_once unique plan sound inlet.end is.leads.0 is.leads.1 out.0 leads.0 inlet.b inlet.port leads.1 is.leads in
      subst (λ (b : ℕ). MovesTo plan done inlet.end packet b move) same out.1)
      adds

  pub moves_as_state_at : (mask : ℕ) → Adds plan (MovesFrom plan done inlet.end packet inlet.b mask) old new →
      Adds plan (MovesAsStateAt plan done inlet.b packet mask inlet.port) old new
  moves_as_state_at mask adds =
      adds_as plan (MovesFrom plan done inlet.end packet inlet.b mask)
      (MovesAsStateAt plan done inlet.b packet mask inlet.port) old new
      (λ move from. (inlet.end, is.leads, from))
      (λ move one at. subst (λ (e : ℕ). MovesFrom plan done e packet inlet.b mask move)
      (once_before unique plan sound at.0 inlet.end inlet.b inlet.port at.1 is.leads) at.2)
      adds

module _ (plan : Plan) (done : List ℕ) (old : List (List Bool)) (sized : IsSized plan old) where
  pub moves_as_no_out : (end packet : ℕ) → ((box port : ℕ) → LeadsTo plan end box port → ⊥) →
      Adds plan (MovesAsOut plan done end packet) old old
  moves_as_no_out end packet none =
      adds_none plan (MovesAsOut plan done end packet) old sized
      (λ move out. let leads = led_too plan end packet out.0 out.1.0 move.packet move.mask (after_of move)
      (as_led plan end packet out.0 out.1.0 move out.1.2) in
      none out.0 leads.0 leads.1)

  pub moves_as_no_state_at : (box packet mask port : ℕ) → ((end : ℕ) → LeadsTo plan end box port → ⊥) →
      Adds plan (MovesAsStateAt plan done box packet mask port) old old
  moves_as_no_state_at box packet mask port none =
      adds_none plan (MovesAsStateAt plan done box packet mask port) old sized (λ move at. none at.0 at.1)

  pub moves_where_not_done : (box end packet mask : ℕ) → (IsDone plan done (Out end packet) → ⊥) →
      Adds plan (MovesFrom plan done end packet box mask) old old
  moves_where_not_done box end packet mask never =
      adds_none plan (MovesFrom plan done end packet box mask) old sized (λ move from. never from.0)

  pub moves_of_abort : (box packet : ℕ) → Adds plan (MovesAs plan done (Abort box packet)) old old
  moves_of_abort box packet =
      adds_none plan (MovesAs plan done (Abort box packet)) old sized (λ move never. absurd never)

module _ (plan : Plan) (done : List ℕ) (old new : List (List Bool)) (box : ℕ) where
  pub moves_where_done : (end packet mask : ℕ) → IsDone plan done (Out end packet) →
      Adds plan (MovesBy plan end packet box mask) old new →
      Adds plan (MovesFrom plan done end packet box mask) old new
  moves_where_done end packet mask known adds =
      adds_as plan (MovesBy plan end packet box mask) (MovesFrom plan done end packet box mask) old new
      (λ move moves. (known, moves)) (λ move one from. from.1) adds

  pub moves_as_state : (packet mask : ℕ) →
      Adds plan (λ move. (port : ℕ) × (port < ports_of plan (box_at plan box))
      × MovesAsStateAt plan done box packet mask port move) old new →
      Adds plan (MovesAsState plan done box packet mask) old new
  moves_as_state packet mask adds =
      adds_as plan (λ move. (port : ℕ) × (port < ports_of plan (box_at plan box))
      × MovesAsStateAt plan done box packet mask port move) (MovesAsState plan done box packet mask) old new
      (λ move at. (at.2.0, at.2.2))
      (λ move one state. let leads = led_too plan state.0 packet box mask move.packet move.mask (after_of move)
      (as_led plan state.0 packet box mask move state.1.1) in
      (leads.0, port_below plan state.0 box leads.0 leads.1, (state.0, leads.1, state.1)))
      adds

only_one : (one cell : ℕ) → Contains (one ∷ []) cell → one ≡ cell
only_one one cell (zero, within, is) = is
only_one one cell (suc k, within, is) = absurd (omega (arith, within))

-- the fact that was taken last, and those that were done before
module _ (plan : Plan) (before old : Progress) (given : Fact) (inside : IsInRange plan given)
    (takes : Takes before (cell_of plan given) old) where
  given_or_before : (fact : Fact) → IsDone plan old.done fact → (fact ≡ given) ⊎ IsDone plan before.done fact
  given_or_before fact known =
      elim (Contains-append_cases before.done (cell_of plan given ∷ []) (cell_of plan fact)
      (subst (λ (l : List ℕ). Contains l (cell_of plan fact)) takes.done known.1)) [
        | inl there ↦ inr (known.0, there)
        | inr last ↦ inl (cell_once plan fact given known.0 inside (sym (only_one (cell_of plan given) (cell_of plan fact) last)))
      ]

  still_done : (fact : Fact) → IsDone plan before.done fact → IsDone plan old.done fact
  still_done fact known = (
    known.0,
    subst (λ (l : List ℕ). Contains l (cell_of plan fact)) (sym takes.done)
        (Contains-append_left before.done (cell_of plan given ∷ []) (cell_of plan fact) known.1),
  )

  still_changed : (box second mask : ℕ) (fact : Fact) → AsChanged plan before.done box second mask fact →
      AsChanged plan old.done box second mask fact
  still_changed box second mask fact (end, (packet, out, (v, state, follows))) =
      (end, (packet, still_done (Out end packet) out, (v, still_done (State box packet v) state, follows)))

  -- a delivery of facts that are done is one of the given fact, or all was done before
  new_or_before : (move : Move) → AsChanged plan old.done move.box move.packet move.mask (after_of move) →
      MovesAs plan old.done given move
      ⊎ AsChanged plan before.done move.box move.packet move.mask (after_of move)
  new_or_before move (end, (packet, out, (mask, state, follows))) =
      elim (given_or_before (Out end packet) out) [
        | inl is ↦ inl (subst (λ fact. MovesAs plan old.done fact move) is (move.box, (mask, state, follows)))
        | inr out_before ↦ elim (given_or_before (State move.box packet mask) state) [
          | inl is ↦ inl (subst (λ fact. MovesAs plan old.done fact move) is (end, (out, follows)))
          | inr state_before ↦ inr (end, (packet, out_before, (mask, state_before, follows)))
        ]
      ]

  -- and where the table had all that was before, it has all that is now
  module _ (moves : List (List Bool)) (tracks : Tracks plan moves before) where
    found_before : (cell : ℕ) → Contains (found_in before) cell → Contains (found_in old) cell
    found_before cell there =
        subst (λ (l : List ℕ). Contains l cell) (sym (Takes-found before (cell_of plan given) old takes)) there

    reacts_by : (fact : Fact) (move : Move) → IsDone plan old.done (before_of move) → MovesAs plan old.done fact move →
        Reacts plan old.done fact (after_of move)
    reacts_by (Out end packet) move known (box, (mask, state, follows)) =
        (box, (mask, state, inr (move.packet, move.mask, here box mask packet end known follows, there box mask packet end follows)))
      where
        here : (box mask packet end : ℕ) → IsDone plan old.done (before_of move) → MovesBy plan end packet box mask move →
            IsDone plan old.done (State box move.packet move.mask)
        here box mask packet end known follows =
            subst (λ (b : ℕ). IsDone plan old.done (State b move.packet move.mask))
            (same_box plan end packet box mask move follows) known

        there : (box mask packet end : ℕ) (follows : MovesBy plan end packet box mask move) →
            Follows plan (Out end packet ∷ State box packet mask ∷ State box move.packet move.mask ∷ []) (after_of move)
        there box mask packet end follows = as_led plan end packet box mask move follows
    reacts_by (State box packet mask) move known (end, (out, follows)) =
        inl (
          end,
          (
            out,
            inr (
              move.packet,
              move.mask,
              subst (λ (b : ℕ). IsDone plan old.done (State b move.packet move.mask))
                  (same_box plan end packet box mask move follows) known,
              as_led plan end packet box mask move follows,
            ),
          ),
        )
    reacts_by (Abort box packet) move known never = absurd never

    moves_from_done : (fact : Fact) → IsDone plan old.done fact → (move : Move) → MovesAs plan old.done fact move →
        AsChanged plan old.done move.box move.packet move.mask (after_of move)
    moves_from_done (Out end packet) known move (box, (mask, state, follows)) =
        let boxed = same_box plan end packet box mask move follows in (
          end,
          (
            packet,
            known,
            (
              mask,
              subst (λ (b : ℕ). IsDone plan old.done (State b packet mask)) (sym boxed) state,
              subst (λ (b : ℕ). Follows plan (Out end packet ∷ State b packet mask ∷ before_of move ∷ []) (after_of move))
                  (sym boxed) follows,
            ),
          ),
        )
    moves_from_done (State box packet mask) known move (end, (out, follows)) =
        let boxed = same_box plan end packet box mask move follows in (
          end,
          (
            packet,
            out,
            (
              mask,
              subst (λ (b : ℕ). IsDone plan old.done (State b packet mask)) (sym boxed) known,
              subst (λ (b : ℕ). Follows plan (Out end packet ∷ State b packet mask ∷ before_of move ∷ []) (after_of move))
                  (sym boxed) follows,
            ),
          ),
        )
    moves_from_done (Abort box packet) known move never = absurd never

    given_done : IsDone plan old.done given
    given_done = (
      inside,
      subst (λ (l : List ℕ). Contains l (cell_of plan given)) (sym takes.done)
          (Contains-append_right before.done (cell_of plan given ∷ []) (cell_of plan given)
          (head_contained (cell_of plan given) [])),
    )

    module _ (new_moves : List (List Bool)) (new : Progress)
        (adds : Adds plan (MovesAs plan old.done given) moves new_moves)
        (offered : Offered plan (Reacts plan old.done given) old new) where
      old_closed : (move : Move) → Has plan moves move → (before_of move ≡ given) ⊎ IsDone plan before.done (before_of move) →
          Contains (found_in new) (cell_of plan (after_of move))
      old_closed move has (inl is) =
          offered.all (after_of move) (has.is_move.boxed, has.is_move.packet_is, has.is_move.other_is)
          (subst (λ fact. Reacts plan old.done fact (after_of move)) is
          (inr (still_changed move.box move.packet move.mask (after_of move) (tracks.sound move has))))
      old_closed move has (inr known) =
          found_stays old new offered.grows (cell_of plan (after_of move))
          (found_before (cell_of plan (after_of move)) (tracks.closed move has known))

      pub tracks_on : Tracks plan new_moves new
      tracks_on = record {
        complete = λ move kept is changed.
            elim (new_or_before move
            (subst (λ (d : List ℕ). AsChanged plan d move.box move.packet move.mask (after_of move)) offered.grows.done changed)) [
              | inl now ↦ adds.all move kept is now
              | inr past ↦ elim (tracks.complete move kept is past) [
                | inl has ↦ inl (adds.stays move has)
                | inr same ↦ inr same
              ]
            ];
        sound = λ move has.
            subst (λ (d : List ℕ). AsChanged plan d move.box move.packet move.mask (after_of move)) (sym offered.grows.done)
            (elim (adds.only move has) [
              | inl past ↦ still_changed move.box move.packet move.mask (after_of move) (tracks.sound move past)
              | inr now ↦ moves_from_done given given_done move now
            ]);
        closed = λ move has known_new.
            let known : IsDone plan old.done (before_of move) =
            subst (λ (d : List ℕ). IsDone plan d (before_of move)) offered.grows.done known_new in
            elim (adds.only move has) [
              | inl past ↦ old_closed move past (given_or_before (before_of move) known)
              | inr now ↦ offered.all (after_of move) (has.is_move.boxed, has.is_move.packet_is, has.is_move.other_is)
                  (reacts_by given move known now)
            ];
      }

-- a table without moves tracks work where nothing is done
pub tracks_none : (plan : Plan) (moves : List (List Bool)) (progress : Progress) →
    ((box packet mask other : ℕ) → ¬ (HasMove plan moves box packet mask other)) → progress.done ≡ [] →
    Tracks plan moves progress
tracks_none plan moves progress none nothing = record {
  complete = λ move kept is changed.
      absurd (never_done changed.1.1.1);
  sound = λ move has. absurd (none move.box move.packet move.mask move.other has);
  closed = λ move has. absurd (none move.box move.packet move.mask move.other has);
}
  where
    never_done : {cell : ℕ} → Contains progress.done cell → ⊥
    never_done {cell} there =
        let none_there : Contains [] cell = subst (λ (l : List ℕ). Contains l cell) nothing there in
        omega (arith, none_there.1)

-- noted moves are followed where a packet that is put out was taken
pub followed_out : (plan : Plan) (before old : Progress) (end packet : ℕ) (inside : IsInRange plan (Out end packet))
    (takes : Takes before (cell_of plan (Out end packet)) old) (moves : List (List Bool)) →
    Tracks plan moves before → AreFollowed plan moves old
followed_out plan before old end packet inside takes moves tracks move has known =
    elim (given_or_before plan before old (Out end packet) inside takes (before_of move) known) [
      | inl is ↦ absurd (never is)
      | inr earlier ↦ found_before plan before old (Out end packet) inside takes moves tracks
          (cell_of plan (after_of move)) (tracks.closed move has earlier)
    ]
  where
    never : {b p m : ℕ} → State b p m ≡ Out end packet → ⊥
    never is = cc

-- both roles of answers: what becomes of them by the table, or by all deliveries
module _ (plan : Plan) (before old mid new : Progress) (box packet mask : ℕ) (moves : List (List Bool))
    (inside : IsInRange plan (State box packet mask))
    (takes : Takes before (cell_of plan (State box packet mask)) old) (tracks : Tracks plan moves before) where
  abbrev Given : Fact
  Given = State box packet mask

  abbrev This : ℕ → Move
  This other = record { box = box; packet = packet; mask = mask; other = other }

  moved_there : (fact : Fact) → ChangesAs plan moves old.done box packet mask fact → Reacts plan old.done Given fact
  moved_there fact (inl (kept, (other, has, is))) =
      inr (subst (AsChanged plan old.done box packet mask) (sym is)
      (still_changed plan before old Given inside takes box packet mask (State box packet other)
      (tracks.sound (This other) has)))
  moved_there fact (inr (not_kept, changed)) = inr changed

  changed_state : (fact : Fact) → AsChanged plan old.done box packet mask fact →
      (other : ℕ) × (fact ≡ State box packet other)
  changed_state (Out to sent) (end, (p, out, (v, state, never))) = absurd never
  changed_state (Abort b p) (end, (p', out, (v, state, never))) = absurd never
  changed_state (State b p other) (end, (p', out, (v, state, follows))) =
      (other, ap (λ (n : ℕ). State n p other) follows.2 ∙ ap (λ (n : ℕ). State box n other) follows.3)

  -- in a box that is kept
  in_kept : IsKept plan box → (other : ℕ) → IsInRange plan (State box packet other) →
      AsChanged plan old.done box packet mask (State box packet other) →
      Contains (found_in old) (cell_of plan (State box packet other))
      ⊎ (AsState plan old.done box packet mask (State box packet other)
      ⊎ ChangesAs plan moves old.done box packet mask (State box packet other))
  in_kept kept other range changed =
      let is : IsOne plan (This other) = record {
        boxed = range.0;
        packet_is = range.1;
        mask_is = inside.2;
        other_is = range.2;
      } in
      elim (new_or_before plan before old Given inside takes (This other) changed) [
        | inl now ↦ inr (inl (
          now.0,
          (
            now.1.0,
            inr (
              packet,
              mask,
              given_done plan before old Given inside takes moves tracks,
              now.1.1,
            ),
          ),
        ))
        | inr past ↦ elim (tracks.complete (This other) kept is past) [
          | inl has ↦ inr (inr (inl (kept, (other, has, refl))))
          | inr same ↦ inl (subst (λ (m : ℕ). Contains (found_in old) (cell_of plan (State box packet m))) same
              (Contains-append_left old.done old.todo (cell_of plan Given)
              (given_done plan before old Given inside takes moves tracks).1))
        ]
      ]

  in_other : (IsKept plan box → ⊥) → (fact : Fact) → AsChanged plan old.done box packet mask fact →
      ChangesAs plan moves old.done box packet mask fact
  in_other never fact changed = inr (never, changed)

  reason : (fact : Fact) → IsInRange plan fact → AsChanged plan old.done box packet mask fact →
      Contains (found_in old) (cell_of plan fact)
      ⊎ (AsState plan old.done box packet mask fact ⊎ ChangesAs plan moves old.done box packet mask fact)
  reason fact in' changed =
      elim (cases_lt (2 ^ 31) (moves_over plan box)) [
        | inl more ↦ inr (inr (inr ((λ kept. let few : moves_over plan box ≤ 2 ^ 31 = kept in omega (arith, few, more)), changed)))
        | inr kept ↦ let is = changed_state fact changed in
            subst (λ f. Contains (found_in old) (cell_of plan f)
            ⊎ (AsState plan old.done box packet mask f ⊎ ChangesAs plan moves old.done box packet mask f)) (sym is.1)
            (in_kept kept is.0 (subst (IsInRange plan) is.1 in')
            (subst (AsChanged plan old.done box packet mask) is.1 changed))
      ]

  same_place : (move : Move) → before_of move ≡ Given → (move.box ≡ box) × (move.packet ≡ packet) × (move.mask ≡ mask)
  same_place move is = (cc, cc, cc)

  moved_from : (move : Move) → Has plan moves move →
      ChangesAs plan moves old.done move.box move.packet move.mask (after_of move)
  moved_from move has = elim (cases_lt (2 ^ 31) (moves_over plan move.box)) [
    | inl more ↦ inr (
      (λ kept. let few : moves_over plan move.box ≤ 2 ^ 31 = kept in omega (arith, few, more)),
      still_changed plan before old Given inside takes move.box move.packet move.mask (after_of move)
          (tracks.sound move has),
    )
    | inr kept ↦ inl (kept, (move.other, has, refl))
  ]

  -- noted moves are followed, once what they make of the given answers was offered
  pub followed_state : Offered plan (ChangesAs plan moves old.done box packet mask) old mid →
      AreFollowed plan moves mid
  followed_state first move has known_mid =
      let known : IsDone plan old.done (before_of move) =
      subst (λ (d : List ℕ). IsDone plan d (before_of move)) first.grows.done known_mid in
      elim (given_or_before plan before old Given inside takes (before_of move) known) [
        | inl is ↦ let same = same_place move is in
            first.all (after_of move) (has.is_move.boxed, has.is_move.packet_is, has.is_move.other_is)
            (subst (λ (m : ℕ). ChangesAs plan moves old.done box packet m (after_of move)) same.2
            (subst (λ (p : ℕ). ChangesAs plan moves old.done box p move.mask (after_of move)) same.1
            (subst (λ (b : ℕ). ChangesAs plan moves old.done b move.packet move.mask (after_of move)) same.0
            (moved_from move has))))
        | inr earlier ↦ found_stays old mid first.grows (cell_of plan (after_of move))
            (found_before plan before old Given inside takes moves tracks (cell_of plan (after_of move))
            (tracks.closed move has earlier))
      ]

  pub both_roles_moved : Offered plan (ChangesAs plan moves old.done box packet mask) old mid →
      Offered plan (AsState plan mid.done box packet mask) mid new → Offered plan (Reacts plan old.done Given) old new
  both_roles_moved first later =
      let second = subst (λ (d : List ℕ). Offered plan (AsState plan d box packet mask) mid new) first.grows.done later in
      record {
        grows = Grows-more old mid new first.grows second.grows;
        all = λ fact in' reacts. elim reacts [
          | inl state ↦ second.all fact in' state
          | inr changed ↦ elim (reason fact in' changed) [
            | inl known ↦ found_stays mid new second.grows (cell_of plan fact)
                (found_stays old mid first.grows (cell_of plan fact) known)
            | inr either ↦ elim either [
              | inl state ↦ second.all fact in' state
              | inr changes ↦ found_stays mid new second.grows (cell_of plan fact) (first.all fact in' changes)
            ]
          ]
        ];
        only = λ cell found. elim (second.only cell found) [
          | inl middle ↦ elim (first.only cell middle) [
            | inl known ↦ inl known
            | inr changes ↦ inr (changes.0, changes.1, moved_there changes.0 changes.2, changes.3)
          ]
          | inr state ↦ inr (state.0, state.1, inl state.2, state.3)
        ];
      }

-- the next of the noted moves
module _ (plan : Plan) (moves : List (List Bool)) (box packet mask : ℕ) where
  abbrev pub MovesOne : ℕ → Fact → Type 0
  MovesOne other fact = HasMove plan moves box packet mask other × (fact ≡ State box packet other)

  pub move_turn : (at here : ℕ) (old now new : Progress) → at ≤ here → HasMove plan moves box packet mask here →
      HasNoMoveFrom plan moves box packet mask at here → Offered plan (UpTo plan MovesOne at) old now →
      Offered plan (Is (State box packet here)) now new → Offered plan (UpTo plan MovesOne (here + 1)) old new
  move_turn at here old now new from has none so_far turn =
      offered_next plan MovesOne at here old now new from
      (λ fact in' k low high holds. none k low high holds.0) so_far
      (offered_as plan (Is (State box packet here)) (MovesOne here) now new (λ fact in' is. (has, is))
      (λ fact in' holds. holds.1) turn)

  pub move_all : (at : ℕ) (old new : Progress) → HasNoMoveFrom plan moves box packet mask at (masks_at plan box) →
      Offered plan (UpTo plan MovesOne at) old new → Offered plan (IsMoved plan moves box packet mask) old new
  move_all at old new none offered =
      offered_all plan MovesOne (IsMoved plan moves box packet mask) at old new
      (λ k fact in' holds. (k, holds.0, holds.1))
      (λ fact in' moved. elim (cases_lt moved.0 at) [
        | inl before ↦ (moved.0, before, (moved.1, moved.2))
        | inr later ↦ absurd (none moved.0 later moved.1.is_move.other_is moved.1)
      ]) offered

-- what becomes of answers by the noted moves, and where none are noted
module _ (plan : Plan) (moves : List (List Bool)) (done : List ℕ) (box packet mask : ℕ) (old new : Progress) where
  pub by_moves : IsKept plan box → Offered plan (IsMoved plan moves box packet mask) old new →
      Offered plan (ChangesAs plan moves done box packet mask) old new
  by_moves kept offered =
      offered_as plan (IsMoved plan moves box packet mask) (ChangesAs plan moves done box packet mask) old new
      (λ fact in' moved. inl (kept, moved))
      (λ fact in' changes. elim changes [ inl moved ↦ moved.1 | inr other ↦ absurd (other.0 kept) ]) offered

  pub by_deliveries : (IsKept plan box → ⊥) → Offered plan (AsChanged plan done box packet mask) old new →
      Offered plan (ChangesAs plan moves done box packet mask) old new
  by_deliveries never offered =
      offered_as plan (AsChanged plan done box packet mask) (ChangesAs plan moves done box packet mask) old new
      (λ fact in' changed. inr (never, changed))
      (λ fact in' changes. elim changes [ inl moved ↦ absurd (never moved.0) | inr other ↦ other.1 ]) offered
