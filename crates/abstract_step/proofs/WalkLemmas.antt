-- What a walk keeps, and what it finds, step by step.
use Rattle.std.proofs.Common.{◌≡◌, ◌≢◌, ℕ, zero, suc, ◌+◌, ◌*◌, ◌-◌, ◌<◌, ◌≤◌, Bool, true, false, ◌||◌, List, [], ◌∷◌}
use Rattle.std.proofs.Common.{◌++◌, length, take, drop, get_or, Option, Some, None, slice_set, refl, sym, ap, subst, ◌∙◌}
use Rattle.std.proofs.Common.{append-nil, arith}
use Rattle.std.specs.Prelude.{slice_get}
use Rattle.std.specs.List.{flat_map, range_with_len}
use Rattle.std.proofs.lemmas.List.{drop_all, length-set, set-set, set-get_or, take-set-le, take_more_set}
use Rattle.std.proofs.lemmas.Option.{get_or_from_slice_get}
use Rattle.box_contents.specs.declared.entry.Entry.{Entry}
use Rattle.box_handlers.specs.declared.act.Act.{Act}
use Rattle.box_handlers.specs.declared.act.Act.TheVariants as act
use Rattle.box_handlers.specs.declared.act.Branch.{Branch}
use Rattle.box_handlers.specs.declared.act.Query.{Query}
use Rattle.box_handlers.specs.declared.act.Change.{Change}
use Rattle.box_handlers.specs.Body.{Body, Branches, OneBranch, Writes, Emit, Halt, Fork, Each, body_of, branches_of}
use Rattle.box_handlers.specs.Body.{Stop, formula_of}
use Rattle.box_masks.specs.declared.write.Write.{Write}
use Rattle.abstract_step.specs.declared.put.Put.{Put}
use Rattle.box_handlers.specs.Fits.{Surroundings, ArePicked, Fits, FormulaFits, BranchesFit}
use Rattle.box_handlers.specs.Size.{statements_of, statements_of_branches}
use Rattle.box_handlers.proofs.BodyLemmas.{bodies_read}
use Rattle.net_plan.specs.Plan.{surroundings_of}
use Rattle.net_runs.proofs.ListLemmas.{get_set_same, get_set_other}
use Rattle.handler_runs.specs.Reading.{Scene, with_value, any_holds, holds_by}
use Rattle.handler_runs.proofs.GuardLemmas.{next_part}
use Rattle.abstract_step.specs.declared.place.Place.{Place}
use Rattle.abstract_step.specs.declared.trail.Frame.{Frame}
use Rattle.abstract_step.specs.declared.trail.Spot.{Spot}
use Rattle.abstract_step.specs.declared.trail.Trail.{Trail}
use Rattle.abstract_step.specs.declared.found.Found.{Found}
use Rattle.abstract_step.specs.Masks.{marked}
use Rattle.abstract_step.specs.Paths.{Behind, paths, chosen, where_false}
use Rattle.abstract_step.specs.Step.{Result}
use Rattle.abstract_step.specs.Walk.{class_at, scene_at, FitsAt, FormulaFitsAt, BranchesFitAt, framed, behind_of, AreFrames}
use Rattle.abstract_step.specs.Walk.{frame_size, size_of_frames, Stands, StandsWithin, HasRoom, Gains, picked_at, behind_at}
use Rattle.abstract_step.specs.Walk.{CanWalk, so_far, paths_at, chosen_at, branch_at, value_at, values_from, FitsEach}
use Rattle.abstract_step.proofs.FoundLemmas.{gains_more, room_first, room_rest}

not_itself : (top m : ℕ) → top < m → top ≢ m
not_itself top m less = λ e. absurd (omega (arith, less, e))

-- a list in which one member was set, and set back
pub set_back : {X : Type 0} (xs : List X) (i : ℕ) (x kept : X) → slice_get xs i ≡ Some kept →
    slice_set (slice_set xs i x) i kept ≡ xs
set_back xs i x kept is =
    set-set xs i x kept ∙ ap (slice_set xs i) (sym (get_or_from_slice_get xs i kept x is)) ∙ set-get_or xs i x

-- frames
module _ (place : Place) where
  frames_kept : (frames : List Frame) (slots : List ℕ) (m : ℕ) (f : Frame) (top depth : ℕ) → top ≤ m →
      AreFrames place frames slots top depth → AreFrames place (slice_set frames m f) slots top depth
  frames_kept frames slots m f zero depth less are = tt
  frames_kept frames slots m f (suc top) depth less are = (
    are.0,
    get_set_other frames m top f (not_itself top m (omega (arith, less))) ∙ are.1,
    are.2,
    are.3,
    frames_kept frames slots m f top are.0.depth (omega (arith, less)) are.4,
  )

  behind_kept : (frames : List Frame) (slots : List ℕ) (m : ℕ) (f : Frame) (top : ℕ) → top ≤ m →
      behind_of place (slice_set frames m f) slots top ≡ behind_of place frames slots top
  behind_kept frames slots m f zero less = refl
  behind_kept frames slots m f (suc top) less =
      ap (λ o. framed place slots o (behind_of place (slice_set frames m f) slots top))
      (get_set_other frames m top f (not_itself top m (omega (arith, less))))
      ∙ ap (framed place slots (slice_get frames top)) (behind_kept frames slots m f top (omega (arith, less)))

  frames_deeper : (frames : List Frame) (slots : List ℕ) (top depth deeper : ℕ) → depth ≤ deeper →
      AreFrames place frames slots top depth → AreFrames place frames slots top deeper
  frames_deeper frames slots zero depth deeper less are = tt
  frames_deeper frames slots (suc top) depth deeper less are =
      (are.0, are.1, omega (arith, are.2, less), are.3, are.4)

  frames_slot : (frames : List Frame) (slots : List ℕ) (d x : ℕ) (top depth : ℕ) → depth ≤ d →
      AreFrames place frames slots top depth → AreFrames place frames (slice_set slots d x) top depth
  frames_slot frames slots d x zero depth less are = tt
  frames_slot frames slots d x (suc top) depth less are =
      let below : are.0.depth ≤ d = omega (arith, are.2, less) in (
        are.0,
        are.1,
        are.2,
        subst (λ (p : List ℕ). FitsAt place p (body_of are.0.acts.now)) (sym (take-set-le are.0.depth slots d x below))
            are.3,
        frames_slot frames slots d x top are.0.depth below are.4,
      )

  behind_slot : (frames : List Frame) (slots : List ℕ) (d x : ℕ) (top depth : ℕ) → depth ≤ d →
      AreFrames place frames slots top depth →
      behind_of place frames (slice_set slots d x) top ≡ behind_of place frames slots top
  behind_slot frames slots d x zero depth less are = refl
  behind_slot frames slots d x (suc top) depth less are =
      let below : are.0.depth ≤ d = omega (arith, are.2, less) in
      let body : Body = body_of are.0.acts.now in
      let others : Behind = behind_of place frames (slice_set slots d x) top in
      ap (λ o. framed place (slice_set slots d x) o others) are.1
      ∙ ap (λ (p : List ℕ). paths body place.tuples.now (scene_at place p) others)
      (take-set-le are.0.depth slots d x below)
      ∙ ap (paths body place.tuples.now (scene_at place (take are.0.depth slots)))
      (behind_slot frames slots d x top are.0.depth below are.4)
      ∙ ap (λ o. framed place slots o (behind_of place frames slots top)) (sym are.1)

  -- the frame on top
  pub behind_top : (frames : List Frame) (slots : List ℕ) (top last : ℕ) (frame : Frame) → top ≡ suc last →
      slice_get frames last ≡ Some frame →
      behind_of place frames slots top
      ≡ paths (body_of frame.acts.now) place.tuples.now (scene_at place (take frame.depth slots))
      (behind_of place frames slots last)
  behind_top frames slots top last frame is found =
      ap (behind_of place frames slots) is
      ∙ ap (λ o. framed place slots o (behind_of place frames slots last)) found

some_size : (o : Option Frame) → 1 ≤ frame_size o
some_size None = omega arith
some_size (Some frame) = omega arith

pub top_small : (frames : List Frame) (top : ℕ) → top ≤ size_of_frames frames top
top_small frames zero = omega arith
top_small frames (suc top) = omega (arith, top_small frames top, some_size (slice_get frames top))

size_kept : (frames : List Frame) (m : ℕ) (f : Frame) (top : ℕ) → top ≤ m →
    size_of_frames (slice_set frames m f) top ≡ size_of_frames frames top
size_kept frames m f zero less = refl
size_kept frames m f (suc top) less =
    let here : frame_size (slice_get (slice_set frames m f) top) ≡ frame_size (slice_get frames top) =
    ap frame_size (get_set_other frames m top f (not_itself top m (omega (arith, less)))) in
    let rest = size_kept frames m f top (omega (arith, less)) in
    omega (arith, here, rest)

pub size_top : (frames : List Frame) (top last : ℕ) (frame : Frame) → top ≡ suc last →
    slice_get frames last ≡ Some frame →
    size_of_frames frames top ≡ size_of_frames frames last + (2 * statements_of (body_of frame.acts.now) + 1)
size_top frames top last frame is found =
    ap (size_of_frames frames) is ∙ ap (λ o. size_of_frames frames last + frame_size o) found

-- one frame more
module _ (place : Place) (trail : Trail) (spot : Spot) (frame : Frame) (frames : List Frame)
    (is : frames ≡ slice_set trail.frames spot.top frame) (inside : spot.top < length trail.frames) where
  there : slice_get frames spot.top ≡ Some frame
  there = ap (λ (l : List Frame). slice_get l spot.top) is ∙ get_set_same trail.frames spot.top frame inside

  next : spot.top + 1 ≡ suc spot.top
  next = omega arith

  pub size_pushed : size_of_frames frames (spot.top + 1)
      ≡ size_of_frames trail.frames spot.top + (2 * statements_of (body_of frame.acts.now) + 1)
  size_pushed =
      let below : size_of_frames frames spot.top ≡ size_of_frames trail.frames spot.top =
      ap (λ (l : List Frame). size_of_frames l spot.top) is
      ∙ size_kept trail.frames spot.top frame spot.top (omega arith) in
      let whole = size_top frames (spot.top + 1) spot.top frame next there in
      omega (arith, below, whole)

  pub behind_pushed : behind_of place frames trail.slots (spot.top + 1)
      ≡ paths (body_of frame.acts.now) place.tuples.now (scene_at place (take frame.depth trail.slots))
      (behind_of place trail.frames trail.slots spot.top)
  behind_pushed =
      behind_top place frames trail.slots (spot.top + 1) spot.top frame next there
      ∙ ap (paths (body_of frame.acts.now) place.tuples.now (scene_at place (take frame.depth trail.slots)))
      (ap (λ (l : List Frame). behind_of place l trail.slots spot.top) is
      ∙ behind_kept place trail.frames trail.slots spot.top frame spot.top (omega arith))

  pub stands_pushed : (n m : ℕ) → Stands place trail spot n → frame.depth ≡ spot.depth →
      FitsAt place (take spot.depth trail.slots) (body_of frame.acts.now) →
      2 * m + (2 * statements_of (body_of frame.acts.now) + 1) ≤ 2 * n →
      Stands place (record trail { frames = frames }) (record spot { top = spot.top + 1 }) m
  stands_pushed n m stands deep fits less =
      let long : length frames ≡ length trail.frames = ap length is ∙ length-set trail.frames spot.top frame in
      let small = stands.small in
      let size = size_pushed in
      record {
        place_is = stands.place_is;
        frames = long ∙ stands.frames;
        slots = stands.slots;
        writes = stands.writes;
        puts = stands.puts;
        behind = subst (λ (t : ℕ). AreFrames place frames trail.slots t spot.depth) (sym next) (
          frame,
          there,
          omega (arith, deep),
          subst (λ (d : ℕ). FitsAt place (take d trail.slots) (body_of frame.acts.now)) (sym deep) fits,
          subst (λ (d : ℕ). AreFrames place frames trail.slots spot.top d) (sym deep)
              (subst (λ (l : List Frame). AreFrames place l trail.slots spot.top spot.depth) (sym is)
              (frames_kept place trail.frames trail.slots spot.top frame spot.top spot.depth (omega arith)
              stands.behind)),
        );
        small = omega (arith, small, size, less);
      }

pub inside_frames : (place : Place) (trail : Trail) (spot : Spot) (n : ℕ) → Stands place trail spot n →
    spot.top < length trail.frames
inside_frames place trail spot n stands =
    omega (arith, stands.frames, stands.small, top_small trail.frames spot.top)

pub stands_less : (place : Place) (trail : Trail) (spot : Spot) (n m : ℕ) → Stands place trail spot n → m ≤ n →
    Stands place trail spot m
stands_less place trail spot n m stands less = record {
  place_is = stands.place_is;
  frames = stands.frames;
  slots = stands.slots;
  writes = stands.writes;
  puts = stands.puts;
  behind = stands.behind;
  small = omega (arith, stands.small, less);
}

-- the frame on top is taken off
pub frame_off : (place : Place) (trail : Trail) (spot : Spot) (last : ℕ) (frame : Frame) → Stands place trail spot 0 →
    spot.top ≡ suc last → slice_get trail.frames last ≡ Some frame →
    Stands place trail (record spot { depth = frame.depth; top = last }) (statements_of (body_of frame.acts.now))
    × FitsAt place (take frame.depth trail.slots) (body_of frame.acts.now)
frame_off place trail spot last frame stands is found =
    by (subst (λ (t : ℕ). AreFrames place trail.frames trail.slots t spot.depth) is stands.behind)
  where
    by : AreFrames place trail.frames trail.slots (suc last) spot.depth →
        Stands place trail (record spot { depth = frame.depth; top = last }) (statements_of (body_of frame.acts.now))
        × FitsAt place (take frame.depth trail.slots) (body_of frame.acts.now)
    by are =
        let same : are.0 ≡ frame = some_is (sym are.1 ∙ found) in
        let size = size_top trail.frames spot.top last frame is found in
        let deep : frame.depth ≤ spot.depth = subst (λ (f : Frame). f.depth ≤ spot.depth) same are.2 in (
          record {
            place_is = stands.place_is;
            frames = stands.frames;
            slots = stands.slots;
            writes = stands.writes;
            puts = stands.puts;
            behind = subst (λ (f : Frame). AreFrames place trail.frames trail.slots last f.depth) same are.4;
            small = omega (arith, stands.small, size, deep);
          },
          subst (λ (f : Frame). FitsAt place (take f.depth trail.slots) (body_of f.acts.now)) same are.3,
        )
      where
        some_is : {x y : Frame} → Some x ≡ Some y → x ≡ y
        some_is e = cc

-- one value more is picked
one_more : (picks picked : List ℕ) (size value : ℕ) → ArePicked picks picked → value < size →
    ArePicked (picks ++ size ∷ []) (picked ++ value ∷ [])
one_more [] [] size value are less = (less, tt)
one_more [] (other ∷ picked) size value are less = absurd are
one_more (pick ∷ picks) [] size value are less = absurd are
one_more (pick ∷ picks) (other ∷ picked) size value are less = (are.0, one_more picks picked size value are.1 less)

pub fits_each : (place : Place) (picked : List ℕ) (values : ℕ) (body rest : Body) →
    FitsAt place picked (Each values body rest) → FitsEach place picked values body
fits_each place picked values body rest fits value less =
    (fits.0 ++ values ∷ [], one_more fits.0 picked values value fits.1 less, fits.2.1)

module _ (place : Place) (trail : Trail) (spot : Spot) (value : ℕ) (slots : List ℕ)
    (is : slots ≡ slice_set trail.slots spot.depth value) where
  pub inside_slots : (n : ℕ) → Stands place trail spot n → spot.depth < length trail.slots
  inside_slots n stands = omega (arith, stands.slots, stands.small)

  pub picked_more : spot.depth < length trail.slots →
      take (spot.depth + 1) slots ≡ take spot.depth trail.slots ++ value ∷ []
  picked_more inside =
      ap (take (spot.depth + 1)) is ∙ take_more_set trail.slots spot.depth value inside

  pub stands_picked : (n : ℕ) → StandsWithin place trail spot n →
      Stands place (record trail { slots = slots }) (record spot { depth = spot.depth + 1 }) n
  stands_picked n stands =
      let long : length slots ≡ length trail.slots = ap length is ∙ length-set trail.slots spot.depth value in
      record {
        place_is = stands.outer.place_is;
        frames = stands.outer.frames;
        slots = long ∙ stands.outer.slots;
        writes = stands.outer.writes;
        puts = stands.outer.puts;
        behind = frames_deeper place trail.frames slots spot.top spot.depth (spot.depth + 1) (omega arith)
            (subst (λ (l : List ℕ). AreFrames place trail.frames l spot.top spot.depth) (sym is)
            (frames_slot place trail.frames trail.slots spot.depth value spot.top spot.depth (omega arith)
            stands.outer.behind));
        small = omega (arith, stands.deeper);
      }

  pub value_is : (n : ℕ) (body : Body) → Stands place trail spot n →
      paths_at place (record trail { slots = slots }) (record spot { depth = spot.depth + 1 }) body
      ≡ value_at place trail spot body value
  value_is n body stands =
      ap (λ (p : List ℕ). paths body place.tuples.now (scene_at place p)
      (behind_of place trail.frames slots spot.top) (so_far trail spot))
      (picked_more (inside_slots n stands))
      ∙ ap (λ k. paths body place.tuples.now (with_value (scene_at place (picked_at trail spot)) value) k
      (so_far trail spot))
      (ap (λ (l : List ℕ). behind_of place trail.frames l spot.top) is
      ∙ behind_slot place trail.frames trail.slots spot.depth value spot.top spot.depth (omega arith) stands.behind)

-- branches
module _ (around : Surroundings) (picks : List ℕ) where
  branch_fits : (branches : List Branch) (i : ℕ) (branch : Branch) → i < length branches →
      branch ≡ get_or branches i branch → BranchesFit around (branches_of branches) picks →
      FormulaFits around picks (formula_of branch.guard) × Fits around (body_of branch.body) picks
  branch_fits [] i branch inside here fits = absurd (omega (arith, inside))
  branch_fits (first ∷ more) zero branch inside here fits =
      let read : BranchesFit around (OneBranch (formula_of first.guard) (body_of first.body) (branches_of more)) picks =
      subst (λ b. BranchesFit around b picks) (bodies_read.branch first more) fits in
      subst (λ (b : Branch). FormulaFits around picks (formula_of b.guard) × Fits around (body_of b.body) picks)
      (sym here) (read.0, read.1)
  branch_fits (first ∷ more) (suc i) branch inside here fits =
      let read : BranchesFit around (OneBranch (formula_of first.guard) (body_of first.body) (branches_of more)) picks =
      subst (λ b. BranchesFit around b picks) (bodies_read.branch first more) fits in
      branch_fits more i branch (omega (arith, inside)) here read.2

pub branch_small : (branches : List Branch) (i : ℕ) (branch : Branch) → i < length branches →
    branch ≡ get_or branches i branch →
    statements_of (body_of branch.body) ≤ statements_of_branches (branches_of branches)
branch_small [] i branch inside here = absurd (omega (arith, inside))
branch_small (first ∷ more) zero branch inside here =
    let same : statements_of (body_of branch.body) ≡ statements_of (body_of first.body) =
    ap (λ (b : Branch). statements_of (body_of b.body)) here in
    let whole : statements_of_branches (branches_of (first ∷ more))
    ≡ statements_of (body_of first.body) + statements_of_branches (branches_of more) =
    ap statements_of_branches (bodies_read.branch first more) in
    omega (arith, same, whole)
branch_small (first ∷ more) (suc i) branch inside here =
    let whole : statements_of_branches (branches_of (first ∷ more))
    ≡ statements_of (body_of first.body) + statements_of_branches (branches_of more) =
    ap statements_of_branches (bodies_read.branch first more) in
    let rest = branch_small more i branch (omega (arith, inside)) here in
    omega (arith, whole, rest)

or_more : (taken result : Bool) (whole rest : Bool) → whole ≡ (taken || (result || rest)) →
    whole ≡ ((taken || result) || rest)
or_more true result whole rest is = is
or_more false result whole rest is = is

module _ (place : Place) (trail : Trail) (spot : Spot) (branches : List Branch) (i : ℕ) (branch : Branch)
    (inside : i < length branches) (here : branch ≡ get_or branches i branch) where
  branches_next : branches_of (drop i branches)
      ≡ OneBranch (formula_of branch.guard) (body_of branch.body) (branches_of (drop (i + 1) branches))
  branches_next =
      ap branches_of (next_part branches i branch inside here) ∙ bodies_read.branch branch (drop (i + 1) branches)

  pub chosen_next : chosen_at place trail spot (branches_of (drop i branches))
      ≡ branch_at place trail spot branch ++ chosen_at place trail spot (branches_of (drop (i + 1) branches))
  chosen_next = ap (chosen_at place trail spot) branches_next

  pub branch_goes : BranchesFitAt place (picked_at trail spot) (branches_of branches) →
      FormulaFitsAt place (picked_at trail spot) (formula_of branch.guard)
      × FitsAt place (picked_at trail spot) (body_of branch.body)
  branch_goes fits =
      let both = branch_fits (surroundings_of place.net.now (class_at place)) fits.0 branches i branch inside here
      fits.2 in
      ((fits.0, fits.1, both.0), (fits.0, fits.1, both.1))

  pub taken_next : (scene : Scene) (contents : List Entry) (whole taken result : Bool) →
      whole ≡ (taken || any_holds scene contents (branches_of (drop i branches))) →
      result ≡ holds_by scene contents (formula_of branch.guard) →
      whole ≡ ((taken || result) || any_holds scene contents (branches_of (drop (i + 1) branches)))
  taken_next scene contents whole taken result is held =
      or_more taken result whole (any_holds scene contents (branches_of (drop (i + 1) branches)))
      (is ∙ ap (λ b. taken || any_holds scene contents b) branches_next
      ∙ ap (λ (r : Bool). taken || (r || any_holds scene contents (branches_of (drop (i + 1) branches)))) (sym held))

pub chosen_none : (place : Place) (trail : Trail) (spot : Spot) (branches : List Branch) (i : ℕ) →
    length branches ≤ i → chosen_at place trail spot (branches_of (drop i branches)) ≡ []
chosen_none place trail spot branches i all =
    ap (λ (b : List Branch). chosen_at place trail spot (branches_of b)) (drop_all i branches all)

-- values
module _ (place : Place) (trail : Trail) (spot : Spot) (body : Body) where
  pub values_next : (values value : ℕ) → value < values →
      values_from place trail spot body value (values - value)
      ≡ value_at place trail spot body value
      ++ values_from place trail spot body (value + 1) (values - (value + 1))
  values_next values value less =
      let count : values - value ≡ suc (values - (value + 1)) = omega (arith, less) in
      ap (values_from place trail spot body value) count

  pub values_none : (values value : ℕ) → values ≤ value →
      values_from place trail spot body value (values - value) ≡ []
  values_none values value all =
      let count : values - value ≡ 0 = omega (arith, all) in
      ap (values_from place trail spot body value) count

-- a choice that took no branch goes on
pub where_taken : (taken : Bool) (xs ys : List Result) → taken ≡ true → xs ++ where_false taken ys ≡ xs
where_taken true xs ys e = append-nil xs
where_taken false xs ys e = absurd (let wrong : ◌≡◌ {A = Bool} false true = e in cc)

pub where_not : (taken : Bool) (xs ys : List Result) → taken ≡ false → xs ++ where_false taken ys ≡ xs ++ ys
where_not true xs ys e = absurd (let wrong : ◌≡◌ {A = Bool} true false = e in cc)
where_not false xs ys e = refl

-- lists of the trail that are as before again
module _ (trail mid : Trail) (i : ℕ) where
  pub frames_back : (frames back : List Frame) (f kept : Frame) → frames ≡ slice_set trail.frames i f →
      mid ≡ record trail { frames = frames } → slice_get trail.frames i ≡ Some kept →
      back ≡ slice_set mid.frames i kept → ◌≡◌ {A = Trail} (record mid { frames = back }) trail
  frames_back frames back f kept is same got set =
      let e : back ≡ trail.frames =
      set ∙ ap (λ t. slice_set t.frames i kept) same ∙ ap (λ (l : List Frame). slice_set l i kept) is
      ∙ set_back trail.frames i f kept got in
      λ j. record { frames = e j; slots = (same j).slots; writes = (same j).writes; puts = (same j).puts }

  pub slots_back : (slots back : List ℕ) (x kept : ℕ) → slots ≡ slice_set trail.slots i x →
      mid ≡ record trail { slots = slots } → slice_get trail.slots i ≡ Some kept →
      back ≡ slice_set mid.slots i kept → ◌≡◌ {A = Trail} (record mid { slots = back }) trail
  slots_back slots back x kept is same got set =
      let e : back ≡ trail.slots =
      set ∙ ap (λ t. slice_set t.slots i kept) same ∙ ap (λ (l : List ℕ). slice_set l i kept) is
      ∙ set_back trail.slots i x kept got in
      λ j. record { frames = (same j).frames; slots = e j; writes = (same j).writes; puts = (same j).puts }

  pub writes_back : (writes back : List Write) (x kept : Write) → writes ≡ slice_set trail.writes i x →
      mid ≡ record trail { writes = writes } → slice_get trail.writes i ≡ Some kept →
      back ≡ slice_set mid.writes i kept → ◌≡◌ {A = Trail} (record mid { writes = back }) trail
  writes_back writes back x kept is same got set =
      let e : back ≡ trail.writes =
      set ∙ ap (λ t. slice_set t.writes i kept) same ∙ ap (λ (l : List Write). slice_set l i kept) is
      ∙ set_back trail.writes i x kept got in
      λ j. record { frames = (same j).frames; slots = (same j).slots; writes = e j; puts = (same j).puts }

  pub puts_back : (puts back : List Put) (x kept : Put) → puts ≡ slice_set trail.puts i x →
      mid ≡ record trail { puts = puts } → slice_get trail.puts i ≡ Some kept →
      back ≡ slice_set mid.puts i kept → ◌≡◌ {A = Trail} (record mid { puts = back }) trail
  puts_back puts back x kept is same got set =
      let e : back ≡ trail.puts =
      set ∙ ap (λ t. slice_set t.puts i kept) same ∙ ap (λ (l : List Put). slice_set l i kept) is
      ∙ set_back trail.puts i x kept got in
      λ j. record { frames = (same j).frames; slots = (same j).slots; writes = (same j).writes; puts = e j }

-- a statement in front of others
pub read_insert : (one : Act) (query : Query) (more : List Act) → one ≡ act.Insert query →
    body_of (one ∷ more) ≡ Writes query true (body_of more)
read_insert one query more is = ap (λ (a : Act). body_of (a ∷ more)) is ∙ bodies_read.insert query more

pub read_remove : (one : Act) (query : Query) (more : List Act) → one ≡ act.Remove query →
    body_of (one ∷ more) ≡ Writes query false (body_of more)
read_remove one query more is = ap (λ (a : Act). body_of (a ∷ more)) is ∙ bodies_read.remove query more

pub read_output : (one : Act) (port : ℕ) (changes slice : List Change) (more : List Act) →
    one ≡ act.Output port changes → slice ≡ changes → body_of (one ∷ more) ≡ Emit port slice (body_of more)
read_output one port changes slice more is same =
    ap (λ (a : Act). body_of (a ∷ more)) is ∙ bodies_read.output port changes more
    ∙ ap (λ (l : List Change). Emit port l (body_of more)) (sym same)

pub read_abort : (one : Act) (more : List Act) → one ≡ act.Abort → body_of (one ∷ more) ≡ Halt (body_of more)
read_abort one more is = ap (λ (a : Act). body_of (a ∷ more)) is ∙ bodies_read.abort more

pub read_choose : (one : Act) (branches slice : List Branch) (more : List Act) → one ≡ act.Choose branches →
    slice ≡ branches → body_of (one ∷ more) ≡ Fork (branches_of slice) (body_of more)
read_choose one branches slice more is same =
    ap (λ (a : Act). body_of (a ∷ more)) is ∙ bodies_read.choose branches more
    ∙ ap (λ (l : List Branch). Fork (branches_of l) (body_of more)) (sym same)

pub read_pick : (one : Act) (values : ℕ) (body slice more : List Act) → one ≡ act.Pick values body → slice ≡ body →
    body_of (one ∷ more) ≡ Each values (body_of slice) (body_of more)
read_pick one values body slice more is same =
    ap (λ (a : Act). body_of (a ∷ more)) is ∙ bodies_read.pick values body more
    ∙ ap (λ (l : List Act). Each values (body_of l) (body_of more)) (sym same)

pub can_read : (place : Place) (trail : Trail) (spot : Spot) (found : Found) (one two : Body) → one ≡ two →
    CanWalk place trail spot found one → CanWalk place trail spot found two
can_read place trail spot found one two same can = subst (λ b. CanWalk place trail spot found b) same can

pub gains_read : (place : Place) (trail : Trail) (spot : Spot) (old new : Found) (one two : Body) → one ≡ two →
    Gains old new (paths_at place trail spot two) → Gains old new (paths_at place trail spot one)
gains_read place trail spot old new one two same gains =
    subst (λ b. Gains old new (paths_at place trail spot b)) (sym same) gains

-- a choice, and a pick, with what stands behind as a frame
module _ (place : Place) (trail : Trail) (spot : Spot) (frame : Frame) (frames : List Frame)
    (is : frames ≡ slice_set trail.frames spot.top frame) (inside : spot.top < length trail.frames)
    (deep : frame.depth ≡ spot.depth) where
  abbrev pub pushed : Trail
  pushed = record trail { frames = frames }

  abbrev pub inner : Spot
  inner = record spot { top = spot.top + 1 }

  abbrev pub rest_at : Behind
  rest_at = paths (body_of frame.acts.now) place.tuples.now (scene_at place (picked_at trail spot))
      (behind_at place trail spot)

  pub behind_inner : behind_at place pushed inner ≡ rest_at
  behind_inner =
      behind_pushed place trail spot frame frames is inside
      ∙ ap (λ (d : ℕ). paths (body_of frame.acts.now) place.tuples.now (scene_at place (take d trail.slots))
      (behind_at place trail spot)) deep

  pub chosen_same : (branches : Branches) → chosen_at place pushed inner branches
      ≡ chosen branches place.tuples.now (scene_at place (picked_at trail spot)) rest_at (so_far trail spot)
  chosen_same branches =
      ap (λ k. chosen branches place.tuples.now (scene_at place (picked_at trail spot)) k (so_far trail spot))
      behind_inner

  pub values_same : (body : Body) (first many : ℕ) → values_from place pushed inner body first many
      ≡ flat_map (λ value. paths body place.tuples.now (with_value (scene_at place (picked_at trail spot)) value)
      rest_at (so_far trail spot)) (range_with_len first many)
  values_same body first many =
      ap (λ k. flat_map (λ value. paths body place.tuples.now
      (with_value (scene_at place (picked_at trail spot)) value) k (so_far trail spot)) (range_with_len first many))
      behind_inner

  module _ (found : Found) where
    pub choice_room : (branches : Branches) →
        CanWalk place trail spot found (Fork branches (body_of frame.acts.now)) →
        HasRoom found (chosen_at place pushed inner branches)
    choice_room branches can =
        subst (λ xs. HasRoom found xs) (sym (chosen_same branches))
        (room_first found
        (chosen branches place.tuples.now (scene_at place (picked_at trail spot)) rest_at (so_far trail spot))
        (where_false (any_holds (scene_at place (picked_at trail spot)) (marked place.tuples.now spot.mask) branches)
        (rest_at (so_far trail spot))) can.room)

    pub pick_room : (values : ℕ) (body : Body) →
        CanWalk place trail spot found (Each values body (body_of frame.acts.now)) →
        HasRoom found (values_from place pushed inner body 0 values)
    pick_room values body can = subst (λ xs. HasRoom found xs) (sym (values_same body 0 values)) can.room

    -- what stands behind a choice that took no branch
    pub choice_rest : (branches : Branches) (mid : Found) →
        CanWalk place trail spot found (Fork branches (body_of frame.acts.now)) →
        Gains found mid (chosen_at place pushed inner branches) →
        any_holds (scene_at place (picked_at trail spot)) (marked place.tuples.now spot.mask) branches ≡ false →
        CanWalk place trail spot mid (body_of frame.acts.now)
    choice_rest branches mid can gains none = record {
      stands = stands_less place trail spot (statements_of (Fork branches (body_of frame.acts.now)))
          (statements_of (body_of frame.acts.now)) can.stands (omega arith);
      fits = (can.fits.0, can.fits.1, can.fits.2.1);
      room = room_rest found mid
          (chosen branches place.tuples.now (scene_at place (picked_at trail spot)) rest_at (so_far trail spot))
          (rest_at (so_far trail spot))
          (subst (λ xs. HasRoom found xs)
          (where_not (any_holds (scene_at place (picked_at trail spot)) (marked place.tuples.now spot.mask) branches)
          (chosen branches place.tuples.now (scene_at place (picked_at trail spot)) rest_at (so_far trail spot))
          (rest_at (so_far trail spot)) none) can.room)
          (subst (λ xs. Gains found mid xs) (chosen_same branches) gains);
    }

    pub choice_taken : (branches : Branches) (mid : Found) →
        Gains found mid (chosen_at place pushed inner branches) →
        any_holds (scene_at place (picked_at trail spot)) (marked place.tuples.now spot.mask) branches ≡ true →
        Gains found mid (paths_at place trail spot (Fork branches (body_of frame.acts.now)))
    choice_taken branches mid gains some =
        subst (λ xs. Gains found mid xs)
        (sym (where_taken (any_holds (scene_at place (picked_at trail spot)) (marked place.tuples.now spot.mask)
        branches)
        (chosen branches place.tuples.now (scene_at place (picked_at trail spot)) rest_at (so_far trail spot))
        (rest_at (so_far trail spot)) some))
        (subst (λ xs. Gains found mid xs) (chosen_same branches) gains)

    pub choice_not : (branches : Branches) (mid new : Found) →
        Gains found mid (chosen_at place pushed inner branches) →
        Gains mid new (paths_at place trail spot (body_of frame.acts.now)) →
        any_holds (scene_at place (picked_at trail spot)) (marked place.tuples.now spot.mask) branches ≡ false →
        Gains found new (paths_at place trail spot (Fork branches (body_of frame.acts.now)))
    choice_not branches mid new gains more none =
        subst (λ xs. Gains found new xs)
        (sym (where_not (any_holds (scene_at place (picked_at trail spot)) (marked place.tuples.now spot.mask)
        branches)
        (chosen branches place.tuples.now (scene_at place (picked_at trail spot)) rest_at (so_far trail spot))
        (rest_at (so_far trail spot)) none))
        (gains_more found mid new
        (chosen branches place.tuples.now (scene_at place (picked_at trail spot)) rest_at (so_far trail spot))
        (rest_at (so_far trail spot)) (subst (λ xs. Gains found mid xs) (chosen_same branches) gains) more)

-- nothing is left
pub none_left : {X : Type 0} (xs : List X) → length xs ≡ 0 → xs ≡ []
none_left [] none = refl
none_left (x ∷ xs) none = absurd (omega (arith, none))

-- a choice at the end of a block
module _ (place : Place) (trail : Trail) (spot : Spot) (branches : Branches) where
  abbrev pub is_taken : Bool
  is_taken = any_holds (scene_at place (picked_at trail spot)) (marked place.tuples.now spot.mask) branches

  abbrev pub behind_now : List Result
  behind_now = behind_at place trail spot (so_far trail spot)

  last_is : paths_at place trail spot (Fork branches Stop)
      ≡ chosen_at place trail spot branches ++ where_false is_taken behind_now
  last_is = refl

  pub last_room : (found : Found) → CanWalk place trail spot found (Fork branches Stop) →
      HasRoom found (chosen_at place trail spot branches)
  last_room found can =
      room_first found (chosen_at place trail spot branches) (where_false is_taken behind_now)
      (subst (λ xs. HasRoom found xs) last_is can.room)

  pub last_rest : (found mid : Found) → CanWalk place trail spot found (Fork branches Stop) →
      Gains found mid (chosen_at place trail spot branches) → is_taken ≡ false → HasRoom mid behind_now
  last_rest found mid can gains none =
      room_rest found mid (chosen_at place trail spot branches) behind_now
      (subst (λ xs. HasRoom found xs)
      (last_is ∙ where_not is_taken (chosen_at place trail spot branches) behind_now none) can.room) gains

  pub last_taken : (found mid : Found) → Gains found mid (chosen_at place trail spot branches) → is_taken ≡ true →
      Gains found mid (paths_at place trail spot (Fork branches Stop))
  last_taken found mid gains some =
      subst (λ xs. Gains found mid xs)
      (sym (last_is ∙ where_taken is_taken (chosen_at place trail spot branches) behind_now some)) gains

  pub last_not : (found mid new : Found) → Gains found mid (chosen_at place trail spot branches) →
      Gains mid new behind_now → is_taken ≡ false → Gains found new (paths_at place trail spot (Fork branches Stop))
  last_not found mid new gains more none =
      subst (λ xs. Gains found new xs)
      (sym (last_is ∙ where_not is_taken (chosen_at place trail spot branches) behind_now none))
      (gains_more found mid new (chosen_at place trail spot branches) behind_now gains more)
