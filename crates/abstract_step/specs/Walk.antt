-- How a walk through a handler stands, what stands behind the block that it is in, and what it needs.
use Rattle.std.specs.Prelude.{◌≡◌, ℕ, zero, suc, ◌+◌, ◌*◌, ◌<◌, ◌≤◌, List, [], ◌∷◌, ◌++◌, Option, Some, None, length}
use Rattle.std.specs.Prelude.{take, slice_get, sum_by}
use Rattle.std.specs.List.{flat_map, range_with_len}
use Rattle.std.specs.Vec.{vec_len, vec_capacity}
use Rattle.box_handlers.specs.declared.act.Branch.{Branch}
use Rattle.box_handlers.specs.declared.act.Term.{Term}
use Rattle.box_handlers.specs.declared.act.Term.TheVariants.{Field, Value, Picked}
use Rattle.box_executions.specs.Environment.{fields_of}
use Rattle.box_handlers.specs.Body.{Formula, Body, Branches, body_of, formula_of}
use Rattle.box_handlers.specs.Fits.{ArePicked, Fits, FormulaFits, BranchesFit}
use Rattle.box_handlers.specs.Size.{statements_of}
use Rattle.net_plan.specs.declared.plan.ClassPlan.{ClassPlan}
use Rattle.net_plan.specs.Plan.{sizes_of, packets_of, boxes_of, surroundings_of}
use Rattle.net_runs.specs.World.{environment_of}
use Rattle.packet_state.specs.Answers.{class_of_box}
use Rattle.handler_runs.specs.Reading.{Scene, scene_of, with_value, holds_by}
use Rattle.abstract_step.specs.declared.place.Place.{Place}
use Rattle.abstract_step.specs.declared.trail.Frame.{Frame}
use Rattle.abstract_step.specs.declared.trail.Spot.{Spot}
use Rattle.abstract_step.specs.declared.trail.Trail.{Trail}
use Rattle.abstract_step.specs.declared.found.Found.{Found}
use Rattle.abstract_step.specs.Found.{results_of, AreWithin}
use Rattle.abstract_step.specs.Masks.{marked}
use Rattle.abstract_step.specs.Paths.{Partial, Behind, ended, paths, chosen, where_true}
use Rattle.abstract_step.specs.Step.{Result}

abbrev pub class_at : Place → ClassPlan
class_at place = class_of_box place.net.now place.b

-- what is read from at the place, while the picks have these values
abbrev pub scene_at : Place → List ℕ → Scene
scene_at place picked =
    scene_of (record (environment_of place.net.now (class_at place) place.p) { picked = picked })

-- the numbers of the place are in range, and its fields are those of the packet
pub record IsPlace (place : Place) : Type 0 where
  pub boxed : place.b < boxes_of place.net.now
  pub packet : place.p < packets_of place.net.now
  pub fields : place.fields.now ≡ fields_of (sizes_of place.net.now) place.p
  pub few : length place.tuples.now ≤ 12

-- the term is of a type with so many values, as far as the sizes of the fields show
abbrev pub HasSize : List ℕ → ℕ → Term → Type 0
HasSize sizes size (Field k) = slice_get sizes k ≡ Some size
HasSize sizes size (Value x) = Unit {0}
HasSize sizes size (Picked i) = Unit {0}

-- what fits the box while the picks have these values
abbrev pub FormulaFitsAt : Place → List ℕ → Formula → Type 0
FormulaFitsAt place picked formula =
    (picks : List ℕ) × ArePicked picks picked
    × FormulaFits (surroundings_of place.net.now (class_at place)) picks formula

abbrev pub BranchesFitAt : Place → List ℕ → Branches → Type 0
BranchesFitAt place picked branches =
    (picks : List ℕ) × ArePicked picks picked
    × BranchesFit (surroundings_of place.net.now (class_at place)) branches picks

abbrev pub FitsAt : Place → List ℕ → Body → Type 0
FitsAt place picked body =
    (picks : List ℕ) × ArePicked picks picked × Fits (surroundings_of place.net.now (class_at place)) body picks

-- what a frame has behind a block, in front of what stands behind the frame
abbrev pub framed : Place → List ℕ → Option Frame → Behind → Behind
framed place slots None behind = behind
framed place slots (Some frame) behind =
    paths (body_of frame.acts.now) place.tuples.now (scene_at place (take frame.depth slots)) behind

-- what so many frames have behind a block, the last one first
abbrev pub behind_of : Place → List Frame → List ℕ → ℕ → Behind
behind_of place frames slots zero = ended
behind_of place frames slots (suc top) = framed place slots (slice_get frames top) (behind_of place frames slots top)

-- so many frames are there, no picks are open in one that are not in the next, and each fits
abbrev pub AreFrames : Place → List Frame → List ℕ → ℕ → ℕ → Type 0
AreFrames place frames slots zero depth = Unit {0}
AreFrames place frames slots (suc top) depth =
    (frame : Frame) × (slice_get frames top ≡ Some frame) × (frame.depth ≤ depth)
    × FitsAt place (take frame.depth slots) (body_of frame.acts.now) × AreFrames place frames slots top frame.depth

-- how large the frames are
abbrev pub frame_size : Option Frame → ℕ
frame_size None = 1
frame_size (Some frame) = 2 * statements_of (body_of frame.acts.now) + 1

abbrev pub size_of_frames : List Frame → ℕ → ℕ
size_of_frames frames zero = 0
size_of_frames frames (suc top) = size_of_frames frames top + frame_size (slice_get frames top)

-- the walk stands so within the trail, with so many statements before it
pub record Stands (place : Place) (trail : Trail) (spot : Spot) (statements : ℕ) : Type 0 where
  pub place_is : IsPlace place
  pub frames : length trail.frames ≡ 2049
  pub slots : length trail.slots ≡ 2049
  pub writes : length trail.writes ≡ 2049
  pub puts : length trail.puts ≡ 2049
  pub behind : AreFrames place trail.frames trail.slots spot.top spot.depth
  pub small :
      spot.depth + spot.writes + spot.puts + size_of_frames trail.frames spot.top + 2 * statements ≤ 2048

-- the path so far
abbrev pub so_far : Trail → Spot → Partial
so_far trail spot =
    record { mask = spot.mask; writes = take spot.writes trail.writes; puts = take spot.puts trail.puts }

abbrev pub picked_at : Trail → Spot → List ℕ
picked_at trail spot = take spot.depth trail.slots

abbrev pub behind_at : Place → Trail → Spot → Behind
behind_at place trail spot = behind_of place trail.frames trail.slots spot.top

-- the paths through a block from where the walk stands
abbrev pub paths_at : Place → Trail → Spot → Body → List Result
paths_at place trail spot body =
    paths body place.tuples.now (scene_at place (picked_at trail spot)) (behind_at place trail spot)
    (so_far trail spot)

abbrev pub writes_in : List Result → ℕ
writes_in results = sum_by (λ result. length result.writes) results

abbrev pub puts_in : List Result → ℕ
puts_in results = sum_by (λ result. length result.puts) results

-- there is room for these results
pub record HasRoom (found : Found) (results : List Result) : Type 0 where
  pub within : AreWithin found
  pub endings : vec_len found.endings + length results ≤ vec_capacity found.endings
  pub writes : vec_len found.writes + writes_in results ≤ vec_capacity found.writes
  pub puts : vec_len found.puts + puts_in results ≤ vec_capacity found.puts

-- these results were found
pub record Gains (old new : Found) (results : List Result) : Type 0 where
  pub within : AreWithin new
  pub found : results_of new ≡ results_of old ++ results
  pub endings : vec_len new.endings ≡ vec_len old.endings + length results
  pub writes : vec_len new.writes ≡ vec_len old.writes + writes_in results
  pub puts : vec_len new.puts ≡ vec_len old.puts + puts_in results
  pub room : (vec_capacity old.endings ≤ vec_capacity new.endings)
      × (vec_capacity old.writes ≤ vec_capacity new.writes) × (vec_capacity old.puts ≤ vec_capacity new.puts)

-- some of these results were found, and the others are still to be found
pub record HasFound (old now : Found) (results others : List Result) : Type 0 where
  pub gained : List Result
  pub gains : Gains old now gained
  pub all : results ≡ gained ++ others

-- the walk can go through the block
pub record CanWalk (place : Place) (trail : Trail) (spot : Spot) (found : Found) (body : Body) : Type 0 where
  pub stands : Stands place trail spot (statements_of body)
  pub fits : FitsAt place (picked_at trail spot) body
  pub room : HasRoom found (paths_at place trail spot body)

-- the walk stands before the block of a pick, whose value is one pick more
pub record StandsWithin (place : Place) (trail : Trail) (spot : Spot) (statements : ℕ) : Type 0 where
  pub outer : Stands place trail spot statements
  pub deeper : spot.depth + spot.writes + spot.puts + size_of_frames trail.frames spot.top + 2 * statements < 2048

-- the block of a pick fits with each of so many values
abbrev pub FitsEach : Place → List ℕ → ℕ → Body → Type 0
FitsEach place picked values body = (value : ℕ) → value < values → FitsAt place (picked ++ value ∷ []) body

-- the paths through the branches whose guards are true
abbrev pub chosen_at : Place → Trail → Spot → Branches → List Result
chosen_at place trail spot branches =
    chosen branches place.tuples.now (scene_at place (picked_at trail spot)) (behind_at place trail spot)
    (so_far trail spot)

abbrev pub branch_at : Place → Trail → Spot → Branch → List Result
branch_at place trail spot branch =
    where_true
    (holds_by (scene_at place (picked_at trail spot)) (marked place.tuples.now spot.mask) (formula_of branch.guard))
    (paths_at place trail spot (body_of branch.body))

-- the paths through the block of a pick with a value, and with so many values from one on
abbrev pub value_at : Place → Trail → Spot → Body → ℕ → List Result
value_at place trail spot body value =
    paths body place.tuples.now (with_value (scene_at place (picked_at trail spot)) value) (behind_at place trail spot)
    (so_far trail spot)

abbrev pub values_from : Place → Trail → Spot → Body → ℕ → ℕ → List Result
values_from place trail spot body first many = flat_map (value_at place trail spot body) (range_with_len first many)
