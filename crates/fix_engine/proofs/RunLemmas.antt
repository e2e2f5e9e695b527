-- What steps keep holds of each world that they reach.
use Rattle.std.proofs.Common.{ℕ, List, [], ◌∷◌, subst}
use Rattle.std.specs.List.{Contains}
use Rattle.fix_engine.specs.Runs.{Reaches}

pub Reaches-kept : {World Step : Type 0} (leads : World → Step → World → Type 0) (P : World → Type 0) →
    ((old : World) (step : Step) (new : World) → P old → leads old step new → P new)
    → (steps : List Step) (old new : World) → Reaches leads old steps new → P old → P new
Reaches-kept leads P keeps [] old new reaches holds = subst P reaches holds
Reaches-kept leads P keeps (step ∷ steps) old new reaches holds =
    Reaches-kept leads P keeps steps reaches.0 new reaches.2 (keeps old step reaches.0 holds reaches.1)

-- a closed set without a bad cell, by the laws of an abstraction
module _ {World Step : Type 0} (first : World → Type 0) (leads bad : World → Step → World → Type 0)
    (covers : World → Type 0) (bad_cell : ℕ → Type 0) (cells : List ℕ)
    (begins : (world : World) → first world → covers world)
    (goes_on : (old : World) (step : Step) (new : World) → covers old → leads old step new → covers new)
    (shows : (old : World) (step : Step) (new : World) → covers old → leads old step new → bad old step new →
    (cell : ℕ) × Contains cells cell × bad_cell cell) where
  pub covered_run : (start last : World) (steps : List Step) → first start → Reaches leads start steps last →
      covers last
  covered_run start last steps is reaches = Reaches-kept leads covers goes_on steps start last reaches (begins start is)

  pub safe_run : ((cell : ℕ) → Contains cells cell → bad_cell cell → ⊥) → (start last : World) (steps : List Step) →
      first start → Reaches leads start steps last
      → (step : Step) (next : World) → leads last step next → bad last step next → ⊥
  safe_run clean start last steps is reaches step next leads_on bad_step =
      let shown = shows last step next (covered_run start last steps is reaches) leads_on bad_step in
      clean shown.0 shown.1 shown.2
