-- Runs of steps from world to world.
use Rattle.std.specs.Prelude.{◌≡◌, List, [], ◌∷◌}

-- the steps lead from the one world to the other
abbrev pub Reaches : {World Step : Type 0} → (World → Step → World → Type 0) → World → List Step → World → Type 0
Reaches leads old [] new = old ≡ new
Reaches {World} leads old (step ∷ steps) new = (next : World) × leads old step next × Reaches leads next steps new
