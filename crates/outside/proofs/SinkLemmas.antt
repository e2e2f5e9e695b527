-- One put after another, for callers of a sink.
use Rattle.std.proofs.Common.{◌≡◌, ℕ, List, ◌++◌, Option, Some, None, refl, sym, ap, ◌∙◌, append_assoc}
use Rattle.std.specs.Io.KnownBytes.{append_known}
use Rattle.outside.specs.Sink.{AppendsFront}

-- two pieces after one another are one piece
pub append_known-append : (known : Option (List ℕ)) (a b : List ℕ) →
    append_known (append_known known a) b ≡ append_known known (a ++ b)
append_known-append None a b = refl
append_known-append (Some bytes) a b = ap Some (append_assoc bytes a b)

-- a front of a piece is a front of a longer one
pub AppendsFront-longer : (old new : Option (List ℕ)) (a b : List ℕ) → AppendsFront old new a →
    AppendsFront old new (a ++ b)
AppendsFront-longer old new a b f =
    (f.0, (f.1.0 ++ b, ap (λ t. t ++ b) f.1.1 ∙ append_assoc f.0 f.1.0 b), f.2)

-- a whole piece and a front of the next are a front of both
pub AppendsFront-after : (old mid new : Option (List ℕ)) (a b : List ℕ) → mid ≡ append_known old a →
    AppendsFront mid new b → AppendsFront old new (a ++ b)
AppendsFront-after old mid new a b e f = (
  a ++ f.0,
  (f.1.0, ap (λ t. a ++ t) f.1.1 ∙ sym (append_assoc a f.0 f.1.0)),
  f.2 ∙ ap (λ o. append_known o f.0) e
      ∙ append_known-append old a f.0,
)
