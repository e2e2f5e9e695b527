use Rattle.std.proofs.Common.{◌<◌, ℕ, suc, List, [], ◌∷◌, length, slice_index_or, All, arith}
use Rattle.std.proofs.lemmas.List.Elements.{All-nil, All-cons}
use Rattle.amdl_tree.specs.declared.token.Lexed.{Lexed}
use Rattle.schedule_text.specs.Readings.{IsNamed, tokens_of}
use Rattle.schedule_text.proofs.primitive.show_names.Goals as goal

named_all : (ts : List Lexed) → ((k : ℕ) (d : Lexed) → k < length ts → IsNamed (slice_index_or ts k d).token) →
    All IsNamed (tokens_of ts)
named_all [] f = All-nil IsNamed
named_all (t ∷ ts) f =
    All-cons IsNamed t.token (tokens_of ts) (f 0 t (omega arith))
    (named_all ts (λ k d lt. f (suc k) d (omega (arith, lt))))

pub returns : goal.returns
returns c =
    named_all c.args.tokens.now (λ k d lt. c.loop-lexed.invariant k d (omega (arith, lt, c.loop-lexed-test.false)))
