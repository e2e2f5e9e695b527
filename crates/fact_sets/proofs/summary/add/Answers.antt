use Rattle.std.proofs.Common.{◌++◌, ◌∷◌, [], Result, Ok, Err, inr, OnOk, refl}
use Rattle.std.proofs.lemmas.Result.{on_ok_weaker}
use Rattle.fact_sets.proofs.SummaryLemmas.{bad_has_line}
use Rattle.fact_sets.proofs.summary.add.Goals as goal

both_ok : {T E : Type 0} (P Q : Type 0) (result : Result T E) → OnOk result P → OnOk result Q → OnOk result (P × Q)
both_ok P Q (Ok value) p q = (p, q)
both_ok P Q (Err error) p q = tt

pub list-requires-clause-line : goal.list-requires-clause-line
list-requires-clause-line c =
    bad_has_line c.args.network.now c.args.fact c.requires.in_range (c.if-bad.ensures.0 refl)

pub returns-then-bad-clause-adds : goal.returns-then-bad-clause-adds
returns-then-bad-clause-adds c =
    on_ok_weaker c.list.result (λ both. inr (record {
      bad = c.if-bad.ensures.0 refl;
      summarises = λ facts bad told. both.0 (facts ++ c.args.fact ∷ []) bad (c.count.ensures.counted facts bad told);
      lines = both.1;
    })) (both_ok _ _ c.list.result c.list.ensures.summarises c.list.ensures.lines)
