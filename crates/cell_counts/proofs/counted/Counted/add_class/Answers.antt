use Rattle.std.proofs.lemmas.Result.{on_ok_weaker}
use Rattle.std.proofs.Common.{ℕ, List, sym, subst, ◌∙◌, ◌∷◌, ◌++◌, []}
use Rattle.amdl_tree.specs.declared.tree.Item.TheVariants.{Class as OfClass}
use Rattle.cell_counts.specs.Counts.{IsCountOf}
use Rattle.cell_counts.proofs.CountLemmas.{class_added}
use Rattle.cell_counts.proofs.counted.Counted.add_class.Goals as goal

pub returns-in_ok-put-in-Some : goal.returns-in_ok-put-in-Some
returns-in_ok-put-in-Some c =
    let items = c.args.before.now in
    let old = c.args.self.now in
    on_ok_weaker c.push.result
    (λ pushed. subst
    (λ (cells : List ℕ). IsCountOf (items ++ OfClass c.args.class.now ∷ [])
    (record old { classes = c.put.new.self; cells = cells })) (sym pushed)
    (class_added items old old c.cells_are_counted.ensures.counted c.requires.counts c.args.class.now c.in-Some.plan
    c.in_ok-count-in-Some.count c.requires.keeps c.requires.built (sym c.in-Some.is ∙ c.in_ok-plan.ensures)
    c.in_ok-count-in-Some.ensures c.put.new.self c.in_ok-put-in-Some.ensures.put)) c.push.ensures.ok
