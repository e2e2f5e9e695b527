use Rattle.std.proofs.Common.{◌≡◌, List, length, take, ap, subst, arith}
use Rattle.std.proofs.lemmas.List.{take_all}
use Rattle.net_plan.specs.declared.plan.LinkPlan.{LinkPlan}
use Rattle.net_plan.proofs.PartnerLemmas.{AllTold, told_more, all_told}
use Rattle.net_plan.proofs.tables.partners_of.Goals as goal

pub loop-link-preserved : goal.loop-link-preserved
loop-link-preserved c =
    let step =
    told_more c.args.plan.now c.as_slice-link-items.result.now c.loop-link.link-index c.args.ends
    c.loop-link.partners c.replace.new.self c.replace-in-loop-link.new.self
    c.requires.sound c.as_slice-link-items.ensures c.requires.ends c.loop-link-test.true c.loop-link.invariant.room
    c.loop-link.invariant.told c.replace.ensures.rest c.replace-in-loop-link.ensures.rest in
    record { room = step.room; told = step.told }

pub returns : goal.returns
returns c =
    let whole : take c.loop-link.link-index c.args.plan.now.links ≡ c.args.plan.now.links =
    take_all c.loop-link.link-index c.args.plan.now.links
    (omega (arith, ap length c.as_slice-link-items.ensures, c.loop-link-test.false)) in
    all_told c.args.plan.now c.loop-link.partners c.args.ends c.requires.sound c.requires.ends
    c.loop-link.invariant.room
    (subst (λ (links : List LinkPlan). AllTold links c.loop-link.partners c.args.ends) whole c.loop-link.invariant.told)
