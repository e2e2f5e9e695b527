use Rattle.std.proofs.Common.{ap, length, arith}
use Rattle.net_plan.specs.declared.plan.ClassPlan.{ClassPlan}
use Rattle.net_plan.proofs.ReadLemmas.{relation_known}
use Rattle.net_plan.proofs.network.Network.relation.Goals as goal

pub returns-clause-kinds : goal.returns-clause-kinds
returns-clause-kinds c =
    relation_known c.args.self.now c.class.result.now c.as_slice.result.now c.args.relation
    c.index-as_slice-relation.result _ c.class.ensures.sound.relations c.as_slice.ensures
    (omega (
      arith,
      ap length c.as_slice.ensures,
      ap (λ (class : ClassPlan). length class.relations) c.class.ensures.class,
      c.requires.relation,
    ))
    c.index-as_slice-relation.is
