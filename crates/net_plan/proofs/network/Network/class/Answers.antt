use Rattle.net_plan.proofs.ReadLemmas.{class_known}
use Rattle.net_plan.proofs.network.Network.class.Goals as goal

pub returns-clause-sound : goal.returns-clause-sound
returns-clause-sound c =
    class_known c.self.inside.plan c.args.self.now c.as_slice.result.now c.boxed.result.now.class
    c.index-as_slice-class.result _ c.self.invariant.sound c.self.view_is
    c.as_slice.ensures c.boxed.ensures.class c.index-as_slice-class.is
