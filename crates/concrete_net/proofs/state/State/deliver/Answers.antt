use Rattle.std.proofs.Common.{ℕ, ◌<◌, List, refl, subst, inl, arith}
use Rattle.header_set.specs.Headers.{product}
use Rattle.concrete_net.proofs.DeliveryLemmas.{no_link}
use Rattle.concrete_net.proofs.state.State.deliver.Goals as goal

pub returns-in-None : goal.returns-in-None
returns-in-None c =
    let less : c.args.packet < product c.headers.result.now =
    omega (arith, c.if-packet-count.false, c.count.ensures.product) in (
      refl,
      inl (no_link c.args.net.now c.args.self.now c.args.end c.args.packet c.args.choices.now
          (omega (arith, c.if-end-ends.false, c.ends.ensures.ends))
          (subst (λ (sizes : List ℕ). c.args.packet < product sizes) c.headers.ensures less)
          c.in-None.ensures.linked),
    )
