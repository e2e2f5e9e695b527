use Rattle.std.proofs.Common.{sym, ◌∙◌, arith}
use Rattle.item_rules.proofs.HeaderLemmas.{more, came}
use Rattle.item_rules.proofs.header.packets.Goals as goal

pub loop-item-preserved : goal.loop-item-preserved
loop-item-preserved c = (
  more c.args.before.now c.loop-item.item-index _ c.loop-item.packets c.in-Some.size
      c.saturating_mul-packets.result c.loop-item-test.true c.item-item.is c.loop-item.invariant.0
      (sym c.in-Some.is ∙ c.factor.ensures) c.saturating_mul-packets.ensures,
  omega (arith, c.saturating_mul-packets.ensures),
)

pub returns : goal.returns
returns c =
    came c.args.before.now c.loop-item.item-index c.loop-item.packets c.loop-item-test.false c.loop-item.invariant.0
    c.loop-item.invariant.1
