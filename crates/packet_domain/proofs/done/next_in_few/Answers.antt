use Rattle.std.proofs.lemmas.Bool.{iff_false}
use Rattle.move_table.specs.Offered.{IsDoneIn}
use Rattle.packet_domain.proofs.DoneLemmas.{none_next, none_so_far}
use Rattle.packet_domain.proofs.done.next_in_few.Goals as goal

pub returns-then-is_done : goal.returns-then-is_done
returns-then-is_done g c = (
  c.loop-k.auto.k,
  c.loop-k-test.true,
  c.is_done.ensures.0 c.if-is_done.true,
  c.loop-k.invariant,
)

pub loop-k-preserved : goal.loop-k-preserved
loop-k-preserved g c =
    none_next (IsDoneIn c.args.work.now.done c.args.first) c.args.from c.loop-k.k c.loop-k.invariant
    (iff_false c.is_done.ensures c.if-is_done.false)

pub returns : goal.returns
returns g c =
    none_so_far (IsDoneIn c.args.work.now.done c.args.first) c.args.from c.loop-k.k c.args.count c.loop-k.invariant
    c.loop-k-test.false
