use Rattle.std.proofs.Common.{ℕ, subst}
use Rattle.fix_engine.specs.Progress.{Offers}
use Rattle.move_table.proofs.OfferedLemmas.{offered_one}
use Rattle.move_table.proofs.offers.offer.Goals as goal

pub returns : goal.returns
returns g c =
    offered_one c.args.net.now c.args.fact c.args.work.now c.offer.new.self c.requires.in_range
    (subst (λ (x : ℕ). Offers c.args.work.now x c.offer.new.self) c.cell_of.ensures.cell c.offer.ensures)
