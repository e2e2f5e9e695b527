use Rattle.packet_domain.proofs.DoneLemmas.{found_in_row, none_in_row}
use Rattle.packet_domain.proofs.done.next_in.Goals as goal

pub returns-in-Some : goal.returns-in-Some
returns-in-Some g c =
    found_in_row c.args.work.now.done c.args.first c.args.from c.args.count c.in-Some.cell c.in-Some.ensures.0
    c.in-Some.ensures.1 c.in-Some.ensures.2 c.if-cell-first.true

pub returns-in_default : goal.returns-in_default
returns-in_default g c =
    none_in_row c.args.work.now.done c.args.first c.args.from c.args.count c.in-Some.cell c.in-Some.ensures.2
    c.if-cell-first.false

pub returns-in_default-2 : goal.returns-in_default-2
returns-in_default-2 g c =
    none_in_row c.args.work.now.done c.args.first c.args.from c.args.count c.args.work.now.cells c.in_default.ensures
    c.requires.cells
