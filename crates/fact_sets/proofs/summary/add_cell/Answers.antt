use Rattle.std.proofs.Common.{inl}
use Rattle.net_plan.specs.declared.fact.Fact.TheVariants.{State}
use Rattle.fact_sets.proofs.summary.add_cell.Goals as goal

pub returns-then-cell-states-clause-adds : goal.returns-then-cell-states-clause-adds
returns-then-cell-states-clause-adds c =
    let there = c.requires.states c.args.cell c.if-states-cell.true c.if-cell-states.true in
    record {
      fact = State there.box there.packet there.mask;
      in_range = there.in_range;
      cell_is = there.cell_is;
      adds = inl (record {
        good = λ bad. bad;
        summarises = c.count_state.ensures.counted there.box there.packet there.mask;
        listed = c.count_state.ensures.listed;
      });
    }
