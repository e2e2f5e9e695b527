use Rattle.std.proofs.Common.{◌+◌, ◌<◌, ◌≤◌, length, inl, inr, arith}
use Rattle.fact_sets.proofs.SummaryLemmas.{good_more, bad_more, at_most_more}
use Rattle.fact_sets.proofs.summary.findings_of.Goals as goal

pub loop-cell-preserved : goal.loop-cell-preserved
loop-cell-preserved g c =
    let plan = c.args.network.now in
    let marks = g.S.CellSet.marks c.args.set.now in
    let numbered = c.cells_are_facts.ensures plan in
    let next = c.in-Some.ensures in
    let old = c.loop-cell.invariant.found in
    let added = c.in_ok-add_cell.ensures.adds in
    record {
      found = elim added.adds [
        | inl good ↦ good_more plan marks numbered c.loop-cell.from c.in-Some.cell added.fact next.0 next.1 next.2
            added.in_range added.cell_is c.loop-cell.findings old c.add_cell.new.findings good.good
            (good.summarises old.facts old.bad old.summarises) good.listed
        | inr bad ↦ bad_more plan marks numbered c.loop-cell.from c.in-Some.cell added.fact next.0 next.1 next.2
            added.in_range added.cell_is c.loop-cell.findings old c.add_cell.new.findings bad.bad
            (bad.summarises old.facts old.bad old.summarises) bad.lines
      ];
      few = at_most_more (c.loop-cell.from + 1) (c.in-Some.cell + 1) c.add_cell.new.findings
          (let less : c.loop-cell.from ≤ c.in-Some.cell = next.0 in omega (arith, less))
          (c.in_ok-add_cell.ensures.few c.loop-cell.from c.loop-cell.invariant.few);
      within = let less : c.in-Some.cell < length marks = next.1.0 in omega (arith, less);
    }
