use Rattle.std.proofs.Common.{ℕ, List, ◌∙◌, arith}
use Rattle.net_plan.specs.declared.fact.Fact.TheVariants.{Out}
use Rattle.packet_domain.specs.Reasons.{AsChangedBy}
use Rattle.move_table.proofs.OfferedLemmas.{known_turn, known_all}
use Rattle.packet_domain.proofs.changed.change_from.Goals as goal

pub overflow_add-at : goal.overflow_add-at
overflow_add-at g c = omega (arith, c.in-Some.ensures.1.0.1, c.sound.ensures.headers.headers.few_packets)

pub loop-p-preserved : goal.loop-p-preserved
loop-p-preserved g c =
    let plan = c.args.net.now in
    let inlet = c.args.inlet in
    let found = c.in-Some.ensures in
    record {
      made = c.change_by_any.ensures.same ∙ c.loop-p.invariant.made;
      turns = known_turn plan (Out inlet.end)
          (λ (done : List ℕ) (p : ℕ). AsChangedBy plan done inlet.end p inlet.b c.args.q c.args.w) c.loop-p.at
          c.in-Some.p c.args.work.now c.loop-p.work c.change_by_any.new.work found.0 found.1 found.2
          c.loop-p.invariant.turns c.change_by_any.ensures.offered;
      within = omega (arith, found.1.0.1);
    }

pub returns-clause-offered : goal.returns-clause-offered
returns-clause-offered g c =
    let plan = c.args.net.now in
    let inlet = c.args.inlet in
    known_all plan (Out inlet.end)
    (λ (done : List ℕ) (p : ℕ). AsChangedBy plan done inlet.end p inlet.b c.args.q c.args.w) c.loop-p.at
    c.args.work.now c.loop-p.work c.in_default.ensures c.loop-p.invariant.turns
