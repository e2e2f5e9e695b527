use Rattle.std.proofs.Common.{ℕ, List, [], ◌∷◌, ◌∙◌, arith}
use Rattle.net_plan.specs.declared.fact.Fact.TheVariants.{Out, State}
use Rattle.packet_state.specs.Follows.{Follows}
use Rattle.move_table.proofs.OfferedLemmas.{known_turn, known_all}
use Rattle.packet_domain.proofs.changed.change_by_any.Goals as goal

pub loop-v-preserved : goal.loop-v-preserved
loop-v-preserved g c =
    let plan = c.args.net.now in
    let inlet = c.args.inlet in
    let found = c.in-Some.ensures in
    record {
      made = c.change_by.ensures.same ∙ c.loop-v.invariant.made;
      turns = known_turn plan (State inlet.b c.args.p)
          (λ (done : List ℕ) (v : ℕ).
          Follows plan (Out inlet.end c.args.p ∷ State inlet.b c.args.p v ∷ State inlet.b c.args.q c.args.w ∷ []))
          c.loop-v.at c.in-Some.v c.args.work.now c.loop-v.work c.change_by.new.work found.0 found.1 found.2
          c.loop-v.invariant.turns c.change_by.ensures.offered;
      within = omega (arith, found.1.0.2);
    }

pub returns-clause-offered : goal.returns-clause-offered
returns-clause-offered g c =
    let plan = c.args.net.now in
    let inlet = c.args.inlet in
    known_all plan (State inlet.b c.args.p)
    (λ (done : List ℕ) (v : ℕ).
    Follows plan (Out inlet.end c.args.p ∷ State inlet.b c.args.p v ∷ State inlet.b c.args.q c.args.w ∷ []))
    c.loop-v.at c.args.work.now c.loop-v.work c.in_default.ensures c.loop-v.invariant.turns
