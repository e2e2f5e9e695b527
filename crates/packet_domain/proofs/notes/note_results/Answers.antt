use Rattle.std.proofs.Common.{ℕ, ◌<◌, ◌≤◌, subst, ◌∙◌}
use Rattle.abstract_step.specs.Step.{Result}
use Rattle.packet_domain.specs.Table.{ResultMoves}
use Rattle.move_table.proofs.NoteLemmas.{AmongFirst, among_none, among_turn, among_all}
use Rattle.move_table.proofs.WithinLemmas.{followed_noted}
use Rattle.packet_domain.proofs.notes.note_results.Goals as goal

pub loop-i-init : goal.loop-i-init
loop-i-init g c =
    record {
      table = c.requires.table;
      noted = among_none c.args.net.now c.args.fired.now
          (λ (result : Result). ResultMoves c.args.net.now c.args.b c.args.p c.args.v result) c.args.table.now.moves
          c.args.work.now c.requires.sized;
    }

pub note_result-requires-clause-followed : goal.note_result-requires-clause-followed
note_result-requires-clause-followed g c =
    followed_noted c.args.net.now
    (AmongFirst c.args.net.now c.args.fired.now
    (λ (result : Result). ResultMoves c.args.net.now c.args.b c.args.p c.args.v result) c.loop-i.i)
    c.args.table.now.moves c.loop-i.table.moves c.args.work.now c.loop-i.work c.loop-i.invariant.noted
    c.requires.followed

pub loop-i-preserved : goal.loop-i-preserved
loop-i-preserved g c =
    record {
      table = c.note_result.ensures.table ∙ c.loop-i.invariant.table;
      noted = among_turn c.args.net.now c.args.fired.now
          (λ (result : Result). ResultMoves c.args.net.now c.args.b c.args.p c.args.v result) c.loop-i.i _
          c.args.table.now.moves c.loop-i.table.moves c.note_result.new.table.moves c.args.work.now c.loop-i.work
          c.note_result.new.work (subst (λ (n : ℕ). c.loop-i.i < n) c.len-i-end.ensures c.loop-i-test.true)
          c.loop-i.invariant.noted c.note_result.ensures.noted;
    }

pub returns-clause-noted : goal.returns-clause-noted
returns-clause-noted g c =
    among_all c.args.net.now c.args.fired.now
    (λ (result : Result). ResultMoves c.args.net.now c.args.b c.args.p c.args.v result) c.loop-i.i
    c.args.table.now.moves c.loop-i.table.moves c.args.work.now c.loop-i.work
    (subst (λ (n : ℕ). n ≤ c.loop-i.i) c.len-i-end.ensures c.loop-i-test.false) c.loop-i.invariant.noted
