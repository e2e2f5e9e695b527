use Rattle.amdl_app.specs.Promises.{spelled}
use Rattle.amdl_app.specs.Seen.{both_seen, files_seen, sink_seen}
use Rattle.amdl_app.proofs.PromiseLemmas.{status_in_range, answers_up_to_three, answers_unhindered, sink_fault_is_right}
use Rattle.amdl_app.proofs.PromiseLemmas.{usage_is_right, refusal_is_right, file_fault_is_right, cuts_are_fronts}
use Rattle.amdl_app.proofs.ReplayPromiseLemmas.{replay_only, replay_if}
use Rattle.amdl_app.proofs.SafeLemmas.{safe_only, safe_if, counts_only, counts_if}
use Rattle.amdl_app.proofs.program.run.Goals as goal

pub returns-clause-status : goal.returns-clause-status
returns-clause-status g c =
    status_in_range (spelled c.args.words.now)
    (both_seen (files_seen g.F.Files.told g.F.Files.faults c.args.files.now)
    (sink_seen g.S.Sink.written g.S.Sink.faults c.args.out.now))
    (both_seen (files_seen g.F.Files.told g.F.Files.faults c.perform.new.files)
    (sink_seen g.S.Sink.written g.S.Sink.faults c.perform.new.out))
    c.perform.result c.perform.ensures.call

pub returns-clause-answers : goal.returns-clause-answers
returns-clause-answers g c =
    answers_up_to_three (spelled c.args.words.now)
    (both_seen (files_seen g.F.Files.told g.F.Files.faults c.args.files.now)
    (sink_seen g.S.Sink.written g.S.Sink.faults c.args.out.now))
    (both_seen (files_seen g.F.Files.told g.F.Files.faults c.perform.new.files)
    (sink_seen g.S.Sink.written g.S.Sink.faults c.perform.new.out))
    c.perform.result c.perform.ensures.call

pub returns-clause-unhindered : goal.returns-clause-unhindered
returns-clause-unhindered g c =
    answers_unhindered (spelled c.args.words.now)
    (both_seen (files_seen g.F.Files.told g.F.Files.faults c.args.files.now)
    (sink_seen g.S.Sink.written g.S.Sink.faults c.args.out.now))
    (both_seen (files_seen g.F.Files.told g.F.Files.faults c.perform.new.files)
    (sink_seen g.S.Sink.written g.S.Sink.faults c.perform.new.out))
    c.perform.result c.perform.ensures.call

pub returns-clause-usage : goal.returns-clause-usage
returns-clause-usage g c =
    usage_is_right (spelled c.args.words.now)
    (both_seen (files_seen g.F.Files.told g.F.Files.faults c.args.files.now)
    (sink_seen g.S.Sink.written g.S.Sink.faults c.args.out.now))
    (both_seen (files_seen g.F.Files.told g.F.Files.faults c.perform.new.files)
    (sink_seen g.S.Sink.written g.S.Sink.faults c.perform.new.out))
    c.perform.result c.perform.ensures.call

pub returns-clause-refusal : goal.returns-clause-refusal
returns-clause-refusal g c =
    refusal_is_right (spelled c.args.words.now)
    (both_seen (files_seen g.F.Files.told g.F.Files.faults c.args.files.now)
    (sink_seen g.S.Sink.written g.S.Sink.faults c.args.out.now))
    (both_seen (files_seen g.F.Files.told g.F.Files.faults c.perform.new.files)
    (sink_seen g.S.Sink.written g.S.Sink.faults c.perform.new.out))
    c.perform.result c.answer_is_unique.ensures.answer c.perform.ensures.call

pub returns-clause-file_fault : goal.returns-clause-file_fault
returns-clause-file_fault g c =
    file_fault_is_right (spelled c.args.words.now)
    (both_seen (files_seen g.F.Files.told g.F.Files.faults c.args.files.now)
    (sink_seen g.S.Sink.written g.S.Sink.faults c.args.out.now))
    (both_seen (files_seen g.F.Files.told g.F.Files.faults c.perform.new.files)
    (sink_seen g.S.Sink.written g.S.Sink.faults c.perform.new.out))
    c.perform.result c.perform.ensures.call

pub returns-clause-sink_fault : goal.returns-clause-sink_fault
returns-clause-sink_fault g c =
    sink_fault_is_right (spelled c.args.words.now)
    (both_seen (files_seen g.F.Files.told g.F.Files.faults c.args.files.now)
    (sink_seen g.S.Sink.written g.S.Sink.faults c.args.out.now))
    (both_seen (files_seen g.F.Files.told g.F.Files.faults c.perform.new.files)
    (sink_seen g.S.Sink.written g.S.Sink.faults c.perform.new.out))
    c.perform.result c.perform.ensures.call

pub returns-clause-cut : goal.returns-clause-cut
returns-clause-cut g c =
    cuts_are_fronts (spelled c.args.words.now)
    (both_seen (files_seen g.F.Files.told g.F.Files.faults c.args.files.now)
    (sink_seen g.S.Sink.written g.S.Sink.faults c.args.out.now))
    (both_seen (files_seen g.F.Files.told g.F.Files.faults c.perform.new.files)
    (sink_seen g.S.Sink.written g.S.Sink.faults c.perform.new.out))
    c.perform.result c.perform.ensures.call

pub returns-clause-safe_only : goal.returns-clause-safe_only
returns-clause-safe_only g c =
    safe_only (spelled c.args.words.now)
    (both_seen (files_seen g.F.Files.told g.F.Files.faults c.args.files.now)
    (sink_seen g.S.Sink.written g.S.Sink.faults c.args.out.now))
    (both_seen (files_seen g.F.Files.told g.F.Files.faults c.perform.new.files)
    (sink_seen g.S.Sink.written g.S.Sink.faults c.perform.new.out))
    c.perform.result c.safe_network_runs_safely.ensures c.safe_is_told.ensures c.messages_are_not_safe.ensures
    c.perform.ensures.call

pub returns-clause-safe_if : goal.returns-clause-safe_if
returns-clause-safe_if g c =
    safe_if (spelled c.args.words.now)
    (both_seen (files_seen g.F.Files.told g.F.Files.faults c.args.files.now)
    (sink_seen g.S.Sink.written g.S.Sink.faults c.args.out.now))
    (both_seen (files_seen g.F.Files.told g.F.Files.faults c.perform.new.files)
    (sink_seen g.S.Sink.written g.S.Sink.faults c.perform.new.out))
    c.perform.result c.one_reading.ensures c.one_answer.ensures c.perform.ensures.call

pub returns-clause-counts_only : goal.returns-clause-counts_only
returns-clause-counts_only g c =
    counts_only (spelled c.args.words.now)
    (both_seen (files_seen g.F.Files.told g.F.Files.faults c.args.files.now)
    (sink_seen g.S.Sink.written g.S.Sink.faults c.args.out.now))
    (both_seen (files_seen g.F.Files.told g.F.Files.faults c.perform.new.files)
    (sink_seen g.S.Sink.written g.S.Sink.faults c.perform.new.out))
    c.perform.result c.one_reading.ensures c.one_answer.ensures c.perform.ensures.call

pub returns-clause-counts_if : goal.returns-clause-counts_if
returns-clause-counts_if g c =
    counts_if (spelled c.args.words.now)
    (both_seen (files_seen g.F.Files.told g.F.Files.faults c.args.files.now)
    (sink_seen g.S.Sink.written g.S.Sink.faults c.args.out.now))
    (both_seen (files_seen g.F.Files.told g.F.Files.faults c.perform.new.files)
    (sink_seen g.S.Sink.written g.S.Sink.faults c.perform.new.out))
    c.perform.result c.one_reading.ensures c.one_answer.ensures c.perform.ensures.call

pub returns-clause-replay_only : goal.returns-clause-replay_only
returns-clause-replay_only g c =
    replay_only (spelled c.args.words.now)
    (both_seen (files_seen g.F.Files.told g.F.Files.faults c.args.files.now)
    (sink_seen g.S.Sink.written g.S.Sink.faults c.args.out.now))
    (both_seen (files_seen g.F.Files.told g.F.Files.faults c.perform.new.files)
    (sink_seen g.S.Sink.written g.S.Sink.faults c.perform.new.out))
    c.perform.result c.status_is_right.ensures c.perform.ensures.call

pub returns-clause-replay_if : goal.returns-clause-replay_if
returns-clause-replay_if g c =
    replay_if (spelled c.args.words.now)
    (both_seen (files_seen g.F.Files.told g.F.Files.faults c.args.files.now)
    (sink_seen g.S.Sink.written g.S.Sink.faults c.args.out.now))
    (both_seen (files_seen g.F.Files.told g.F.Files.faults c.perform.new.files)
    (sink_seen g.S.Sink.written g.S.Sink.faults c.perform.new.out))
    c.perform.result c.status_is_right.ensures c.answer_is_unique.ensures.answer c.perform.ensures.call
