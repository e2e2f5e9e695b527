use Rattle.std.proofs.Common.{rules, sym, ap, ◌∙◌, ◌+◌, ◌*◌, ℕ}
use Rattle.handler_runs.specs.Reading.{capped}
use Rattle.abstract_step.specs.Walk.{scene_at}
use Rattle.net_plan.specs.Plan.{sizes_of}
use Rattle.abstract_step.proofs.PlaceLemmas.{entry_read, digits_all, digit_of, digit_read}
use Rattle.abstract_step.proofs.place.entry_of.Goals as goal

pub returns-in-None-clause-entry : goal.returns-in-None-clause-entry
returns-in-None-clause-entry c =
    c.tuple_at.ensures
    ∙ entry_read c.args.place.now.net.now c.sound.ensures c.args.place.now.b c.requires.place.boxed
    c.fields_are_below_sizes.ensures c.args.place.now.p c.args.picked.now c.args.query.now c.requires.place.packet
    c.requires.fits

pub loop-term-preserved : goal.loop-term-preserved
loop-term-preserved c =
    digit_read c.args.place.now.net.now c.sound.ensures c.args.place.now.b c.requires.place.boxed c.args.place.now.p
    c.args.picked.now c.args.query.now c.loop-term.term-index c.loop-term.tuple c.in-Some.longer _
    c.requires.place.packet c.requires.fits (search rules) (search rules)
    (λ size has. digit_of (sizes_of c.args.place.now.net.now) c.loop-term.tuple c.value_of-value.result
    c.in-Some.longer _ c.with_digit.result c.in-Some.is c.with_digit.ensures size has
    ∙ ap (λ (value : ℕ). capped (capped (c.loop-term.tuple * size) + value)) c.value_of-value.ensures)
    c.loop-term.invariant

pub returns-clause-entry : goal.returns-clause-entry
returns-clause-entry c =
    digits_all (scene_at c.args.place.now c.args.picked.now) c.args.query.now c.loop-term.term-index c.loop-term.tuple
    (search rules) c.loop-term.invariant

pub returns-clause-tuple : goal.returns-clause-tuple
returns-clause-tuple c =
    digits_all (scene_at c.args.place.now c.args.picked.now) c.args.query.now c.loop-term.term-index c.loop-term.tuple
    (search rules) c.loop-term.invariant
    ∙ sym (entry_read c.args.place.now.net.now c.sound.ensures c.args.place.now.b c.requires.place.boxed
    c.fields_are_below_sizes.ensures c.args.place.now.p c.args.picked.now c.args.query.now c.requires.place.packet
    c.requires.fits)
