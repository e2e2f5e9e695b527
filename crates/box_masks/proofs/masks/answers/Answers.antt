use Rattle.std.proofs.Common.{sym, ap, ◌∙◌}
use Rattle.packet_state.specs.Answers.{class_of_box}
use Rattle.box_masks.specs.Bits.{tuples_at, answers_over}
use Rattle.box_masks.proofs.MaskLemmas.{answers_are}
use Rattle.box_masks.proofs.masks.answers.Goals as goal

pub returns : goal.returns
returns c =
    c.answers_of.ensures.mask
    ∙ ap (λ queries. answers_over c.entries.result.now (tuples_at c.args.net.now c.args.b c.args.p queries))
    c.queries.ensures.queries
    ∙ ap (λ entries. answers_over entries (tuples_at c.args.net.now c.args.b c.args.p (class_of_box c.args.net.now c.args.b).queries))
    c.entries.ensures.entries
    ∙ sym (answers_are c.args.net.now c.args.b c.args.p c.args.contents.now)
