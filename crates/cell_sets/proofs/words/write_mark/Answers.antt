use Rattle.std.proofs.Common.{ap, ◌∙◌, ◌/◌}
use Rattle.std.specs.Int.{bit_at}
use Rattle.std.proofs.lemmas.List.{get_or_read}
use Rattle.cell_sets.proofs.WordLemmas.{marks_of-write}
use Rattle.cell_sets.proofs.words.write_mark.Goals as goal

pub returns-clause-marks : goal.returns-clause-marks
returns-clause-marks c =
    marks_of-write c.args.words.now.items c.with_bit.result c.args.cell c.args.mark c.requires c.with_bit.ensures.bit
    (λ i small apart. c.with_bit.ensures.others i small apart
    ∙ ap (λ w. bit_at w i)
    (get_or_read c.args.words.now.items (c.args.cell / 64) c.index.result.now c.requires c.index.ensures 0))
