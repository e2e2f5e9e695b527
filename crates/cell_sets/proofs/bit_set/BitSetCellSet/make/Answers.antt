use Rattle.std.proofs.Common.{◌≡◌, replicate, length, sym, ap, ◌∙◌, ◌+◌, ◌/◌}
use Rattle.std.proofs.lemmas.List.{length-replicate}
use Rattle.cell_sets.specs.Marks.{members_in}
use Rattle.cell_sets.proofs.SetLemmas.{made, no_members}
use Rattle.cell_sets.proofs.bit_set.BitSetCellSet.make.Goals as goal

pub invariant_of-result : goal.invariant_of-result
invariant_of-result c =
    let zeros : c.in-Ok.words.items ≡ replicate ((c.args.cells + 63) / 64) 0 =
    c.in-Ok.ensures.items_if_clones_equal (λ y e. e) in (
      ap length zeros ∙ length-replicate ((c.args.cells + 63) / 64) 0,
      sym
          (ap members_in (made c.in-Ok.words.items ((c.args.cells + 63) / 64) c.args.cells zeros)
          ∙ no_members c.args.cells),
    )

pub returns-in-Ok : goal.returns-in-Ok
returns-in-Ok c =
    made c.in-Ok.words.items ((c.args.cells + 63) / 64) c.args.cells (c.in-Ok.ensures.items_if_clones_equal (λ y e. e))
