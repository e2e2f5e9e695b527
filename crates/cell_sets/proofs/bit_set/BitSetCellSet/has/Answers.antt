use Rattle.std.proofs.Common.{sym, ap, subst, ◌∙◌, ◌/◌, ◌<◌, List, ℕ, length}
use Rattle.cell_sets.specs.Words.{is_marked}
use Rattle.cell_sets.proofs.SetLemmas.{in_words, reads}
use Rattle.cell_sets.proofs.bit_set.BitSetCellSet.has.Goals as goal

pub read_mark-requires : goal.read_mark-requires
read_mark-requires c =
    subst (λ (s : List ℕ). c.args.cell / 64 < length s) (sym c.deref.ensures.value)
    (in_words c.self.inside.words.items c.self.inside.cells c.args.self.now c.self.view_is c.args.cell c.requires
    c.self.invariant.0)

pub returns : goal.returns
returns c =
    c.read_mark.ensures ∙ ap (λ s. is_marked s c.args.cell) c.deref.ensures.value
    ∙ reads c.self.inside.words.items c.self.inside.cells c.args.self.now c.self.view_is c.args.cell c.requires
