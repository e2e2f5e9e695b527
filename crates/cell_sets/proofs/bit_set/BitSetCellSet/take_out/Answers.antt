use Rattle.std.proofs.Common.{◌≡◌, false, get_or, sym, ap, subst, ◌∙◌, ◌/◌, ◌<◌, List, ℕ, length}
use Rattle.cell_sets.specs.Words.{is_marked}
use Rattle.cell_sets.proofs.MarkLemmas.{set_there}
use Rattle.cell_sets.proofs.SetLemmas.{in_words, reads, written, has_one, one_less}
use Rattle.cell_sets.proofs.bit_set.BitSetCellSet.take_out.Goals as goal
use Rattle.cell_sets.proofs.bit_set.BitSetCellSet.take_out.Goals.{After-read_mark}

read : (c : After-read_mark) → c.read_mark.result ≡ get_or c.args.self.now c.args.cell false
read c = c.read_mark.ensures ∙ ap (λ s. is_marked s c.args.cell) c.deref.ensures.value
    ∙ reads c.self.inside.words.items c.self.inside.cells c.args.self.now c.self.view_is c.args.cell c.requires

pub read_mark-requires : goal.read_mark-requires
read_mark-requires c =
    subst (λ (s : List ℕ). c.args.cell / 64 < length s) (sym c.deref.ensures.value)
    (in_words c.self.inside.words.items c.self.inside.cells c.args.self.now c.self.view_is c.args.cell c.requires
    c.self.invariant.0)

pub returns-then-not-read_mark-clause-taken : goal.returns-then-not-read_mark-clause-taken
returns-then-not-read_mark-clause-taken c =
    sym
    (set_there c.args.self.now c.args.cell false
    (sym (read (goal.at.returns-then-not-read_mark-clause-taken c).After-read_mark) ∙ c.if-not-read_mark.true))

pub returns-then-not-read_mark-clause-present : goal.returns-then-not-read_mark-clause-present
returns-then-not-read_mark-clause-present c =
    sym (sym (read (goal.at.returns-then-not-read_mark-clause-present c).After-read_mark) ∙ c.if-not-read_mark.true)

pub write_mark-requires : goal.write_mark-requires
write_mark-requires c =
    in_words c.self.inside.words.items c.self.inside.cells c.args.self.now c.self.view_is c.args.cell c.requires
    c.self.invariant.0

pub overflow_sub-self : goal.overflow_sub-self
overflow_sub-self c =
    let present = sym (read (goal.at.overflow_sub-self c).After-read_mark) ∙ c.if-not-read_mark.false in
    has_one c.self.inside.words.items c.self.inside.cells c.args.self.now c.self.view_is c.self.inside.members
    c.args.cell c.self.invariant.1 c.requires present

pub invariant_of-self : goal.invariant_of-self
invariant_of-self c =
    let present = sym (read (goal.at.invariant_of-self c).After-read_mark) ∙ c.if-not-read_mark.false in (
      c.write_mark.ensures.len ∙ c.self.invariant.0,
      one_less c.self.inside.words.items c.self.inside.cells c.args.self.now c.self.view_is c.self.inside.members
          c.args.cell c.self.invariant.1 c.requires c.write_mark.new.words.items present c.write_mark.ensures.marks,
    )

pub returns-clause-taken : goal.returns-clause-taken
returns-clause-taken c =
    written c.self.inside.words.items c.self.inside.cells c.args.self.now c.self.view_is c.write_mark.new.words.items
    c.args.cell false c.write_mark.ensures.marks

pub returns-clause-present : goal.returns-clause-present
returns-clause-present c =
    sym (sym (read (goal.at.returns-clause-present c).After-read_mark) ∙ c.if-not-read_mark.false)
