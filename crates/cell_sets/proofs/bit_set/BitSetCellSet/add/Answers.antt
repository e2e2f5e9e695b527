use Rattle.std.proofs.Common.{◌≡◌, true, false, get_or, not, sym, ap, subst, ◌∙◌, ◌/◌, ◌<◌, List, ℕ, length, arith}
use Rattle.cell_sets.specs.Words.{is_marked}
use Rattle.cell_sets.proofs.MarkLemmas.{set_there}
use Rattle.cell_sets.proofs.SetLemmas.{in_words, reads, written, room_for_one, one_more}
use Rattle.cell_sets.proofs.bit_set.BitSetCellSet.add.Goals as goal
use Rattle.cell_sets.proofs.bit_set.BitSetCellSet.add.Goals.{After-read_mark}

read : (c : After-read_mark) → c.read_mark.result ≡ get_or c.args.self.now c.args.cell false
read c = c.read_mark.ensures ∙ ap (λ s. is_marked s c.args.cell) c.deref.ensures.value
    ∙ reads c.self.inside.words.items c.self.inside.cells c.args.self.now c.self.view_is c.args.cell c.requires

pub read_mark-requires : goal.read_mark-requires
read_mark-requires c =
    subst (λ (s : List ℕ). c.args.cell / 64 < length s) (sym c.deref.ensures.value)
    (in_words c.self.inside.words.items c.self.inside.cells c.args.self.now c.self.view_is c.args.cell c.requires
    c.self.invariant.0)

pub returns-then-read_mark-clause-added : goal.returns-then-read_mark-clause-added
returns-then-read_mark-clause-added c =
    sym
    (set_there c.args.self.now c.args.cell true
    (sym (read (goal.at.returns-then-read_mark-clause-added c).After-read_mark) ∙ c.if-read_mark.true))

pub returns-then-read_mark-clause-fresh : goal.returns-then-read_mark-clause-fresh
returns-then-read_mark-clause-fresh c =
    sym (ap not (sym (read (goal.at.returns-then-read_mark-clause-fresh c).After-read_mark) ∙ c.if-read_mark.true))

pub write_mark-requires : goal.write_mark-requires
write_mark-requires c =
    in_words c.self.inside.words.items c.self.inside.cells c.args.self.now c.self.view_is c.args.cell c.requires
    c.self.invariant.0

pub overflow_add-self : goal.overflow_add-self
overflow_add-self c =
    let absent = sym (read (goal.at.overflow_add-self c).After-read_mark) ∙ c.if-read_mark.false in
    omega (
      arith,
      c.self.ranges,
      room_for_one c.self.inside.words.items c.self.inside.cells c.args.self.now c.self.view_is c.self.inside.members
          c.args.cell c.self.invariant.1 c.requires absent,
    )

pub invariant_of-self : goal.invariant_of-self
invariant_of-self c =
    let absent = sym (read (goal.at.invariant_of-self c).After-read_mark) ∙ c.if-read_mark.false in (
      c.write_mark.ensures.len ∙ c.self.invariant.0,
      one_more c.self.inside.words.items c.self.inside.cells c.args.self.now c.self.view_is c.self.inside.members
          c.args.cell c.self.invariant.1 c.requires c.write_mark.new.words.items absent c.write_mark.ensures.marks,
    )

pub returns-clause-added : goal.returns-clause-added
returns-clause-added c =
    written c.self.inside.words.items c.self.inside.cells c.args.self.now c.self.view_is c.write_mark.new.words.items
    c.args.cell true c.write_mark.ensures.marks

pub returns-clause-fresh : goal.returns-clause-fresh
returns-clause-fresh c =
    sym (ap not (sym (read (goal.at.returns-clause-fresh c).After-read_mark) ∙ c.if-read_mark.false))
