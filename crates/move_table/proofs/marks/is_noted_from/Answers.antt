use Rattle.std.proofs.Common.{◌≡◌, Bool, true, false, not, inl, inr, sym}
use Rattle.move_table.proofs.marks.is_noted_from.Goals as goal

pub returns-then-after-w : goal.returns-then-after-w
returns-then-after-w c holds contents are e = inr (sym c.if-after-w.true)

pub returns-then-has_move : goal.returns-then-has_move
returns-then-has_move c holds contents are e = inl (c.has_move.ensures c.if-has_move.true)

not_both : {P : Type 0} (b : Bool) → not b ≡ true → b ≡ true → P
not_both true one two = absurd (cc)
not_both false one two = absurd (cc)

pub returns : goal.returns
returns c holds contents are e = not_both c.agree.result holds (c.agree.ensures.1 (contents, are, e, e))
