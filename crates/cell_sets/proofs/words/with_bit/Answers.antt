use Rattle.std.proofs.Common.{ℕ, cond, sym, ap, ◌∙◌, w64}
use Rattle.std.proofs.lemmas.Nat.Bits.{bit_at_set_same, bit_at_set_other, bit_at_clear_same, bit_at_clear_other}
use Rattle.cell_sets.proofs.words.with_bit.Goals as goal

pub returns-then-bit-clause-bit : goal.returns-then-bit-clause-bit
returns-then-bit-clause-bit c =
    bit_at_set_same w64 c.args.word c.args.place c.requires ∙ sym (ap (λ b. cond {A = ℕ} b 1 0) c.if-bit.true)

pub returns-then-bit-clause-others : goal.returns-then-bit-clause-others
returns-then-bit-clause-others c = λ i small apart. bit_at_set_other w64 c.args.word c.args.place c.requires i apart

pub returns-else-bit-clause-bit : goal.returns-else-bit-clause-bit
returns-else-bit-clause-bit c =
    bit_at_clear_same w64 c.args.word c.args.place c.requires ∙ sym (ap (λ b. cond {A = ℕ} b 1 0) c.if-bit.false)

pub returns-else-bit-clause-others : goal.returns-else-bit-clause-others
returns-else-bit-clause-others c = bit_at_clear_other w64 c.args.word c.args.place c.requires
