use Rattle.std.proofs.Common.{◌≡◌, ℕ, ◌^◌, ◌<◌, ◌≤◌, inl, inr, subst, bit_and, bit_or, arith}
use Rattle.std.specs.Int.{bit_not, w16}
use Rattle.std.proofs.lemmas.Bool.{cases_lt}
use Rattle.std.proofs.lemmas.Nat.{and_le_l}
use Rattle.move_table.proofs.CutLemmas.{known_last}
use Rattle.move_table.proofs.effect.next_known.Goals as goal
use Rattle.move_table.proofs.effect.next_known.Goals.{then-from-bits, else-from-bits}

pub loop-w-init : goal.loop-w-init
loop-w-init c mask from less has = elim c.if-from-bits.branch [
  | then-from-bits w ↦ absurd (omega (arith, less, w.first-is, has, and_le_l mask c.args.known))
  | else-from-bits w ↦ absurd (omega (arith, less, w.first-is, from))
]

pub returns-then-last-w : goal.returns-then-last-w
returns-then-last-w c mask from less has = elim (cases_lt mask c.loop-w.w) [
  | inl before ↦ c.loop-w.invariant mask from before has
  | inr later ↦ let fits : c.args.known < 2 ^ 16 = c.ranges.known.fits in
      let most : c.args.to < 2 ^ 16 = c.ranges.to.fits in
      let last : mask ≤ bit_or c.args.bits (bit_not w16 c.args.known) =
      known_last mask c.args.known c.args.bits (omega (arith, less, most)) fits has in
      let past : bit_or c.args.bits (bit_not w16 c.args.known) < c.loop-w.w = c.if-last-w.true in
      absurd (omega (arith, later, last, past))
]

pub returns-then-w-known : goal.returns-then-w-known
returns-then-w-known c =
    let begins = c.loop-w.auto.w in (
      elim c.if-from-bits.branch [
        | then-from-bits w ↦ omega (arith, begins, w.first-is, w.if-from-bits)
        | else-from-bits w ↦ omega (arith, begins, w.first-is, w.if-from-bits)
      ],
      c.loop-w-test.true,
      c.if-w-known.true,
      c.loop-w.invariant,
    )

pub loop-w-preserved : goal.loop-w-preserved
loop-w-preserved c mask from less has = elim (cases_lt mask c.loop-w.w) [
  | inl before ↦ c.loop-w.invariant mask from before has
  | inr later ↦ let same : mask ≡ c.loop-w.w = omega (arith, less, later) in
      c.if-w-known.false (subst (λ (n : ℕ). bit_and n c.args.known ≡ c.args.bits) same has)
]

pub returns : goal.returns
returns c mask from less has = c.loop-w.invariant mask from (omega (arith, less, c.loop-w-test.false)) has
