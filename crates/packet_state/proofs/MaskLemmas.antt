-- The bits of the answers.
use Rattle.std.proofs.Common.{◌≡◌, ℕ, ◌+◌, ◌*◌, ◌/◌, ◌^◌, ◌<◌, zero, suc, Bool, true, false, List, [], ◌∷◌, length, map}
use Rattle.std.proofs.Common.{Some, sym, ap, subst, ◌∙◌, ◌↔◌, arith}
use Rattle.std.specs.Prelude.{slice_get}
use Rattle.std.specs.Int.{bit_at}
use Rattle.std.specs.Option.{option_map}
use Rattle.std.proofs.Math.Nat.{pow-suc}
use Rattle.std.proofs.lemmas.Nat.Bits.{bit_at_lowest, bit_at-suc}
use Rattle.std.proofs.lemmas.Option.{slice_get-map}
use Rattle.std.proofs.lemmas.List.{length-map}
use Rattle.box_contents.specs.declared.entry.Entry.{Entry}
use Rattle.box_contents.specs.Laws.{HeldIsMember}
use Rattle.box_handlers.specs.declared.act.Query.{Query}
use Rattle.box_executions.specs.Environment.{Environment, entry_in}
use Rattle.packet_state.specs.Answers.{mask_of, answer_in, answers_in}
use Rattle.packet_state.specs.Laws.{AreBits}

pub mask_below : (bits : List Bool) → mask_of bits < 2 ^ length bits
mask_below [] = omega arith
mask_below (true ∷ bits) = let rest = mask_below bits in omega (arith, rest, pow-suc 2 (length bits))
mask_below (false ∷ bits) = let rest = mask_below bits in omega (arith, rest, pow-suc 2 (length bits))

pub small_mask : (bits : List Bool) (n mask : ℕ) → length bits ≡ n → mask_of bits ≡ mask → mask < 2 ^ n
small_mask bits n mask long same =
    subst (λ (m : ℕ). m < 2 ^ n) same (subst (λ (k : ℕ). mask_of bits < 2 ^ k) long (mask_below bits))

-- a bit is 1 exactly where its member is true
pub bit_of : (bits : List Bool) (k : ℕ) (bit : Bool) → slice_get bits k ≡ Some bit →
    (bit_at (mask_of bits) k ≡ 1) ↔ (bit ≡ true)
bit_of [] k bit e = absurd (cc)
bit_of (true ∷ bits) zero bit e = (λ one. cc, λ is. omega (arith, bit_at_lowest (1 + 2 * mask_of bits)))
bit_of (false ∷ bits) zero bit e = (
  λ one. absurd (omega (arith, one, bit_at_lowest (2 * mask_of bits))),
  λ is. absurd (cc),
)
bit_of (true ∷ bits) (suc k) bit e =
    let half : (1 + 2 * mask_of bits) / 2 ≡ mask_of bits = omega arith in
    let same : bit_at (1 + 2 * mask_of bits) (suc k) ≡ bit_at (mask_of bits) k =
    bit_at-suc (1 + 2 * mask_of bits) k ∙ ap (λ n. bit_at n k) half in
    let rest = bit_of bits k bit e in (λ one. rest.0 (sym same ∙ one), λ is. same ∙ rest.1 is)
bit_of (false ∷ bits) (suc k) bit e =
    let half : (2 * mask_of bits) / 2 ≡ mask_of bits = omega arith in
    let same : bit_at (2 * mask_of bits) (suc k) ≡ bit_at (mask_of bits) k =
    bit_at-suc (2 * mask_of bits) k ∙ ap (λ n. bit_at n k) half in
    let rest = bit_of bits k bit e in (λ one. rest.0 (sym same ∙ one), λ is. same ∙ rest.1 is)

pub answers_below : (env : Environment) (queries : List Query) (contents : List Entry) →
    answers_in env queries contents < 2 ^ length queries
answers_below env queries contents =
    subst (λ n. answers_in env queries contents < 2 ^ n) (length-map queries (answer_in env contents))
    (mask_below (map (answer_in env contents) queries))

pub answers_are_bits : HeldIsMember → (env : Environment) (queries : List Query) (contents : List Entry) →
    AreBits env queries contents
answers_are_bits law env queries contents = record {
  each = λ k query found.
      let there : slice_get (map (answer_in env contents) queries) k ≡ Some (answer_in env contents query) =
      slice_get-map (answer_in env contents) queries k ∙ ap (option_map (answer_in env contents)) found in
      let bit = bit_of (map (answer_in env contents) queries) k (answer_in env contents query) there in
      let held = law contents (entry_in env query) in (λ one. held.0 (bit.0 one), λ has. bit.1 (held.1 has));
  below = answers_below env queries contents;
}
