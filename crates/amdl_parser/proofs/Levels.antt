-- What a reading at n levels is, by the readings at one level less.
use Rattle.std.proofs.Common.{◌≡◌, ◌<◌, ◌-◌, ℕ, zero, suc, List, Result, Ok, Err, refl, ◌∙◌, arith}
use Rattle.std.specs.Prelude.{if◌then◌else◌}
use Rattle.amdl_tree.specs.declared.token.Lexed.{Lexed}
use Rattle.amdl_tree.specs.declared.token.Token.{Token}
use Rattle.amdl_tree.specs.declared.token.Token.TheVariants.{Key, Sign as Signed}
use Rattle.amdl_tree.specs.declared.token.Sign.TheVariants as signs
use Rattle.amdl_tree.specs.declared.reserved.Reserved.TheVariants as words
use Rattle.amdl_parser.specs.declared.fault.Fault.{Fault}
use Rattle.amdl_parser.specs.declared.fault.Fault.TheVariants.{Syntax, Deep, NoMemory}
use Rattle.amdl_parser.specs.Reading.{Answer, Reads, tokens_of, too_deep, made_at, fixed_at, begins, refused}
use Rattle.amdl_parser.specs.Grammar.{true_of, has_at, compared_at, lit_at, not_at, denied_at, group_at, grouped_at}
use Rattle.amdl_parser.specs.Grammar.{guard_at, any_at, conj_at, insert_of, remove_of, update_at, output_at, abort_at}
use Rattle.amdl_parser.specs.Grammar.{choose_at, chosen_at, pick_at, picked_at, block_at, statements_at, branch_at}
use Rattle.amdl_parser.specs.Grammar.{branches_at, stmt_at}

pub lit_is : (n : ℕ) (ts : List Token) → lit_at n ts ≡
    (if begins (Key words.True) ts then made_at true_of (fixed_at (Key words.True)) ts
    else (if begins (Key words.Has) ts then has_at ts
    else (if begins (Key words.Not) ts then not_at n ts
    else (if begins (Signed signs.OpenParen) ts then group_at n ts
    else compared_at ts))))
unfolding lit_at has_at not_at denied_at group_at grouped_at guard_at any_at conj_at compared_at
lit_is zero ts = refl
lit_is (suc n) ts = refl

pub stmt_is : (n : ℕ) (ts : List Token) → stmt_at n ts ≡
    (if begins (Key words.Insert) ts then made_at insert_of (update_at words.Insert) ts
    else (if begins (Key words.Remove) ts then made_at remove_of (update_at words.Remove) ts
    else (if begins (Key words.Output) ts then output_at ts
    else (if begins (Key words.Abort) ts then abort_at ts
    else (if begins (Key words.If) ts then choose_at n ts
    else (if begins (Key words.Pick) ts then pick_at n ts
    else refused ts))))))
unfolding stmt_at choose_at chosen_at pick_at picked_at block_at statements_at branch_at branches_at
stmt_is zero ts = refl
stmt_is (suc n) ts = refl

-- a result of a reading is one of a reading that is the same
pub reads_as : {A : Type 0} (part other : List Token → Answer A) (before after : List Lexed) (r : Result A Fault) →
    ((ts : List Token) → other ts ≡ part ts) → Reads part before after r → Reads other before after r
reads_as part other before after (Ok x) same h = same (tokens_of before) ∙ h
reads_as part other before after (Err (Syntax n)) same h = same (tokens_of before) ∙ h
reads_as part other before after (Err (Deep n)) same h = same (tokens_of before) ∙ h
reads_as part other before after (Err NoMemory) same h = tt

pub not_lowest : (n : ℕ) (ts : List Token) → n ≡ 0 → not_at n ts ≡ too_deep ts
unfolding not_at
not_lowest zero ts e = refl
not_lowest (suc n) ts e = absurd (omega (arith, e))

pub not_lower : (n : ℕ) (ts : List Token) → 0 < n → not_at n ts ≡ denied_at (n - 1) ts
unfolding not_at
not_lower zero ts e = absurd (omega (arith, e))
not_lower (suc n) ts e =
    let less : suc n - 1 ≡ n = omega arith in
    rw less refl

pub group_lowest : (n : ℕ) (ts : List Token) → n ≡ 0 → group_at n ts ≡ too_deep ts
unfolding group_at
group_lowest zero ts e = refl
group_lowest (suc n) ts e = absurd (omega (arith, e))

pub group_lower : (n : ℕ) (ts : List Token) → 0 < n → group_at n ts ≡ grouped_at (n - 1) ts
unfolding group_at
group_lower zero ts e = absurd (omega (arith, e))
group_lower (suc n) ts e =
    let less : suc n - 1 ≡ n = omega arith in
    rw less refl

pub choose_lowest : (n : ℕ) (ts : List Token) → n ≡ 0 → choose_at n ts ≡ too_deep ts
unfolding choose_at
choose_lowest zero ts e = refl
choose_lowest (suc n) ts e = absurd (omega (arith, e))

pub choose_lower : (n : ℕ) (ts : List Token) → 0 < n → choose_at n ts ≡ chosen_at (n - 1) ts
unfolding choose_at
choose_lower zero ts e = absurd (omega (arith, e))
choose_lower (suc n) ts e =
    let less : suc n - 1 ≡ n = omega arith in
    rw less refl

pub pick_lowest : (n : ℕ) (ts : List Token) → n ≡ 0 → pick_at n ts ≡ too_deep ts
unfolding pick_at
pick_lowest zero ts e = refl
pick_lowest (suc n) ts e = absurd (omega (arith, e))

pub pick_lower : (n : ℕ) (ts : List Token) → 0 < n → pick_at n ts ≡ picked_at (n - 1) ts
unfolding pick_at
pick_lower zero ts e = absurd (omega (arith, e))
pick_lower (suc n) ts e =
    let less : suc n - 1 ≡ n = omega arith in
    rw less refl
