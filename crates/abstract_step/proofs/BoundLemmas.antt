-- How many results a block has, and how long they are.
use Rattle.std.proofs.Common.{◌≡◌, ℕ, zero, suc, ◌+◌, ◌*◌, ◌≤◌, Bool, true, false, List, [], ◌∷◌, ◌++◌, length}
use Rattle.std.proofs.Common.{inl, inr, sym, subst, arith}
use Rattle.std.specs.Prelude.{All}
use Rattle.std.specs.List.{Contains, flat_map, range_with_len}
use Rattle.std.proofs.lemmas.Nat.{mul-le}
use Rattle.std.proofs.lemmas.List.{length-append}
use Rattle.std.proofs.lemmas.List.Elements.{Contains-append_cases}
use Rattle.std.proofs.lemmas.List.Sums.{sum_by-cons}
use Rattle.box_masks.specs.declared.write.Write.{Write}
use Rattle.abstract_step.specs.declared.put.Put.{Put}
use Rattle.box_contents.specs.declared.entry.Entry.{Entry}
use Rattle.box_handlers.specs.Body.{Body, Stop, Writes, Emit, Halt, Fork, Each, Branches, NoBranch, OneBranch}
use Rattle.box_handlers.specs.Fits.{Surroundings, Fits, BranchesFit}
use Rattle.box_handlers.specs.Size.{statements_of, statements_of_branches, paths_of, paths_of_branches}
use Rattle.net_plan.proofs.Rising.{head_contained, tail_contained, none_contained}
use Rattle.net_runs.proofs.ListLemmas.{all_get}
use Rattle.handler_runs.specs.Reading.{Scene, with_value, entry_by, packet_by, holds_by, any_holds}
use Rattle.abstract_step.specs.Masks.{marked}
use Rattle.abstract_step.specs.Paths.{Partial, wrote, put_out, aborted, Behind, where_true, where_false, paths, chosen}
use Rattle.abstract_step.specs.Step.{Result}
use Rattle.abstract_step.specs.Walk.{writes_in, puts_in}
use Rattle.abstract_step.proofs.MemberLemmas.{only_one, out_of_range}

fewer_true : (b : Bool) (xs : List Result) → length (where_true b xs) ≤ length xs
fewer_true true xs = omega arith
fewer_true false xs = omega arith

fewer_false : (b : Bool) (xs : List Result) → length (where_false b xs) ≤ length xs
fewer_false true xs = omega arith
fewer_false false xs = omega arith

range_few : (f : ℕ → List Result) (first many most : ℕ) → ((value : ℕ) → length (f value) ≤ most) →
    length (flat_map f (range_with_len first many)) ≤ many * most
range_few f first zero most each = omega arith
range_few f first (suc many) most each =
    let rest = range_few f (first + 1) many most each in
    let here = each first in
    let whole : length (f first ++ flat_map f (range_with_len (first + 1) many))
    ≡ length (f first) + length (flat_map f (range_with_len (first + 1) many)) =
    length-append (f first) (flat_map f (range_with_len (first + 1) many)) in
    let shape : suc many * most ≡ most + many * most = omega arith in
    omega (arith, rest, here, whole, shape)

module _ (around : Surroundings) (kinds : All (λ size. 1 ≤ size) around.sizes) where
  -- each block has a path, since each pick has a value
  some_paths : (body : Body) (picks : List ℕ) → Fits around body picks → 1 ≤ paths_of body
  some_paths Stop picks fits = omega arith
  some_paths (Writes query add rest) picks fits = some_paths rest picks fits.1
  some_paths (Emit port changes rest) picks fits = some_paths rest picks fits.3
  some_paths (Halt rest) picks fits = some_paths rest picks fits
  some_paths (Fork branches rest) picks fits =
      let one = some_paths rest picks fits.1 in
      let all : 1 * 1 ≤ (paths_of_branches branches + 1) * paths_of rest =
      mul-le 1 1 (paths_of_branches branches + 1) (paths_of rest) (omega arith) one in
      omega (arith, all)
  some_paths (Each values body rest) picks fits =
      let value : 1 ≤ values = all_get (λ size. 1 ≤ size) around.sizes fits.0.0 values kinds fits.0.1 in
      let one = some_paths body (picks ++ values ∷ []) fits.1 in
      let two = some_paths rest picks fits.2 in
      let first : 1 * 1 ≤ values * paths_of body = mul-le 1 1 values (paths_of body) value one in
      let all : 1 * 1 ≤ values * paths_of body * paths_of rest =
      mul-le 1 1 (values * paths_of body) (paths_of rest) (omega (arith, first)) two in
      omega (arith, all)

  mutual
    pub few_paths : (body : Body) (picks : List ℕ) → Fits around body picks → (tuples : List Entry) (scene : Scene)
        (behind : Behind) (most : ℕ) → 1 ≤ most → ((now : Partial) → length (behind now) ≤ most) → (now : Partial) →
        length (paths body tuples scene behind now) ≤ paths_of body * most
    few_paths Stop picks fits tuples scene behind most some few now = let one = few now in omega (arith, one)
    few_paths (Writes query add rest) picks fits tuples scene behind most some few now =
        few_paths rest picks fits.1 tuples scene behind most some few (wrote tuples now (entry_by scene query) add)
    few_paths (Emit port changes rest) picks fits tuples scene behind most some few now =
        few_paths rest picks fits.3 tuples scene behind most some few (put_out now port (packet_by scene changes))
    few_paths (Halt rest) picks fits tuples scene behind most some few now =
        let all : 1 * 1 ≤ paths_of rest * most = mul-le 1 1 (paths_of rest) most (some_paths rest picks fits) some in
        omega (arith, all)
    few_paths (Fork branches rest) picks fits tuples scene behind most some few now =
        let later : ℕ = paths_of rest * most in
        let lower : 1 * 1 ≤ later = mul-le 1 1 (paths_of rest) most (some_paths rest picks fits.1) some in
        let on : (s : Partial) → length (paths rest tuples scene behind s) ≤ later =
        few_paths rest picks fits.1 tuples scene behind most some few in
        let xs : List Result = chosen branches tuples scene (paths rest tuples scene behind) now in
        let ys : List Result = paths rest tuples scene behind now in
        let any : Bool = any_holds scene (marked tuples now.mask) branches in
        let one : length xs ≤ paths_of_branches branches * later =
        few_chosen branches picks fits.0 tuples scene (paths rest tuples scene behind) later (omega (arith, lower)) on
        now in
        let two : length ys ≤ later = on now in
        let three : length (where_false any ys) ≤ length ys = fewer_false any ys in
        let whole : length (xs ++ where_false any ys) ≡ length xs + length (where_false any ys) =
        length-append xs (where_false any ys) in
        let shape : (paths_of_branches branches + 1) * paths_of rest * most
        ≡ paths_of_branches branches * (paths_of rest * most) + paths_of rest * most = omega arith in
        omega (arith, one, two, three, whole, shape)
    few_paths (Each values body rest) picks fits tuples scene behind most some few now =
        let later : ℕ = paths_of rest * most in
        let lower : 1 * 1 ≤ later = mul-le 1 1 (paths_of rest) most (some_paths rest picks fits.2) some in
        let on : (s : Partial) → length (paths rest tuples scene behind s) ≤ later =
        few_paths rest picks fits.2 tuples scene behind most some few in
        let all =
        range_few (λ value. paths body tuples (with_value scene value) (paths rest tuples scene behind) now) 0 values
        (paths_of body * later)
        (λ value. few_paths body (picks ++ values ∷ []) fits.1 tuples (with_value scene value)
        (paths rest tuples scene behind) later (omega (arith, lower)) on now) in
        let shape : values * paths_of body * paths_of rest * most
        ≡ values * (paths_of body * (paths_of rest * most)) = omega arith in
        omega (arith, all, shape)

    few_chosen : (branches : Branches) (picks : List ℕ) → BranchesFit around branches picks → (tuples : List Entry)
        (scene : Scene) (behind : Behind) (most : ℕ) → 1 ≤ most → ((now : Partial) → length (behind now) ≤ most) →
        (now : Partial) → length (chosen branches tuples scene behind now) ≤ paths_of_branches branches * most
    few_chosen NoBranch picks fits tuples scene behind most some few now = omega arith
    few_chosen (OneBranch guard body more) picks fits tuples scene behind most some few now =
        let holds : Bool = holds_by scene (marked tuples now.mask) guard in
        let xs : List Result = paths body tuples scene behind now in
        let ys : List Result = chosen more tuples scene behind now in
        let one = few_paths body picks fits.1 tuples scene behind most some few now in
        let two = few_chosen more picks fits.2 tuples scene behind most some few now in
        let three : length (where_true holds xs) ≤ length xs = fewer_true holds xs in
        let whole : length (where_true holds xs ++ ys) ≡ length (where_true holds xs) + length ys =
        length-append (where_true holds xs) ys in
        let shape : (paths_of body + paths_of_branches more) * most
        ≡ paths_of body * most + paths_of_branches more * most = omega arith in
        omega (arith, one, two, three, whole, shape)

-- a result has so many writes and puts more than the path so far
pub record IsShort (now : Partial) (more : ℕ) (result : Result) : Type 0 where
  pub writes : length result.writes ≤ length now.writes + more
  pub puts : length result.puts ≤ length now.puts + more

abbrev AreShort : Partial → ℕ → List Result → Type 0
AreShort now more results = (result : Result) → Contains results result → IsShort now more result

longer : (now : Partial) (some more : ℕ) (result : Result) → some ≤ more → IsShort now some result →
    IsShort now more result
longer now some more result less short =
    record { writes = omega (arith, short.writes, less); puts = omega (arith, short.puts, less) }

short_true : (b : Bool) (now : Partial) (more : ℕ) (xs : List Result) → AreShort now more xs →
    AreShort now more (where_true b xs)
short_true true now more xs short = short
short_true false now more xs short = λ result there. absurd (none_contained result there)

short_false : (b : Bool) (now : Partial) (more : ℕ) (xs : List Result) → AreShort now more xs →
    AreShort now more (where_false b xs)
short_false true now more xs short = λ result there. absurd (none_contained result there)
short_false false now more xs short = short

short_both : (now : Partial) (more : ℕ) (xs ys : List Result) → AreShort now more xs → AreShort now more ys →
    AreShort now more (xs ++ ys)
short_both now more xs ys one two result there =
    elim (Contains-append_cases xs ys result there) [ inl a ↦ one result a | inr b ↦ two result b ]

mutual
  pub short_paths : (body : Body) (tuples : List Entry) (scene : Scene) (behind : Behind) (more : ℕ) →
      ((now : Partial) → AreShort now more (behind now)) → (now : Partial) →
      AreShort now (statements_of body + more) (paths body tuples scene behind now)
  short_paths Stop tuples scene behind more short now result there =
      longer now more (0 + more) result (omega arith) (short now result there)
  short_paths (Writes query add rest) tuples scene behind more short now result there =
      let write : Write = record { entry = entry_by scene query; add = add } in
      let one = short_paths rest tuples scene behind more short (wrote tuples now (entry_by scene query) add) result
      there in
      let long : length (now.writes ++ write ∷ []) ≡ length now.writes + 1 = length-append now.writes (write ∷ []) in
      record { writes = omega (arith, one.writes, long); puts = omega (arith, one.puts) }
  short_paths (Emit port changes rest) tuples scene behind more short now result there =
      let put : Put = record { port = port; packet = packet_by scene changes } in
      let one = short_paths rest tuples scene behind more short (put_out now port (packet_by scene changes)) result
      there in
      let long : length (now.puts ++ put ∷ []) ≡ length now.puts + 1 = length-append now.puts (put ∷ []) in
      record { writes = omega (arith, one.writes); puts = omega (arith, one.puts, long) }
  short_paths (Halt rest) tuples scene behind more short now result there =
      subst (λ (r : Result). IsShort now (statements_of (Halt rest) + more) r) (sym (only_one aborted result there))
      (record { writes = omega arith; puts = omega arith })
  short_paths (Fork branches rest) tuples scene behind more short now result there =
      let later : ℕ = statements_of rest + more in
      let some : ℕ = statements_of_branches branches + later in
      let xs : List Result = chosen branches tuples scene (paths rest tuples scene behind) now in
      let ys : List Result = paths rest tuples scene behind now in
      let any : Bool = any_holds scene (marked tuples now.mask) branches in
      let one = short_chosen branches tuples scene (paths rest tuples scene behind) later
      (short_paths rest tuples scene behind more short) now in
      let two : AreShort now some ys = λ r in'. longer now later some r (omega arith)
      (short_paths rest tuples scene behind more short now r in') in
      longer now some (statements_of (Fork branches rest) + more) result (omega arith)
      (short_both now some xs (where_false any ys) one (short_false any now some ys two) result there)
  short_paths (Each values body rest) tuples scene behind more short now result there =
      let f : ℕ → List Result =
      λ value. paths body tuples (with_value scene value) (paths rest tuples scene behind) now in
      let later : ℕ = statements_of rest + more in
      let found = out_of_range f result 0 values there in
      longer now (statements_of body + later) (statements_of (Each values body rest) + more) result (omega arith)
      (short_paths body tuples (with_value scene found.0) (paths rest tuples scene behind) later
      (short_paths rest tuples scene behind more short) now result found.2)

  short_chosen : (branches : Branches) (tuples : List Entry) (scene : Scene) (behind : Behind) (more : ℕ) →
      ((now : Partial) → AreShort now more (behind now)) → (now : Partial) →
      AreShort now (statements_of_branches branches + more) (chosen branches tuples scene behind now)
  short_chosen NoBranch tuples scene behind more short now result there = absurd (none_contained result there)
  short_chosen (OneBranch guard body others) tuples scene behind more short now result there =
      let some : ℕ = statements_of body + statements_of_branches others + more in
      let holds : Bool = holds_by scene (marked tuples now.mask) guard in
      let xs : List Result = paths body tuples scene behind now in
      let ys : List Result = chosen others tuples scene behind now in
      let one : AreShort now some xs = λ r in'. longer now (statements_of body + more) some r (omega arith)
      (short_paths body tuples scene behind more short now r in') in
      let two : AreShort now some ys = λ r in'. longer now (statements_of_branches others + more) some r (omega arith)
      (short_chosen others tuples scene behind more short now r in') in
      short_both now some (where_true holds xs) ys (short_true holds now some xs one) two result there

one_more_time : (n most : ℕ) → suc n * most ≡ most + n * most
one_more_time n most = omega arith

-- so all of them together
pub few_writes : (results : List Result) (most : ℕ) →
    ((result : Result) → Contains results result → length result.writes ≤ most) →
    writes_in results ≤ length results * most
few_writes [] most each = omega arith
few_writes (result ∷ results) most each =
    let here = each result (head_contained result results) in
    let rest = few_writes results most (λ r there. each r (tail_contained result r results there)) in
    let shape : length (result ∷ results) * most ≡ most + length results * most =
    one_more_time (length results) most in
    let whole : writes_in (result ∷ results) ≡ length result.writes + writes_in results =
    sum_by-cons (λ (r : Result). length r.writes) result results in
    omega (arith, here, rest, shape, whole)

pub few_puts : (results : List Result) (most : ℕ) →
    ((result : Result) → Contains results result → length result.puts ≤ most) →
    puts_in results ≤ length results * most
few_puts [] most each = omega arith
few_puts (result ∷ results) most each =
    let here = each result (head_contained result results) in
    let rest = few_puts results most (λ r there. each r (tail_contained result r results there)) in
    let shape : length (result ∷ results) * most ≡ most + length results * most =
    one_more_time (length results) most in
    let whole : puts_in (result ∷ results) ≡ length result.puts + puts_in results =
    sum_by-cons (λ (r : Result). length r.puts) result results in
    omega (arith, here, rest, shape, whole)
