-- Results that are found one after another, and the room for them.
use Rattle.std.proofs.Common.{◌≡◌, ℕ, ◌+◌, ◌-◌, ◌≤◌, List, [], ◌∷◌, ◌++◌, length, take}
use Rattle.std.proofs.Common.{drop, map, refl, sym, ap, subst, ◌∙◌, append_assoc, append-nil, arith}
use Rattle.std.specs.Prelude.{All}
use Rattle.std.specs.Vec.{vec_len, vec_capacity}
use Rattle.std.proofs.Math.Seq.{drop-append_seam, take-length}
use Rattle.std.proofs.lemmas.List.{length-append, length-drop, map-append, drop-append-le, take-append-le}
use Rattle.std.proofs.lemmas.List.Sums.{sum_by-append}
use Rattle.std.proofs.lemmas.List.Elements.{All-append, recursion_from_All, All-from_recursion}
use Rattle.std.specs.List.{AllByRecursion}
use Rattle.box_masks.specs.declared.write.Write.{Write}
use Rattle.abstract_step.specs.declared.put.Put.{Put}
use Rattle.abstract_step.specs.declared.found.Ending.{Ending}
use Rattle.abstract_step.specs.declared.found.Found.{Found}
use Rattle.abstract_step.specs.Found.{between, result_of, results_of, IsWithin, AreWithin}
use Rattle.abstract_step.specs.Step.{Result}
use Rattle.abstract_step.specs.Walk.{HasRoom, Gains, HasFound, writes_in, puts_in}

-- what stands behind changes no part of a list
between_more : {X : Type 0} (xs ys : List X) (from to : ℕ) → from ≤ to → to ≤ length xs →
    between (xs ++ ys) from to ≡ between xs from to
between_more xs ys from to less within =
    let long : length (drop from xs) ≡ length xs - from = length-drop from xs in
    ap (take (to - from)) (drop-append-le from xs ys (omega (arith, less, within)))
    ∙ take-append-le (to - from) (drop from xs) ys (omega (arith, less, within, long))

between_end : {X : Type 0} (xs ys : List X) (from to : ℕ) → from ≡ length xs → to ≡ length xs + length ys →
    between (xs ++ ys) from to ≡ ys
between_end xs ys from to is_from is_to =
    let count : to - from ≡ length ys = omega (arith, is_from, is_to) in
    ap (λ (n : ℕ). take n (drop from (xs ++ ys))) count
    ∙ ap (λ (n : ℕ). take (length ys) (drop n (xs ++ ys))) is_from
    ∙ ap (take (length ys)) (drop-append_seam xs ys) ∙ take-length ys

module _ (writes new_writes : List Write) (puts new_puts : List Put) where
  result_kept : (ending : Ending) → IsWithin (length writes) (length puts) ending →
      result_of (writes ++ new_writes) (puts ++ new_puts) ending ≡ result_of writes puts ending
  result_kept ending is = λ i. record {
    aborted = ending.aborted;
    writes = between_more writes new_writes ending.writes_from ending.writes_to is.writes_from is.writes_to i;
    puts = between_more puts new_puts ending.puts_from ending.puts_to is.puts_from is.puts_to i;
  }

  results_kept : (endings : List Ending) → AllByRecursion (IsWithin (length writes) (length puts)) endings →
      map (result_of (writes ++ new_writes) (puts ++ new_puts)) endings ≡ map (result_of writes puts) endings
  results_kept [] are = refl
  results_kept (ending ∷ endings) are =
      ap (λ r. r ∷ map (result_of (writes ++ new_writes) (puts ++ new_puts)) endings) (result_kept ending are.0)
      ∙ ap (λ (l : List Result). result_of writes puts ending ∷ l) (results_kept endings are.1)

  within_more : (ending : Ending) → IsWithin (length writes) (length puts) ending →
      IsWithin (length (writes ++ new_writes)) (length (puts ++ new_puts)) ending
  within_more ending is =
      let w : length (writes ++ new_writes) ≡ length writes + length new_writes = length-append writes new_writes in
      let p : length (puts ++ new_puts) ≡ length puts + length new_puts = length-append puts new_puts in
      record {
        writes_from = is.writes_from;
        writes_to = omega (arith, is.writes_to, w);
        puts_from = is.puts_from;
        puts_to = omega (arith, is.puts_to, p);
      }

  all_within : (endings : List Ending) → AllByRecursion (IsWithin (length writes) (length puts)) endings →
      AllByRecursion (IsWithin (length (writes ++ new_writes)) (length (puts ++ new_puts))) endings
  all_within [] are = tt
  all_within (ending ∷ endings) are = (within_more ending are.0, all_within endings are.1)

-- one result more
pub gains_one : (old new : Found) (ending : Ending) (writes : List Write) (puts : List Put) → AreWithin old →
    new.endings.items ≡ old.endings.items ++ ending ∷ [] → new.writes.items ≡ old.writes.items ++ writes →
    new.puts.items ≡ old.puts.items ++ puts → ending.writes_from ≡ vec_len old.writes →
    ending.writes_to ≡ vec_len old.writes + length writes → ending.puts_from ≡ vec_len old.puts →
    ending.puts_to ≡ vec_len old.puts + length puts →
    (vec_capacity old.endings ≤ vec_capacity new.endings)
    × (vec_capacity old.writes ≤ vec_capacity new.writes) × (vec_capacity old.puts ≤ vec_capacity new.puts) →
    Gains old new (record { aborted = ending.aborted; writes = writes; puts = puts } ∷ [])
gains_one old new ending writes puts within is_endings is_writes is_puts w_from w_to p_from p_to room =
    let ow : vec_len old.writes ≡ length old.writes.items = old.writes.ok.0 in
    let op : vec_len old.puts ≡ length old.puts.items = old.puts.ok.0 in
    let oe : vec_len old.endings ≡ length old.endings.items = old.endings.ok.0 in
    let nw : vec_len new.writes ≡ length new.writes.items = new.writes.ok.0 in
    let np : vec_len new.puts ≡ length new.puts.items = new.puts.ok.0 in
    let ne : vec_len new.endings ≡ length new.endings.items = new.endings.ok.0 in
    let ws : List Write = old.writes.items in
    let ps : List Put = old.puts.items in
    let lw : length new.writes.items ≡ length ws + length writes = ap length is_writes ∙ length-append ws writes in
    let lp : length new.puts.items ≡ length ps + length puts = ap length is_puts ∙ length-append ps puts in
    let le : length new.endings.items ≡ length old.endings.items + 1 =
    ap length is_endings ∙ length-append old.endings.items (ending ∷ []) in
    let before : AllByRecursion (IsWithin (length ws) (length ps)) old.endings.items =
    recursion_from_All (IsWithin (length ws) (length ps)) old.endings.items within in
    let last : result_of (ws ++ writes) (ps ++ puts) ending
    ≡ record { aborted = ending.aborted; writes = writes; puts = puts } =
    λ i. record {
      aborted = ending.aborted;
      writes = between_end ws writes ending.writes_from ending.writes_to (w_from ∙ ow) (omega (arith, w_to, ow)) i;
      puts = between_end ps puts ending.puts_from ending.puts_to (p_from ∙ op) (omega (arith, p_to, op)) i;
    } in
    let shape : results_of new ≡ map (result_of (ws ++ writes) (ps ++ puts)) (old.endings.items ++ ending ∷ []) =
    λ i. map (result_of (is_writes i) (is_puts i)) (is_endings i) in
    let here : IsWithin (length new.writes.items) (length new.puts.items) ending =
    record {
      writes_from = omega (arith, w_from, w_to);
      writes_to = omega (arith, w_to, ow, lw);
      puts_from = omega (arith, p_from, p_to);
      puts_to = omega (arith, p_to, op, lp);
    } in
    let olds : AllByRecursion (IsWithin (length new.writes.items) (length new.puts.items)) old.endings.items =
    subst (λ (l : List Write). AllByRecursion (IsWithin (length l) (length new.puts.items)) old.endings.items)
    (sym is_writes)
    (subst (λ (l : List Put). AllByRecursion (IsWithin (length (ws ++ writes)) (length l)) old.endings.items)
    (sym is_puts)
    (all_within ws writes ps puts old.endings.items before)) in
    record {
      within = subst (λ (l : List Ending). All (IsWithin (length new.writes.items) (length new.puts.items)) l)
          (sym is_endings)
          (All-append (IsWithin (length new.writes.items) (length new.puts.items)) old.endings.items (ending ∷ [])
          (All-from_recursion (IsWithin (length new.writes.items) (length new.puts.items)) old.endings.items olds)
          (All-from_recursion (IsWithin (length new.writes.items) (length new.puts.items)) (ending ∷ [])
          (here, tt)));
      found = shape ∙ map-append (result_of (ws ++ writes) (ps ++ puts)) old.endings.items (ending ∷ [])
          ∙ ap (λ (l : List Result). l ++ result_of (ws ++ writes) (ps ++ puts) ending ∷ [])
          (results_kept ws writes ps puts old.endings.items before)
          ∙ ap (λ r. results_of old ++ r ∷ []) last;
      endings = omega (arith, oe, ne, le);
      writes = omega (arith, ow, nw, lw);
      puts = omega (arith, op, np, lp);
      room = room;
    }

-- nothing more
pub gains_none : (found : Found) → AreWithin found → Gains found found []
gains_none found within = record {
  within = within;
  found = sym (append-nil (results_of found));
  endings = omega arith;
  writes = omega arith;
  puts = omega arith;
  room = (omega arith, omega arith, omega arith);
}

pub gains_more : (old mid new : Found) (xs ys : List Result) → Gains old mid xs → Gains mid new ys →
    Gains old new (xs ++ ys)
gains_more old mid new xs ys one two =
    let w : writes_in (xs ++ ys) ≡ writes_in xs + writes_in ys = sum_by-append (λ r. length r.writes) xs ys in
    let p : puts_in (xs ++ ys) ≡ puts_in xs + puts_in ys = sum_by-append (λ r. length r.puts) xs ys in
    let e : length (xs ++ ys) ≡ length xs + length ys = length-append xs ys in
    record {
      within = two.within;
      found = two.found ∙ ap (λ (l : List Result). l ++ ys) one.found ∙ append_assoc (results_of old) xs ys;
      endings = omega (arith, one.endings, two.endings, e);
      writes = omega (arith, one.writes, two.writes, w);
      puts = omega (arith, one.puts, two.puts, p);
      room = (
        omega (arith, one.room.0, two.room.0),
        omega (arith, one.room.1, two.room.1),
        omega (arith, one.room.2, two.room.2),
      );
    }

pub room_first : (found : Found) (xs ys : List Result) → HasRoom found (xs ++ ys) → HasRoom found xs
room_first found xs ys room =
    let w : writes_in (xs ++ ys) ≡ writes_in xs + writes_in ys = sum_by-append (λ r. length r.writes) xs ys in
    let p : puts_in (xs ++ ys) ≡ puts_in xs + puts_in ys = sum_by-append (λ r. length r.puts) xs ys in
    let e : length (xs ++ ys) ≡ length xs + length ys = length-append xs ys in
    record {
      within = room.within;
      endings = omega (arith, room.endings, e);
      writes = omega (arith, room.writes, w);
      puts = omega (arith, room.puts, p);
    }

pub room_rest : (old mid : Found) (xs ys : List Result) → HasRoom old (xs ++ ys) → Gains old mid xs →
    HasRoom mid ys
room_rest old mid xs ys room gains =
    let w : writes_in (xs ++ ys) ≡ writes_in xs + writes_in ys = sum_by-append (λ r. length r.writes) xs ys in
    let p : puts_in (xs ++ ys) ≡ puts_in xs + puts_in ys = sum_by-append (λ r. length r.puts) xs ys in
    let e : length (xs ++ ys) ≡ length xs + length ys = length-append xs ys in
    record {
      within = gains.within;
      endings = omega (arith, room.endings, e, gains.endings, gains.room.0);
      writes = omega (arith, room.writes, w, gains.writes, gains.room.1);
      puts = omega (arith, room.puts, p, gains.puts, gains.room.2);
    }

-- a loop over results
module _ (old : Found) (whole : List Result) where
  pub nothing_yet : AreWithin old → HasFound old old whole whole
  nothing_yet within = record { gained = []; gains = gains_none old within; all = refl }

  pub room_for : (now : Found) (xs ys others : List Result) → HasRoom old whole → HasFound old now whole others →
      others ≡ xs ++ ys → HasRoom now xs
  room_for now xs ys others room has is =
      room_first now xs ys (room_rest old now has.gained (xs ++ ys)
      (subst (λ l. HasRoom old l) (has.all ∙ ap (λ (l : List Result). has.gained ++ l) is) room) has.gains)

  pub some_more : (now new : Found) (xs ys others : List Result) → HasFound old now whole others →
      others ≡ xs ++ ys → Gains now new xs → HasFound old new whole ys
  some_more now new xs ys others has is gains = record {
    gained = has.gained ++ xs;
    gains = gains_more old now new has.gained xs has.gains gains;
    all = has.all ∙ ap (λ (l : List Result). has.gained ++ l) is ∙ sym (append_assoc has.gained xs ys);
  }

  pub all_found : (now : Found) (others : List Result) → HasFound old now whole others → others ≡ [] →
      Gains old now whole
  all_found now others has none =
      subst (λ l. Gains old now l)
      (sym (has.all ∙ ap (λ (l : List Result). has.gained ++ l) none ∙ append-nil has.gained)) has.gains
