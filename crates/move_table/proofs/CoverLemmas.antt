-- Which packets a site covers, and that any other packet that reads what changes is at two sites that aren't nested.
use Rattle.std.proofs.Common.{◌≡◌, ℕ, ◌-◌, ◌^◌, ◌<◌, ◌≤◌, ◌⊎◌, zero, suc, inl, inr, Bool, true, false, cond, not}
use Rattle.std.proofs.Common.{List, [], ◌∷◌, Option, Some, None, map, length, get_or, refl, sym, ap, subst, ◌∙◌, arith, bit_and, min, max}
use Rattle.std.specs.Prelude.{slice_get}
use Rattle.std.specs.Int.{bit_at}
use Rattle.std.specs.List.{Contains}
use Rattle.std.proofs.lemmas.Bool.{cases_lt}
use Rattle.std.proofs.lemmas.Nat.{and_le_r}
use Rattle.std.proofs.lemmas.Option.{slice_get_within, get_or_from_slice_get}
use Rattle.std.proofs.lemmas.Nat.Bits.{bit_at-lt, bit_at-zero, bit_at_and, same_from_bits}
use Rattle.box_contents.specs.declared.entry.Entry.{Entry}
use Rattle.box_contents.specs.Contents.{same_entry, holds_entry}
use Rattle.net_plan.specs.declared.plan.Plan.{Plan}
use Rattle.net_plan.specs.Plan.{packets_of, boxes_of}
use Rattle.net_plan.proofs.Rising.{head_contained, tail_contained}
use Rattle.packet_state.specs.Answers.{mask_of}
use Rattle.box_masks.specs.declared.write.Write.{Write}
use Rattle.box_masks.specs.Writes.{after_writes}
use Rattle.box_masks.specs.Bits.{with_bit, bit_after}
use Rattle.box_masks.proofs.BitLemmas.{AreBitsBy, bits_by, held_after, mask_with_bit}
use Rattle.box_masks.proofs.MaskLemmas.{answers_are}
use Rattle.box_moves.specs.Moves.{HasMove, masks_at}
use Rattle.query_tables.specs.Tables.{tuples_in, Reads}
use Rattle.query_tables.proofs.TableLemmas.{tuple_reads}
use Rattle.query_tables.specs.declared.sites.Site.{Site}
use Rattle.query_tables.specs.Sites.{Tables, IsMember, IsSite, IsSiteAt, IsSiteOf, bits_of}
use Rattle.move_table.specs.declared.effect.Effect.{Effect}
use Rattle.move_table.specs.Effect.{bit_in, is_known, is_set, effect_over, overwritten, cut}
use Rattle.move_table.specs.Kept.{is_written, leaves, keeps}
use Rattle.move_table.specs.Laws.{AreLaws}
use Rattle.move_table.specs.Marks.{AllNoted, ReachesOutside}
use Rattle.move_table.specs.Moves.{Move, Patches}
use Rattle.move_table.specs.Within.{AreNested, AreChangedWithin, IsChange, IsCovered, IsCoveredBy, IsSharedBy, SharedBefore}
use Rattle.move_table.proofs.CutLemmas.{overwritten_bit}
use Rattle.move_table.proofs.EffectLemmas.{lowest, higher, new_bit, one_new_bit, one_kept, held_known}
use Rattle.move_table.proofs.KeptLemmas.{unwritten_bit, written_bit, written_at, kept_bit, not_false, or_false, same_true, same_turned}
use Rattle.move_table.proofs.MarkLemmas.{answered_mask, one_site}
use Rattle.move_table.proofs.WithinLemmas.{IsKnown}

-- the bit of a place
abbrev bit_by : (Entry → Bool) → Option Entry → ℕ
bit_by test None = 0
bit_by test (Some entry) = cond (test entry) 1 0

abbrev packed : (Entry → Bool) → List Entry → ℕ
packed test [] = 0
packed test (tuple ∷ tuples) = with_bit (packed test tuples) (test tuple)

packed_bit : (test : Entry → Bool) (tuples : List Entry) (i : ℕ) →
    bit_at (packed test tuples) i ≡ bit_by test (slice_get tuples i)
packed_bit test [] i = bit_at-zero i
packed_bit test (tuple ∷ tuples) zero = lowest (packed test tuples) (test tuple)
packed_bit test (tuple ∷ tuples) (suc i) = higher (packed test tuples) i (test tuple) ∙ packed_bit test tuples i

mask_packed : (test : Entry → Bool) (tuples : List Entry) → mask_of (map test tuples) ≡ packed test tuples
mask_packed test [] = refl
mask_packed test (tuple ∷ tuples) =
    mask_with_bit (test tuple) (map test tuples) ∙ ap (λ n. with_bit n (test tuple)) (mask_packed test tuples)

bits_packed : (entry : Entry) (tuples : List Entry) → bits_of entry tuples ≡ packed (same_entry entry) tuples
bits_packed entry [] = refl
bits_packed entry (tuple ∷ tuples) = ap (λ n. with_bit n (same_entry entry tuple)) (bits_packed entry tuples)

module _ (tuples : List Entry) (mask : ℕ) (writes : List Write) where
  abbrev effect : List Entry → Effect
  effect others = effect_over tuples mask writes others

  written_packed : (others : List Entry) → (effect others).written ≡ packed (is_written writes) others
  written_packed [] = refl
  written_packed (other ∷ others) = ap (λ n. with_bit n (is_written writes other)) (written_packed others)

  values_packed : (others : List Entry) → (effect others).values ≡ packed (λ other. bit_after false other writes) others
  values_packed [] = refl
  values_packed (other ∷ others) = ap (λ n. with_bit n (bit_after false other writes)) (values_packed others)

  known_packed : (others : List Entry) → (effect others).known ≡ packed (λ other. is_known (bit_in tuples mask other)) others
  known_packed [] = refl
  known_packed (other ∷ others) = ap (λ n. with_bit n (is_known (bit_in tuples mask other))) (known_packed others)

  set_packed : (others : List Entry) → (effect others).bits ≡ packed (λ other. is_set (bit_in tuples mask other)) others
  set_packed [] = refl
  set_packed (other ∷ others) = ap (λ n. with_bit n (is_set (bit_in tuples mask other))) (set_packed others)

  module _ (laws : AreLaws) (contents : List Entry) (bits : AreBitsBy (holds_entry contents) tuples mask) where
    known_at : (place : Option Entry) →
        min (bit_by (holds_entry contents) place) (bit_by (λ other. is_known (bit_in tuples mask other)) place)
        ≡ bit_by (λ other. is_set (bit_in tuples mask other)) place
    known_at None = refl
    known_at (Some other) =
        let known = held_known tuples mask writes (holds_entry contents) tuples mask other bits in
        one_kept tuples mask writes (is_known (bit_in tuples mask other)) (holds_entry contents other)
        (is_set (bit_in tuples mask other)) known.0 known.1

    after_at : (place : Option Entry) →
        new_bit (bit_by (holds_entry contents) place) (bit_by (is_written writes) place)
        (bit_by (λ other. bit_after false other writes) place)
        ≡ bit_by (holds_entry (after_writes contents writes)) place
    after_at None = refl
    after_at (Some other) =
        let after = held_after laws.held_with laws.held_without writes contents other in
        one_new_bit (is_written writes other) (holds_entry contents other) (bit_after false other writes)
        (holds_entry (after_writes contents writes) other)
        (λ is. after ∙ written_bit writes other (holds_entry contents other) false is)
        (λ isnt. (
          after ∙ unwritten_bit writes other (holds_entry contents other) isnt,
          unwritten_bit writes other false isnt,
        ))

    kept_at : (fixed : ℕ) (others : List Entry) (i : ℕ) → bit_at fixed i ≡ 0 →
        ((query : ℕ) (tuple : Entry) → slice_get others query ≡ Some tuple → keeps tuples mask writes tuple ≡ false →
        bit_at fixed query ≡ 1) → (place : Option Entry) → slice_get others i ≡ place →
        bit_by (holds_entry contents) place ≡ bit_by (holds_entry (after_writes contents writes)) place
    kept_at fixed others i none within None e = refl
    kept_at fixed others i none within (Some tuple) e = by (keeps tuples mask writes tuple) refl
      where
        by : (b : Bool) → keeps tuples mask writes tuple ≡ b →
            cond {A = ℕ} (holds_entry contents tuple) 1 0 ≡ cond (holds_entry (after_writes contents writes) tuple) 1 0
        by true kept = ap (λ b. cond {A = ℕ} b 1 0) (sym (kept_bit laws contents writes tuples mask bits tuple kept))
        by false changed = absurd (let one = within i tuple e changed in omega (arith, none, one))

fixed_known : (w k b f : ℕ) → f < 2 → w < 2 → k < 2 → b < 2 → (f ≡ 1 → min w k ≡ b) → min w (min k f) ≡ min b f
fixed_known w k b zero lf lw lk lb there = omega arith
fixed_known w k b (suc zero) lf lw lk lb there = let e = there refl in omega (arith, lw, lk, lb, e)
fixed_known w k b (suc (suc f)) lf lw lk lb there = absurd (let s : suc (suc f) < 2 = lf in omega (arith, s))

fixed_over : (w r v f n : ℕ) → f < 2 → w < 2 → r < 2 → v < 2 → (f ≡ 1 → new_bit w r v ≡ n) → (f ≡ 0 → w ≡ n) →
    max (min w (1 - min r f)) (min v f) ≡ n
fixed_over w r v zero n lf lw lr lv there else = let e = else refl in omega (arith, lw, lr, lv, e)
fixed_over w r v (suc zero) n lf lw lr lv there else = let e = there refl in omega (arith, lw, lr, lv, e)
fixed_over w r v (suc (suc f)) n lf lw lr lv there else = absurd (let s : suc (suc f) < 2 = lf in omega (arith, s))

module _ (laws : AreLaws) (plan : Plan) (box packet mask : ℕ) (writes : List Write) (site : Site)
    (is : IsSite plan box site) (fits : site.fixed < 2 ^ 16) (few : masks_at plan box ≤ 2 ^ 16) where
  abbrev whole : Effect
  whole = effect_over (tuples_in plan box packet) mask writes (tuples_in plan box site.first)

  module _ (move : Move) (member : IsMember plan box site move.packet) (patches : Patches plan box packet mask writes move)
      (within : AreChangedWithin plan box packet mask writes site.fixed move.packet) where
    abbrev contents : List Entry
    contents = patches.shown.0

    abbrev tuples : List Entry
    tuples = tuples_in plan box packet

    abbrev others : List Entry
    others = tuples_in plan box move.packet

    abbrev firsts : List Entry
    firsts = tuples_in plan box site.first

    bits : AreBitsBy (holds_entry contents) tuples mask
    bits = bits_by (holds_entry contents) tuples mask (sym (answers_are plan box packet contents) ∙ patches.shown.2)

    small : move.mask < 2 ^ 16
    small = let below = answered_mask plan box move.packet move.mask contents patches.shown.3 in omega (arith, below, few)

    before_bit : (i : ℕ) → bit_at move.mask i ≡ bit_by (holds_entry contents) (slice_get others i)
    before_bit i =
        ap (λ n. bit_at n i)
        (sym patches.shown.3 ∙ answers_are plan box move.packet contents ∙ mask_packed (holds_entry contents) others)
        ∙ packed_bit (holds_entry contents) others i

    after_bit : (i : ℕ) → bit_at move.other i ≡ bit_by (holds_entry (after_writes contents writes)) (slice_get others i)
    after_bit i =
        ap (λ n. bit_at n i)
        (sym (patches.patched contents patches.shown.3)
        ∙ answers_are plan box move.packet (after_writes contents writes)
        ∙ mask_packed (holds_entry (after_writes contents writes)) others)
        ∙ packed_bit (holds_entry (after_writes contents writes)) others i

    -- a bit of the effect at the first packet is that at this one, where the tuple is fixed
    fixed_bit : (test : Entry → Bool) (n i : ℕ) → n ≡ packed test firsts → bit_at site.fixed i ≡ 1 →
        bit_at n i ≡ bit_by test (slice_get others i)
    fixed_bit test n i e one =
        ap (λ m. bit_at m i) e ∙ packed_bit test firsts i ∙ ap (bit_by test) (is.fixed_are move.packet member i one)

    known : bit_and move.mask (cut whole site.fixed).known ≡ (cut whole site.fixed).bits
    known =
        same_from_bits (bit_and move.mask (cut whole site.fixed).known) (cut whole site.fixed).bits (λ i.
        bit_at_and move.mask (cut whole site.fixed).known i
        ∙ (λ j. min (bit_at move.mask i) (bit_at_and whole.known site.fixed i j))
        ∙ fixed_known (bit_at move.mask i) (bit_at whole.known i) (bit_at whole.bits i) (bit_at site.fixed i)
        (bit_at-lt site.fixed i) (bit_at-lt move.mask i) (bit_at-lt whole.known i) (bit_at-lt whole.bits i)
        (λ one. (λ j. min (before_bit i j)
        (fixed_bit (λ other. is_known (bit_in tuples mask other)) whole.known i (known_packed tuples mask writes firsts) one j))
        ∙ known_at tuples mask writes laws contents bits (slice_get others i)
        ∙ sym (fixed_bit (λ other. is_set (bit_in tuples mask other)) whole.bits i (set_packed tuples mask writes firsts) one))
        ∙ sym (bit_at_and whole.bits site.fixed i))

    result : overwritten move.mask (cut whole site.fixed) ≡ move.other
    result =
        same_from_bits (overwritten move.mask (cut whole site.fixed)) move.other (λ i.
        overwritten_bit move.mask (cut whole site.fixed) i small (omega (arith, fits, and_le_r whole.written site.fixed))
        ∙ (λ j. max (min (bit_at move.mask i) (1 - bit_at_and whole.written site.fixed i j))
        (bit_at_and whole.values site.fixed i j))
        ∙ fixed_over (bit_at move.mask i) (bit_at whole.written i) (bit_at whole.values i) (bit_at site.fixed i)
        (bit_at move.other i) (bit_at-lt site.fixed i) (bit_at-lt move.mask i) (bit_at-lt whole.written i)
        (bit_at-lt whole.values i)
        (λ one. (λ j. new_bit (before_bit i j)
        (fixed_bit (is_written writes) whole.written i (written_packed tuples mask writes firsts) one j)
        (fixed_bit (λ other. bit_after false other writes) whole.values i (values_packed tuples mask writes firsts) one j))
        ∙ after_at tuples mask writes laws contents bits (slice_get others i) ∙ sym (after_bit i))
        (λ none. before_bit i
        ∙ kept_at tuples mask writes laws contents bits site.fixed others i none within (slice_get others i) refl
        ∙ sym (after_bit i)))

    -- a tuple that changes stands nowhere but where it is fixed
    stays_within : ReachesOutside site.fixed others move.mask move.other → ⊥
    stays_within there = by (keeps tuples mask writes there.tuple) refl
      where
        by : (b : Bool) → keeps tuples mask writes there.tuple ≡ b → ⊥
        by true kept = there.differ (
            before_bit there.query
            ∙ ap (bit_by (holds_entry contents)) there.stands
            ∙ ap (λ b. cond {A = ℕ} b 1 0) (sym (kept_bit laws contents writes tuples mask bits there.tuple kept))
            ∙ sym (ap (bit_by (holds_entry (after_writes contents writes))) there.stands)
            ∙ sym (after_bit there.query))
        by false changed =
            let fixed = within there.holds.query there.tuple there.holds.stands changed in
            omega (arith, fixed, there.holds.is_free)

    -- where all was noted of the effect at a site, the moves that it covers are known
    pub covered_known : (moves : List (List Bool)) → AllNoted plan moves box site (cut whole site.fixed) →
        IsKnown plan moves move
    covered_known moves noted =
        elim (noted move.packet member move.mask known contents patches.shown.1 patches.shown.3) [
          | inl (inl has) ↦ inl (subst (λ (b : ℕ). HasMove plan moves b move.packet move.mask move.other) (sym patches.boxed)
              (subst (λ (m : ℕ). HasMove plan moves box move.packet move.mask m) result has))
          | inl (inr same) ↦ inr (same ∙ result)
          | inr outside ↦ absurd (stays_within
              (subst (ReachesOutside site.fixed others move.mask) result outside))
        ]

-- the effect is that of the writes between two packets of the plan
pub effect_is : (plan : Plan) (box packet mask q : ℕ) (update : List Write) (seen : Plan) (one two : List Entry)
    (effect : Effect) → seen ≡ plan → one ≡ tuples_in seen box packet → two ≡ tuples_in seen box q →
    effect ≡ effect_over one mask update two →
    effect ≡ effect_over (tuples_in plan box packet) mask update (tuples_in plan box q)
effect_is plan box packet mask q update seen one two effect same is_one is_two is =
    is ∙ (λ i. effect_over ((is_one ∙ ap (λ (p : Plan). tuples_in p box packet) same) i) mask update
    ((is_two ∙ ap (λ (p : Plan). tuples_in p box q) same) i))

-- where marks say so of the site of a number, what it covers is known
pub covered_settled : AreLaws → (plan : Plan) (tables : Tables) (box number packet mask : ℕ) (writes : List Write) (site : Site)
    (effect : Effect) → IsSiteAt tables box number site → IsSite plan box site → site.fixed < 2 ^ 16 →
    masks_at plan box ≤ 2 ^ 16 →
    effect ≡ cut (effect_over (tuples_in plan box packet) mask writes (tuples_in plan box site.first)) site.fixed →
    (moves : List (List Bool)) → AllNoted plan moves box site effect → (move : Move) →
    IsCovered plan tables box packet mask writes number move → IsKnown plan moves move
covered_settled laws plan tables box number packet mask writes site effect at is fits few e moves noted move covered =
    let same : covered.site ≡ site = one_site tables box number covered.site site covered.at at in
    covered_known laws plan box packet mask writes site is fits few move
    (subst (λ (s : Site). IsMember plan box s move.packet) same covered.member) covered.patches
    (subst (λ (s : Site). AreChangedWithin plan box packet mask writes s.fixed move.packet) same covered.within) moves
    (subst (AllNoted plan moves box site) e noted)

-- the write of a change is that of its number
pub change_at : (plan : Plan) (box packet mask : ℕ) (writes : List Write) (index : ℕ) (entry : Entry) (d : Write) →
    IsChange plan box packet mask writes index entry → (get_or writes index d).entry ≡ entry
change_at plan box packet mask writes index entry d change =
    ap (λ (w : Write). w.entry) (get_or_from_slice_get writes index change.write d change.stands) ∙ change.entry_is

-- and what stays is no change
pub change_stays : (seen plan : Plan) (box packet mask : ℕ) (writes : List Write) (index : ℕ) (entry : Entry) (d : Write)
    (tuples : List Entry) (stays : Bool) → IsChange plan box packet mask writes index entry → seen ≡ plan →
    tuples ≡ tuples_in seen box packet → stays ≡ keeps tuples mask writes (get_or writes index d).entry → stays ≡ true → ⊥
change_stays seen plan box packet mask writes index entry d tuples stays change same are is holds =
    let all : keeps tuples mask writes (get_or writes index d).entry ≡ keeps (tuples_in plan box packet) mask writes entry =
    λ i. keeps ((are ∙ ap (λ (p : Plan). tuples_in p box packet) same) i) mask writes
    (change_at plan box packet mask writes index entry d change i) in
    let clash : true ≡ false = sym holds ∙ is ∙ all ∙ change.not_kept in cc

eq_or_not : (one two : ℕ) → (one ≡ two) ⊎ (one ≡ two → ⊥)
eq_or_not one two = elim (cases_lt one two) [
  | inl less ↦ inr (λ e. omega (arith, less, e))
  | inr more ↦ elim (cases_lt two one) [
    | inl less ↦ inr (λ e. omega (arith, less, e))
    | inr other ↦ inl (omega (arith, more, other))
  ]
]

within_left : (one other i : ℕ) → bit_and one other ≡ one → bit_at one i ≡ 1 → bit_at other i ≡ 1
within_left one other i e is =
    let both = sym (ap (λ n. bit_at n i) e) ∙ bit_at_and one other i in
    omega (arith, both, is, bit_at-lt other i)

within_right : (one other i : ℕ) → bit_and one other ≡ other → bit_at other i ≡ 1 → bit_at one i ≡ 1
within_right one other i e is =
    let both = sym (ap (λ n. bit_at n i) e) ∙ bit_at_and one other i in
    omega (arith, both, is, bit_at-lt one i)

some_entry : {one two : Entry} → Some one ≡ Some two → one ≡ two
some_entry e = cc

-- one of two masks has all bits of the other, or neither has
nested_or_not : (one other : ℕ) →
    (bit_and one other ≡ one) ⊎ (bit_and one other ≡ other) ⊎ (AreNested one other → ⊥)
nested_or_not one other = elim (eq_or_not (bit_and one other) one) [
  | inl left ↦ inl left
  | inr not_left ↦ elim (eq_or_not (bit_and one other) other) [
    | inl right ↦ inr (inl right)
    | inr not_right ↦ inr (inr (λ nested. elim nested [ inl e ↦ not_left e | inr e ↦ not_right e ]))
  ]
]

turned_nested : (one other : ℕ) → AreNested one other → AreNested other one
turned_nested one other nested = elim nested [
  | inl e ↦ inr (commutes ∙ e)
  | inr e ↦ inl (commutes ∙ e)
]
  where
    commutes : bit_and other one ≡ bit_and one other
    commutes = same_from_bits (bit_and other one) (bit_and one other) (λ i. omega (arith, bit_at_and other one i, bit_at_and one other i))

tuple_among : (tuples : List Entry) (query : ℕ) (tuple : Entry) → slice_get tuples query ≡ Some tuple →
    Contains tuples tuple
tuple_among [] query tuple e = absurd (cc)
tuple_among (first ∷ tuples) zero tuple e = subst (Contains (first ∷ tuples)) (some_entry e) (head_contained first tuples)
tuple_among (first ∷ tuples) (suc query) tuple e = tail_contained first tuple tuples (tuple_among tuples query tuple e)

-- the site of a changed tuple
record IsSiteBy (plan : Plan) (tables : Tables) (box packet mask : ℕ) (writes : List Write) (other : ℕ) : Type 0 where
  number : ℕ
  site : Site
  at : IsSiteAt tables box number site
  member : IsMember plan box site other
  index : ℕ
  change : IsChange plan box packet mask writes index site.entry

module _ (laws : AreLaws) (plan : Plan) (tables : Tables) (same : tables.plan ≡ plan) (box packet mask : ℕ) (writes : List Write) (move : Move)
    (patches : Patches plan box packet mask writes move) (boxed : box < boxes_of plan)
    (less : move.packet < packets_of plan)
    (sites : (box packet : ℕ) (entry : Entry) → box < boxes_of tables.plan → packet < packets_of tables.plan →
    Reads tables.plan box packet entry → (number : ℕ) × IsSiteOf tables box number entry packet)
    (are : (box number : ℕ) (site : Site) → box < boxes_of tables.plan → IsSiteAt tables box number site →
    IsSite tables.plan box site) where
  abbrev keeps_it : Entry → Bool
  keeps_it = keeps (tuples_in plan box packet) mask writes

  abbrev read : List Entry
  read = tuples_in plan box move.packet

  abbrev AllKept : ℕ → Type 0
  AllKept most = (query : ℕ) (tuple : Entry) → query < most → slice_get read query ≡ Some tuple → keeps_it tuple ≡ true

  abbrev AllFixed : ℕ → ℕ → Type 0
  AllFixed fixed most =
      (query : ℕ) (tuple : Entry) → query < most → slice_get read query ≡ Some tuple → keeps_it tuple ≡ false →
      bit_at fixed query ≡ 1

  abbrev IsBest : ℕ → Type 0
  IsBest most = (best : IsSiteBy plan tables box packet mask writes move.packet) × AllFixed best.site.fixed most

  abbrev IsPair : Type 0
  IsPair = (index : ℕ) × (other : ℕ) × IsSharedBy plan tables box packet mask writes index other move

  site_is : (number : ℕ) (site : Site) → IsSiteAt tables box number site → IsSite plan box site
  site_is number site at =
      subst (λ (p : Plan). IsSite p box site) same
      (are box number site (subst (λ (p : Plan). box < boxes_of p) (sym same) boxed) at)

  member_back : (site : Site) → IsMember plan box site move.packet → IsMember tables.plan box site move.packet
  member_back site member = subst (λ (p : Plan). IsMember p box site move.packet) (sym same) member

  -- the queries of a site that have its tuple are fixed
  own_fixed : (best : IsSiteBy plan tables box packet mask writes move.packet) (query : ℕ) (tuple : Entry) →
      slice_get read query ≡ Some tuple → same_entry best.site.entry tuple ≡ true → bit_at best.site.fixed query ≡ 1
  own_fixed best query tuple e same =
      (site_is best.number best.site best.at).own query
      (ap (λ n. bit_at n query) (sym best.member.bits_are ∙ bits_packed best.site.entry read)
      ∙ packed_bit (same_entry best.site.entry) read query ∙ ap (bit_by (same_entry best.site.entry)) e
      ∙ ap (λ b. cond {A = ℕ} b 1 0) same)

  site_by : (query : ℕ) (tuple : Entry) → slice_get read query ≡ Some tuple → keeps_it tuple ≡ false →
      (best : IsSiteBy plan tables box packet mask writes move.packet) × (best.site.entry ≡ tuple)
  site_by query tuple e changed =
      let of = sites box move.packet tuple (subst (λ (p : Plan). box < boxes_of p) (sym same) boxed)
      (subst (λ (p : Plan). move.packet < packets_of p) (sym same) less)
      (subst (λ (p : Plan). Reads p box move.packet tuple) (sym same)
      (tuple_reads plan box move.packet tuple (tuple_among read query tuple e))) in
      let parts = or_false (not (is_written writes tuple)) (leaves (tuples_in plan box packet) mask writes tuple)
      changed in
      let there = written_at writes tuple (not_false (is_written writes tuple) parts.0) in (
        record {
          number = of.0;
          site = of.1.site;
          at = of.1.at;
          member = subst (λ (p : Plan). IsMember p box of.1.site move.packet) same of.1.member;
          index = there.0;
          change = record {
            write = there.1;
            stands = there.2;
            entry_is = there.3 ∙ sym of.1.entry_is;
            not_kept = subst (λ (x : Entry). keeps_it x ≡ false) (sym of.1.entry_is) changed;
          };
        },
        of.1.entry_is,
      )

  more_fixed : (fixed most : ℕ) → AllFixed fixed most →
      ((tuple : Entry) → slice_get read most ≡ Some tuple → keeps_it tuple ≡ false → bit_at fixed most ≡ 1) →
      AllFixed fixed (suc most)
  more_fixed fixed most before here query tuple within e changed = elim (cases_lt query most) [
    | inl earlier ↦ before query tuple earlier e changed
    | inr later ↦ let same : most ≡ query = omega (arith, within, later) in
        subst (λ (q : ℕ). bit_at fixed q ≡ 1) same
        (here tuple (ap (λ (q : ℕ). slice_get read q) same ∙ e) changed)
  ]

  more_kept : (most : ℕ) → AllKept most → ((tuple : Entry) → slice_get read most ≡ Some tuple → keeps_it tuple ≡ true) →
      AllKept (suc most)
  more_kept most before here query tuple within e = elim (cases_lt query most) [
    | inl earlier ↦ before query tuple earlier e
    | inr later ↦ let same : most ≡ query = omega (arith, within, later) in
        here tuple (ap (λ (q : ℕ). slice_get read q) same ∙ e)
  ]

  -- one changed tuple more
  changed_more : (most : ℕ) (tuple : Entry) → slice_get read most ≡ Some tuple → keeps_it tuple ≡ false →
      AllKept most ⊎ IsBest most ⊎ IsPair → AllKept (suc most) ⊎ IsBest (suc most) ⊎ IsPair
  changed_more most tuple e changed state =
      let next = site_by most tuple e changed in
      let own : (other : Entry) → slice_get read most ≡ Some other → keeps_it other ≡ false →
      bit_at next.0.site.fixed most ≡ 1 =
      λ other there _. own_fixed next.0 most tuple e
      (subst (λ (x : Entry). same_entry x tuple ≡ true) (sym next.1) (same_true tuple)) in
      elim state [
        | inl kept ↦ inr (inl (
          next.0,
          more_fixed next.0.site.fixed most
              (λ query other within there not_kept. absurd (both_ways (keeps_it other) (kept query other within there) not_kept))
              own,
        ))
        | inr (inl best) ↦ with_best most tuple e changed best next own (same_entry best.0.site.entry tuple) refl
        | inr (inr pair) ↦ inr (inr pair)
      ]
    where
      both_ways : (b : Bool) → b ≡ true → b ≡ false → ⊥
      both_ways b one two = let clash : true ≡ false = sym one ∙ two in cc

      with_best : (most : ℕ) (tuple : Entry) → slice_get read most ≡ Some tuple → keeps_it tuple ≡ false →
          (best : IsBest most)
          (next : (best : IsSiteBy plan tables box packet mask writes move.packet) × (best.site.entry ≡ tuple)) →
          ((other : Entry) → slice_get read most ≡ Some other → keeps_it other ≡ false →
          bit_at next.0.site.fixed most ≡ 1) → (b : Bool) → same_entry best.0.site.entry tuple ≡ b →
          AllKept (suc most) ⊎ IsBest (suc most) ⊎ IsPair
      with_best most tuple e changed best next own true same =
          inr (inl (
            best.0,
            more_fixed best.0.site.fixed most best.1
                (λ other there _. own_fixed best.0 most tuple e same),
          ))
      with_best most tuple e changed best next own false differ =
          elim (nested_or_not best.0.site.fixed next.0.site.fixed) [
            | inl left ↦ inr (inl (
              next.0,
              more_fixed next.0.site.fixed most
                  (λ query other within there not_kept.
                  within_left best.0.site.fixed next.0.site.fixed query left (best.1 query other within there not_kept))
                  own,
            ))
            | inr (inl right) ↦ inr (inl (
              best.0,
              more_fixed best.0.site.fixed most best.1
                  (λ other there not_kept.
                  within_right best.0.site.fixed next.0.site.fixed most right (own other there not_kept)),
            ))
            | inr (inr apart) ↦ inr (inr (
              best.0.index,
              next.0.index,
              record {
                one = best.0.number;
                two = next.0.number;
                shared = record {
                  patches = patches;
                  common = record {
                    of_one = record { site = best.0.site; at = best.0.at; member = member_back best.0.site best.0.member };
                    of_other = record {
                      site = next.0.site;
                      at = next.0.at;
                      member = member_back next.0.site next.0.member;
                    };
                  };
                  apart = apart;
                  differ = subst (λ (x : Entry). same_entry best.0.site.entry x ≡ false) (sym next.1) differ;
                };
                first_change = best.0.change;
                second_change = next.0.change;
              },
            ))
          ]

  -- a tuple more that stays, or none
  kept_more : (most : ℕ) → ((tuple : Entry) → slice_get read most ≡ Some tuple → keeps_it tuple ≡ true) →
      AllKept most ⊎ IsBest most ⊎ IsPair → AllKept (suc most) ⊎ IsBest (suc most) ⊎ IsPair
  kept_more most here state = elim state [
    | inl kept ↦ inl (more_kept most kept here)
    | inr (inl best) ↦ inr (inl (
      best.0,
      more_fixed best.0.site.fixed most best.1
          (λ tuple e changed. absurd (both_ways (keeps_it tuple) (here tuple e) changed)),
    ))
    | inr (inr pair) ↦ inr (inr pair)
  ]
    where
      both_ways : (b : Bool) → b ≡ true → b ≡ false → ⊥
      both_ways b one two = let clash : true ≡ false = sym one ∙ two in cc

  one_more : (most : ℕ) (place : Option Entry) → slice_get read most ≡ place →
      AllKept most ⊎ IsBest most ⊎ IsPair → AllKept (suc most) ⊎ IsBest (suc most) ⊎ IsPair
  one_more most None e state = kept_more most (λ tuple there. absurd (no_tuple tuple (sym e ∙ there))) state
    where
      no_tuple : (tuple : Entry) → None ≡ Some tuple → ⊥
      no_tuple tuple e = cc
  one_more most (Some tuple) e state = by (keeps_it tuple) refl
    where
      by : (b : Bool) → keeps_it tuple ≡ b → AllKept (suc most) ⊎ IsBest (suc most) ⊎ IsPair
      by true kept =
          kept_more most (λ other there. subst (λ (x : Entry). keeps_it x ≡ true) (some_entry (sym e ∙ there)) kept) state
      by false changed = changed_more most tuple e changed state

  first_ones : (most : ℕ) → AllKept most ⊎ IsBest most ⊎ IsPair
  first_ones zero = inl (λ query tuple within e. absurd (omega (arith, within)))
  first_ones (suc most) = one_more most (slice_get read most) refl (first_ones most)

  same_answers : AllKept (length read) → move.mask ≡ move.other
  same_answers kept =
      sym patches.shown.3 ∙ answers_are plan box move.packet patches.shown.0
      ∙ ap mask_of (same_over read (λ query tuple e. kept query tuple (slice_get_within read query tuple e) e))
      ∙ sym (answers_are plan box move.packet (after_writes patches.shown.0 writes))
      ∙ patches.patched patches.shown.0 patches.shown.3
    where
      same_over : (others : List Entry) →
          ((query : ℕ) (tuple : Entry) → slice_get others query ≡ Some tuple → keeps_it tuple ≡ true) →
          map (holds_entry patches.shown.0) others ≡ map (holds_entry (after_writes patches.shown.0 writes)) others
      same_over [] stays = refl
      same_over (other ∷ others) stays =
          λ i. sym (kept_bit laws patches.shown.0 writes (tuples_in plan box packet) mask
          (bits_by (holds_entry patches.shown.0) (tuples_in plan box packet) mask
          (sym (answers_are plan box packet patches.shown.0) ∙ patches.shown.2)) other (stays zero other refl)) i
          ∷ same_over others (λ query tuple e. stays (suc query) tuple e) i

  -- a move is none, or is covered by a site of what changes, or stands at two sites that aren't nested
  pub covered_or_shared :
      (move.mask ≡ move.other)
      ⊎ ((index : ℕ) × IsCoveredBy plan tables box packet mask writes index move)
      ⊎ IsPair
  covered_or_shared = elim (first_ones (length read)) [
    | inl kept ↦ inl (same_answers kept)
    | inr (inl best) ↦ inr (inl (
      best.0.index,
      record {
        number = best.0.number;
        covered = record {
          patches = patches;
          site = best.0.site;
          at = best.0.at;
          member = best.0.member;
          within = λ query tuple e changed. best.1 query tuple (slice_get_within read query tuple e) e changed;
        };
        change = best.0.change;
      },
    ))
    | inr (inr pair) ↦ inr (inr pair)
  ]

  turned : (index other : ℕ) → IsSharedBy plan tables box packet mask writes index other move →
      IsSharedBy plan tables box packet mask writes other index move
  turned index other by = record {
    one = by.two;
    two = by.one;
    shared = record {
      patches = patches;
      common = record { of_one = by.shared.common.of_other; of_other = by.shared.common.of_one };
      apart = λ nested. by.shared.apart
          (turned_nested by.shared.common.of_other.site.fixed by.shared.common.of_one.site.fixed nested);
      differ = same_turned by.shared.common.of_one.site.entry by.shared.common.of_other.site.entry by.shared.differ;
    };
    first_change = by.second_change;
    second_change = by.first_change;
  }

  within_writes : (index : ℕ) (entry : Entry) → IsChange plan box packet mask writes index entry → index < length writes
  within_writes index entry change = slice_get_within writes index change.write change.stands

  in_order : (index other : ℕ) → IsSharedBy plan tables box packet mask writes index other move →
      (index : ℕ) × (index < length writes) × SharedBefore plan tables box packet mask writes index move
  in_order index other by = elim (cases_lt other index) [
    | inl less ↦ (index, within_writes index by.shared.common.of_one.site.entry by.first_change, (other, less, by))
    | inr not_less ↦ elim (cases_lt index other) [
      | inl less ↦ (
        other,
        within_writes other by.shared.common.of_other.site.entry by.second_change,
        (index, less, turned index other by),
      )
      | inr more ↦ absurd (one_entry (let e : index ≡ other = omega (arith, not_less, more) in e))
    ]
  ]
    where
      one_entry : index ≡ other → ⊥
      one_entry e =
          let first = change_at plan box packet mask writes index by.shared.common.of_one.site.entry
          by.first_change.write by.first_change in
          let second = change_at plan box packet mask writes other by.shared.common.of_other.site.entry
          by.first_change.write by.second_change in
          let same_one : by.shared.common.of_one.site.entry ≡ by.shared.common.of_other.site.entry =
          sym first ∙ ap (λ (n : ℕ). (get_or writes n by.first_change.write).entry) e ∙ second in
          let clash : true ≡ false =
          sym (same_true by.shared.common.of_one.site.entry)
          ∙ ap (same_entry by.shared.common.of_one.site.entry) same_one ∙ by.shared.differ in cc

  -- all of them, by the numbers of writes
  pub noted_or_same :
      (move.mask ≡ move.other)
      ⊎ ((index : ℕ) × (index < length writes) × IsCoveredBy plan tables box packet mask writes index move)
      ⊎ ((index : ℕ) × (index < length writes) × SharedBefore plan tables box packet mask writes index move)
  noted_or_same = elim covered_or_shared [
    | inl stays ↦ inl stays
    | inr (inl covered) ↦ inr (inl (
      covered.0,
      within_writes covered.0 covered.1.covered.site.entry covered.1.change,
      covered.1,
    ))
    | inr (inr pair) ↦ inr (inr (in_order pair.0 pair.1 pair.2))
  ]
