-- Marks of sites.
use Rattle.std.proofs.Common.{◌≡◌, ℕ, ◌+◌, ◌^◌, ◌<◌, ◌≤◌, ◌↔◌, ◌⊎◌, inl, inr, Bool, List, Some, refl, sym, subst, ◌∙◌}
use Rattle.std.proofs.Common.{length, map, get_or, arith, bit_and, bit_or}
use Rattle.std.specs.List.{All}
use Rattle.std.specs.Int.{bit_not, w16}
use Rattle.std.proofs.lemmas.Bool.{cases_lt}
use Rattle.std.proofs.lemmas.List.{length-map}
use Rattle.std.proofs.lemmas.List.Elements.{All-get_or}
use Rattle.std.proofs.lemmas.Nat.{and_le_l}
use Rattle.std.proofs.Math.Pow.{pow_mono}
use Rattle.box_contents.specs.declared.entry.Entry.{Entry}
use Rattle.box_handlers.specs.declared.act.Query.{Query}
use Rattle.net_plan.specs.declared.plan.Plan.{Plan}
use Rattle.net_plan.specs.Plan.{packets_of}
use Rattle.net_runs.specs.World.{environment_of}
use Rattle.packet_state.specs.Answers.{class_of_box, answer_in, answers}
use Rattle.packet_state.proofs.MaskLemmas.{small_mask}
use Rattle.box_moves.specs.Moves.{IsSized, HasMove, masks_at}
use Rattle.query_tables.specs.Tables.{tuples_in}
use Rattle.query_tables.specs.declared.sites.Site.{Site}
use Rattle.query_tables.specs.Sites.{Tables, IsMember, IsSiteAt}
use Rattle.move_table.specs.declared.effect.Effect.{Effect}
use Rattle.move_table.specs.Effect.{overwritten, cut, between, HasNoKnown}
use Rattle.move_table.specs.Marks.{IsNoted, IsNotedWithin, ReachesOutside, AllNoted, AreMarks, IsCut}
use Rattle.move_table.specs.Moves.{Move, Has}
use Rattle.move_table.proofs.CutLemmas.{part_known, part_over, part_same}

some_same : {one two : Site} → Some one ≡ Some two → one ≡ two
some_same e = cc

-- a number has one site
pub one_site : (tables : Tables) (box number : ℕ) (one two : Site) → IsSiteAt tables box number one →
    IsSiteAt tables box number two → one ≡ two
one_site tables box number one two at other = some_same (sym at ∙ other)

-- a box has at most 4,096 masks
pub few_masks_at : (plan : Plan) (box : ℕ) (queries : List Query) → queries ≡ (class_of_box plan box).queries →
    length queries ≤ 12 → masks_at plan box ≤ 2 ^ 12
few_masks_at plan box queries same few =
    subst (λ (l : List Query). 2 ^ length l ≤ 2 ^ 12) same (pow_mono {i = length queries} {j = 12} few)

-- the packets of a site are those of the network
pub member_in_range : (seen plan : Plan) → seen ≡ plan → (box : ℕ) (site : Site) (items : List ℕ) →
    All (IsMember seen box site) items → (k d : ℕ) → k < length items → get_or items k d < packets_of plan
member_in_range seen plan same box site items all k d within =
    subst (λ (p : Plan). get_or items k d < packets_of p) same
    (All-get_or (IsMember seen box site) items k d within all).in_range

-- contents answer with a mask of the box
pub answered_mask : (plan : Plan) (box packet mask : ℕ) (contents : List Entry) →
    answers plan box packet contents ≡ mask → mask < masks_at plan box
answered_mask plan box packet mask contents e =
    let queries = (class_of_box plan box).queries in
    small_mask
    (map (answer_in (environment_of plan (class_of_box plan box) packet) contents) queries)
    (length queries) mask
    (length-map queries (answer_in (environment_of plan (class_of_box plan box) packet) contents)) e

module _ (plan : Plan) (tables : Tables) where
  pub all_noted_stays : (old new : List (List Bool)) →
      ((move : Move) → Has plan old move → Has plan new move) → (box : ℕ) (site : Site) (effect : Effect) →
      AllNoted plan old box site effect → AllNoted plan new box site effect
  all_noted_stays old new stays box site effect noted packet member mask known contents are answered =
      elim (noted packet member mask known contents are answered) [
        | inl (inl has) ↦ inl (inl (stays (record { box = box; packet = packet; mask = mask; other = _ }) has))
        | inl (inr same) ↦ inl (inr same)
        | inr outside ↦ inr outside
      ]

  -- marks stay true while moves are added
  pub marks_stay : (old new marks : List (List Bool)) →
      ((move : Move) → Has plan old move → Has plan new move) → AreMarks plan tables old marks →
      AreMarks plan tables new marks
  marks_stay old new marks stays are = record {
    sized = are.sized;
    noted = λ box number mask other site at has.
        all_noted_stays old new stays box site (between site.fixed mask other) (are.noted box number mask other site at has);
  }

  pub no_marks : (moves marks : List (List Bool)) → IsSized plan marks →
      ((box packet mask other : ℕ) → HasMove plan marks box packet mask other → ⊥) → AreMarks plan tables moves marks
  no_marks moves marks sized none = record {
    sized = sized;
    noted = λ box number mask other site at has. absurd (none box number mask other has);
  }

  pub marks_set : (moves old new : List (List Bool)) (box number mask other : ℕ) (site : Site) →
      IsSiteAt tables box number site → AllNoted plan moves box site (between site.fixed mask other) →
      AreMarks plan tables moves old → IsSized plan new →
      ((b q w x : ℕ) → HasMove plan new b q w x
      ↔ (HasMove plan old b q w x ⊎ ((box ≡ b) × (number ≡ q) × (mask ≡ w) × (other ≡ x)))) →
      AreMarks plan tables moves new
  marks_set moves old new box number mask other site at noted are sized exactly = record {
    sized = sized;
    noted = λ b q w x there place has. elim ((exactly b q w x).0 has) [
      | inl before ↦ are.noted b q w x there place before
      | inr e ↦ let same : site ≡ there =
          one_site tables box number site there at
          (subst (λ (n : ℕ). IsSiteAt tables n number there) (sym e.0)
          (subst (λ (n : ℕ). IsSiteAt tables b n there) (sym e.1) place)) in
          subst (λ (n : ℕ). AllNoted plan moves n there (between there.fixed w x)) e.0
          (subst (λ (s : Site). AllNoted plan moves box s (between s.fixed w x)) same
          (subst (λ (n : ℕ). AllNoted plan moves box site (between site.fixed n x)) e.2
          (subst (λ (n : ℕ). AllNoted plan moves box site (between site.fixed mask n)) e.3 noted)))
    ];
  }

  -- where each move of the queries that are fixed at a site has its mark, all was noted of the effect there
  pub settled : (moves marks : List (List Bool)) (box number : ℕ) (site : Site) (effect : Effect) →
      IsSiteAt tables box number site → AreMarks plan tables moves marks → IsCut site.fixed effect → site.fixed < 2 ^ 16 →
      masks_at plan box ≤ 2 ^ 16 →
      ((mask : ℕ) → mask < masks_at plan box →
      bit_and mask (bit_or effect.known (bit_not w16 site.fixed)) ≡ effect.bits →
      IsNoted plan marks box number mask (overwritten mask effect)) →
      AllNoted plan moves box site effect
  settled moves marks box number site effect at are is_cut fits few all packet member mask known contents fit answered =
      let fixed = site.fixed in
      let whole = is_cut.0 in
      let below : mask < masks_at plan box = answered_mask plan box packet mask contents answered in
      let small : mask < 2 ^ 16 = omega (arith, below, few) in
      let has = subst (λ (e : Effect). bit_and mask e.known ≡ e.bits) is_cut.1 known in
      let part_has = part_known whole fixed mask small fits has in
      let noted : IsNoted plan marks box number (bit_and mask fixed) (overwritten (bit_and mask fixed) (cut whole fixed)) =
      subst (λ (e : Effect). IsNoted plan marks box number (bit_and mask fixed) (overwritten (bit_and mask fixed) e)) is_cut.1
      (all (bit_and mask fixed) (omega (arith, below, and_le_l mask fixed))
      (subst (λ (e : Effect). bit_and (bit_and mask fixed) (bit_or e.known (bit_not w16 fixed)) ≡ e.bits) (sym is_cut.1)
      part_has)) in
      subst (λ (e : Effect). IsNotedWithin plan moves box fixed e packet mask) (sym is_cut.1)
      (elim noted [
        | inl mark ↦ subst
            (λ (n : ℕ). IsNoted plan moves box packet mask n ⊎ ReachesOutside fixed (tuples_in plan box packet) mask n)
            (part_over whole fixed mask small fits)
            (are.noted box number (bit_and mask fixed) (overwritten (bit_and mask fixed) (cut whole fixed)) site at mark
            packet member mask refl contents fit answered)
        | inr same ↦ inl (inr (part_same whole fixed mask small fits same))
      ])

-- in a loop over masks with known bits: all of them so far
pub known_next : (P : ℕ → Type 0) (known bits from next : ℕ) →
    ((mask : ℕ) → mask < from → bit_and mask known ≡ bits → P mask) → HasNoKnown known bits from next → P next →
    (mask : ℕ) → mask < next + 1 → bit_and mask known ≡ bits → P mask
known_next P known bits from next before none here mask less has = elim (cases_lt mask next) [
  | inl earlier ↦ elim (cases_lt mask from) [
    | inl first ↦ before mask first has
    | inr later ↦ absurd (none mask later earlier has)
  ]
  | inr later ↦ let same : next ≡ mask = omega (arith, less, later) in subst P same here
]

pub known_all : (P : ℕ → Type 0) (known bits from to : ℕ) →
    ((mask : ℕ) → mask < from → bit_and mask known ≡ bits → P mask) → HasNoKnown known bits from to →
    (mask : ℕ) → mask < to → bit_and mask known ≡ bits → P mask
known_all P known bits from to before none mask less has = elim (cases_lt mask from) [
  | inl first ↦ before mask first has
  | inr later ↦ absurd (none mask later less has)
]
