-- Sites as runs of spots.
use Rattle.std.proofs.Common.{◌≡◌, ℕ, ◌+◌, ◌-◌, ◌*◌, ◌^◌, ◌<◌, ◌≤◌, List, [], ◌∷◌, ◌++◌, length, get_or, take, drop}
use Rattle.std.proofs.Common.{Some, refl, sym, ap, subst, ◌∙◌, inl, inr, arith}
use Rattle.std.specs.Prelude.{slice_get}
use Rattle.std.specs.Int.{bit_at}
use Rattle.std.specs.List.{All, Contains}
use Rattle.std.proofs.lemmas.Bool.{cases_lt}
use Rattle.std.proofs.lemmas.List.{get_or_default, get_or_append_left, get_or_push, length_push}
use Rattle.std.proofs.lemmas.List.{get_or-take, get_or-drop, length-take-le, length-drop}
use Rattle.std.proofs.lemmas.List.Elements.{All-push, All-weaker}
use Rattle.std.proofs.lemmas.List.Sorted.{IsNonDecreasingBy-push}
use Rattle.std.proofs.lemmas.Option.{slice_get_within}
use Rattle.net_plan.specs.declared.plan.Plan.{Plan}
use Rattle.query_tables.specs.declared.spots.Spot.{Spot}
use Rattle.query_tables.specs.declared.sites.Site.{Site}
use Rattle.query_tables.specs.Sites.{AreFixed, IsMember, bits_of}
use Rattle.query_tables.specs.Spots.{IsSpot, AreSpots, IsSmall, IsLike, IsStart, IsSpotOf, IsRun, HasRun, AreSites}
use Rattle.query_tables.specs.Spots.{group_of, group_seen}
use Rattle.query_tables.specs.Tables.{queries_of, tuples_in, key_of, key_seen}
use Rattle.query_tables.proofs.BitLemmas.{bits_own}
use Rattle.query_tables.proofs.TableLemmas.{even_tuples}

-- what stands from one place up to another
module _ {X : Type 0} (xs : List X) (from to : ℕ) (rises : from ≤ to) (within : to ≤ length xs) where
  pub length_part : length (take (to - from) (drop from xs)) ≡ to - from
  length_part =
      length-take-le (to - from) (drop from xs)
      (let left : length (drop from xs) ≡ length xs - from = length-drop from xs in
      omega (arith, left, rises, within))

  pub part_is : (k : ℕ) (d : X) → k < to - from → get_or (take (to - from) (drop from xs)) k d ≡ get_or xs (from + k) d
  part_is k d less = get_or-take (to - from) (drop from xs) k d less ∙ get_or-drop from xs k d

  -- at the place of the whole
  pub part_at : (j : ℕ) (d : X) → from ≤ j → j < to →
      get_or (take (to - from) (drop from xs)) (j - from) d ≡ get_or xs j d
  part_at j d le less =
      part_is (j - from) d (omega (arith, le, less))
      ∙ ap (λ (k : ℕ). get_or xs k d) (let e : from + (j - from) ≡ j = omega (arith, le) in e)

  pub part_has : (j : ℕ) (x : X) → from ≤ j → j < to → get_or xs j x ≡ x → Contains (take (to - from) (drop from xs)) x
  part_has j x le less is = (
    j - from,
    subst (λ (n : ℕ). j - from < n) (sym length_part) (let l : j - from < to - from = omega (arith, le, less) in l),
    part_at j x le less ∙ is,
  )

module _ (plan : Plan) (box : ℕ) (spots : List Spot) (are : AreSpots plan box spots) where
  module _ (at to : ℕ) (e : Spot) (there : at < length spots) (within : to ≤ length spots)
      (upto : (k : ℕ) (d : Spot) → k < to → group_seen (get_or spots k d) ≤ group_seen (get_or spots at e))
      (behind : (k : ℕ) (d : Spot) → to ≤ k → k < length spots →
      group_seen (get_or spots at e) < group_seen (get_or spots k d)) where
    pub run_some : at < to
    run_some = elim (cases_lt at to) [
      | inl less ↦ less
      | inr more ↦ absurd (omega (arith, behind at e more there))
    ]

    -- the spots of the run have one number
    run_group : (k : ℕ) (d : Spot) → k < length (take (to - at) (drop at spots)) →
        group_seen (get_or (take (to - at) (drop at spots)) k d) ≡ group_seen (get_or spots at e)
    run_group k d less =
        let some = run_some in
        let inside : k < to - at =
        subst (λ (n : ℕ). k < n) (length_part spots at to (omega (arith, some)) within) less in
        let most : group_seen (get_or spots (at + k) d) ≤ group_seen (get_or spots at e) =
        upto (at + k) d (omega (arith, inside, some)) in
        let least : group_seen (get_or spots at e) ≤ group_seen (get_or spots (at + k) d) =
        subst (λ (s : Spot). group_seen s ≤ group_seen (get_or spots (at + k) d)) (get_or_default spots at d e there)
        (are.grouped at (at + k) d (omega arith) (omega (arith, inside, some, within))) in
        ap group_seen (part_is spots at to (omega (arith, some)) within k d inside)
        ∙ both_ways (group_seen (get_or spots (at + k) d)) (group_seen (get_or spots at e)) most least
      where
        both_ways : (a b : ℕ) → a ≤ b → b ≤ a → a ≡ b
        both_ways a b le ge = omega (arith, le, ge)

    module _ (start : IsStart spots at) (fixed : ℕ) (small : IsSmall (get_or spots at e))
        (like : All (IsLike (get_or spots at e)) (take (to - at) (drop at spots)))
        (below : fixed < 2 ^ queries_of plan box)
        (fixed_are : All (λ spot. AreFixed fixed (tuples_in plan box (get_or spots at e).packet)
        (tuples_in plan box spot.packet)) (take (to - at) (drop at spots)))
        (all : (query : ℕ) → query < queries_of plan box →
        All (λ spot. slice_get (tuples_in plan box (get_or spots at e).packet) query
        ≡ slice_get (tuples_in plan box spot.packet) query) (take (to - at) (drop at spots)) →
        bit_at fixed query ≡ 1) where
      first : Spot
      first = get_or spots at e

      abbrev site : Site
      site = record {
        entry = (get_or spots at e).entry;
        bits = (get_or spots at e).bits;
        fixed = fixed;
        first = (get_or spots at e).packet;
        from = at;
        to = to;
      }

      first_is : IsSpot plan box (get_or spots at e)
      first_is = are.only at e there

      same_at : (k : ℕ) (d : Spot) → at ≤ k → k < to → IsSpotOf site (get_or spots k d)
      same_at k d from less =
          let alike =
          subst (IsLike (get_or spots at e)) (part_at spots at to (omega (arith, run_some)) within k d from less)
          (like (k - at) d
          (subst (λ (n : ℕ). k - at < n) (sym (length_part spots at to (omega (arith, run_some)) within))
          (let l : k - at < to - at = omega (arith, from, less) in l))) in
          record { entry_is = alike.entry_is; bits_are = alike.bits_are }

      before : (k : ℕ) (d : Spot) → k < at → group_seen (get_or spots k d) < group_of site.entry site.bits
      before k d less =
          subst (λ (s : Spot). group_seen (get_or spots k d) < group_seen s) (get_or_default spots at d e there)
          (start k d less there)

      -- the tuple of a query of the site at a packet of a spot like its own
      own_tuple : (query : ℕ) (spot : Spot) → IsSpot plan box spot → IsLike (get_or spots at e) spot →
          bit_at site.bits query ≡ 1 → slice_get (tuples_in plan box spot.packet) query ≡ Some site.entry
      own_tuple query spot is alike bit =
          bits_own site.entry (tuples_in plan box spot.packet) query
          (subst (λ (n : ℕ). bit_at n query ≡ 1)
          (sym (ap (λ x. bits_of x (tuples_in plan box spot.packet)) (sym alike.entry_is) ∙ is.bits_are
          ∙ alike.bits_are))
          bit)

      own_same : (query : ℕ) → bit_at site.bits query ≡ 1 →
          All (λ spot. slice_get (tuples_in plan box (get_or spots at e).packet) query
          ≡ slice_get (tuples_in plan box spot.packet) query) (take (to - at) (drop at spots))
      own_same query bit k d less =
          let inside : k < to - at =
          subst (λ (n : ℕ). k < n) (length_part spots at to (omega (arith, run_some)) within) less in
          let spot = get_or (take (to - at) (drop at spots)) k d in
          let is : IsSpot plan box spot =
          subst (IsSpot plan box) (sym (part_is spots at to (omega (arith, run_some)) within k d inside))
          (are.only (at + k) d (omega (arith, inside, within))) in
          own_tuple query (get_or spots at e) first_is (record { entry_is = refl; bits_are = refl }) bit
          ∙ sym (own_tuple query spot is (like k d less) bit)

      own : (query : ℕ) → bit_at site.bits query ≡ 1 → bit_at site.fixed query ≡ 1
      own query bit =
          all query
          (subst (λ (n : ℕ). query < n) (even_tuples plan box (get_or spots at e).packet)
          (slice_get_within (tuples_in plan box (get_or spots at e).packet) query site.entry
          (own_tuple query (get_or spots at e) first_is (record { entry_is = refl; bits_are = refl }) bit)))
          (own_same query bit)

      -- the spot of a packet of the site stands in the run
      member_at : (packet : ℕ) → IsMember plan box site packet →
          (j : ℕ) × (at ≤ j) × (j < to) × ((get_or spots j first).packet ≡ packet)
      member_at packet member =
          let has : Contains spots (record { entry = site.entry; bits = site.bits; packet = packet }) =
          are.all (record { entry = site.entry; bits = site.bits; packet = packet })
          (record { in_range = member.in_range; bits_are = member.bits_are; some = first_is.some }) in
          let j : ℕ = has.0 in
          let from : at ≤ j = elim (cases_lt j at) [
            | inl less ↦ absurd (omega (
              arith,
              subst (λ (s : Spot). group_seen s < group_of site.entry site.bits) has.2 (before j _ less),
            ))
            | inr more ↦ more
          ] in
          let upto : j < to = elim (cases_lt j to) [
            | inl less ↦ less
            | inr more ↦ absurd (omega (
              arith,
              subst (λ (s : Spot). group_of site.entry site.bits < group_seen s) has.2 (behind j _ more has.1),
            ))
          ] in
          (j, from, upto, ap (λ (s : Spot). s.packet) (get_or_default spots j first _ has.1 ∙ has.2))

      run_is : IsRun plan box spots (record {
        entry = (get_or spots at e).entry;
        bits = (get_or spots at e).bits;
        fixed = fixed;
        first = (get_or spots at e).packet;
        from = at;
        to = to;
      })
      run_is = record {
        some = run_some;
        within = within;
        small = small.bits_are;
        same = same_at;
        before = before;
        behind = behind;
        is = record {
          some = first_is.some;
          below = below;
          first_is = record { in_range = first_is.in_range; bits_are = first_is.bits_are };
          own = own;
          fixed_are = λ packet member.
              let there_is = member_at packet member in
              let part : (get_or (take (to - at) (drop at spots)) (there_is.0 - at) first).packet ≡ packet =
              ap (λ (s : Spot). s.packet)
              (part_at spots at to (omega (arith, run_some)) within there_is.0 first there_is.1 there_is.2)
              ∙ there_is.3 in
              subst (λ (p : ℕ). AreFixed fixed (tuples_in plan box (get_or spots at e).packet)
              (tuples_in plan box p)) part
              (fixed_are (there_is.0 - at) first
              (subst (λ (n : ℕ). there_is.0 - at < n) (sym (length_part spots at to (omega (arith, run_some)) within))
              (let l : there_is.0 - at < to - at = omega (arith, there_is.1, there_is.2) in l)));
        };
      }

    -- by what is known of the spots that were passed on
    pub run_from : (run : List Spot) → run ≡ take (to - at) (drop at spots) → IsStart spots at → (fixed : ℕ) →
        IsSmall (get_or spots at e) → All (IsLike (get_or spots at e)) run → fixed < 2 ^ queries_of plan box →
        All (λ spot. AreFixed fixed (tuples_in plan box (get_or spots at e).packet)
        (tuples_in plan box spot.packet)) run →
        ((query : ℕ) → query < queries_of plan box →
        All (λ spot. slice_get (tuples_in plan box (get_or spots at e).packet) query
        ≡ slice_get (tuples_in plan box spot.packet) query) run → bit_at fixed query ≡ 1) →
        IsRun plan box spots (record {
          entry = (get_or spots at e).entry;
          bits = (get_or spots at e).bits;
          fixed = fixed;
          first = (get_or spots at e).packet;
          from = at;
          to = to;
        })
    run_from run is start fixed small like below fixed_are all =
        run_is start fixed small (subst (All (IsLike (get_or spots at e))) is like) below
        (subst (All (λ spot. AreFixed fixed (tuples_in plan box (get_or spots at e).packet)
        (tuples_in plan box spot.packet))) is fixed_are)
        (λ query less same. all query less
        (subst (All (λ spot. slice_get (tuples_in plan box (get_or spots at e).packet) query
        ≡ slice_get (tuples_in plan box spot.packet) query)) (sym is) same))

    pub run_one : (run : List Spot) → run ≡ take (to - at) (drop at spots) →
        All (λ spot. group_seen spot ≡ group_seen (get_or spots at e)) run
    run_one run is = subst (All (λ spot. group_seen spot ≡ group_seen (get_or spots at e))) (sym is) run_group

  -- one site more
  module _ (at : ℕ) (sites : List Site) (site : Site) (before : AreSites plan box spots at sites)
      (there : at < length spots) (from : site.from ≡ at) (run : IsRun plan box spots site)
      (start : IsStart spots site.to) where
    more_found : (k : ℕ) → k < site.to → HasRun (sites ++ site ∷ []) k
    more_found k less = elim (cases_lt k at) [
      | inl earlier ↦ let old = before.found k earlier in
          record {
            number = old.number;
            site = old.site;
            there = let more : length (sites ++ site ∷ []) ≡ length sites + 1 = length_push sites site in
                omega (arith, more, old.there);
            is = get_or_append_left sites (site ∷ []) old.site old.number old.there ∙ old.is;
            from = old.from;
            to = old.to;
          }
      | inr later ↦ record {
        number = length sites;
        site = site;
        there = let more : length (sites ++ site ∷ []) ≡ length sites + 1 = length_push sites site in
            omega (arith, more);
        is = get_or_push sites site site (length sites) refl;
        from = omega (arith, from, later);
        to = less;
      }
    ]

    key_le : (k l b c : ℕ) → k * 2 ^ 16 + b < l * 2 ^ 16 + c → c < 2 ^ 16 → k ≤ l
    key_le k l b c less small = omega (arith, less, small)

    last_below : (d : Site) → 0 < length sites → key_seen (get_or sites (length sites - 1) d) ≤ key_seen site
    last_below d some =
        let last : Site = get_or sites (length sites - 1) d in
        let stands : length sites - 1 < length sites = omega (arith, some) in
        let here : IsSpotOf site (get_or spots at (record { entry = site.entry; bits = 0; packet = 0 })) =
        run.same at (record { entry = site.entry; bits = 0; packet = 0 }) (omega (arith, from))
        (omega (arith, from, run.some)) in
        let above : group_of last.entry last.bits
        < group_seen (get_or spots at (record { entry = site.entry; bits = 0; packet = 0 })) =
        (before.runs (length sites - 1) d stands).behind at (record { entry = site.entry; bits = 0; packet = 0 })
        (before.ended (length sites - 1) d stands) there in
        key_le (key_of last.entry) (key_of site.entry) last.bits site.bits
        (subst (λ (n : ℕ). group_of last.entry last.bits < n) (λ i. group_of (here.entry_is i) (here.bits_are i)) above)
        run.small

    pub sites_more : AreSites plan box spots site.to (sites ++ site ∷ [])
    sites_more = record {
      few = let more : length (sites ++ site ∷ []) ≡ length sites + 1 = length_push sites site in
          omega (arith, more, before.few, run.some, from);
      within = run.within;
      start = start;
      runs = All-push (IsRun plan box spots) sites site before.runs run;
      ended = All-push (λ (s : Site). s.to ≤ site.to) sites site
          (All-weaker (λ (s : Site). s.to ≤ at) (λ (s : Site). s.to ≤ site.to)
          (λ s le. omega (arith, le, run.some, from)) sites before.ended)
          (omega arith);
      found = more_found;
      rising = IsNonDecreasingBy-push key_seen sites site before.rising last_below;
    }
