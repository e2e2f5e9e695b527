-- The table of a box, and what is read from it.
use Rattle.std.proofs.Common.{◌≡◌, ℕ, ◌+◌, ◌-◌, ◌*◌, ◌^◌, ◌<◌, ◌≤◌, List, [], ◌∷◌, ◌++◌, length, get_or, map, Option}
use Rattle.std.proofs.Common.{Some, None, MatchOption, refl, sym, ap, subst, ◌∙◌, inl, inr, arith}
use Rattle.std.specs.Prelude.{slice_get}
use Rattle.std.specs.List.{All, Contains}
use Rattle.std.specs.List.Sorted.{IsNonDecreasing, IsNonDecreasingBy}
use Rattle.std.proofs.lemmas.Bool.{cases_lt}
use Rattle.std.proofs.lemmas.List.{length-map, get_or-map, length_push, get_or_append_left, get_or_push}
use Rattle.std.proofs.lemmas.List.Elements.{All-contains}
use Rattle.std.proofs.lemmas.Option.{slice_get-get_or, slice_get_within, slice_get_cases, get_or_from_slice_get}
use Rattle.box_contents.specs.declared.entry.Entry.{Entry}
use Rattle.net_plan.specs.declared.plan.Plan.{Plan}
use Rattle.net_plan.specs.Plan.{packets_of, boxes_of}
use Rattle.query_tables.specs.declared.spots.Spot.{Spot}
use Rattle.query_tables.specs.declared.sites.Site.{Site}
use Rattle.query_tables.specs.declared.table.BoxTable.{BoxTable}
use Rattle.query_tables.specs.Search.{HasNone, HasNoneFrom, IsInBoth}
use Rattle.query_tables.specs.Sites.{bits_of, IsMember, Tables, sites_at, IsSiteAt, IsSiteOf, IsMemberAt}
use Rattle.query_tables.specs.Sites.{AreCommon, IsSite}
use Rattle.query_tables.specs.Spots.{IsSpot, AreSpots, IsRun, IsSpotOf, AreSites, group_of, group_seen}
use Rattle.query_tables.specs.Stored.{members_in, IsStored, IsFound, IsTable, AreTables, sites_in, seen_of}
use Rattle.query_tables.specs.Tables.{Reads, tuples_in, all_tuples, key_of, key_seen}
use Rattle.query_tables.proofs.BitLemmas.{bits_some}
use Rattle.query_tables.proofs.TableLemmas.{reads_tuple}
use Rattle.query_tables.proofs.RunLemmas.{length_part, part_is, part_has}

abbrev packets : List Spot → List ℕ
packets spots = map (λ (spot : Spot). spot.packet) spots

module _ (plan : Plan) (box : ℕ) (spots : List Spot) (are : AreSpots plan box spots) where
  module _ (site : Site) (run : IsRun plan box spots site) where
    rises : site.from ≤ site.to
    rises = let some = run.some in omega (arith, some)

    ends : site.to ≤ length (packets spots)
    ends =
        let same : length (packets spots) ≡ length spots = length-map spots (λ (spot : Spot). spot.packet) in
        let within = run.within in
        omega (arith, same, within)

    -- the member at a place, as the packet of a spot
    member_is : (k d : ℕ) (e : Spot) → k < length (members_in (packets spots) site) →
        (k < site.to - site.from)
        × (get_or (members_in (packets spots) site) k d ≡ (get_or spots (site.from + k) e).packet)
    member_is k d e less =
        let inside : k < site.to - site.from =
        subst (λ (n : ℕ). k < n) (length_part (packets spots) site.from site.to rises ends) less in (
          inside,
          part_is (packets spots) site.from site.to rises ends k d inside
              ∙ get_or-map (λ (spot : Spot). spot.packet) spots (site.from + k) e d
              (let within = run.within in omega (arith, inside, within)),
        )

    stored_all : (packet : ℕ) → IsMember plan box site packet → Contains (members_in (packets spots) site) packet
    stored_all packet member =
        let has : Contains spots (record { entry = site.entry; bits = site.bits; packet = packet }) =
        are.all (record { entry = site.entry; bits = site.bits; packet = packet })
        (record { in_range = member.in_range; bits_are = member.bits_are; some = run.is.some }) in
        let j : ℕ = has.0 in
        let from : site.from ≤ j = elim (cases_lt j site.from) [
          | inl less ↦ absurd (omega (
            arith,
            subst (λ (s : Spot). group_seen s < group_of site.entry site.bits) has.2 (run.before j _ less),
          ))
          | inr more ↦ more
        ] in
        let upto : j < site.to = elim (cases_lt j site.to) [
          | inl less ↦ less
          | inr more ↦ absurd (omega (
            arith,
            subst (λ (s : Spot). group_of site.entry site.bits < group_seen s) has.2 (run.behind j _ more has.1),
          ))
        ] in
        part_has (packets spots) site.from site.to rises ends j packet from upto
        (get_or-map (λ (spot : Spot). spot.packet) spots j (record {
          entry = site.entry;
          bits = site.bits;
          packet = packet;
        }) packet has.1
        ∙ ap (λ (s : Spot). s.packet) has.2)

    spot_member : (spot : Spot) → IsSpot plan box spot → IsSpotOf site spot → IsMember plan box site spot.packet
    spot_member spot is of = record {
      in_range = is.in_range;
      bits_are = ap (λ x. bits_of x (tuples_in plan box spot.packet)) (sym of.entry_is) ∙ is.bits_are ∙ of.bits_are;
    }

    no_spot : Spot
    no_spot = record { entry = site.entry; bits = 0; packet = 0 }

    stored_only : All (IsMember plan box site) (members_in (packets spots) site)
    stored_only k d less =
        let stands = member_is k d no_spot less in
        let inside = stands.0 in
        let within = run.within in
        subst (IsMember plan box site) (sym stands.1)
        (spot_member (get_or spots (site.from + k) no_spot)
        (are.only (site.from + k) no_spot (omega (arith, inside, within)))
        (run.same (site.from + k) no_spot (omega arith) (omega (arith, inside))))

    packet_le : (g h p q : ℕ) → g ≡ h → g * 2 ^ 32 + p ≤ h * 2 ^ 32 + q → p ≤ q
    packet_le g h p q same le = omega (arith, same, le)

    stored_rise : IsNonDecreasing (members_in (packets spots) site)
    stored_rise i j d le less =
        let one = member_is i d no_spot (omega (arith, le, less)) in
        let two = member_is j d no_spot less in
        let inside = two.0 in
        let within = run.within in
        let first = run.same (site.from + i) no_spot (omega arith) (omega (arith, le, inside)) in
        let second = run.same (site.from + j) no_spot (omega arith) (omega (arith, inside)) in
        let group : group_seen (get_or spots (site.from + i) no_spot)
        ≡ group_seen (get_or spots (site.from + j) no_spot) =
        (λ n. group_of (first.entry_is n) (first.bits_are n))
        ∙ sym (λ n. group_of (second.entry_is n) (second.bits_are n)) in
        let rising : (get_or spots (site.from + i) no_spot).packet ≤ (get_or spots (site.from + j) no_spot).packet =
        packet_le (group_seen (get_or spots (site.from + i) no_spot))
        (group_seen (get_or spots (site.from + j) no_spot))
        (get_or spots (site.from + i) no_spot).packet (get_or spots (site.from + j) no_spot).packet group
        (are.rising (site.from + i) (site.from + j) no_spot (omega (arith, le)) (omega (arith, inside, within))) in
        omega (arith, one.1, two.1, rising)

    stored : IsStored plan box (packets spots) site
    stored = record {
      from_to = rises;
      within = ends;
      is = run.is;
      all = stored_all;
      only = stored_only;
      rising = stored_rise;
    }

  module _ (sites : List Site) (made : AreSites plan box spots (length spots) sites) where
    abbrev spot_of : ℕ → Entry → Spot
    spot_of packet entry = record {
      entry = entry;
      bits = bits_of entry (tuples_in plan box packet);
      packet = packet;
    }

    found : (packet : ℕ) (entry : Entry) → packet < packets_of plan → Reads plan box packet entry →
        IsFound plan box sites entry packet
    found packet entry less reads =
        let has : Contains spots (spot_of packet entry) =
        are.all (spot_of packet entry)
        (record {
          in_range = less;
          bits_are = refl;
          some = bits_some entry (tuples_in plan box packet) (reads_tuple plan box packet entry reads);
        }) in
        let in_run = made.found has.0 has.1 in
        let run : IsRun plan box spots in_run.site =
        subst (IsRun plan box spots) in_run.is (made.runs in_run.number in_run.site in_run.there) in
        let of : IsSpotOf in_run.site (spot_of packet entry) =
        subst (IsSpotOf in_run.site) has.2 (run.same has.0 _ in_run.from in_run.to) in
        record {
          number = in_run.number;
          site = in_run.site;
          at = slice_get-get_or sites in_run.number in_run.site in_run.there ∙ ap Some in_run.is;
          entry_is = sym of.entry_is;
          member = record {
            in_range = less;
            bits_are = ap (λ x. bits_of x (tuples_in plan box packet)) (sym of.entry_is) ∙ of.bits_are;
          };
        }

    pub table_is : (table : BoxTable) → table.tuples.items ≡ all_tuples plan box → table.sites.items ≡ sites →
        table.members.items ≡ map (λ (spot : Spot). spot.packet) spots → length spots < 2 ^ 32 → IsTable plan box table
    table_is table tuples same members few = record {
      tuples_are = tuples;
      few = let number : length table.sites.items ≡ length sites = ap length same in
          omega (arith, number, made.few, few);
      stored = subst (λ l. All (IsStored plan box l) table.sites.items) (sym members)
          (subst (All (IsStored plan box (packets spots))) (sym same)
          (λ k d less. stored (get_or sites k d) (made.runs k d less)));
      rising = subst (IsNonDecreasingBy key_seen) (sym same) made.rising;
      found = λ packet entry less reads. subst (λ l. IsFound plan box l entry packet) (sym same)
          (found packet entry less reads);
    }

-- the table of one box more
pub tables_more : (plan : Plan) (boxes : ℕ) (tables : List BoxTable) (table : BoxTable) → AreTables plan boxes tables →
    IsTable plan boxes table → AreTables plan (boxes + 1) (tables ++ table ∷ [])
tables_more plan boxes tables table are is = record {
  one_each = length_push tables table ∙ ap (λ (n : ℕ). n + 1) are.one_each;
  tables_are = λ box d less. elim (cases_lt box boxes) [
    | inl before ↦ subst (IsTable plan box)
        (sym (get_or_append_left tables (table ∷ []) d box
        (subst (λ (n : ℕ). box < n) (sym are.one_each) before)))
        (are.tables_are box d before)
    | inr last ↦ let same : box ≡ boxes = omega (arith, less, last) in
        subst (IsTable plan box) (sym (get_or_push tables table d box (are.one_each ∙ sym same)))
        (subst (λ (n : ℕ). IsTable plan n table) (sym same) is)
  ];
}

-- the sites of a tuple, by the numbers that a search gives
module _ (plan : Plan) (boxes : List BoxTable) (box : ℕ) (table : BoxTable)
    (are : AreTables plan (boxes_of plan) boxes) (there : box < boxes_of plan)
    (is : table ≡ get_or boxes box table) where
  table_there : IsTable plan box table
  table_there = subst (IsTable plan box) (sym is) (are.tables_are box table there)

  sites_seen : sites_at (seen_of plan boxes) box ≡ table.sites.items
  sites_seen =
      get_or-map sites_in boxes box table [] (let number = are.one_each in omega (arith, number, there))
      ∙ ap sites_in (sym is)

  -- a site of the tuple is among the numbers that a search gives
  pub numbered : (sites : List Site) → sites ≡ table.sites.items → (entry : Entry) (from to number : ℕ) (site : Site) →
      ((number : ℕ) (d : Site) → number < length sites → key_seen (get_or sites number d) ≡ key_of entry →
      (from ≤ number) × (number < to)) →
      IsSiteAt (seen_of plan boxes) box number site → site.entry ≡ entry → (from ≤ number) × (number < to)
  numbered sites same entry from to number site all at entry_is =
      let here : slice_get sites number ≡ Some site =
      subst (λ l. slice_get l number ≡ Some site) (sites_seen ∙ sym same) at in
      all number site (slice_get_within sites number site here)
      (ap key_seen (get_or_from_slice_get sites number site site here) ∙ ap key_of entry_is)

  site_found : (packet : ℕ) (entry : Entry) → packet < packets_of plan → Reads plan box packet entry →
      (number : ℕ) × IsSiteOf (seen_of plan boxes) box number entry packet
  site_found packet entry less reads =
      let found : IsFound plan box table.sites.items entry packet = table_there.found packet entry less reads in (
        found.number,
        record {
          site = found.site;
          at = subst (λ l. slice_get l found.number ≡ Some found.site) (sym sites_seen) found.at;
          entry_is = found.entry_is;
          member = found.member;
        },
      )

  site_right : (number : ℕ) (site : Site) → IsSiteAt (seen_of plan boxes) box number site → IsSite plan box site
  site_right number site at =
      let here : slice_get table.sites.items number ≡ Some site =
      subst (λ l. slice_get l number ≡ Some site) sites_seen at in
      (subst (IsStored plan box table.members.items) (get_or_from_slice_get table.sites.items number site site here)
      (table_there.stored number site (slice_get_within table.sites.items number site here))).is

-- and for each box
module _ (plan : Plan) (boxes : List BoxTable) (are : AreTables plan (boxes_of plan) boxes) where
  table_of : (box : ℕ) → box < boxes_of plan → (table : BoxTable) × (table ≡ get_or boxes box table)
  table_of box less = elim ((slice_get_cases boxes box).1) [
    | inl here ↦ (here.0, sym here.3)
    | inr past ↦ absurd (let number = are.one_each in omega (arith, number, past.0, less))
  ]

  pub all_found : (box packet : ℕ) (entry : Entry) → box < boxes_of plan → packet < packets_of plan →
      Reads plan box packet entry → (number : ℕ) × IsSiteOf (seen_of plan boxes) box number entry packet
  all_found box packet entry boxed less reads =
      let table = table_of box boxed in
      site_found plan boxes box table.0 are boxed table.1 packet entry less reads

  pub all_right : (box number : ℕ) (site : Site) → box < boxes_of plan → IsSiteAt (seen_of plan boxes) box number site →
      IsSite plan box site
  all_right box number site boxed at =
      let table = table_of box boxed in site_right plan boxes box table.0 are boxed table.1 number site at

no_site : Site
no_site = record {
  entry = record { relation = 0; tuple = 0 };
  bits = 0;
  fixed = 0;
  first = 0;
  from = 0;
  to = 0;
}

-- the packets of a site, by their list
module _ (tables : Tables) (box number : ℕ) (there : number < length (sites_at tables box)) (members : List ℕ)
    (all : (site : Site) → IsSiteAt tables box number site → (packet : ℕ) →
    IsMember tables.plan box site packet → Contains members packet)
    (only : (site : Site) → IsSiteAt tables box number site → All (IsMember tables.plan box site) members) where
  member_listed : (packet : ℕ) → IsMemberAt tables box number packet → Contains members packet
  member_listed packet member = all member.site member.at packet member.member

  listed_member : (packet : ℕ) → Contains members packet → IsMemberAt tables box number packet
  listed_member packet has =
      let at : IsSiteAt tables box number (get_or (sites_at tables box) number no_site) =
      slice_get-get_or (sites_at tables box) number no_site there in
      record {
        site = get_or (sites_at tables box) number no_site;
        at = at;
        member = All-contains (IsMember tables.plan box (get_or (sites_at tables box) number no_site)) members packet
            (only (get_or (sites_at tables box) number no_site) at) has;
      }

-- the least number with one property is that with the other, where they are the same
least_by : (P Q : ℕ → Type 0) (from : ℕ) (found : Option ℕ) → ((k : ℕ) → P k → Q k) → ((k : ℕ) → Q k → P k) →
    MatchOption found (HasNoneFrom P from) (λ k. (from ≤ k) × P k × HasNone P from k) →
    MatchOption found (HasNoneFrom Q from) (λ k. (from ≤ k) × Q k × HasNone Q from k)
least_by P Q from None to back none = λ k le has. none k le (back k has)
least_by P Q from (Some k) to back least =
    (least.0, to k least.1, λ other le less has. least.2 other le less (back other has))

module _ (tables : Tables) (box one other : ℕ) (of_one : one < length (sites_at tables box))
    (of_other : other < length (sites_at tables box)) (members others : List ℕ)
    (all : (site : Site) → IsSiteAt tables box one site → (packet : ℕ) → IsMember tables.plan box site packet →
    Contains members packet)
    (only : (site : Site) → IsSiteAt tables box one site → All (IsMember tables.plan box site) members)
    (all_others : (site : Site) → IsSiteAt tables box other site → (packet : ℕ) →
    IsMember tables.plan box site packet → Contains others packet)
    (only_others : (site : Site) → IsSiteAt tables box other site → All (IsMember tables.plan box site) others) where
  pub least_common : (from : ℕ) (found : Option ℕ) →
      MatchOption found (HasNoneFrom (IsInBoth members others) from)
      (λ k. (from ≤ k) × IsInBoth members others k × HasNone (IsInBoth members others) from k) →
      MatchOption found (HasNoneFrom (AreCommon tables box one other) from)
      (λ k. (from ≤ k) × AreCommon tables box one other k × HasNone (AreCommon tables box one other) from k)
  least_common from found =
      least_by (IsInBoth members others) (AreCommon tables box one other) from found
      (λ k has. record {
        of_one = listed_member tables box one of_one members all only k has.0;
        of_other = listed_member tables box other of_other others all_others only_others k has.1;
      })
      (λ k common. (
        member_listed tables box one of_one members all only k common.of_one,
        member_listed tables box other of_other others all_others only_others k common.of_other,
      ))
