-- Hosts and links of the network of items that keep the rules.
use Rattle.std.proofs.Common.{
  ◌≡◌,
  ◌≢◌,
  ℕ,
  ◌+◌,
  ◌<◌,
  ◌≤◌,
  true,
  false,
  ◌||◌,
  List,
  [],
  ◌∷◌,
  ◌++◌,
  length,
  get_or,
  set,
  fold,
  flat_map,
  sum_by,
  Option,
  Some,
  None,
  option_map,
  option_and_then,
  AllPairs,
  refl,
  sym,
  ap,
  subst,
  ◌∙◌,
  ⊎_elim,
  length-set,
  append_assoc,
  arith,
}
use Rattle.std.specs.Bool.{⊤}
use Rattle.std.specs.List.{All, list_any, AllByRecursion, AllZip}
use Rattle.std.proofs.lemmas.Bool.{or_parts, and_from, and_parts, both_ways, cases_eq, cases_lt}
use Rattle.std.proofs.lemmas.List.{
  get_or-set_same,
  get_or-set_other,
  set_past,
  get_or-replicate,
  get_or_past,
  length-replicate,
  append-nil,
}
use Rattle.std.proofs.lemmas.List.Concat.{flat_map-append}
use Rattle.std.proofs.lemmas.List.Elements.{All-from_recursion, filter_map-append}
use Rattle.std.proofs.lemmas.List.Quantifiers.{all_pairs_push}
use Rattle.std.proofs.lemmas.List.Sums.{sum_by-cons}
use Rattle.std.proofs.lemmas.Option.{
  none-some,
  same_Some,
  option_and_then_some,
  slice_get_within,
  get_or_from_slice_get,
}
use Rattle.header_set.specs.Pattern.{any_pattern, fixed_at}
use Rattle.amdl_tree.specs.declared.tree.End.{End}
use Rattle.amdl_tree.specs.declared.tree.End.TheVariants.{Host as AtHost, Port as AtPort}
use Rattle.amdl_tree.specs.declared.tree.Equal.{Equal}
use Rattle.amdl_tree.specs.declared.tree.Item.{Item}
use Rattle.amdl_tree.specs.declared.tree.Item.TheVariants.{Host, Link}
use Rattle.amdl_tree.specs.Items.{
  KindItem,
  FieldItem,
  LinkItem,
  PatternItem,
  link_item,
  kind_items,
  field_items,
  host_items,
  link_items,
  sends_items,
  forbid_items,
}
use Rattle.amdl_tree.specs.Word.{IsName}
use Rattle.amdl_tree.specs.WellBuilt.{IsBuiltItem}
use Rattle.net_plan.specs.declared.plan.Plan.{Plan}
use Rattle.net_plan.specs.declared.plan.HostPlan.{HostPlan}
use Rattle.net_plan.specs.declared.plan.LinkPlan.{LinkPlan}
use Rattle.net_plan.specs.Plan as plan
use Rattle.net_plan.specs.Ends.{places_of}
use Rattle.net_plan.specs.Sound.{AreApart, IsPattern, IsHost, IsLink, linked_ends}
use Rattle.tree_plan.specs.Names.{value_in, same_name, number_of, all_some, kind_named, values_named}
use Rattle.tree_plan.specs.Net.{
  field_of,
  field_names,
  value_of_field,
  equation_of,
  with_equation,
  pattern_of,
  patterns_of,
}
use Rattle.tree_rules.specs.declared.rule.Rule.TheVariants.{EndToItself, EndTaken}
use Rattle.tree_rules.specs.Rules.{same_end, end_to_itself, end_taken_before, end_taken}
use Rattle.tree_soundness.proofs.Parts.{host_from, end_from, link_from}
use Rattle.tree_soundness.proofs.Prefixes.{KeepsRules, grows}
use Rattle.tree_soundness.proofs.Names.{number_is, same_is, same_self}
use Rattle.tree_soundness.proofs.Lists.{
  joined_some,
  option_map_some,
  come_from,
  zip_each,
  zip_weaker,
  zip_get,
  zip_get_or,
  zip_length,
  each_always,
  map_get,
  named_at,
}
use Rattle.tree_soundness.proofs.Forms.{each_host, built_at}
use Rattle.tree_soundness.proofs.Counts.{sends_few, forbid_few}
use Rattle.tree_soundness.proofs.Declared.{nodes_once}
use Rattle.tree_soundness.proofs.HeaderSizes.{kind_in_plan}
use Rattle.tree_soundness.proofs.Linking.{end_below, ends_apart}
use Rattle.tree_soundness.proofs.Spelled.{HasParts, host_parts, field_parts}
use Rattle.tree_soundness.proofs.Sums.{items_of, items_counted}

module _ (items : List Item) (keeps : KeepsRules items) (built : All IsBuiltItem items) (spelled : Plan)
    (parts : HasParts items spelled) where
  -- a field by its number, and a value that it has
  EquationFits : ℕ × ℕ → Type 0
  EquationFits equation =
      (equation.0 < length spelled.fields) × (equation.1 < get_or (plan.sizes_of spelled) equation.0 0)

  -- what a pattern fixes
  PatternFits : List (Option ℕ) → Type 0
  PatternFits pattern =
      (k x : ℕ) → fixed_at pattern k ≡ Some x → (k < length spelled.fields) × (x < get_or (plan.sizes_of spelled) k 0)

  value_fits : (equal : Equal) (k x : ℕ) → number_of (field_names (field_items items)) equal.field ≡ Some k →
      value_of_field (kind_items items) (field_items items) equal.value k ≡ Some x → EquationFits (k, x)
  unfolding EquationFits
  value_fits equal k x number value =
      let here = named_at (λ (field : FieldItem). field.name) (field_items items) equal.field k number in
      let field = here.0 in
      let planned =
      zip_get (λ field found. field_of (kind_items items) field ≡ Some found)
      (field_items items) spelled.fields k field
      (come_from (field_of (kind_items items)) (field_items items) spelled.fields parts.fields) here.1 in
      let size : get_or (plan.sizes_of spelled) k 0 ≡ plan.size_of spelled planned.0 =
      get_or_from_slice_get (plan.sizes_of spelled) k (plan.size_of spelled planned.0) 0
      (map_get (plan.size_of spelled) spelled.fields k planned.0 planned.1) in
      let counted : values_named (kind_items items) field.kind ≡ Some (plan.size_of spelled planned.0) =
      (kind_in_plan items keeps built spelled parts field.kind planned.0.kind
      (field_parts items field planned.0 planned.2).kind).1 in
      let of_kind : value_in (kind_items items) field.kind equal.value ≡ Some x =
      sym (ap (option_and_then (λ (field : FieldItem). value_in (kind_items items) field.kind equal.value)) here.1)
      ∙ value in
      option_and_then_some (λ (kind : KindItem). number_of kind.values equal.value)
      (kind_named (kind_items items) field.kind) x of_kind
      (λ kind named value_number_is.
      let e : length kind.values ≡ plan.size_of spelled planned.0 =
      same_Some (length kind.values) (plan.size_of spelled planned.0)
      (sym (ap (option_map (λ (kind : KindItem). length kind.values)) named) ∙ counted) in
      let inside : x < length kind.values =
      slice_get_within kind.values x equal.value (number_is kind.values equal.value x value_number_is) in
      (slice_get_within spelled.fields k planned.0 planned.1, omega (arith, size, e, inside)))

  equation_fits : (equal : Equal) (equation : ℕ × ℕ) →
      equation_of (kind_items items) (field_items items) equal ≡ Some equation → EquationFits equation
  equation_fits equal equation came =
      option_and_then_some
      (λ k. option_map (λ x. (k, x)) (value_of_field (kind_items items) (field_items items) equal.value k))
      (number_of (field_names (field_items items)) equal.field) equation came
      (λ k number mapped.
      option_map_some (λ (x : ℕ). (k, x)) (value_of_field (kind_items items) (field_items items) equal.value k)
      equation mapped
      (λ x value is. subst EquationFits is (value_fits equal k x number value)))

  with_fits : (pattern : List (Option ℕ)) (equation : ℕ × ℕ) → PatternFits pattern → EquationFits equation →
      PatternFits (with_equation pattern equation)
  unfolding PatternFits EquationFits
  with_fits pattern equation fits here k x fixed =
      ⊎_elim
      (λ same. ⊎_elim
      (λ inside.
      let put : fixed_at (with_equation pattern equation) k ≡ Some equation.1 =
      ap (λ j. get_or (set pattern equation.0 (Some equation.1)) j None) same
      ∙ get_or-set_same pattern equation.0 (Some equation.1) None inside in
      let e : equation.1 ≡ x = same_Some equation.1 x (sym put ∙ fixed) in
      subst (λ j. (j < length spelled.fields) × (x < get_or (plan.sizes_of spelled) j 0)) (sym same)
      (subst (λ y. (equation.0 < length spelled.fields) × (y < get_or (plan.sizes_of spelled) equation.0 0)) e here))
      (λ past. fits k x
      (ap (λ list. get_or list k None) (sym (set_past pattern equation.0 (Some equation.1) past)) ∙ fixed))
      (cases_lt equation.0 (length pattern)))
      (λ other. fits k x (sym (get_or-set_other pattern equation.0 k (Some equation.1) None other) ∙ fixed))
      (cases_eq k equation.0)

  pattern_folds : (equations : List (ℕ × ℕ)) (pattern : List (Option ℕ)) → length pattern ≡ 8 → PatternFits pattern →
      AllByRecursion EquationFits equations →
      (length (fold with_equation pattern equations) ≡ 8) × PatternFits (fold with_equation pattern equations)
  pattern_folds [] pattern places fits each = (places, fits)
  pattern_folds (equation ∷ equations) pattern places fits each =
      pattern_folds equations (with_equation pattern equation)
      (length-set pattern equation.0 (Some equation.1) ∙ places) (with_fits pattern equation fits each.0) each.1

  any_fits : PatternFits any_pattern
  unfolding PatternFits
  any_fits k x fixed =
      let free : Option ℕ = None in
      let places : length any_pattern ≡ 8 = length-replicate 8 free in
      let none : get_or any_pattern k None ≡ None =
      ⊎_elim (λ inside. get_or-replicate 8 k free free inside)
      (λ past. get_or_past any_pattern k None (subst (λ n. n ≤ k) (sym places) past)) (cases_lt k 8) in
      absurd (none-some x (sym none ∙ fixed))

  pattern_is : (equals : List Equal) (pattern : List (Option ℕ)) →
      pattern_of (kind_items items) (field_items items) equals ≡ Some pattern → IsPattern spelled pattern
  unfolding PatternFits
  pattern_is equals pattern came =
      option_map_some (fold with_equation any_pattern)
      (all_some (equation_of (kind_items items) (field_items items)) equals) pattern came
      (λ equations here is.
      let free : Option ℕ = None in
      let places : length any_pattern ≡ 8 = length-replicate 8 free in
      let each =
      zip_each (λ equal equation. equation_of (kind_items items) (field_items items) equal ≡ Some equation)
      (λ equal. ⊤) EquationFits equals equations
      (λ equal equation any here. equation_fits equal equation here)
      (come_from (equation_of (kind_items items) (field_items items)) equals equations here)
      (each_always (λ equal. ⊤) equals (λ equal. tt)) in
      let folded = pattern_folds equations any_pattern places any_fits each in
      subst (IsPattern spelled) is (record { places = folded.0; fits = folded.1 }))

  patterns_are : (list : List PatternItem) (host : List ℕ) (patterns : List (List (Option ℕ))) →
      patterns_of (kind_items items) (field_items items) list host ≡ Some patterns →
      All (IsPattern spelled) patterns
  patterns_are list host patterns came =
      All-from_recursion (IsPattern spelled) patterns
      (zip_each
      (λ (item : PatternItem) pattern. pattern_of (kind_items items) (field_items items) item.pattern
      ≡ Some pattern) (λ item. ⊤) (IsPattern spelled) (items_of list host) patterns
      (λ item pattern any here. pattern_is item.pattern pattern here)
      (come_from (λ (item : PatternItem). pattern_of (kind_items items) (field_items items) item.pattern)
      (items_of list host) patterns came) (each_always (λ item. ⊤) (items_of list host) (λ item. tt)))

  hosts_zip : AllZip (λ name host. host_from items name ≡ Some host) (host_items items) spelled.hosts
  hosts_zip = come_from (host_from items) (host_items items) spelled.hosts parts.hosts

  pub hosts_are : All (IsHost spelled) spelled.hosts
  hosts_are =
      All-from_recursion (IsHost spelled) spelled.hosts
      (zip_each (λ name host. host_from items name ≡ Some host) IsName (IsHost spelled)
      (host_items items) spelled.hosts
      (λ name host named came.
      let of = host_parts items name host came in
      record {
        named = subst IsName (sym of.name_is) named;
        sends = patterns_are (sends_items items) name host.sends of.sends_are;
        forbids = patterns_are (forbid_items items) name host.forbids of.forbids_are;
      }) hosts_zip
      (each_host items IsName
      (λ before name after whole. built_at IsBuiltItem items before (Host name) after built whole)))

  -- how many patterns the hosts have
  counted : (list : List PatternItem) (patterns : HostPlan → List (List (Option ℕ))) (names : List (List ℕ))
      (hosts : List HostPlan) →
      AllZip (λ name host. patterns_of (kind_items items) (field_items items) list name
      ≡ Some (patterns host)) names hosts →
      sum_by (λ host. length (patterns host)) hosts ≡ sum_by (λ name. length (items_of list name)) names
  counted list patterns [] [] zip = refl
  counted list patterns [] (host ∷ hosts) zip = absurd zip
  counted list patterns (name ∷ names) [] zip = absurd zip
  counted list patterns (name ∷ names) (host ∷ hosts) zip =
      let here : length (patterns host) ≡ length (items_of list name) =
      zip_length
      (λ (item : PatternItem) pattern. pattern_of (kind_items items) (field_items items) item.pattern
      ≡ Some pattern) (items_of list name) (patterns host)
      (come_from (λ (item : PatternItem). pattern_of (kind_items items) (field_items items) item.pattern)
      (items_of list name) (patterns host) zip.0) in
      sum_by-cons (λ host. length (patterns host)) host hosts
      ∙ (λ i. here i + counted list patterns names hosts zip.1 i)
      ∙ sym (sum_by-cons (λ name. length (items_of list name)) name names)

  pub sends_within : sum_by (λ (host : HostPlan). length host.sends) spelled.hosts ≤ 1024
  sends_within =
      omega (
        arith,
        counted (sends_items items) (λ (host : HostPlan). host.sends) (host_items items) spelled.hosts
            (zip_weaker (λ name host. host_from items name ≡ Some host)
            (λ name host. patterns_of (kind_items items) (field_items items) (sends_items items) name
            ≡ Some host.sends) (host_items items) spelled.hosts
            (λ name host came. (host_parts items name host came).sends_are) hosts_zip),
        items_counted (sends_items items) (host_items items) (nodes_once items keeps).first,
        sends_few items keeps,
      )

  pub forbids_within : sum_by (λ (host : HostPlan). length host.forbids) spelled.hosts ≤ 1024
  forbids_within =
      omega (
        arith,
        counted (forbid_items items) (λ (host : HostPlan). host.forbids) (host_items items) spelled.hosts
            (zip_weaker (λ name host. host_from items name ≡ Some host)
            (λ name host. patterns_of (kind_items items) (field_items items) (forbid_items items) name
            ≡ Some host.forbids) (host_items items) spelled.hosts
            (λ name host came. (host_parts items name host came).forbids_are) hosts_zip),
        items_counted (forbid_items items) (host_items items) (nodes_once items keeps).first,
        forbid_few items keeps,
      )

-- the ends of the links of a text
abbrev pub text_ends : List LinkItem → List End
text_ends links = flat_map (λ link. link.one ∷ link.two ∷ []) links

pub same_end_self : (end : End) → same_end end end ≡ true
same_end_self (AtHost host) = same_self host
same_end_self (AtPort box port) = and_from (same_name box box) (same_name port port) (same_self box) (same_self port)

other_end : (one two : End) → same_end one two ≡ false → one ≢ two
other_end one two other is =
    both_ways (same_end one two) other (subst (λ end. same_end one end ≡ true) is (same_end_self one))

same_end_is : (one two : End) → same_end one two ≡ true → one ≡ two
same_end_is (AtHost one) (AtHost two) same = ap AtHost (same_is one two same)
same_end_is (AtHost one) (AtPort two port) same = absurd (both_ways false refl same)
same_end_is (AtPort one port) (AtHost two) same = absurd (both_ways false refl same)
same_end_is (AtPort one port) (AtPort two other) same =
    let parts = and_parts (same_name one two) (same_name port other) same in
    λ i. AtPort (same_is one two parts.0 i) (same_is port other parts.1 i)

-- an end that no link has differs from the ends of all links
untaken : (end : End) (links : List LinkItem) →
    list_any (λ link. same_end end link.one || same_end end link.two) links ≡ false →
    AllByRecursion (λ other. other ≢ end) (text_ends links)
untaken end [] free = tt
untaken end (link ∷ links) free =
    let parts =
    or_parts (same_end end link.one || same_end end link.two)
    (list_any (λ link. same_end end link.one || same_end end link.two) links) free in
    let both = or_parts (same_end end link.one) (same_end end link.two) parts.0 in (
      λ is. other_end end link.one both.0 (sym is),
      (λ is. other_end end link.two both.1 (sym is), untaken end links parts.1),
    )

push_apart : (ends : List End) (end : End) → AllPairs (λ one two. one ≢ two) ends →
    AllByRecursion (λ other. other ≢ end) ends → AllPairs (λ one two. one ≢ two) (ends ++ end ∷ [])
push_apart ends end apart each =
    all_pairs_push (λ one two. one ≢ two) ends end apart
    (λ k d inside. All-from_recursion (λ other. other ≢ end) ends each k d inside)

push_each : (P : End → Type 0) (ends : List End) (end : End) → AllByRecursion P ends → P end →
    AllByRecursion P (ends ++ end ∷ [])
push_each P [] end each here = (here, tt)
push_each P (one ∷ ends) end each here = (each.0, push_each P ends end each.1 here)

ends_step : (before : List Item) (item : Item) → end_to_itself before item ≡ false → end_taken before item ≡ false →
    AllPairs (λ one two. one ≢ two) (text_ends (link_items before)) →
    AllPairs (λ one two. one ≢ two) (text_ends (link_items before) ++ text_ends (link_items (item ∷ [])))
ends_step before (Link one two) differ free apart =
    let ends = text_ends (link_items before) in
    let parts = or_parts (end_taken_before before one) (end_taken_before before two) free in
    let first : AllPairs (λ one two. one ≢ two) (ends ++ one ∷ []) =
    push_apart ends one apart (untaken one (link_items before) parts.0) in
    let second =
    push_apart (ends ++ one ∷ []) two first
    (push_each (λ other. other ≢ two) ends one (untaken two (link_items before) parts.1)
    (other_end one two differ)) in
    subst (AllPairs (λ one two. one ≢ two)) (append_assoc ends (one ∷ []) (two ∷ [])) second
ends_step before _ differ free apart =
    subst (AllPairs (λ one two. one ≢ two)) (sym (append-nil (text_ends (link_items before)))) apart

pub ends_once : (items : List Item) → KeepsRules items → AllPairs (λ one two. one ≢ two) (text_ends (link_items items))
ends_once items keeps =
    grows (λ items. AllPairs (λ one two. one ≢ two) (text_ends (link_items items))) items
    (λ i j d below inside. absurd (omega arith))
    (λ before item after stands apart.
    subst (AllPairs (λ one two. one ≢ two))
    (sym (ap text_ends (filter_map-append link_item before (item ∷ []))
    ∙ flat_map-append (λ (link : LinkItem). link.one ∷ link.two ∷ []) (link_items before) (link_items (item ∷ []))))
    (ends_step before item (keeps.each EndToItself before item after stands)
    (keeps.each EndTaken before item after stands) apart))

module _ (items : List Item) (spelled : Plan)
    (links_are : all_some (link_from items (places_of spelled)) (link_items items) ≡ Some spelled.links) where
  links_zip : AllZip (λ link found. link_from items (places_of spelled) link ≡ Some found)
      (link_items items) spelled.links
  links_zip = come_from (link_from items (places_of spelled)) (link_items items) spelled.links links_are

  link_ends : (link : LinkItem) (found : LinkPlan) → link_from items (places_of spelled) link ≡ Some found →
      (end_from items (places_of spelled) link.one ≡ Some found.one)
      × (end_from items (places_of spelled) link.two ≡ Some found.two)
  link_ends link found came =
      joined_some (λ one two. record { one = one; two = two }) (end_from items (places_of spelled) link.one)
      (end_from items (places_of spelled) link.two) found came
      (λ one two first second is.
      (first ∙ ap (λ (link : LinkPlan). Some link.one) is, second ∙ ap (λ (link : LinkPlan). Some link.two) is))

  ends_zip : (links : List LinkItem) (found : List LinkPlan) →
      AllZip (λ link found. link_from items (places_of spelled) link ≡ Some found) links found →
      AllZip (λ end k. end_from items (places_of spelled) end ≡ Some k) (text_ends links)
      (flat_map (λ link. link.one ∷ link.two ∷ []) found)
  ends_zip [] [] zip = tt
  ends_zip [] (one ∷ found) zip = absurd zip
  ends_zip (link ∷ links) [] zip = absurd zip
  ends_zip (link ∷ links) (one ∷ found) zip =
      let ends = link_ends link one zip.0 in
      (ends.0, (ends.1, ends_zip links found zip.1))

  all_ends : AllZip (λ end k. end_from items (places_of spelled) end ≡ Some k) (text_ends (link_items items))
      (linked_ends spelled)
  all_ends = ends_zip (link_items items) spelled.links links_zip

  pub links_are_in_range : All (IsLink spelled) spelled.links
  links_are_in_range =
      All-from_recursion (IsLink spelled) spelled.links
      (zip_each (λ link found. link_from items (places_of spelled) link ≡ Some found) (λ link. ⊤) (IsLink spelled)
      (link_items items) spelled.links
      (λ link found any came.
      let ends = link_ends link found came in
      record {
        one = end_below items (places_of spelled) link.one found.one ends.0;
        two = end_below items
            (places_of spelled) link.two found.two ends.1;
      })
      links_zip (each_always (λ link. ⊤) (link_items items) (λ link. tt)))

  pub linked_apart : KeepsRules items → AreApart (linked_ends spelled)
  linked_apart keeps = λ i j d below inside same.
      let ends = text_ends (link_items items) in
      let counted : length (linked_ends spelled) ≡ length ends =
      zip_length (λ end k. end_from items (places_of spelled) end ≡ Some k) ends (linked_ends spelled) all_ends in
      let none : End = AtHost [] in
      let one =
      zip_get_or (λ end k. end_from items (places_of spelled) end ≡ Some k) ends
      (linked_ends spelled) i none d all_ends (omega (arith, counted)) in
      let two =
      zip_get_or (λ end k. end_from items (places_of spelled) end ≡ Some k) ends
      (linked_ends spelled) j none d all_ends (omega (arith, counted)) in
      ends_once items keeps i j none below (omega (arith, counted))
      (same_end_is (get_or ends i none) (get_or ends j none)
      (ends_apart items (places_of spelled) (get_or ends i none) (get_or ends j none)
      (get_or (linked_ends spelled) i d) one (two ∙ ap Some (sym same))))
