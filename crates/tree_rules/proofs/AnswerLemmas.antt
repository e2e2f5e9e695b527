-- Each list of items is well formed, or refused at one place by one rule.
use Rattle.std.proofs.Common.{◌≡◌, ◌≢◌, ℕ, suc, Bool, true, false, List, [], ◌∷◌, ◌++◌, length, All, refl, sym, ap}
use Rattle.std.proofs.Common.{subst, ◌∙◌, ◌⊎◌, append_assoc, append-nil, arith, Some, None, cond, find}
use mathlib.Core.Logic.{inl, inr}
use Rattle.std.proofs.lemmas.Bool.{cases_Bool}
use Rattle.std.proofs.lemmas.List.Elements.{All-nil, All-push}
use Rattle.std.proofs.lemmas.Option.{none-some, same_Some}
use Rattle.amdl_tree.specs.declared.tree.Item.{Item}
use Rattle.amdl_tree.specs.Items.{FieldItem, field_items}
use Rattle.tree_rules.specs.declared.rule.Rule.{Rule}
use Rattle.tree_rules.specs.declared.rule.Rule.TheVariants.{
  NameTaken,
  UnknownName,
  TooMany,
  HeaderTooLarge,
  FieldLate,
  Arity,
  KindMismatch,
  RelationTooLarge,
  HandlerTwice,
  TooManyPaths,
  TooManyQueries,
  EndToItself,
  EndTaken,
  SameItem,
  TooManyCells,
  NoField,
}
use Rattle.tree_rules.specs.Checked.{
  breaks,
  IsKept,
  IsWellFormed,
  item_rules,
  KeepsAll,
  KeepsEach,
  first_rule,
  IsFirstRule,
  IsFaultAt,
  LacksField,
  IsRefusedAt,
}
use Rattle.tree_rules.specs.Laws.{IsCheckedSomehow}
use Rattle.tree_rules.proofs.Parting.{parting, parting_last}

no_both : (b : Bool) → b ≡ true → b ≡ false → ⊥
no_both b positive negative = absurd (cc)

-- what all of a list have, the member behind a front has
at_member : (P : Rule → Type 0) (front : List Rule) (x : Rule) (rest : List Rule) → All P (front ++ x ∷ rest) → P x
at_member P [] x rest all = all 0 x (omega arith)
at_member P (y ∷ front) x rest all = at_member P front x rest (λ k d lt. all (suc k) d (omega arith))

-- no rule of the list holds
abbrev NoneOf : List Item → Item → List Rule → Type 0
NoneOf before item rules = All (λ rule. breaks rule before item ≡ false) rules

-- the first rule of an item is settled
rule_once : (before : List Item) (item : Item) (rule other : Rule) → IsFirstRule before item rule →
    IsFirstRule before item other → rule ≡ other
rule_once before item rule other one two =
    elim (parting one.earlier rule one.later two.earlier other two.later (sym one.in_order ∙ two.in_order)) [
      | inl here ↦ here.members
      | inr apart ↦ elim apart [
        | inl first ↦ absurd (no_both (breaks rule before item) one.holds
            (at_member (λ r. breaks r before item ≡ false) one.earlier rule first.0
            (subst (NoneOf before item) first.1 two.kept)))
        | inr second ↦ absurd (no_both (breaks other before item) two.holds
            (at_member (λ r. breaks r before item ≡ false) two.earlier other second.0
            (subst (NoneOf before item) second.1 one.kept)))
      ]
    ]

-- two faults are one
pub record IsOne (one two : ℕ) (rule other : Rule) : Type 0 where
  pub place : one ≡ two
  pub rule_is : rule ≡ other

moved : (before front : List Item) (item next : Item) (rule : Rule) → before ≡ front → item ≡ next →
    IsFirstRule before item rule → IsFirstRule front next rule
moved before front item next rule b i first =
    subst (λ (m : Item). IsFirstRule front m rule) i (subst (λ (l : List Item). IsFirstRule l item rule) b first)

faults_once : (items : List Item) (one two : ℕ) (rule other : Rule) → IsFaultAt items one rule →
    IsFaultAt items two other → IsOne one two rule other
faults_once items one two rule other f g =
    elim (parting f.before f.item f.after g.before g.item g.after (sym f.stands ∙ g.stands)) [
      | inl here ↦ record {
        place = f.counted ∙ ap length here.fronts ∙ sym g.counted;
        rule_is =
            rule_once g.before g.item rule other
            (moved f.before g.before f.item g.item rule here.fronts here.members f.rule_first) g.rule_first;
      }
      | inr apart ↦ elim apart [
        | inl first ↦ absurd
            (no_both (breaks rule f.before f.item) f.rule_first.holds (g.first f.before f.item first.0 first.1 rule))
        | inr second ↦ absurd
            (no_both (breaks other g.before g.item) g.rule_first.holds
            (f.first g.before g.item second.0 second.1 other))
      ]
    ]

not_lacking : {A : Type 0} (items : List Item) (one two : ℕ) (rule other : Rule) → IsFaultAt items one rule →
    LacksField items two other → A
not_lacking items one two rule other f l =
    absurd (no_both (breaks rule f.before f.item) f.rule_first.holds (l.first f.before f.item f.after f.stands rule))

refused_once : (items : List Item) (one two : ℕ) (rule other : Rule) → IsRefusedAt items one rule →
    IsRefusedAt items two other → IsOne one two rule other
refused_once items one two rule other f g =
    elim f [
      | inl fault ↦ elim g [
        | inl second ↦ faults_once items one two rule other fault second
        | inr lacks ↦ not_lacking items one two rule other fault lacks
      ]
      | inr lacks ↦ elim g [
        | inl second ↦ not_lacking items two one other rule second lacks
        | inr again ↦ record { place = lacks.counted ∙ sym again.counted; rule_is = lacks.rule_is ∙ sym again.rule_is }
      ]
    ]

pub one_place : (items : List Item) (one two : ℕ) (rule other : Rule) → IsRefusedAt items one rule →
    IsRefusedAt items two other → one ≡ two
one_place items one two rule other f g = (refused_once items one two rule other f g).place

pub one_rule : (items : List Item) (one two : ℕ) (rule other : Rule) → IsRefusedAt items one rule →
    IsRefusedAt items two other → rule ≡ other
one_rule items one two rule other f g = (refused_once items one two rule other f g).rule_is

-- well-formed items keep each rule
kept_by : (items : List Item) → IsWellFormed items → (rule : Rule) → IsKept items (breaks rule)
kept_by items formed NameTaken = formed.names_free
kept_by items formed UnknownName = formed.names_known
kept_by items formed TooMany = formed.counts_small
kept_by items formed HeaderTooLarge = formed.header_small
kept_by items formed FieldLate = formed.fields_early
kept_by items formed Arity = formed.arities_meet
kept_by items formed KindMismatch = formed.kinds_meet
kept_by items formed RelationTooLarge = formed.relations_small
kept_by items formed HandlerTwice = formed.handlers_apart
kept_by items formed TooManyPaths = formed.paths_few
kept_by items formed TooManyQueries = formed.queries_few
kept_by items formed EndToItself = formed.ends_differ
kept_by items formed EndTaken = formed.ends_free
kept_by items formed SameItem = formed.items_apart
kept_by items formed TooManyCells = formed.cells_few
kept_by items formed NoField = λ before item after e. refl

pub not_both : (items : List Item) (number : ℕ) (rule : Rule) → IsWellFormed items → IsRefusedAt items number rule → ⊥
not_both items number rule formed refused =
    elim refused [
      | inl fault ↦ no_both (breaks rule fault.before fault.item) fault.rule_first.holds
          (kept_by items formed rule fault.before fault.item fault.after fault.stands)
      | inr lacks ↦ formed.some_field lacks.none
    ]

-- whether a rule holds of an item, and which is the first
abbrev Judged : List Item → Item → Type 0
Judged before item = NoneOf before item item_rules ⊎ ((rule : Rule) × IsFirstRule before item rule)

judged_from : (before : List Item) (item : Item) (earlier later : List Rule) → item_rules ≡ earlier ++ later →
    NoneOf before item earlier → Judged before item
judged_from before item earlier [] order none = inl (subst (NoneOf before item) (sym (order ∙ append-nil earlier)) none)
judged_from before item earlier (rule ∷ later) order none =
    elim (cases_Bool (breaks rule before item)) [
      | inl positive ↦ inr
          (rule, record { earlier = earlier; later = later; in_order = order; holds = positive; kept = none })
      | inr negative ↦ judged_from before item (earlier ++ rule ∷ []) later
          (order ∙ sym (append_assoc earlier (rule ∷ []) later))
          (All-push (λ r. breaks r before item ≡ false) earlier rule none negative)
    ]

judged : (before : List Item) (item : Item) → Judged before item
judged before item = judged_from before item [] item_rules refl (All-nil (λ r. breaks r before item ≡ false))

-- where none of the rules in order holds, no rule does
keeps_all : (before : List Item) (item : Item) → NoneOf before item item_rules → KeepsAll before item
keeps_all before item none NameTaken = none 0 NameTaken (omega arith)
keeps_all before item none UnknownName = none 1 NameTaken (omega arith)
keeps_all before item none TooMany = none 2 NameTaken (omega arith)
keeps_all before item none HeaderTooLarge = none 3 NameTaken (omega arith)
keeps_all before item none FieldLate = none 4 NameTaken (omega arith)
keeps_all before item none Arity = none 5 NameTaken (omega arith)
keeps_all before item none KindMismatch = none 6 NameTaken (omega arith)
keeps_all before item none RelationTooLarge = none 7 NameTaken (omega arith)
keeps_all before item none HandlerTwice = none 8 NameTaken (omega arith)
keeps_all before item none TooManyPaths = none 9 NameTaken (omega arith)
keeps_all before item none TooManyQueries = none 10 NameTaken (omega arith)
keeps_all before item none EndToItself = none 11 NameTaken (omega arith)
keeps_all before item none EndTaken = none 12 NameTaken (omega arith)
keeps_all before item none SameItem = none 13 NameTaken (omega arith)
keeps_all before item none TooManyCells = none 14 NameTaken (omega arith)
keeps_all before item none NoField = refl

pub one_more : (before : List Item) (item : Item) → KeepsEach before → KeepsAll before item →
    KeepsEach (before ++ item ∷ [])
one_more before item all keeps front other back e =
    elim (parting_last before item front other back e) [
      | inl here ↦ subst (λ (m : Item). KeepsAll front m) here.members
          (subst (λ (l : List Item). KeepsAll l item) here.fronts keeps)
      | inr within ↦ all front other within.0 within.1
    ]

pub nothing_kept : KeepsEach []
nothing_kept [] other back e = absurd (cc)
nothing_kept (x ∷ front) other back e = absurd (cc)

abbrev Scanned : List Item → Type 0
Scanned items = KeepsEach items ⊎ ((number : ℕ) × (rule : Rule) × IsFaultAt items number rule)

scanned_from : (items before after : List Item) → items ≡ before ++ after → KeepsEach before → Scanned items
scanned_from items before [] e all = inl (subst KeepsEach (sym (e ∙ append-nil before)) all)
scanned_from items before (item ∷ after) e all =
    elim (judged before item) [
      | inl none ↦ scanned_from items (before ++ item ∷ []) after (e ∙ sym (append_assoc before (item ∷ []) after))
          (one_more before item all (keeps_all before item none))
      | inr found ↦ inr (
        length before,
        found.0,
        record {
          before = before;
          item = item;
          after = after;
          stands = e;
          counted = refl;
          first = all;
          rule_first = found.1;
        },
      )
    ]

pub formed_by : (items : List Item) → KeepsEach items → field_items items ≢ [] → IsWellFormed items
formed_by items all some = record {
  names_free = λ b i a e. all b i a e NameTaken;
  names_known = λ b i a e. all b i a e UnknownName;
  counts_small = λ b i a e. all b i a e TooMany;
  header_small = λ b i a e. all b i a e HeaderTooLarge;
  fields_early = λ b i a e. all b i a e FieldLate;
  arities_meet = λ b i a e. all b i a e Arity;
  kinds_meet = λ b i a e. all b i a e KindMismatch;
  relations_small = λ b i a e. all b i a e RelationTooLarge;
  handlers_apart = λ b i a e. all b i a e HandlerTwice;
  paths_few = λ b i a e. all b i a e TooManyPaths;
  queries_few = λ b i a e. all b i a e TooManyQueries;
  ends_differ = λ b i a e. all b i a e EndToItself;
  ends_free = λ b i a e. all b i a e EndTaken;
  items_apart = λ b i a e. all b i a e SameItem;
  cells_few = λ b i a e. all b i a e TooManyCells;
  some_field = some;
}

none_or_some : (fields : List FieldItem) → (fields ≡ []) ⊎ (fields ≢ [])
none_or_some [] = inl refl
none_or_some (field ∷ fields) = inr (λ e. absurd (cc))

pub some_answer : (items : List Item) → IsCheckedSomehow items
some_answer items =
    elim (scanned_from items [] items refl nothing_kept) [
      | inl all ↦ elim (none_or_some (field_items items)) [
        | inl none ↦ inr
            (length items, NoField, inr (record { first = all; none = none; counted = refl; rule_is = refl }))
        | inr some ↦ inl (formed_by items all some)
      ]
      | inr found ↦ inr (found.0, found.1, inl found.2)
    ]

-- the search for the first rule, where none of the earlier ones holds
found_from : (before : List Item) (item : Item) (earlier later : List Rule) → item_rules ≡ earlier ++ later →
    NoneOf before item earlier → (rule : Rule) → find (λ r. breaks r before item) later ≡ Some rule →
    IsFirstRule before item rule
found_from before item earlier [] order none rule e = absurd (none-some rule e)
found_from before item earlier (next ∷ later) order none rule e =
    let rest = find (λ r. breaks r before item) later in
    elim (cases_Bool (breaks next before item)) [
      | inl positive ↦ subst (IsFirstRule before item)
          (same_Some next rule (sym (ap (λ b. cond b (Some next) rest) positive) ∙ e))
          (record { earlier = earlier; later = later; in_order = order; holds = positive; kept = none })
      | inr negative ↦ found_from before item (earlier ++ next ∷ []) later
          (order ∙ sym (append_assoc earlier (next ∷ []) later))
          (All-push (λ r. breaks r before item ≡ false) earlier next none negative) rule
          (sym (ap (λ b. cond b (Some next) rest) negative) ∙ e)
    ]

pub rule_found : (before : List Item) (item : Item) (rule : Rule) → first_rule before item ≡ Some rule →
    IsFirstRule before item rule
rule_found before item rule e =
    found_from before item [] item_rules refl (All-nil (λ r. breaks r before item ≡ false)) rule e

none_from : (before : List Item) (item : Item) (earlier later : List Rule) → item_rules ≡ earlier ++ later →
    NoneOf before item earlier → find (λ r. breaks r before item) later ≡ None → KeepsAll before item
none_from before item earlier [] order none e =
    keeps_all before item (subst (NoneOf before item) (sym (order ∙ append-nil earlier)) none)
none_from before item earlier (next ∷ later) order none e =
    let rest = find (λ r. breaks r before item) later in
    elim (cases_Bool (breaks next before item)) [
      | inl positive ↦ absurd (none-some next (sym e ∙ ap (λ b. cond b (Some next) rest) positive))
      | inr negative ↦ none_from before item (earlier ++ next ∷ []) later
          (order ∙ sym (append_assoc earlier (next ∷ []) later))
          (All-push (λ r. breaks r before item ≡ false) earlier next none negative)
          (sym (ap (λ b. cond b (Some next) rest) negative) ∙ e)
    ]

pub none_found : (before : List Item) (item : Item) → first_rule before item ≡ None → KeepsAll before item
none_found before item e =
    none_from before item [] item_rules refl (All-nil (λ r. breaks r before item ≡ false)) e
