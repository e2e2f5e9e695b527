-- What a text comes to is one, and a text that spells a plan is the file of a well-formed tree.
use Rattle.std.proofs.Common.{◌≡◌, ℕ, List, Option, Some, Result, Ok, Err, sym, ap, subst, ◌∙◌}
use Rattle.amdl_tree.specs.declared.tree.Tree.{Tree}
use Rattle.net_plan.specs.declared.plan.Plan.{Plan}
use Rattle.tree_plan.specs.Net.{net}
use Rattle.tree_rules.specs.Checked.{IsWellFormed}
use Rattle.tree_rules.specs.Laws.{HasOneAnswer}
use Rattle.amdl_check.specs.Checking.{IsNetworkOf}
use Rattle.network_file.specs.Laws.{OneReading}
use Rattle.network_file.specs.Reading.{IsReadAs}
use Rattle.network_file.specs.declared.reading.ReadRefusal.{ReadRefusal}
use Rattle.plan_text.specs.declared.refusal.NetworkRefusal.{NetworkRefusal}
use Rattle.plan_text.specs.declared.refusal.NetworkRefusal.TheVariants.{BrokenRule}
use Rattle.amdl_app.specs.Spelled.{IsCheckedAs, broken, formed, ComesTo, unread, checked, refusal_of}

abbrev pub WhatIsFound : Type 0
WhatIsFound = Result Plan NetworkRefusal

-- a text is the file of a well-formed tree that spells the plan
pub record Spells (bytes : List ℕ) (plan : Plan) : Type 0 where
  pub tree : Tree
  pub file : IsReadAs bytes (Ok tree)
  pub network : IsNetworkOf tree plan

pub found_plan : (one two : Plan) (found : WhatIsFound) → found ≡ Ok one → found ≡ Ok two → one ≡ two
found_plan one two found first second = let both : ◌≡◌ {A = WhatIsFound} (Ok one) (Ok two) = sym first ∙ second in cc

pub not_refused : (refusal : NetworkRefusal) (plan : Plan) (found : WhatIsFound) → found ≡ Err refusal →
    found ≡ Ok plan → ⊥
not_refused refusal plan found first second =
    let both : ◌≡◌ {A = WhatIsFound} (Err refusal) (Ok plan) = sym first ∙ second in cc

spells_checked : (bytes : List ℕ) (tree : Tree) (plan : Plan) (found : WhatIsFound) → IsReadAs bytes (Ok tree) →
    found ≡ Ok plan → IsCheckedAs tree found → Spells bytes plan
spells_checked bytes tree plan found read is (broken item rule at e) =
    absurd (not_refused (BrokenRule item rule) plan found e is)
spells_checked bytes tree plan found read is (formed other network e) =
    record { tree = tree; file = read; network = subst (IsNetworkOf tree) (found_plan other plan found e is) network }

pub spells : (bytes : List ℕ) (plan : Plan) (found : WhatIsFound) → found ≡ Ok plan → ComesTo bytes found →
    Spells bytes plan
spells bytes plan found is (unread refusal read e) = absurd (not_refused (refusal_of refusal) plan found e is)
spells bytes plan found is (checked tree read c) = spells_checked bytes tree plan found read is c

-- the plan of a tree is one
pub one_plan : (tree : Tree) (one two : Plan) → net tree ≡ Some one → net tree ≡ Some two → one ≡ two
one_plan tree one two first second = let both : ◌≡◌ {A = Option Plan} (Some one) (Some two) = sym first ∙ second in cc

module _ (one_reading : OneReading) (one_check : HasOneAnswer) where
  one_tree : (bytes : List ℕ) (one two : Tree) → IsReadAs bytes (Ok one) → IsReadAs bytes (Ok two) → one ≡ two
  one_tree bytes one two first second =
      let both : ◌≡◌ {A = Result Tree ReadRefusal} (Ok one) (Ok two) =
      one_reading bytes (Ok one) (Ok two) first second in cc

  not_both_read : (bytes : List ℕ) (tree : Tree) (refusal : ReadRefusal) → IsReadAs bytes (Ok tree) →
      IsReadAs bytes (Err refusal) → ⊥
  not_both_read bytes tree refusal first second =
      let both : ◌≡◌ {A = Result Tree ReadRefusal} (Ok tree) (Err refusal) =
      one_reading bytes (Ok tree) (Err refusal) first second in cc

  checked_once : (tree : Tree) (one two : WhatIsFound) → IsCheckedAs tree one → IsCheckedAs tree two → one ≡ two
  checked_once tree one two (broken item rule at e) (broken other_item other_rule other_at e') =
      let place : item ≡ other_item = one_check.one_place tree.items item other_item rule other_rule at other_at in
      let same : rule ≡ other_rule = one_check.one_rule tree.items item other_item rule other_rule at other_at in
      e ∙ (λ i. Err (BrokenRule (place i) (same i))) ∙ sym e'
  checked_once tree one two (broken item rule at e) (formed plan network e') =
      absurd (one_check.not_both tree.items item rule network.formed at)
  checked_once tree one two (formed plan network e) (broken item rule at e') =
      absurd (one_check.not_both tree.items item rule network.formed at)
  checked_once tree one two (formed plan network e) (formed other other_network e') =
      e ∙ ap Ok (one_plan tree plan other network.spelled other_network.spelled) ∙ sym e'

  pub comes_once : (bytes : List ℕ) (one two : WhatIsFound) → ComesTo bytes one → ComesTo bytes two → one ≡ two
  comes_once bytes one two (unread refusal read e) (unread other read' e') =
      let both : ◌≡◌ {A = Result Tree ReadRefusal} (Err refusal) (Err other) =
      one_reading bytes (Err refusal) (Err other) read read' in
      let same : refusal ≡ other = cc in
      e ∙ ap (λ (r : ReadRefusal). Err (refusal_of r)) same ∙ sym e'
  comes_once bytes one two (unread refusal read e) (checked tree read' c) =
      absurd (not_both_read bytes tree refusal read' read)
  comes_once bytes one two (checked tree read c) (unread refusal read' e) =
      absurd (not_both_read bytes tree refusal read read')
  comes_once bytes one two (checked tree read c) (checked other read' c') =
      checked_once tree one two c
      (subst (λ (t : Tree). IsCheckedAs t two) (sym (one_tree bytes tree other read read')) c')

  checked_plan : (tree : Tree) (plan : Plan) (found : WhatIsFound) → IsWellFormed tree.items → net tree ≡ Some plan →
      IsCheckedAs tree found → found ≡ Ok plan
  checked_plan tree plan found well spelled (broken item rule at e) =
      absurd (one_check.not_both tree.items item rule well at)
  checked_plan tree plan found well spelled (formed other network e) =
      e ∙ ap Ok (one_plan tree other plan network.spelled spelled)

  -- the file of a well-formed tree comes to its plan
  pub comes_to_plan : (bytes : List ℕ) (tree : Tree) (plan : Plan) (found : WhatIsFound) → IsReadAs bytes (Ok tree) →
      IsWellFormed tree.items → net tree ≡ Some plan → ComesTo bytes found → found ≡ Ok plan
  comes_to_plan bytes tree plan found read well spelled (unread refusal read' e) =
      absurd (not_both_read bytes tree refusal read read')
  comes_to_plan bytes tree plan found read well spelled (checked other read' c) =
      checked_plan tree plan found well spelled
      (subst (λ (t : Tree). IsCheckedAs t found) (one_tree bytes other tree read' read) c)
