-- What checking comes to, by what the items are.
use Rattle.std.proofs.Common.{◌≡◌, ℕ, Some, Result, Ok, Err, All, get_or, refl, sym, ap, ◌∙◌}
use mathlib.Core.Logic.{inl, inr}
use Rattle.std.proofs.lemmas.Option.{same_Some}
use Rattle.amdl_tree.specs.declared.tree.Item.{Item}
use Rattle.amdl_tree.specs.declared.tree.Item.TheVariants.{Class as OfClass}
use Rattle.amdl_tree.specs.declared.tree.Tree.{Tree}
use Rattle.amdl_tree.specs.WellBuilt.{IsBuiltItem, ItemFits, IsWellBuilt, IsShaped}
use Rattle.net_plan.specs.declared.plan.Plan.{Plan}
use Rattle.tree_plan.specs.Net.{net}
use Rattle.tree_rules.specs.declared.rule.Rule.{Rule}
use Rattle.tree_rules.specs.Checked.{IsWellFormed, IsRefusedAt}
use Rattle.tree_rules.specs.Laws.{HasOneAnswer}
use Rattle.amdl_check.specs.declared.refusal.CheckRefusal.{CheckRefusal}
use Rattle.amdl_check.specs.declared.refusal.CheckRefusal.TheVariants.{At, NoMemory}
use Rattle.amdl_check.specs.Checking.{IsChecked, IsOrNoMemory}

-- what has a depth of at most 32 is well built
item_built : (item : Item) → ItemFits 32 item → IsBuiltItem item
item_built (OfClass class) fits = (32, fits)
item_built _ fits = fits

pub items_built : (tree : Tree) → IsShaped tree → All IsBuiltItem tree.items
items_built tree shaped = λ k d inside. item_built (get_or tree.items k d) (shaped.items k d inside)

pub tree_built : (tree : Tree) → IsShaped tree → IsWellBuilt tree
tree_built tree shaped = record { named = shaped.named; items = items_built tree shaped }

pub accepted : HasOneAnswer → (tree : Tree) (result : Result Plan CheckRefusal) → IsChecked tree result →
    IsWellFormed tree.items → (plan : Plan) → net tree ≡ Some plan → IsOrNoMemory result (Ok plan)
accepted laws tree (Ok other) checked formed plan spelled =
    inl (ap Ok (same_Some other plan (sym checked.spelled ∙ spelled)))
accepted laws tree (Err (At item rule)) checked formed plan spelled =
    absurd (laws.not_both tree.items item rule formed checked)
accepted laws tree (Err NoMemory) checked formed plan spelled = inr refl

pub refused : HasOneAnswer → (tree : Tree) (result : Result Plan CheckRefusal) → IsChecked tree result → (item : ℕ)
    (rule : Rule) → IsRefusedAt tree.items item rule → IsOrNoMemory result (Err (At item rule))
refused laws tree (Ok plan) checked item rule at = absurd (laws.not_both tree.items item rule checked.formed at)
refused laws tree (Err (At other second)) checked item rule at =
    inl
    (λ i. Err (At (laws.one_place tree.items other item second rule checked at i)
    (laws.one_rule tree.items other item second rule checked at i)))
refused laws tree (Err NoMemory) checked item rule at = inr refl
