-- Types of a plan, as a text declares them, and a table of the numbers of their values.
use Rattle.std.specs.Prelude.{◌≡◌, ℕ, List, map, Option}
use Rattle.std.specs.BTreeMap.{BTreeMap, get}
use Rattle.std.specs.Borrow.{Bor}
use Rattle.std.specs.Ordering.{nat_cmp}
use Rattle.std.specs.Cmp.Lexicographic.{slice_cmp}
use Rattle.amdl_tree.specs.Items.{KindItem}
use Rattle.net_plan.specs.declared.plan.KindPlan.{KindPlan}
use Rattle.tree_plan.specs.Names.{number_of, value_number}

-- a type of a plan, as a text declares it
abbrev pub kind_back : KindPlan → KindItem
kind_back kind = record { name = kind.name; values = kind.values }

abbrev pub kind_lent : Bor KindPlan → KindItem
kind_lent kind = kind_back kind.now

abbrev pub kinds_back : List KindPlan → List KindItem
kinds_back kinds = map kind_back kinds

abbrev pub number_at : BTreeMap (List ℕ) ℕ → List ℕ → Option ℕ
number_at numbers name = get (slice_cmp nat_cmp) numbers name

-- each name has the number of the value in the first type that has it
pub record AreNumbersOf (kinds : List KindPlan) (numbers : BTreeMap (List ℕ) ℕ) : Type 0 where
  pub each : (name : List ℕ) → number_at numbers name ≡ value_number (kinds_back kinds) name

-- each name has the number of its first place among the names
pub record ArePlacesOf (names : List (List ℕ)) (numbers : BTreeMap (List ℕ) ℕ) : Type 0 where
  pub each : (name : List ℕ) → number_at numbers name ≡ number_of names name
