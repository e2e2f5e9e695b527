-- The plan with a box of the tests is sound.
use Rattle.std.proofs.Common.{◌≡◌, ◌≢◌, ℕ, zero, suc, ◌<◌, ◌≤◌, List, [], ◌∷◌, Some, length, refl, subst, arith, lit<}
use Rattle.std.proofs.Common.{lit≤}
use Rattle.std.specs.Prelude.{slice_index}
use Rattle.std.specs.List.{All}
use Rattle.std.specs.List.Sorted.{IsStrictlySortedBy}
use Rattle.std.proofs.lemmas.List.Elements.{All-nil, All-cons}
use Rattle.std.proofs.lemmas.List.Kept.{AllPairs-cons}
use Rattle.amdl_tree.specs.Word.{IsName}
use Rattle.box_contents.specs.declared.entry.Entry.{Entry}
use Rattle.box_contents.specs.Contents.{IsRising}
use Rattle.box_handlers.specs.Body.{body_of}
use Rattle.box_handlers.specs.Fits.{Fits}
use Rattle.box_handlers.specs.Size.{paths_of}
use Rattle.header_set.specs.Headers.{IsSize}
use Rattle.net_plan.specs.declared.plan.Plan.{Plan}
use Rattle.net_plan.specs.declared.plan.KindPlan.{KindPlan}
use Rattle.net_plan.specs.declared.plan.FieldPlan.{FieldPlan}
use Rattle.net_plan.specs.declared.plan.RelationPlan.{RelationPlan}
use Rattle.net_plan.specs.declared.plan.ClassPlan.{ClassPlan}
use Rattle.net_plan.specs.declared.plan.HostPlan.{HostPlan}
use Rattle.net_plan.specs.declared.plan.BoxPlan.{BoxPlan}
use Rattle.net_plan.specs.Plan.{tuples_of, surroundings_of}
use Rattle.net_plan.specs.Sound.{AreApart, IsKind, IsField, IsRelation, IsClass, IsEntry, IsBox, IsPattern, IsHost}
use Rattle.net_plan.specs.Sound.{IsLink, IsSmallClass, IsSmallBox, IsHandled, IsSound}

only : {X : Type 0} (P : X → Type 0) (x : X) → P x → All P (x ∷ [])
only P x holds = All-cons P x [] holds (All-nil P)

one_apart : {X : Type 0} (x : X) → AreApart (x ∷ [])
one_apart x i j d below in_range = absurd (omega arith)

two_apart : {X : Type 0} (x y : X) → x ≢ y → AreApart (x ∷ y ∷ [])
two_apart x y differ =
    AllPairs-cons (λ one two. one ≢ two) x (y ∷ []) (only (λ two. x ≢ two) y differ) (one_apart y)

one_rises : (entry : Entry) → IsRising (entry ∷ [])
unfolding IsStrictlySortedBy
one_rises entry = (tt, tt)

-- its parts
module _ (a b : List ℕ) where
  abbrev pub kind : KindPlan
  kind = record { name = a; values = a ∷ [] }

  abbrev pub field_b : FieldPlan
  field_b = record { name = b; kind = 0 }

  abbrev pub relation : RelationPlan
  relation = record { name = a; kinds = 0 ∷ [] }

  abbrev pub class : ClassPlan
  class = record { ports = a ∷ []; relations = relation ∷ []; handlers = [] ∷ []; queries = [] }

  abbrev pub host : HostPlan
  host = record { name = a; sends = []; forbids = [] }

  abbrev pub only_box : BoxPlan
  only_box = record { name = b; class = 0; first = record { relation = 0; tuple = 0 } ∷ [] }

  abbrev pub one_box_plan : Plan
  one_box_plan = record {
    name = a;
    kinds = kind ∷ [];
    fields = field_b ∷ [];
    classes = class ∷ [];
    hosts = host ∷ [];
    boxes = only_box ∷ [];
    links = record { one = 0; two = 1 } ∷ [];
  }

  size_fits : (k : ℕ) → k < 1 → IsSize (slice_index (1 ∷ []) k)
  size_fits zero below = (lit≤ tt, lit≤ tt)
  size_fits (suc k) below = absurd (omega arith)

  tuple_fits : (r : RelationPlan) → Some relation ≡ Some r → 0 < tuples_of one_box_plan r
  tuple_fits r e =
      let same : relation ≡ r = cc in
      subst (λ (found : RelationPlan). 0 < tuples_of one_box_plan found) same (lit< tt)

  pub one_box_sound : IsName a → IsName b → a ≢ b → IsSound one_box_plan
  one_box_sound is_a is_b differ = record {
    headers = record {
      kinds = only IsKind kind (record { named = is_a; values = only IsName a is_a; some = lit≤ tt; few = lit≤ tt });
      fields = only (IsField one_box_plan) field_b (record { named = is_b; kind = lit< tt });
      headers = record { counted = (lit≤ tt, lit≤ tt); fit = λ k below. size_fits k below; few_packets = lit≤ tt };
    };
    names = record { named = is_a; kinds = one_apart a; terms = two_apart a b differ; nodes = two_apart a b differ };
    classes = record {
      classes = only (IsClass one_box_plan) class (record {
        ports = only IsName a is_a;
        relations = only (IsRelation one_box_plan) relation
            (record { named = is_a; kinds = only (λ k. k < 1) 0 (lit< tt); some = lit≤ tt });
        ports_apart = one_apart a;
        relations_apart = one_apart a;
      });
      boxes = only (IsBox one_box_plan) only_box (record {
        named = is_b;
        class = lit< tt;
        entries = only (IsEntry one_box_plan class) (record { relation = 0; tuple = 0 })
            (record { relation = lit< tt; tuple = tuple_fits });
        rising = one_rises (record { relation = 0; tuple = 0 });
      });
    };
    wiring = record {
      hosts = only (IsHost one_box_plan) host
          (record {
            named = is_a;
            sends = All-nil (IsPattern one_box_plan);
            forbids = All-nil
                (IsPattern one_box_plan);
          });
      links = only (IsLink one_box_plan) (record { one = 0; two = 1 }) (record { one = lit< tt; two = lit< tt });
      ends_apart = two_apart 0 1 (λ same. absurd (omega (arith, same)));
    };
    limits = record {
      kinds = lit≤ tt;
      classes = lit≤ tt;
      class = only (IsSmallClass one_box_plan) class (record {
        ports = lit≤ tt;
        relations = lit≤ tt;
        args = only (λ r. length r.kinds ≤ 4) relation (lit≤ tt);
        tuples = only (λ r. tuples_of one_box_plan r ≤ 65536) relation (lit≤ tt);
        queries = lit≤ tt;
      });
      hosts = lit≤ tt;
      boxes = lit≤ tt;
      box = only IsSmallBox only_box (lit≤ tt);
      sends = lit≤ tt;
      forbids = lit≤ tt;
      cells = lit≤ tt;
    };
    handlers = only (IsHandled one_box_plan) class (record {
      one_each = refl;
      fits = only (λ acts. Fits (surroundings_of one_box_plan class) (body_of acts) []) [] tt;
      queries = refl;
      statements = lit≤ tt;
      literals = lit≤ tt;
      paths = only (λ acts. paths_of (body_of acts) ≤ 1024) [] (lit≤ tt);
    });
  }
