-- The plan of the box that forgets its block list is sound.
use Rattle.std.proofs.Common.{◌≡◌, ℕ, zero, suc, ◌<◌, ◌≤◌, [], ◌∷◌, ◌++◌, codes, length, replicate, Some, None, refl}
use Rattle.std.proofs.Common.{sym, subst, ◌∙◌, arith, lit<, lit≤}
use Rattle.std.specs.Prelude.{nat_eq, slice_index, sum_by}
use Rattle.std.specs.List.{All, AllPairs}
use Rattle.std.proofs.lemmas.Bool.{eqb-false}
use Rattle.std.proofs.lemmas.List.Elements.{All-nil, All-cons}
use Rattle.header_set.specs.Headers.{IsSize}
use Rattle.header_set.specs.Pattern.{fixed_at}
use Rattle.amdl_tree.specs.Word.{IsName}
use Rattle.box_handlers.specs.declared.act.Change.{Change}
use Rattle.box_handlers.specs.Body.{Body, Stop, body_of, BodiesAreRead, FormulasAreRead}
use Rattle.box_handlers.specs.Fits.{Fits, QueryFits}
use Rattle.box_handlers.specs.Queries.{asked_by, first_occurrences}
use Rattle.box_handlers.specs.Size.{statements_of, literals_of, paths_of}
use Rattle.net_plan.specs.declared.plan.KindPlan.{KindPlan}
use Rattle.net_plan.specs.declared.plan.RelationPlan.{RelationPlan}
use Rattle.net_plan.specs.declared.plan.HostPlan.{HostPlan}
use Rattle.net_plan.specs.declared.plan.BoxPlan.{BoxPlan}
use Rattle.net_plan.specs.Plan.{tuples_of, surroundings_of}
use Rattle.net_plan.specs.Sound.{IsKind, IsField, HasHeaders, terms_of, nodes_of, HasNamesApart, IsRelation, IsClass}
use Rattle.net_plan.specs.Sound.{IsEntry, IsBox, HasClasses, IsPattern, IsHost, IsLink, linked_ends, IsWired}
use Rattle.net_plan.specs.Sound.{IsSmallClass, IsSmallBox, HasLimits, IsHandled, IsSound}
use Rattle.net_examples.specs.Forgetful.{blocked_word, at_inlet, at_back, blocker, any_word, forgetful}
use Rattle.net_examples.proofs.BoxLemmas.{by_bytes, only, both, one_apart, apart_names, apart_by, none_rise}
use Rattle.net_examples.proofs.ForgetfulLemmas.{sent_link, passed_link, round_link, inlet_body, back_body, inlet_read}
use Rattle.net_examples.proofs.ForgetfulLemmas.{back_read}

abbrev word : KindPlan
word = record { name = codes "Word"; values = codes "a" ∷ [] }

word_sound : IsKind word
word_sound = record {
  named = by_bytes (codes "Word") (refl, refl) (lit≤ tt) refl;
  values = only IsName (codes "a") (by_bytes (codes "a") (refl, refl) (lit≤ tt) refl);
  some = lit≤ tt;
  few = lit≤ tt;
}

headers : HasHeaders forgetful
headers = record {
  kinds = only IsKind word word_sound;
  fields = only (IsField forgetful) (record { name = codes "word"; kind = 0 })
      (record { named = by_bytes (codes "word") (refl, refl) (lit≤ tt) refl; kind = lit< tt });
  headers = record { counted = (lit≤ tt, lit≤ tt); fit = λ k below. size_fits k below; few_packets = lit≤ tt };
}
  where
    size_fits : (k : ℕ) → k < 1 → IsSize (slice_index (1 ∷ []) k)
    size_fits zero below = (lit≤ tt, lit≤ tt)
    size_fits (suc k) below = absurd (omega arith)

names : HasNamesApart forgetful
names = record {
  named = by_bytes (codes "forgetful") (refl, refl) (lit≤ tt) refl;
  kinds = one_apart (codes "Word");
  terms = apart_names (terms_of forgetful) refl;
  nodes = apart_names (nodes_of forgetful) refl;
}

abbrev blocked : RelationPlan
blocked = record { name = codes "blocked"; kinds = 0 ∷ [] }

blocker_sound : IsClass forgetful blocker
blocker_sound = record {
  ports =
      All-cons IsName (codes "inlet") (codes "outlet" ∷ codes "there" ∷ codes "back" ∷ [])
      (by_bytes (codes "inlet") (refl, refl) (lit≤ tt) refl)
      (All-cons IsName (codes "outlet") (codes "there" ∷ codes "back" ∷ [])
      (by_bytes (codes "outlet") (refl, refl) (lit≤ tt) refl)
      (both IsName (codes "there") (codes "back")
      (by_bytes (codes "there") (refl, refl) (lit≤ tt) refl)
      (by_bytes (codes "back") (refl, refl) (lit≤ tt) refl)));
  relations = only (IsRelation forgetful) blocked
      (record {
        named = by_bytes (codes "blocked") (refl, refl) (lit≤ tt) refl;
        kinds = only (λ kind. kind < 1) 0 (lit< tt);
        some = lit≤ tt;
      });
  ports_apart = apart_names blocker.ports refl;
  relations_apart = one_apart (codes "blocked");
}

abbrev box_g : BoxPlan
box_g = record { name = codes "g"; class = 0; first = [] }

classes : HasClasses forgetful
classes = record {
  classes = only (IsClass forgetful) blocker blocker_sound;
  boxes = only (IsBox forgetful) box_g
      (record {
        named = by_bytes (codes "g") (refl, refl) (lit≤ tt) refl;
        class = lit< tt;
        entries = All-nil (IsEntry forgetful blocker);
        rising = none_rise;
      });
}

nothing_fixed : (n k : ℕ) → fixed_at (replicate n None) k ≡ None
nothing_fixed zero k = refl
nothing_fixed (suc n) zero = refl
nothing_fixed (suc n) (suc k) = nothing_fixed n k

any_fits : IsPattern forgetful any_word
any_fits = record {
  places = refl;
  fits = λ k x e. absurd (let never : None ≡ Some x = sym (nothing_fixed 8 k) ∙ e in cc);
}

abbrev host_p : HostPlan
host_p = record { name = codes "p"; sends = any_word ∷ []; forbids = [] }

abbrev host_q : HostPlan
host_q = record { name = codes "q"; sends = []; forbids = any_word ∷ [] }

wiring : IsWired forgetful
wiring = record {
  hosts = both (IsHost forgetful) host_p host_q
      (record {
        named = by_bytes (codes "p") (refl, refl) (lit≤ tt) refl;
        sends = only (IsPattern forgetful) any_word any_fits;
        forbids = All-nil (IsPattern forgetful);
      })
      (record {
        named = by_bytes (codes "q") (refl, refl) (lit≤ tt) refl;
        sends = All-nil (IsPattern forgetful);
        forbids = only (IsPattern forgetful) any_word any_fits;
      });
  links = All-cons (IsLink forgetful) sent_link (passed_link ∷ round_link ∷ [])
      (record { one = lit< tt; two = lit< tt })
      (both (IsLink forgetful) passed_link round_link
      (record { one = lit< tt; two = lit< tt })
      (record { one = lit< tt; two = lit< tt }));
  ends_apart = apart_by nat_eq (λ x y e. eqb-false x y e) (linked_ends forgetful) refl;
}

limits : HasLimits forgetful
limits = record {
  kinds = lit≤ tt;
  classes = lit≤ tt;
  class = only (IsSmallClass forgetful) blocker
      (record {
        ports = lit≤ tt;
        relations = lit≤ tt;
        args = only (λ relation. length relation.kinds ≤ 4) blocked (lit≤ tt);
        tuples = only (λ relation. tuples_of forgetful relation ≤ 65536) blocked (lit≤ tt);
        queries = lit≤ tt;
      });
  hosts = lit≤ tt;
  boxes = lit≤ tt;
  box = only IsSmallBox box_g (lit≤ tt);
  sends = lit≤ tt;
  forbids = lit≤ tt;
  cells = lit≤ tt;
}

no_change : AllPairs (λ (one two : Change). one.field ≡ two.field → ⊥) []
no_change i j d below in_range = absurd (omega arith)

module _ (bodies : BodiesAreRead) (formulas : FormulasAreRead) where
  -- what holds of the two handlers and of one that does nothing holds of all four
  each_handler : (P : Body → Type 0) → P inlet_body → P Stop → P back_body →
      All (λ acts. P (body_of acts)) (at_inlet ∷ [] ∷ [] ∷ at_back ∷ [])
  each_handler P first none last =
      All-cons (λ acts. P (body_of acts)) at_inlet ([] ∷ [] ∷ at_back ∷ [])
      (subst P (sym (inlet_read bodies formulas)) first)
      (All-cons (λ acts. P (body_of acts)) [] ([] ∷ at_back ∷ []) none
      (both (λ acts. P (body_of acts)) [] at_back none (subst P (sym (back_read bodies formulas)) last)))

  asks_word : QueryFits (surroundings_of forgetful blocker) [] blocked_word
  asks_word = (0 ∷ [], refl, (refl, tt))

  inlet_fits : Fits (surroundings_of forgetful blocker) inlet_body []
  inlet_fits = (asks_word, (lit< tt, tt, no_change, tt))

  back_fits : Fits (surroundings_of forgetful blocker) back_body []
  back_fits = ((((asks_word, tt), tt), (lit< tt, tt, no_change, tt), tt), tt)

  blocker_handled : IsHandled forgetful blocker
  blocker_handled = record {
    one_each = refl;
    fits = each_handler (λ body. Fits (surroundings_of forgetful blocker) body []) inlet_fits tt back_fits;
    queries =
        λ i. first_occurrences
        (asked_by (sym (inlet_read bodies formulas) i) []
        ++ ([] ++ ([] ++ (asked_by (sym (back_read bodies formulas) i) [] ++ []))));
    statements =
        subst (λ (body : Body). sum_by statements_of (body ∷ Stop ∷ Stop ∷ body_of at_back ∷ []) ≤ 1024)
        (sym (inlet_read bodies formulas))
        (subst (λ (body : Body). sum_by statements_of (inlet_body ∷ Stop ∷ Stop ∷ body ∷ []) ≤ 1024)
        (sym (back_read bodies formulas)) (lit≤ tt));
    literals =
        subst (λ (body : Body). sum_by literals_of (body ∷ Stop ∷ Stop ∷ body_of at_back ∷ []) ≤ 4096)
        (sym (inlet_read bodies formulas))
        (subst (λ (body : Body). sum_by literals_of (inlet_body ∷ Stop ∷ Stop ∷ body ∷ []) ≤ 4096)
        (sym (back_read bodies formulas)) (lit≤ tt));
    paths = each_handler (λ body. paths_of body ≤ 1024) (lit≤ tt) (lit≤ tt) (lit≤ tt);
  }

  pub forgetful_sound : IsSound forgetful
  forgetful_sound = record {
    headers = headers;
    names = names;
    classes = classes;
    wiring = wiring;
    limits = limits;
    handlers = only (IsHandled forgetful) blocker blocker_handled;
  }
