-- The plan of the firewall is sound.
use Rattle.std.proofs.Common.{◌≡◌, ℕ, zero, suc, ◌<◌, ◌≤◌, true, [], ◌∷◌, ◌++◌, codes, length, replicate}
use Rattle.std.proofs.Common.{Some, None, refl, sym, ap, subst, ◌∙◌, arith, lit<, lit≤}
use Rattle.std.specs.Prelude.{nat_eq, slice_index, sum_by}
use Rattle.std.specs.List.{AllPairs}
use Rattle.std.proofs.lemmas.Bool.{eqb-false}
use Rattle.std.proofs.lemmas.List.Elements.{All-nil}
use Rattle.header_set.specs.Headers.{IsSize}
use Rattle.header_set.specs.Pattern.{fixed_at}
use Rattle.amdl_tree.specs.Word.{IsName}
use Rattle.box_handlers.specs.declared.act.Change.{Change}
use Rattle.box_handlers.specs.declared.act.Probe.TheVariants.{Has}
use Rattle.box_handlers.specs.declared.act.Act.TheVariants.{Output}
use Rattle.box_handlers.specs.Body.{Formula, Holds, Both, Every, Either, Neither, Body, Stop, Writes, Emit, Fork}
use Rattle.box_handlers.specs.Body.{NoBranch, OneBranch, body_of, formula_of, BodiesAreRead, FormulasAreRead}
use Rattle.box_handlers.specs.Fits.{Fits, QueryFits}
use Rattle.box_handlers.specs.Queries.{asked_by, first_occurrences}
use Rattle.box_handlers.specs.Size.{statements_of, literals_of, paths_of}
use Rattle.net_plan.specs.declared.plan.RelationPlan.{RelationPlan}
use Rattle.net_plan.specs.declared.plan.HostPlan.{HostPlan}
use Rattle.net_plan.specs.declared.plan.BoxPlan.{BoxPlan}
use Rattle.net_plan.specs.declared.plan.LinkPlan.{LinkPlan}
use Rattle.net_plan.specs.Plan.{tuples_of, surroundings_of}
use Rattle.net_plan.specs.Sound.{IsKind, IsField, HasHeaders, terms_of, nodes_of, HasNamesApart, IsRelation, IsClass}
use Rattle.net_plan.specs.Sound.{IsEntry, IsBox, HasClasses, IsPattern, IsHost, IsLink, linked_ends, IsWired}
use Rattle.net_plan.specs.Sound.{IsSmallClass, IsSmallBox, HasLimits, IsHandled, IsSound}
use Rattle.net_examples.specs.Firewall.{known_peer, at_inner, at_outer, fence, peer, firewall}
use Rattle.net_examples.proofs.BoxLemmas.{by_bytes, only, both, one_apart, apart_names, apart_by, none_rise, address}
use Rattle.net_examples.proofs.BoxLemmas.{address_sound}

fire_headers : HasHeaders firewall
fire_headers = record {
  kinds = only IsKind address address_sound;
  fields = only (IsField firewall) (record { name = codes "peer"; kind = 0 })
      (record { named = by_bytes (codes "peer") (refl, refl) (lit≤ tt) refl; kind = lit< tt });
  headers = record { counted = (lit≤ tt, lit≤ tt); fit = λ k below. size_fits k below; few_packets = lit≤ tt };
}
  where
    size_fits : (k : ℕ) → k < 1 → IsSize (slice_index (2 ∷ []) k)
    size_fits zero below = (lit≤ tt, lit≤ tt)
    size_fits (suc k) below = absurd (omega arith)

fire_names : HasNamesApart firewall
fire_names = record {
  named = by_bytes (codes "fw") (refl, refl) (lit≤ tt) refl;
  kinds = one_apart (codes "Addr");
  terms = apart_names (terms_of firewall) refl;
  nodes = apart_names (nodes_of firewall) refl;
}

abbrev known : RelationPlan
known = record { name = codes "known"; kinds = 0 ∷ [] }

fence_sound : IsClass firewall fence
fence_sound = record {
  ports = both IsName (codes "inner") (codes "outer")
      (by_bytes (codes "inner") (refl, refl) (lit≤ tt) refl)
      (by_bytes (codes "outer") (refl, refl) (lit≤ tt) refl);
  relations = only (IsRelation firewall) known
      (record {
        named = by_bytes (codes "known") (refl, refl) (lit≤ tt) refl;
        kinds = only (λ kind. kind < 1) 0 (lit< tt);
        some = lit≤ tt;
      });
  ports_apart = apart_names fence.ports refl;
  relations_apart = one_apart (codes "known");
}

abbrev box_f : BoxPlan
box_f = record { name = codes "f"; class = 0; first = [] }

fire_classes : HasClasses firewall
fire_classes = record {
  classes = only (IsClass firewall) fence fence_sound;
  boxes = only (IsBox firewall) box_f
      (record {
        named = by_bytes (codes "f") (refl, refl) (lit≤ tt) refl;
        class = lit< tt;
        entries = All-nil (IsEntry firewall fence);
        rising = none_rise;
      });
}

nothing_fixed : (n k : ℕ) → fixed_at (replicate n None) k ≡ None
nothing_fixed zero k = refl
nothing_fixed (suc n) zero = refl
nothing_fixed (suc n) (suc k) = nothing_fixed n k

one_fixed : (value : ℕ) → value < 2 → IsPattern firewall (peer (Some value))
one_fixed value less = record { places = refl; fits = λ k x e. fits k x e }
  where
    fits : (k x : ℕ) → fixed_at (peer (Some value)) k ≡ Some x → (k < 1) × (x < slice_index (2 ∷ []) k)
    fits zero x e = let same : value ≡ x = cc in (lit< tt, omega (arith, less, same))
    fits (suc k) x e = absurd (let never : None ≡ Some x = sym (nothing_fixed 7 k) ∙ e in cc)

none_fixed : IsPattern firewall (peer None)
none_fixed = record {
  places = refl;
  fits = λ k x e. absurd (let never : None ≡ Some x = sym (nothing_fixed 8 k) ∙ e in cc);
}

abbrev host_p : HostPlan
host_p = record { name = codes "p"; sends = peer (Some 0) ∷ []; forbids = peer (Some 1) ∷ [] }

abbrev host_q : HostPlan
host_q = record { name = codes "q"; sends = peer None ∷ []; forbids = [] }

abbrev one_link : LinkPlan
one_link = record { one = 0; two = 2 }

abbrev other_link : LinkPlan
other_link = record { one = 3; two = 1 }

fire_wiring : IsWired firewall
fire_wiring = record {
  hosts = both (IsHost firewall) host_p host_q
      (record {
        named = by_bytes (codes "p") (refl, refl) (lit≤ tt) refl;
        sends = only (IsPattern firewall) (peer (Some 0)) (one_fixed 0 (lit< tt));
        forbids = only (IsPattern firewall) (peer (Some 1)) (one_fixed 1 (lit< tt));
      })
      (record {
        named = by_bytes (codes "q") (refl, refl) (lit≤ tt) refl;
        sends = only (IsPattern firewall) (peer None) none_fixed;
        forbids = All-nil (IsPattern firewall);
      });
  links = both (IsLink firewall) one_link other_link
      (record { one = lit< tt; two = lit< tt })
      (record { one = lit< tt; two = lit< tt });
  ends_apart = apart_by nat_eq (λ x y e. eqb-false x y e) (linked_ends firewall) refl;
}

fire_limits : HasLimits firewall
fire_limits = record {
  kinds = lit≤ tt;
  classes = lit≤ tt;
  class = only (IsSmallClass firewall) fence
      (record {
        ports = lit≤ tt;
        relations = lit≤ tt;
        args = only (λ relation. length relation.kinds ≤ 4) known (lit≤ tt);
        tuples = only (λ relation. tuples_of firewall relation ≤ 65536) known (lit≤ tt);
        queries = lit≤ tt;
      });
  hosts = lit≤ tt;
  boxes = lit≤ tt;
  box = only IsSmallBox box_f (lit≤ tt);
  sends = lit≤ tt;
  forbids = lit≤ tt;
  cells = lit≤ tt;
}

-- the handlers as plain data

abbrev pub guard : Formula
guard = Either (Both (Holds known_peer) Every) Neither

abbrev pub inner_body : Body
inner_body = Writes known_peer true (Emit 1 [] Stop)

abbrev pub outer_body : Body
outer_body = Fork (OneBranch guard (Emit 0 [] Stop) NoBranch) Stop

no_change : AllPairs (λ (one two : Change). one.field ≡ two.field → ⊥) []
no_change i j d below in_range = absurd (omega arith)

module _ (bodies : BodiesAreRead) (formulas : FormulasAreRead) where
  pub inner_read : body_of at_inner ≡ inner_body
  inner_read =
      bodies.insert known_peer (Output 1 [] ∷ []) ∙ ap (λ rest. Writes known_peer true rest) (bodies.output 1 [] [])

  pub outer_read : body_of at_outer ≡ outer_body
  outer_read =
      bodies.choose
      (record { guard = record { any = (Has known_peer ∷ []) ∷ [] }; body = Output 0 [] ∷ [] } ∷ []) []
      ∙ ap (λ branches. Fork branches Stop)
      (bodies.branch (record { guard = record { any = (Has known_peer ∷ []) ∷ [] }; body = Output 0 [] ∷ [] }) []
      ∙ (λ i. OneBranch (formula_is i) (bodies.output 0 [] [] i) NoBranch))
    where
      formula_is : formula_of (record { any = (Has known_peer ∷ []) ∷ [] }) ≡ guard
      formula_is =
          formulas.test (record { any = (Has known_peer ∷ []) ∷ [] })
          ∙ ap (λ formula. Either (Both formula Every) Neither) (formulas.has known_peer)

  asks_peer : QueryFits (surroundings_of firewall fence) [] known_peer
  asks_peer = (0 ∷ [], refl, (refl, tt))

  inner_fits : Fits (surroundings_of firewall fence) inner_body []
  inner_fits = (asks_peer, (lit< tt, tt, no_change, tt))

  outer_fits : Fits (surroundings_of firewall fence) outer_body []
  outer_fits = ((((asks_peer, tt), tt), (lit< tt, tt, no_change, tt), tt), tt)

  fence_handled : IsHandled firewall fence
  fence_handled = record {
    one_each = refl;
    fits = both (λ acts. Fits (surroundings_of firewall fence) (body_of acts) []) at_inner at_outer
        (subst (λ (body : Body). Fits (surroundings_of firewall fence) body []) (sym inner_read) inner_fits)
        (subst (λ (body : Body). Fits (surroundings_of firewall fence) body []) (sym outer_read) outer_fits);
    queries = λ i. first_occurrences (asked_by (sym inner_read i) [] ++ (asked_by (sym outer_read i) [] ++ []));
    statements = subst (λ (body : Body). sum_by statements_of (body ∷ body_of at_outer ∷ []) ≤ 1024) (sym inner_read)
        (subst (λ (body : Body). sum_by statements_of (inner_body ∷ body ∷ []) ≤ 1024) (sym outer_read) (lit≤ tt));
    literals = subst (λ (body : Body). sum_by literals_of (body ∷ body_of at_outer ∷ []) ≤ 4096) (sym inner_read)
        (subst (λ (body : Body). sum_by literals_of (inner_body ∷ body ∷ []) ≤ 4096) (sym outer_read) (lit≤ tt));
    paths = both (λ acts. paths_of (body_of acts) ≤ 1024) at_inner at_outer
        (subst (λ (body : Body). paths_of body ≤ 1024) (sym inner_read) (lit≤ tt))
        (subst (λ (body : Body). paths_of body ≤ 1024) (sym outer_read) (lit≤ tt));
  }

  pub firewall_sound : IsSound firewall
  firewall_sound = record {
    headers = fire_headers;
    names = fire_names;
    classes = fire_classes;
    wiring = fire_wiring;
    limits = fire_limits;
    handlers = only (IsHandled firewall) fence fence_handled;
  }
