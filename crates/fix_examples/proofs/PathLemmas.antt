-- Loops that offer the paths of a graph, and what a path gives in each of its roles.
use Rattle.std.proofs.Common.{◌≡◌, ℕ, ◌+◌, ◌*◌, ◌/◌, ◌%◌, ◌<◌, ◌≤◌, ◌⊎◌, inl, inr, Bool, true, false, List, [], ◌∷◌}
use Rattle.std.proofs.Common.{length, get_or, set, refl, sym, ap, subst, ◌∙◌, arith, zero, suc}
use Rattle.std.specs.List.{Contains}
use Rattle.std.proofs.lemmas.Bool.{cases_eq, cases_lt}
use Rattle.std.proofs.lemmas.List.{get_or_default, get_or-set_same, get_or-set_other}
use Rattle.std.proofs.lemmas.List.Elements.{All-nil, All-cons, All-contains, All-head, All-tail, Contains-get_or}
use Rattle.std.proofs.lemmas.List.Elements.{Contains-append_left, Contains-push_cases}
use Rattle.std.proofs.lemmas.Nat.{same_from_place, div_below}
use Rattle.std.proofs.Math.Nat.{mod-lt, div-add-mod'}
use Rattle.amdl_tree.specs.Derivation.{IsDerivable}
use Rattle.fix_engine.specs.Closed.{AreBelow}
use Rattle.fix_engine.specs.Progress.{Progress, found_in, Offers, Takes, Grows}
use Rattle.fix_engine.specs.Rules.{GivenOrFollows, HasReacted}
use Rattle.fix_engine.proofs.ProgressLemmas.{Adds, Adds-none, Adds-offer, Grows-none, Offers-grows, Offers-found}
use Rattle.fix_engine.proofs.ProgressLemmas.{Takes-done, found_stays}
use Rattle.fix_engine.proofs.RuleLemmas.{derivable_given, derivable_once}
use Rattle.fix_examples.specs.declared.graph.Edge.{Edge}
use Rattle.fix_examples.specs.declared.graph.Graph.{Graph}
use Rattle.fix_examples.specs.Paths.{cells_of, cell_of, IsEdgePath, Follows, BeginsDone, Remembers, IsFromFirst}
use Rattle.fix_examples.specs.Paths.{IsFromSecond}

-- tried so far: the cell of each number below `at` for which there is reason is found, and nothing else was offered
pub record Tried (P D : ℕ → Type 0) (cell : ℕ → ℕ) (old now : Progress) (at : ℕ) : Type 0 where
  pub adds : Adds P old now
  pub all : (k : ℕ) → k < at → D k → Contains (found_in now) (cell k)

module _ (P D : ℕ → Type 0) (cell : ℕ → ℕ) (old : Progress) where
  pub tried_none : Tried P D cell old old 0
  tried_none = record { adds = Adds-none P old; all = λ k below. absurd (omega (arith, below)) }

  pub tried_offer : (now new : Progress) (at : ℕ) → Tried P D cell old now at → Offers now (cell at) new → P (cell at) →
      Tried P D cell old new (at + 1)
  tried_offer now new at tried offers holds =
      record {
        adds = Adds-offer P old now new (cell at) tried.adds offers holds;
        all = λ k below reason. elim (cases_lt k at) [
          | inl before ↦ found_stays now new (Offers-grows now (cell at) new offers) (cell k)
              (tried.all k before reason)
          | inr here ↦ let same : at ≡ k =
              omega (arith, below, here) in subst (λ n. Contains (found_in new) (cell n)) same
              (Offers-found now (cell at) new offers)
        ];
      }

  pub tried_skip : (now : Progress) (at : ℕ) → Tried P D cell old now at → (D at → ⊥) → Tried P D cell old now (at + 1)
  tried_skip now at tried reasonless =
      record {
        adds = tried.adds;
        all = λ k below reason. elim (cases_lt k at) [
          | inl before ↦ tried.all k before reason
          | inr here ↦ let same : k ≡ at = omega (arith, below, here) in absurd (reasonless (subst D same reason))
        ];
      }

-- the path as the first and as the second of two
module _ (graph : Graph) (done found : List ℕ) (from to : ℕ) (low : from < graph.nodes) (high : to < graph.nodes)
    (whole : Contains done (cell_of graph from to))
    (inside : (cell : ℕ) → Contains done cell → Contains found cell) where
  pub derived_first : (cell : ℕ) → IsFromFirst graph from to done cell →
      IsDerivable (GivenOrFollows (Follows graph) found) cell
  derived_first cell why =
      derivable_once (Follows graph) found (cell_of graph from to ∷ cell_of graph to why.0 ∷ []) cell
      (All-cons (Contains found) (cell_of graph from to) (cell_of graph to why.0 ∷ [])
      (inside (cell_of graph from to) whole)
      (All-cons (Contains found) (cell_of graph to why.0) [] (inside (cell_of graph to why.0) why.2)
      (All-nil (Contains found))))
      record {
        from = from;
        middle = to;
        to = why.0;
        nodes =
            (low, high, why.1);
        first_is = refl;
        second_is = refl;
        cell_is = why.3;
      }

  pub derived_second : (cell : ℕ) → IsFromSecond graph from to done cell →
      IsDerivable (GivenOrFollows (Follows graph) found) cell
  derived_second cell why =
      derivable_once (Follows graph) found (cell_of graph why.0 from ∷ cell_of graph from to ∷ []) cell
      (All-cons (Contains found) (cell_of graph why.0 from) (cell_of graph from to ∷ [])
      (inside (cell_of graph why.0 from) why.2)
      (All-cons (Contains found) (cell_of graph from to) [] (inside (cell_of graph from to) whole)
      (All-nil (Contains found))))
      record {
        from = why.0;
        middle = from;
        to = to;
        nodes =
            (why.1, low, high);
        first_is = refl;
        second_is = refl;
        cell_is = why.3;
      }

among_two : (first second cell : ℕ) → Contains (first ∷ second ∷ []) cell → (first ≡ cell) ⊎ (second ≡ cell)
among_two first second cell (zero, within, is) = inl is
among_two first second cell (suc zero, within, is) = inr is
among_two first second cell (suc (suc k), within, is) = absurd (omega (arith, within))

-- all that follows is found, once both roles of the path were gone through
module _ (graph : Graph) (done found : List ℕ) (from to : ℕ) (high : to < graph.nodes)
    (first : (last : ℕ) → last < graph.nodes → Contains done (cell_of graph to last) →
    Contains found (cell_of graph from last))
    (second : (start : ℕ) → start < graph.nodes → Contains done (cell_of graph start from) →
    Contains found (cell_of graph start to)) (low : from < graph.nodes) where
  pub reacted_both : HasReacted (Follows graph) (cell_of graph from to) done found
  reacted_both [] conclusion gives among all = absurd (omega (arith, among.1))
  reacted_both (one ∷ []) conclusion gives among all = absurd gives
  reacted_both (one ∷ two ∷ []) conclusion gives among all =
      elim (among_two one two (cell_of graph from to) among) [
        | inl here ↦
            let same =
            same_from_place gives.from gives.middle from to graph.nodes gives.nodes.1 high
            (sym gives.first_is ∙ here) in
            let has : Contains done two =
            All-head (Contains done) two [] (All-tail (Contains done) one (two ∷ []) all) in
            let stands : Contains done (cell_of graph to gives.to) =
            subst (Contains done) (gives.second_is ∙ ap (λ n. cell_of graph n gives.to) same.1) has in
            subst (Contains found) (ap (λ n. cell_of graph n gives.to) (sym same.0) ∙ sym gives.cell_is)
            (first gives.to gives.nodes.2 stands)
        | inr here ↦
            let same =
            same_from_place gives.middle gives.to from to graph.nodes gives.nodes.2 high
            (sym gives.second_is ∙ here) in
            let has : Contains done one = All-head (Contains done) one (two ∷ []) all in
            let stands : Contains done (cell_of graph gives.from from) =
            subst (Contains done) (gives.first_is ∙ ap (λ n. cell_of graph gives.from n) same.0) has in
            subst (Contains found) (ap (λ n. cell_of graph gives.from n) (sym same.1) ∙ sym gives.cell_is)
            (second gives.from gives.nodes.0 stands)
      ]
  reacted_both (one ∷ two ∷ three ∷ rest) conclusion gives among all = absurd gives

-- the edges by their places
abbrev pub edge_at : Graph → ℕ → Edge
edge_at graph k = get_or graph.edges k record { from = 0; to = 0 }

abbrev pub HasEnds : Graph → ℕ → Type 0
HasEnds graph k = ((edge_at graph k).from < graph.nodes) × ((edge_at graph k).to < graph.nodes)

abbrev pub edge_cell : Graph → ℕ → ℕ
edge_cell graph k = cell_of graph (edge_at graph k).from (edge_at graph k).to

pub edges_found : (graph : Graph) (old new : Progress) → (at : ℕ) → length graph.edges ≤ at →
    Tried (IsEdgePath graph) (HasEnds graph) (edge_cell graph) old new at
    → (cell : ℕ) → IsEdgePath graph cell → Contains (found_in new) cell
edges_found graph old new at past tried cell path =
    let has = path.1.0 in
    let same : edge_at graph has.0 ≡ path.0 =
    get_or_default graph.edges has.0 record { from = 0; to = 0 } path.0 has.1 ∙ has.2 in
    let ends = subst (λ (e : Edge). (e.from < graph.nodes) × (e.to < graph.nodes)) (sym same) (path.1.1, path.1.2) in
    subst (Contains (found_in new)) (ap (λ (e : Edge). cell_of graph e.from e.to) same ∙ sym path.2)
    (tried.all has.0 (omega (arith, has.1)) ends)

-- a cell that is done now was done at the start
pub done_before : (old now : Progress) → Grows old now → (cell place : ℕ) → cell ≡ place → Contains now.done cell →
    Contains old.done place
done_before old now grows cell place same has =
    subst (λ l. Contains l place) grows.done (subst (Contains now.done) same has)

pub done_after : (old now : Progress) → Grows old now → (cell place : ℕ) → cell ≡ place → Contains old.done place →
    Contains now.done cell
done_after old now grows cell place same has =
    subst (λ l. Contains l cell) (sym grows.done) (subst (Contains old.done) (sym same) has)

-- both ends of a cell in range
pub ends_below : (graph : Graph) (cell : ℕ) → cell < cells_of graph →
    (cell / graph.nodes < graph.nodes) × (cell % graph.nodes < graph.nodes)
    × (cell ≡ cell_of graph (cell / graph.nodes) (cell % graph.nodes))
ends_below graph cell below = elim (cases_lt 0 graph.nodes) [
  | inl some ↦
      (div_below cell graph.nodes graph.nodes some below, mod-lt cell some, sym (div-add-mod' cell graph.nodes))
  | inr none ↦ let empty : graph.nodes ≡ 0 =
      omega arith in absurd (omega (arith, subst (λ n. cell < n * n) empty below))
]

pub in_range : (graph : Graph) (work : Progress) (cell : ℕ) → work.cells ≡ cells_of graph →
    AreBelow work.cells (found_in work) → Contains work.done cell → cell < cells_of graph
in_range graph work cell size below has =
    subst (λ n. cell < n) size
    (All-contains (λ n. n < work.cells) (found_in work) cell below
    (Contains-append_left work.done work.todo cell has))

-- the given path was the first of two, or nothing goes on from its end
pub record FirstTurn (graph : Graph) (from to : ℕ) (old mid : Progress) : Type 0 where
  pub grows : Grows old mid
  pub all : (last : ℕ) → last < graph.nodes → Contains old.done (cell_of graph to last) →
      Contains (found_in mid) (cell_of graph from last)
  pub only : (cell : ℕ) → Contains (found_in mid) cell →
      Contains (found_in old) cell ⊎ IsFromFirst graph from to old.done cell

pub no_first_turn : (graph : Graph) (from to : ℕ) (old : Progress) → (BeginsDone graph old.done to → ⊥) →
    FirstTurn graph from to old old
no_first_turn graph from to old ends =
    record {
      grows = Grows-none old;
      all = λ last low has. absurd
          (ends (last, low, has));
      only = λ cell found. inl found;
    }

module _ (graph : Graph) (old mid new : Progress) (cell : ℕ) (below : cell < cells_of graph)
    (has : Contains old.done cell)
    (turn : FirstTurn graph (cell / graph.nodes) (cell % graph.nodes) old mid) (grows : Grows mid new) where
  module _ (all : (start : ℕ) → start < graph.nodes → Contains mid.done (cell_of graph start (cell / graph.nodes)) →
      Contains (found_in new) (cell_of graph start (cell % graph.nodes))) where
    pub both_all : HasReacted (Follows graph) cell old.done (found_in new)
    both_all =
        let ends = ends_below graph cell below in
        subst (λ x. HasReacted (Follows graph) x old.done (found_in new)) (sym ends.2)
        (reacted_both graph old.done (found_in new) (cell / graph.nodes) (cell % graph.nodes) ends.1
        (λ last low known. found_stays mid new grows (cell_of graph (cell / graph.nodes) last)
        (turn.all last low known))
        (λ start low known. all start low
        (subst (λ l. Contains l (cell_of graph start (cell / graph.nodes))) (sym turn.grows.done) known))
        ends.0)

  module _ (only : (x : ℕ) → Contains (found_in new) x →
      Contains (found_in mid) x ⊎ IsFromSecond graph (cell / graph.nodes) (cell % graph.nodes) mid.done x) where
    pub both_only : (x : ℕ) → Contains (found_in new) x → IsDerivable (GivenOrFollows (Follows graph) (found_in old)) x
    both_only x found =
        let ends = ends_below graph cell below in
        let whole = subst (Contains old.done) ends.2 has in
        let inside = Contains-append_left old.done old.todo in
        elim (only x found) [
          | inl before ↦ elim (turn.only x before) [
            | inl known ↦ derivable_given (Follows graph) (found_in old) x known
            | inr first ↦ derived_first graph old.done (found_in old) (cell / graph.nodes)
                (cell % graph.nodes) ends.0 ends.1 whole inside x first
          ]
          | inr second ↦ derived_second graph old.done (found_in old) (cell / graph.nodes)
              (cell % graph.nodes) ends.0 ends.1 whole inside x
              (subst (λ l. IsFromSecond graph (cell / graph.nodes) (cell % graph.nodes) l x) turn.grows.done second)
        ]

-- the memory after the start of the given path was marked
module _ (graph : Graph) (begins : List Bool) (old mid : Progress) (cell : ℕ) (takes : Takes old cell mid)
    (known : Remembers graph begins old.done) (size : length begins ≡ graph.nodes)
    (below : cell < cells_of graph) where
  marked : get_or (set begins (cell / graph.nodes) true) (cell / graph.nodes) false ≡ true
  marked = get_or-set_same begins (cell / graph.nodes) true false
      (subst (λ n. cell / graph.nodes < n) (sym size) (ends_below graph cell below).0)

  stays_done : (other : ℕ) → Contains old.done other → Contains mid.done other
  stays_done other has =
      subst (λ l. Contains l other) (sym takes.done) (Contains-append_left old.done (cell ∷ []) other has)

  pub remembered : Remembers graph (set begins (cell / graph.nodes) true) mid.done
  remembered node low = (
    λ mark. elim (cases_eq node (cell / graph.nodes)) [
      | inl here ↦
          let ends = ends_below graph cell below in (
            cell % graph.nodes,
            ends.1,
            subst (Contains mid.done) (ends.2 ∙ ap (λ n. cell_of graph n (cell % graph.nodes)) (sym here))
                (Takes-done old cell mid takes),
          )
      | inr apart ↦
          let before =
          (known node low).0 (sym (get_or-set_other begins (cell / graph.nodes) node true false apart) ∙ mark) in
          (before.0, before.1, stays_done (cell_of graph node before.0) before.2)
    ],
    λ begin. elim (cases_eq node (cell / graph.nodes)) [
      | inl here ↦ subst (λ n. get_or (set begins (cell / graph.nodes) true) n false ≡ true) (sym here) marked
      | inr apart ↦ elim
          (Contains-push_cases old.done cell (cell_of graph node begin.0)
          (subst (λ l. Contains l (cell_of graph node begin.0)) takes.done begin.2)) [
            | inl before ↦ get_or-set_other begins (cell / graph.nodes) node true false apart
                ∙ (known node low).1 (begin.0, begin.1, before)
            | inr same ↦
                let ends = ends_below graph cell below in
                absurd (apart
                (same_from_place node begin.0 (cell / graph.nodes) (cell % graph.nodes) graph.nodes begin.1 ends.1
                (sym same ∙ ends.2)).0)
          ]
    ],
  )

-- an edge at a place of the list is a path
pub listed_edge : (graph : Graph) (k : ℕ) → k < length graph.edges → HasEnds graph k →
    IsEdgePath graph (edge_cell graph k)
listed_edge graph k below ends =
    (edge_at graph k, (Contains-get_or graph.edges k record { from = 0; to = 0 } below, ends.0, ends.1), refl)
