-- The first naming of a call in a list of named calls, and the map that such a list means.
use Rattle.std.proofs.Common.{◌≡◌, ◌≢◌, ℕ, suc, ◌+◌, ◌<◌, true, false, cond, eqb, List, [], ◌∷◌, ◌++◌, map, length}
use Rattle.std.proofs.Common.{get_or, drop, Option, Some, None, inl, inr, if◌then◌else◌, refl, sym, ap, ◌∙◌, add-one}
use Rattle.std.proofs.Common.{drop-cons, eq-eqb}
use Rattle.std.proofs.lemmas.Bool.{true≢false}
use Rattle.std.proofs.lemmas.Bool.Decides.{eqb_tells}
use Rattle.std.specs.Option.{is_some}
use Rattle.std.specs.Cmp.{nat_cmp_total, unsigned_ties}
use Rattle.std.specs.FinMap as finite
use Rattle.outside.specs.declared.failing.Named.{Named}
use Rattle.outside.specs.Failing.{NamedCalls}
use Rattle.outside.specs.Naming.{naming_of, named_calls, first_naming}

eqb-other : (a b : ℕ) → a ≢ b → eqb a b ≡ false
eqb-other a b other = elim (eqb_tells a b) [ inl same ↦ absurd (other same.1) | inr apart ↦ apart.0 ]

-- an option that isn't some
pub none_from_not_some : (o : Option ℕ) → is_some o ≡ false → o ≡ None
none_from_not_some None e = refl
none_from_not_some (Some x) e = absurd (true≢false e)

-- the first entry decides where it names the call
pub first_naming-cons : (n : Named) (named : List Named) (call : ℕ) →
    first_naming (n ∷ named) call ≡ cond (eqb call n.call) (Some n.kept) (first_naming named call)
first_naming-cons n named call =
    ap (λ t. cond t (Some n.kept) (first_naming named call)) (sym (unsigned_ties call n.call))

-- at a place of the list: its item names the call, or it doesn't
pub first_naming-here : (named : List Named) (i : ℕ) (d : Named) (call : ℕ) → i < length named →
    (get_or named i d).call ≡ call → first_naming (drop i named) call ≡ Some (get_or named i d).kept
first_naming-here named i d call lt here =
    rw (drop-cons named i d)
    (first_naming-cons (get_or named i d) _ call
    ∙ ap (λ t. cond t (Some (get_or named i d).kept) (first_naming (drop (suc i) named) call))
    (eq-eqb _ _ (sym here)))

pub first_naming-next : (named : List Named) (i : ℕ) (d : Named) (call : ℕ) → i < length named →
    (get_or named i d).call ≢ call → first_naming (drop i named) call ≡ first_naming (drop (i + 1) named) call
first_naming-next named i d call lt other =
    rw (add-one, drop-cons named i d)
    (first_naming-cons (get_or named i d) _ call
    ∙ ap (λ t. cond t (Some (get_or named i d).kept) (first_naming (drop (suc i) named) call))
    (eqb-other call _ (λ e. other (sym e))))

-- a look-up in the map is the first naming
pub get-named_calls : (named : List Named) (call : ℕ) → finite.get (named_calls named) call ≡ first_naming named call
get-named_calls named call = finite.get-from_entries nat_cmp_total (map naming_of named) call

map-snoc : (named : List Named) (n : Named) → map naming_of (named ++ n ∷ []) ≡ map naming_of named ++ naming_of n ∷ []
map-snoc [] n = refl
map-snoc (m ∷ named) n = ap (λ t. naming_of m ∷ t) (map-snoc named n)

-- to name a call that wasn't named is to insert it
pub named_calls-push : (named : List Named) (n : Named) → first_naming named n.call ≡ None →
    named_calls (named ++ n ∷ []) ≡ finite.insert (named_calls named) n.call n.kept
named_calls-push named n none =
    ap finite.from_entries (map-snoc named n)
    ∙ finite.from_entries_push nat_cmp_total finite.nat_cmp-IsAntisymmetric (map naming_of named) n.call n.kept none

-- what naming does to the map, where the call was named and where it wasn't
pub naming-again : (named : NamedCalls) (call kept : ℕ) → is_some (finite.get named call) ≡ true →
    (if finite.contains_key named call then named else finite.insert named call kept) ≡ named
naming-again named call kept e = rw e

pub naming-new : (named : NamedCalls) (call kept : ℕ) → finite.get named call ≡ None →
    (if finite.contains_key named call then named else finite.insert named call kept) ≡ finite.insert named call kept
naming-new named call kept e = rw e
