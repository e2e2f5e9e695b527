-- What a map tells once a pair was put in.
use Rattle.std.proofs.Common.{
  ◌≡◌,
  ℕ,
  Bool,
  true,
  false,
  cond,
  List,
  Option,
  Some,
  None,
  is_some,
  Result,
  Ok,
  Err,
  OnOk,
  if◌then◌else◌,
  refl,
  sym,
  ap,
  subst,
  ◌∙◌,
}
use Rattle.std.specs.Option.{option_or}
use Rattle.std.specs.Cmp.Lexicographic.{nat_list_eq_equiv, bytes_decides}
use Rattle.name_tables.specs.Names.{same_name, told, told_by}

kept : (found : Option (List ℕ)) (same : Bool) (second : List ℕ) → (same ≡ true → is_some found ≡ true) →
    found ≡ option_or found (if same then Some second else None)
kept None true second known = let e : false ≡ true = known refl in absurd (cc)
kept None false second known = refl
kept (Some x) same second known = refl

-- what is told already stays
pub stays : (pairs : List (List ℕ × List ℕ)) (first second : List ℕ) → is_some (told pairs first) ≡ true →
    (name : List ℕ) →
    told pairs name ≡ option_or (told pairs name) (told_by first second name)
stays pairs first second known name =
    kept (told pairs name) (same_name name first) second
    (λ e. subst (λ n. is_some (told pairs n) ≡ true) (sym ((bytes_decides name first).0 e)) known)

added : (before : Option (List ℕ)) (same : Bool) (second : List ℕ) → (same ≡ true → before ≡ None) →
    cond same (Some second) before ≡ option_or before (if same then Some second else None)
added None true second none = refl
added None false second none = refl
added (Some found) true second none = let e : Some found ≡ None = none refl in absurd (cc)
added (Some found) false second none = refl

-- a pair that is put in tells its name, and no other pair tells it
pub adds : (pairs now : List (List ℕ × List ℕ)) (first second : List ℕ) → told pairs first ≡ None →
    ((name : List ℕ) → told now name ≡ cond (same_name first name) (Some second) (told pairs name)) → (name : List ℕ) →
    told now name ≡ option_or (told pairs name) (told_by first second name)
adds pairs now first second none puts name =
    puts name
    ∙ ap (λ b. cond b (Some second) (told pairs name)) (nat_list_eq_equiv.symm first name)
    ∙ added (told pairs name) (same_name name first) second
    (λ e. ap (told pairs) ((bytes_decides name first).0 e) ∙ none)

pub untold : (found : Option (List ℕ)) → is_some found ≡ false → found ≡ None
untold None none = refl
untold (Some x) none = absurd (cc)

pub on_ok : {A E P : Type 0} (r : Result A E) → P → OnOk r P
on_ok (Ok x) p = p
on_ok (Err e) p = tt

pub on_err : {A E : Type 0} (P : Type 0) (r : Result A E) (e : E) → r ≡ Err e → OnOk r P
on_err P (Ok x) e is = absurd (cc)
on_err P (Err d) e is = tt
