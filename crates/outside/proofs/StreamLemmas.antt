-- One read or write after another, where the bytes are known.
use Rattle.std.proofs.Common.{◌≡◌, ◌≢◌, ℕ, ◌+◌, ◌≤◌, ◌<◌, List, [], ◌∷◌, ◌++◌, length, take, drop, get_or, Option, Some}
use Rattle.std.proofs.Common.{None, Result, Ok, Err, IfErr, OnErr, refl, sym, ap, ◌∙◌, arith, append_assoc}
use Rattle.std.proofs.Common.{length-append}
use Rattle.std.proofs.lemmas.List.{append-nil, take_more, length-take-le, take-append-drop}
use Rattle.std.proofs.Math.Seq.{take-length}
use Rattle.std.specs.Io.KnownBytes.{Appends, Consumes, IsAtEnd}
use Rattle.outside.specs.declared.traits.LoadFault.{LoadFault}
use Rattle.outside.specs.declared.traits.LoadFault.TheVariants.{Failed, Missing, TooLong, NoMemory}
use Rattle.outside.specs.Streams.{Takes, ReadsAll, ReadsOver, ReadsFront, ReadsBlock}

Some-injective : {A : Type 0} {x y : A} → Some x ≡ Some y → x ≡ y
Some-injective e = cc

pub Takes-from_consumes : (old new : Option (List ℕ)) (bytes : List ℕ) → Consumes old new bytes → Takes old new bytes
Takes-from_consumes None new bytes h = λ known e. absurd (cc)
Takes-from_consumes (Some xs) None bytes h = absurd h
Takes-from_consumes (Some xs) (Some ys) bytes h = λ known e. (ys, refl, sym (Some-injective e) ∙ h)

pub Takes-append : (a b c : Option (List ℕ)) (x y : List ℕ) → Takes a b x → Takes b c y → Takes a c (x ++ y)
Takes-append a b c x y p q = λ known e.
    let r = p known e in
    let s = q r.0 r.1 in
    (s.0, s.1, r.2 ∙ ap (λ t. x ++ t) s.2 ∙ sym (append_assoc x y s.0))

pub blocks-append : (a b c : Option (List ℕ)) (m n : ℕ) (xs ys zs : List ℕ) → ReadsBlock a b m xs ys →
    ReadsBlock b c n ys zs → ReadsBlock a c (m + n) xs zs
blocks-append a b c m n xs ys zs p q = record {
  added = p.added ++ q.added;
  appended = q.appended ∙ ap (λ t. t ++ q.added) p.appended ∙ append_assoc xs p.added q.added;
  counted = omega (arith, length-append p.added q.added, p.counted, q.counted);
  takes = Takes-append a b c p.added q.added p.takes q.takes;
}

pub block-over : (a b c : Option (List ℕ)) (m n limit : ℕ) (xs ys zs : List ℕ) → m + n ≡ limit →
    ReadsBlock a b m xs ys → ReadsOver b c n ys zs → ReadsOver a c limit xs zs
block-over a b c m n limit xs ys zs sum p q = record {
  added = p.added ++ q.added;
  last = q.last;
  appended = q.appended ∙ ap (λ t. t ++ q.added) p.appended ∙ append_assoc xs p.added q.added;
  full = omega (arith, length-append p.added q.added, p.counted, q.full, sum);
  takes = rw append_assoc (Takes-append a b c p.added (q.added ++ q.last ∷ []) p.takes q.takes);
}

pub block-front : (a b : Option (List ℕ)) (m n limit : ℕ) (xs ys zs : List ℕ) → m + n ≡ limit → ReadsBlock a b m xs ys →
    ReadsFront b n ys zs → ReadsFront a limit xs zs
block-front a b m n limit xs ys zs sum p q = record {
  added = p.added ++ q.added;
  appended = q.appended ∙ ap (λ t. t ++ q.added) p.appended ∙ append_assoc xs p.added q.added;
  within = omega (arith, length-append p.added q.added, p.counted, q.within, sum);
  front = λ known e.
      let r = p.takes known e in
      let s = q.front r.0 r.1 in
      (s.0, r.2 ∙ ap (λ t. p.added ++ t) s.1 ∙ sym (append_assoc p.added q.added s.0));
}

at_end : (b : Option (List ℕ)) (rest : List ℕ) → IsAtEnd b → b ≡ Some rest → rest ≡ []
at_end None rest h e = absurd (cc)
at_end (Some xs) rest h e = sym (Some-injective e) ∙ h

pub block-all : (a b : Option (List ℕ)) (m limit : ℕ) (xs ys : List ℕ) → ReadsBlock a b m xs ys → IsAtEnd b →
    m ≤ limit → ReadsAll a limit xs ys
block-all a b m limit xs ys p h small = record {
  added = p.added;
  appended = p.appended;
  within = omega (arith, p.counted);
  whole = λ known e.
      let r = p.takes known e in
      r.2 ∙ ap (λ t. p.added ++ t) (at_end b r.0 h r.1) ∙ append-nil p.added;
}

-- a read that gave one byte more than `left`, of which the others were appended
pub over_block : (old new : Option (List ℕ)) (block : List ℕ) (left : ℕ) (xs ys : List ℕ) → Consumes old new block →
    length block ≤ left + 1 → left < length block → ys ≡ xs ++ take left block → ReadsOver old new left xs ys
over_block old new block left xs ys consumed small over cut =
    let all : take (left + 1) block ≡ block = ap (λ n. take n block) (omega arith) ∙ take-length block in
    record {
      added = take left block;
      last = get_or block left 0;
      appended = cut;
      full = length-take-le left block (omega arith);
      takes = rw (← take_more block left 0 over, all) (Takes-from_consumes old new block consumed);
    }

pub ReadsFront-from_over : (old new : Option (List ℕ)) (limit : ℕ) (xs ys : List ℕ) → ReadsOver old new limit xs ys →
    ReadsFront old limit xs ys
ReadsFront-from_over old new limit xs ys p = record {
  added = p.added;
  appended = p.appended;
  within = omega (arith, p.full);
  front = λ known e.
      let r = p.takes known e in
      (p.last ∷ r.0, r.2 ∙ append_assoc p.added (p.last ∷ []) r.0);
}

pub ReadsFront-none : (old : Option (List ℕ)) (limit : ℕ) (xs ys : List ℕ) → ys ≡ xs → ReadsFront old limit xs ys
ReadsFront-none old limit xs ys e = record {
  added = [];
  appended = e ∙ sym (append-nil xs);
  within = omega arith;
  front = λ known _. (known, refl);
}

-- a block that was not appended whole was cut, or it was not appended at all
pub ReadsFront-from_err : (old : Option (List ℕ)) (limit : ℕ) (xs ys : List ℕ) (answer : Result ℕ LoadFault) →
    (answer ≡ Err TooLong → ReadsFront old limit xs ys) → IfErr answer (λ fault. fault ≢ TooLong → ys ≡ xs) →
    OnErr answer (ReadsFront old limit xs ys)
ReadsFront-from_err old limit xs ys (Ok count) cut none = tt
ReadsFront-from_err old limit xs ys (Err Failed) cut none = ReadsFront-none old limit xs ys (none (λ e. cc))
ReadsFront-from_err old limit xs ys (Err Missing) cut none = ReadsFront-none old limit xs ys (none (λ e. cc))
ReadsFront-from_err old limit xs ys (Err TooLong) cut none = cut refl
ReadsFront-from_err old limit xs ys (Err NoMemory) cut none = ReadsFront-none old limit xs ys (none (λ e. cc))

pub Appends-append : (a b c : Option (List ℕ)) (x y : List ℕ) → Appends a b x → Appends b c y → Appends a c (x ++ y)
Appends-append None b c x y p q = tt
Appends-append (Some xs) None c x y p q = absurd p
Appends-append (Some xs) (Some ys) None x y p q = absurd q
Appends-append (Some xs) (Some ys) (Some zs) x y p q = q ∙ ap (λ t. t ++ y) p ∙ append_assoc xs x y

-- a front that was written, and then a part of the rest
pub front-append : (piece front rest taken after : List ℕ) (n : ℕ) → piece ≡ front ++ rest → taken ≡ take n rest →
    after ≡ drop n rest → piece ≡ (front ++ take n rest) ++ after
front-append piece front rest taken after n whole is_taken is_after =
    rw (is_after, append_assoc, take-append-drop) whole
