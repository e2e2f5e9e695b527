-- What it is that a reading of a value is right, and the laws of the ways in which readings are put together.
use Rattle.std.proofs.Common.{◌≡◌, ℕ, Bool, true, false, ◌||◌, List, [], ◌∷◌, ◌++◌, length, Ok, Err, refl, sym, ap, ◌∙◌}
use Rattle.std.proofs.Common.{subst, append_assoc}
use Rattle.std.specs.Prelude.{⊤}
use Rattle.std.specs.List.{All}
use Rattle.std.proofs.lemmas.List.Elements.{All-tail}
use Rattle.amdl_tree.specs.GoesOn.{Past, Once, never}
use Rattle.amdl_tree.specs.declared.token.Token.{Token}
use Rattle.amdl_parser.specs.declared.fault.Fault.TheVariants.{Syntax, Deep, NoMemory}
use Rattle.amdl_parser.specs.Reading.{IsNamed, Answer, refused, go_on, read, read_pair}

abbrev pub T : Type 0
T = List Token

-- the tokens begin as the others do, or both are none
abbrev pub Heads : T → T → Type 0
Heads [] y = y ≡ []
Heads (token ∷ tokens) y = (others : T) × (y ≡ token ∷ others)

-- a value was read, and what follows does not go on with it
pub record Took {X : Type 0} (s : X → T) (F : X → Type 0) (goes : X → Token → Bool) (ts : T) (x : X)
    (rest : T) : Type 0 where
  pub whole : ts ≡ s x ++ rest
  pub fits : F x
  pub past : Past (goes x) rest

-- the tokens cut where so many are left
pub record Split (ts : T) (left : ℕ) : Type 0 where
  pub front : T
  pub rest : T
  pub whole : ts ≡ front ++ rest
  pub count : length rest ≡ left

-- the front begins a value of the kind F; with the next token it begins none of the kind G
pub record Stop {X : Type 0} (s : X → T) (F G : X → Type 0) (goes : X → Token → Bool) (front rest : T) : Type 0 where
  pub tree : X
  pub more : T
  pub fits : F tree
  pub begun : s tree ≡ front ++ more
  pub none : (x : X) (b y : T) → G x → Past (goes x) b → Heads rest y → s x ++ b ≡ front ++ y → ⊥

-- with the next token the front begins a value of the kind W
pub record Further {X : Type 0} (s : X → T) (W : X → Type 0) (front rest : T) : Type 0 where
  pub deep : X
  pub next : Token
  pub others : T
  pub after : T
  pub has : rest ≡ next ∷ others
  pub built : W deep
  pub spelled : s deep ≡ front ++ (next ∷ after)

abbrev pub Holds : {X : Type 0} → (X → T) → (X → Type 0) → (X → Type 0) → (X → Token → Bool) → T → Answer X → Type 0
Holds s W F goes ts (Ok p) = Took s F goes ts p.0 p.1
Holds s W F goes ts (Err (Syntax left)) = (at : Split ts left) × Stop s F W goes at.front at.rest
Holds s W F goes ts (Err (Deep left)) =
    (at : Split ts left) × Stop s F F goes at.front at.rest × Further s W at.front at.rest
Holds s W F goes ts (Err NoMemory) = ⊥

-- the words among the tokens are names
abbrev pub Named : T → Type 0
Named = All IsNamed

pub named_rest : (front rest : T) → Named (front ++ rest) → Named rest
named_rest [] rest p = p
named_rest (token ∷ front) rest p = named_rest front rest (All-tail IsNamed token (front ++ rest) p)

-- a reading of the values that W asks for, of which it finds those that F asks for
pub record Reader {X : Type 0} (s : X → T) (W F : X → Type 0) (goes : X → Token → Bool)
    (r : T → Answer X) : Type 0 where
  pub once : Once s W goes
  pub fits : (x : X) → F x → W x
  pub least : X
  pub small : F least
  pub holds : (ts : T) → Named ts → Holds s W F goes ts (r ts)

pub past_headed : (g : Token → Bool) (front rest y : T) → Past g (front ++ rest) → Heads rest y → Past g (front ++ y)
past_headed g [] [] y p h = subst (Past g) (sym h) p
past_headed g [] (t ∷ ts) y p h = subst (Past g) (sym h.1) p
past_headed g (f ∷ fs) rest y p h = p

-- what stands at the front heads the whole
pub heads_whole : (front rest y u : T) → Heads rest y → u ≡ front ++ y → Heads (front ++ rest) u
heads_whole [] [] y u h e = e ∙ h
heads_whole [] (t ∷ ts) y u h e = (h.0, e ∙ h.1)
heads_whole (f ∷ fs) rest y u h e = (fs ++ y, e)

pub past_none : (a : T) → Past never a
past_none [] = tt
past_none (token ∷ tokens) = refl

pub or_none : (a b : Bool) → a ≡ false → b ≡ false → (a || b) ≡ false
or_none a b e f = subst (λ c. (c || b) ≡ false) (sym e) f

pub or_two : (a b : Bool) → (a || b) ≡ false → b ≡ false
or_two true b e = cc
or_two false b e = e

pub or_one : (a b : Bool) → (a || b) ≡ false → a ≡ false
or_one true b e = cc
or_one false b e = refl

-- nothing is read, and no value goes on with the next token
module _ {X : Type 0} {s : X → T} {W F : X → Type 0} {goes : X → Token → Bool} where
  pub refused_holds : (ts : T) (least : X) → F least →
      ((x : X) (b : T) → W x → Past (goes x) b → Heads ts (s x ++ b) → ⊥) → Holds s W F goes ts (refused ts)
  refused_holds ts least small none = (
    record { front = []; rest = ts; whole = refl; count = refl },
    record {
      tree = least;
      more = s least;
      fits = small;
      begun = refl;
      none = λ x b y w u h e. none x b w u (subst (Heads ts) (sym e) h);
    },
  )

  -- nothing is read, and only values that are too deep go on with the next token
  pub deep_holds : (token : Token) (tokens : T) (least : X) → F least →
      ((x : X) (b : T) → F x → Past (goes x) b → Heads (token ∷ tokens) (s x ++ b) → ⊥) → (deep : X) (after : T) →
      W deep → s deep ≡ token ∷ after → Holds s W F goes (token ∷ tokens) (Err (Deep (length (token ∷ tokens))))
  deep_holds token tokens least small none deep after built spelled = (
    record { front = []; rest = token ∷ tokens; whole = refl; count = refl },
    record {
      tree = least;
      more = s least;
      fits = small;
      begun = refl;
      none = λ x b y w u h e. none x b w u (subst (Heads (token ∷ tokens)) (sym e) h);
    },
    record { deep = deep; next = token; others = tokens; after = after; has = refl; built = built; spelled = spelled },
  )

-- the same in another form: each value that could stand here is of the form
module _ {X Y : Type 0} {s : X → T} {W F : X → Type 0} {goes : X → Token → Bool} (t : Y → T) (V G : Y → Type 0)
    (more : Y → Token → Bool) (made : X → Y)
    (fits : (x : X) → F x → W x) (same : (x : X) → W x → t (made x) ≡ s x) (fit : (x : X) → F x → G (made x))
    (built : (x : X) → W x → V (made x))
    (past : (x : X) (b : T) → F x → Past (goes x) b → Past (more (made x)) b) where
  form_stop : (P : X → Type 0) (Q : Y → Type 0) → ((x : X) → P x → W x) → (front rest : T) →
      Stop s F P goes front rest →
      ((y : Y) (b : T) → Q y → Past (more y) b → Heads (front ++ rest) (t y ++ b) →
      (x : X) × (y ≡ made x) × P x × Past (goes x) b) → Stop t G Q more front rest
  form_stop P Q p front rest h only = record {
    tree = made h.tree;
    more = h.more;
    fits = fit h.tree h.fits;
    begun = same h.tree (fits h.tree h.fits) ∙ h.begun;
    none = λ y b z q u hd e.
        let o = only y b q u (heads_whole front rest z (t y ++ b) hd e) in
        h.none o.0 b z o.2 o.3 hd (ap (λ l. l ++ b) (sym (same o.0 (p o.0 o.2))) ∙ ap (λ v. t v ++ b) (sym o.1) ∙ e);
  }

  pub form_holds : (ts : T) (a : Answer X) → ((y : Y) → G y → V y) →
      ((y : Y) (b : T) → V y → Past (more y) b → Heads ts (t y ++ b) →
      (x : X) × (y ≡ made x) × W x × (G y → F x) × Past (goes x) b) → Holds s W F goes ts a →
      Holds t V G more ts (go_on (λ value. read (made value)) a)
  form_holds ts (Ok p) weaker only h =
      record {
        whole = h.whole
            ∙ ap (λ l. l ++ p.1) (sym (same p.0 (fits p.0 h.fits)));
        fits =
            fit p.0 h.fits;
        past = past p.0 p.1 h.fits h.past;
      }
  form_holds ts (Err (Syntax left)) weaker only h = (
    h.0,
    form_stop W V (λ x w. w) h.0.front h.0.rest h.1
        (λ y b q u hd. let o = only y b q u (subst (λ l. Heads l (t y ++ b)) (sym h.0.whole) hd) in
        (o.0, o.1, o.2, o.4)),
  )
  form_holds ts (Err (Deep left)) weaker only h = (
    h.0,
    form_stop F G fits h.0.front h.0.rest h.1
        (λ y b q u hd. let o = only y b (weaker y q) u (subst (λ l. Heads l (t y ++ b)) (sym h.0.whole) hd) in
        (o.0, o.1, o.3 q, o.4)),
    record {
      deep = made h.2.deep;
      next = h.2.next;
      others = h.2.others;
      after = h.2.after;
      has = h.2.has;
      built = built
          h.2.deep h.2.built;
      spelled = same h.2.deep h.2.built ∙ h.2.spelled;
    },
  )
  form_holds ts (Err NoMemory) weaker only h = h

-- one value and then another
module _ {X Y : Type 0} {s : X → T} {W F : X → Type 0} {goes : X → Token → Bool} (t : Y → T) (V G : Y → Type 0)
    (more : Y → Token → Bool)
    (one : Once s W goes) (fits : (x : X) → F x → W x) (fits2 : (y : Y) → G y → V y) (least : Y) (small : G least)
    (stops : (x : X) (y : Y) (a : T) → W x → V y → Past (more y) a → Past (goes x) (t y ++ a)) where
  abbrev both : X × Y → T
  both p = s p.0 ++ t p.1

  abbrev Both : (X → Type 0) → (Y → Type 0) → X × Y → Type 0
  Both P Q p = P p.0 × Q p.1

  abbrev goes_both : X × Y → Token → Bool
  goes_both p = more p.1

  stop_one : (P : X → Type 0) (Q : Y → Type 0) → ((x : X) → P x → W x) → ((y : Y) → Q y → V y) → (front rest : T) →
      Stop s F P goes front rest → Stop both (Both F G) (Both P Q) goes_both front rest
  stop_one P Q p q front rest h = record {
    tree = (h.tree, least);
    more = h.more ++ t least;
    fits = (h.fits, small);
    begun = ap (λ l. l ++ t least) h.begun ∙ append_assoc front h.more (t least);
    none = λ z b y w u hd e. h.none z.0 (t z.1 ++ b) y w.0 (stops z.0 z.1 b (p z.0 w.0) (q z.1 w.1) u) hd
        (sym (append_assoc (s z.0) (t z.1) b) ∙ e);
  }

  stop_two : (x : X) (P : X → Type 0) (Q : Y → Type 0) → ((x : X) → P x → W x) → ((y : Y) → Q y → V y) →
      (front rest : T) → F x → Past (goes x) (front ++ rest) → Stop t G Q more front rest →
      Stop both (Both F G) (Both P Q) goes_both (s x ++ front) rest
  stop_two x P Q p q front rest f past h = record {
    tree = (x, h.tree);
    more = h.more;
    fits = (f, h.fits);
    begun = ap (λ l. s x ++ l) h.begun ∙ sym (append_assoc (s x) front h.more);
    none = λ z b y w u hd e.
        let moved : s z.0 ++ (t z.1 ++ b) ≡ s x ++ (front ++ y) =
        sym (append_assoc (s z.0) (t z.1) b) ∙ e ∙ append_assoc (s x) front y in
        let split =
        one.once z.0 x (t z.1 ++ b) (front ++ y) (p z.0 w.0) (fits x f) (stops z.0 z.1 b (p z.0 w.0) (q z.1 w.1) u)
        (past_headed (goes x) front rest y past hd) moved in
        h.none z.1 b y w.1 u hd split.1;
  }

  abbrev split_two : (ts : T) (x : X) (rest : T) (left : ℕ) → ts ≡ s x ++ rest → Split rest left → Split ts left
  split_two ts x rest left e at =
      record {
        front = s x ++ at.front;
        rest = at.rest;
        whole = e ∙ ap (λ l. s x ++ l) at.whole
            ∙ sym (append_assoc (s x) at.front at.rest);
        count = at.count;
      }

  chain_two : (ts : T) (x : X) (rest : T) → Took s F goes ts x rest → (a : Answer Y) → Holds t V G more rest a →
      Holds both (Both W V) (Both F G) goes_both ts (go_on (read_pair x) a)
  chain_two ts x rest h (Ok p) k =
      record {
        whole = h.whole ∙ ap (λ l. s x ++ l) k.whole
            ∙ sym (append_assoc (s x) (t p.0) p.1);
        fits = (h.fits, k.fits);
        past = k.past;
      }
  chain_two ts x rest h (Err (Syntax left)) k = (
    split_two ts x rest left h.whole k.0,
    stop_two x W V (λ z w. w) (λ z w. w) k.0.front k.0.rest h.fits (subst (Past (goes x)) k.0.whole h.past) k.1,
  )
  chain_two ts x rest h (Err (Deep left)) k = (
    split_two ts x rest left h.whole k.0,
    stop_two x F G fits fits2 k.0.front k.0.rest h.fits (subst (Past (goes x)) k.0.whole h.past) k.1,
    record {
      deep = (x, k.2.deep);
      next = k.2.next;
      others = k.2.others;
      after = k.2.after;
      has = k.2.has;
      built =
          (fits x h.fits, k.2.built);
      spelled =
          ap (λ l. s x ++ l) k.2.spelled ∙ sym (append_assoc (s x) k.0.front (k.2.next ∷ k.2.after));
    },
  )
  chain_two ts x rest h (Err NoMemory) k = k

  pub chain_holds : (ts : T) (a : Answer X) (q : T → Answer Y) → Holds s W F goes ts a →
      ((x : X) (rest : T) → Took s F goes ts x rest → Holds t V G more rest (q rest)) →
      Holds both (Both W V) (Both F G) goes_both ts (go_on (λ value rest. go_on (read_pair value) (q rest)) a)
  chain_holds ts (Ok p) q h next = chain_two ts p.0 p.1 h (q p.1) (next p.0 p.1 h)
  chain_holds ts (Err (Syntax left)) q h next = (h.0, stop_one W V (λ z w. w) (λ z w. w) h.0.front h.0.rest h.1)
  chain_holds ts (Err (Deep left)) q h next = (
    h.0,
    stop_one F G fits fits2 h.0.front h.0.rest h.1,
    record {
      deep = (h.2.deep, least);
      next = h.2.next;
      others = h.2.others;
      after = h.2.after
          ++ t least;
      has =
          h.2.has;
      built =
          (h.2.built, fits2 least small);
      spelled =
          ap (λ l. l ++ t least) h.2.spelled ∙ append_assoc h.0.front (h.2.next ∷ h.2.after) (t least);
    },
  )
  chain_holds ts (Err NoMemory) q h next = h

-- the same with other words for what is asked
module _ {X : Type 0} (s : X → T) {W F V G : X → Type 0} (goes : X → Token → Bool) (to_v : (x : X) → W x → V x)
    (from_v : (x : X) → V x → W x) (to_g : (x : X) → F x → G x) (from_g : (x : X) → G x → F x) where
  recast_stop : (P Q : X → Type 0) → ((x : X) → Q x → P x) → (front rest : T) → Stop s F P goes front rest →
      Stop s G Q goes front rest
  recast_stop P Q from front rest h = record {
    tree = h.tree;
    more = h.more;
    fits = to_g h.tree h.fits;
    begun = h.begun;
    none = λ x b y w u hd e. h.none x b y (from x w) u hd e;
  }

  pub recast_holds : (ts : T) (a : Answer X) → Holds s W F goes ts a → Holds s V G goes ts a
  recast_holds ts (Ok p) h = record { whole = h.whole; fits = to_g p.0 h.fits; past = h.past }
  recast_holds ts (Err (Syntax left)) h = (h.0, recast_stop W V from_v h.0.front h.0.rest h.1)
  recast_holds ts (Err (Deep left)) h = (
    h.0,
    recast_stop F G from_g h.0.front h.0.rest h.1,
    record {
      deep = h.2.deep;
      next = h.2.next;
      others = h.2.others;
      after = h.2.after;
      has = h.2.has;
      built = to_v
          h.2.deep h.2.built;
      spelled = h.2.spelled;
    },
  )
  recast_holds ts (Err NoMemory) h = h
