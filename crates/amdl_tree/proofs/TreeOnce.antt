-- Each class, item and tree is spelled in one way.
use Rattle.std.proofs.Common.{◌≡◌, ◌≤◌, ℕ, max, true, false, List, [], ◌∷◌, ◌++◌, refl, sym, ap, arith}
use Rattle.std.specs.List.{flat_map, All}
use Rattle.amdl_tree.specs.Word.{IsName}
use Rattle.amdl_tree.specs.WellBuilt.{OneOrMore, IsBuiltEqual, IsBuiltEnd, IsBuiltAtom, StmtFits, IsBuiltRelation}
use Rattle.amdl_tree.specs.WellBuilt.{HandlerFits, ClassFits, IsBuiltClass, IsBuiltItem, IsWellBuilt}
use Rattle.amdl_tree.specs.Spelling.{word, led, with_commas, spell_of_atom, spell_of_equal, spell_of_pattern}
use Rattle.amdl_tree.specs.Spelling.{spell_of_end, spell_of_relation, spell_of_handler, spell_of_class, spell_of_first}
use Rattle.amdl_tree.specs.Spelling.{spell_of_item, spell}
use Rattle.amdl_tree.specs.GoesOn.{Past, Once, Begins, never, is_comma, is_with, is_point, starts_relation}
use Rattle.amdl_tree.specs.GoesOn.{starts_handler, starts_item, goes_commas, goes_end, goes_pattern, goes_first}
use Rattle.amdl_tree.specs.declared.token.Token.{Token}
use Rattle.amdl_tree.specs.declared.token.Token.TheVariants.{Word, Key, Sign as Signed}
use Rattle.amdl_tree.specs.declared.token.Sign.TheVariants as signs
use Rattle.amdl_tree.specs.declared.reserved.Reserved.TheVariants as words
use Rattle.amdl_tree.specs.declared.guard.Atom.{Atom}
use Rattle.amdl_tree.specs.declared.class.Class.{Class}
use Rattle.amdl_tree.specs.declared.class.Handler.{Handler}
use Rattle.amdl_tree.specs.declared.class.Relation.{Relation}
use Rattle.amdl_tree.specs.declared.tree.Equal.{Equal}
use Rattle.amdl_tree.specs.declared.tree.End.{End}
use Rattle.amdl_tree.specs.declared.tree.End.TheVariants.{Host as AtHost, Port as AtPort}
use Rattle.amdl_tree.specs.declared.tree.Item.{Item}
use Rattle.amdl_tree.specs.declared.tree.Item.TheVariants.{Kind, Field, Class as OfClass, Host, Instance, Link, Sends}
use Rattle.amdl_tree.specs.declared.tree.Item.TheVariants.{Forbid}
use Rattle.amdl_tree.proofs.OnceLemmas.{not_past, once_word, once_after, once_before, once_shaped, once_chain}
use Rattle.amdl_tree.proofs.OnceLemmas.{once_then, once_listed, once_many}
use Rattle.amdl_tree.proofs.SpellingOnce.{rank_of, names_once, atom_once, equal_once, stmt_once, block_once_by}
use Rattle.amdl_tree.proofs.FitsLemmas.{class-rises}

abbrev T : Type 0
T = List Token

pub relation_once : Once spell_of_relation IsBuiltRelation (λ relation. never)
relation_once = once_shaped
    (once_after
    (once_then (once_word IsName)
    (once_after (once_before names_once (Signed signs.CloseParen) (Signed signs.Semicolon ∷ []) (λ names p. refl))
    (Signed signs.OpenParen))) (Key words.Relation))
    (λ (relation : Relation). (relation.name, relation.kinds))
    (λ x y e i. record { name = (e i).0; kinds = (e i).1 }) spell_of_relation (λ relation. refl)

pub relation_begins : Begins spell_of_relation IsBuiltRelation starts_relation
relation_begins = record { begins = λ relation p. (_, _, refl, refl) }

pub handler_once : (n : ℕ) → Once spell_of_handler (HandlerFits n) (λ handler. never)
handler_once n = once_shaped
    (once_after
    (once_then (once_word IsName) (once_after (block_once_by (StmtFits n) (stmt_once n)) (Signed signs.Colon)))
    (Key words.On))
    (λ (handler : Handler). (handler.port, handler.body))
    (λ x y e i. record { port = (e i).0; body = (e i).1 }) spell_of_handler (λ handler. refl)

pub handler_begins : (n : ℕ) → Begins spell_of_handler (HandlerFits n) starts_handler
handler_begins n = record { begins = λ handler p. (_, _, refl, refl) }

-- the relations of a class, then its handlers up to its last brace
relations_stop : (relations : List Relation) (handlers : List Handler) (a : T) →
    Past starts_relation ((flat_map spell_of_handler handlers ++ Signed signs.CloseBrace ∷ []) ++ a)
relations_stop relations [] a = refl
relations_stop relations (handler ∷ handlers) a = refl

parts_of_class_once : (n : ℕ) →
    Once {X = List Relation × List Handler}
    (λ parts. flat_map spell_of_relation parts.0 ++ (flat_map spell_of_handler parts.1 ++ Signed signs.CloseBrace ∷ []))
    (λ parts. All IsBuiltRelation parts.0 × All (HandlerFits n) parts.1) (λ parts. never)
parts_of_class_once n = once_chain
    (once_many relation_once relation_begins)
    (once_before (once_many (handler_once n) (handler_begins n)) (Signed signs.CloseBrace) [] (λ handlers p. refl))
    (λ relations handlers a p q u. relations_stop relations handlers a)

-- a class as its parts
abbrev Parts : Type 0
Parts = List ℕ × (List (List ℕ) × (List Relation × List Handler))

abbrev of_parts : Parts → Class
of_parts parts = record { name = parts.0; ports = parts.1.0; relations = parts.1.1.0; handlers = parts.1.1.1 }

class_parts_once : (n : ℕ) → Once {X = Parts}
    (λ parts. Key words.Middlebox ∷ Word parts.0 ∷ Signed signs.OpenBrace ∷ Key words.Port ∷ with_commas word parts.1.0
    ++ (Signed signs.Semicolon ∷ flat_map spell_of_relation parts.1.1.0
    ++ (flat_map spell_of_handler parts.1.1.1 ++ Signed signs.CloseBrace ∷ [])))
    (λ parts. IsName parts.0
    × (OneOrMore IsName parts.1.0 × (All IsBuiltRelation parts.1.1.0 × All (HandlerFits n) parts.1.1.1)))
    (λ parts. never)
class_parts_once n = once_after
    (once_then (once_word IsName) (once_after (once_after
    (once_chain names_once (once_after (parts_of_class_once n) (Signed signs.Semicolon)) (λ names parts a p q u. refl))
    (Key words.Port)) (Signed signs.OpenBrace))) (Key words.Middlebox)

pub class_once : (n : ℕ) → Once spell_of_class (ClassFits n) (λ class. never)
class_once n = record {
  once = λ x y a b p q u v e.
      let split =
      (class_parts_once n).once (x.name, (x.ports, (x.relations, x.handlers)))
      (y.name, (y.ports, (y.relations, y.handlers))) a b
      (p.named, (p.ports, (p.relations, p.handlers))) (q.named, (q.ports, (q.relations, q.handlers))) u v e in
      (ap of_parts split.0, split.1);
}

pub built_class_once : Once spell_of_class IsBuiltClass (λ class. never)
built_class_once = record {
  once = λ x y a b p q u v e.
      let here : p.0 ≤ max p.0 q.0 = omega arith in
      let there : q.0 ≤ max p.0 q.0 = omega arith in
      (class_once (max p.0 q.0)).once x y a b (class-rises p.0 (max p.0 q.0) here x p.1)
      (class-rises q.0 (max p.0 q.0) there y q.1) u v e;
}

end_split : (x y : End) (a b : T) → IsBuiltEnd x → IsBuiltEnd y → Past (goes_end x) a → Past (goes_end y) b →
    spell_of_end x ++ a ≡ spell_of_end y ++ b → (x ≡ y) × (a ≡ b)
end_split (AtHost x) (AtHost y) a b p q u v e = (cc, cc)
end_split (AtHost x) (AtPort y z) a b p q u v e =
    absurd (not_past is_point a (Signed signs.Point) (Word z ∷ b) u refl cc)
end_split (AtPort x z) (AtHost y) a b p q u v e =
    absurd (not_past is_point b (Signed signs.Point) (Word z ∷ a) v refl cc)
end_split (AtPort x z) (AtPort y w) a b p q u v e = (cc, cc)

pub end_once : Once spell_of_end IsBuiltEnd goes_end
end_once = record { once = end_split }

end_stops : (end : End) (token : Token) → is_point token ≡ false → goes_end end token ≡ false
end_stops (AtHost host) token stops = stops
end_stops (AtPort box port) token stops = refl

equals_once : Once (with_commas spell_of_equal) (OneOrMore IsBuiltEqual) (λ equals. goes_commas)
equals_once = once_listed (Signed signs.Comma) is_comma refl equal_once refl

pattern_split : (xs ys : List Equal) (a b : T) → All IsBuiltEqual xs → All IsBuiltEqual ys → Past (goes_pattern xs) a →
    Past (goes_pattern ys) b → spell_of_pattern xs ++ a ≡ spell_of_pattern ys ++ b → (xs ≡ ys) × (a ≡ b)
pattern_split [] [] a b p q u v e = (refl, cc)
pattern_split [] (y ∷ ys) a b p q u v e = absurd (omega (arith, ap rank_of e))
pattern_split (x ∷ xs) [] a b p q u v e = absurd (omega (arith, ap rank_of e))
pattern_split (x ∷ xs) (y ∷ ys) a b p q u v e =
    equals_once.once (x ∷ xs) (y ∷ ys) a b ((λ e. cc), p) ((λ e. cc), q) u v e

pub pattern_once : Once spell_of_pattern (All IsBuiltEqual) goes_pattern
pattern_once = record { once = pattern_split }

pattern_stops : (pattern : List Equal) → All IsBuiltEqual pattern →
    goes_pattern pattern (Signed signs.Semicolon) ≡ false
pattern_stops [] p = refl
pattern_stops (equal ∷ equals) p = refl

atoms_once : Once (led (Key words.With) (with_commas spell_of_atom)) (OneOrMore IsBuiltAtom) (λ atoms. goes_commas)
atoms_once = once_after (once_listed (Signed signs.Comma) is_comma refl atom_once refl) (Key words.With)

first_split : (xs ys : List Atom) (a b : T) → All IsBuiltAtom xs → All IsBuiltAtom ys → Past (goes_first xs) a →
    Past (goes_first ys) b → spell_of_first xs ++ a ≡ spell_of_first ys ++ b → (xs ≡ ys) × (a ≡ b)
first_split [] [] a b p q u v e = (refl, e)
first_split [] (y ∷ ys) a b p q u v e =
    absurd (not_past is_with a (Key words.With) (with_commas spell_of_atom (y ∷ ys) ++ b) u refl e)
first_split (x ∷ xs) [] a b p q u v e =
    absurd (not_past is_with b (Key words.With) (with_commas spell_of_atom (x ∷ xs) ++ a) v refl (sym e))
first_split (x ∷ xs) (y ∷ ys) a b p q u v e = atoms_once.once (x ∷ xs) (y ∷ ys) a b ((λ e. cc), p) ((λ e. cc), q) u v e

pub first_once : Once spell_of_first (All IsBuiltAtom) goes_first
first_once = record { once = first_split }

first_stops : (first : List Atom) → All IsBuiltAtom first → goes_first first (Signed signs.Semicolon) ≡ false
first_stops [] p = refl
first_stops (atom ∷ atoms) p = refl

-- a name with its values, up to the end of the item
values_once : Once {X = List ℕ × List (List ℕ)}
    (λ o. word o.0
    ++ (Signed signs.Equals ∷ Signed signs.OpenBrace ∷ with_commas word o.1 ++ Signed signs.CloseBrace
    ∷ Signed signs.Semicolon ∷ [])) (λ o. IsName o.0 × OneOrMore IsName o.1) (λ o. never)
values_once =
    once_then (once_word IsName)
    (once_after
    (once_after (once_before names_once (Signed signs.CloseBrace) (Signed signs.Semicolon ∷ []) (λ names p. refl))
    (Signed signs.OpenBrace)) (Signed signs.Equals))

-- a box with its class, up to the end of the item
box_once : Once {X = List ℕ × (List ℕ × List Atom)}
    (λ o. word o.0 ++ (Signed signs.Colon ∷ word o.1.0 ++ (spell_of_first o.1.1 ++ Signed signs.Semicolon ∷ [])))
    (λ o. IsName o.0 × (IsName o.1.0 × All IsBuiltAtom o.1.1)) (λ o. never)
box_once =
    once_then (once_word IsName)
    (once_after (once_then (once_word IsName) (once_before first_once (Signed signs.Semicolon) [] first_stops))
    (Signed signs.Colon))

-- two ends, up to the end of the item
ends_once : Once {X = End × End}
    (λ o. spell_of_end o.0 ++ (Signed signs.Dashes ∷ spell_of_end o.1 ++ Signed signs.Semicolon ∷ []))
    (λ o. IsBuiltEnd o.0 × IsBuiltEnd o.1) (λ o. never)
ends_once = once_chain end_once
    (once_after
    (once_before end_once (Signed signs.Semicolon) [] (λ end p. end_stops end (Signed signs.Semicolon) refl))
    (Signed signs.Dashes))
    (λ one two a p q u. end_stops one (Signed signs.Dashes) refl)

-- a host with a pattern, up to the end of the item
claim_once : Once {X = List ℕ × List Equal}
    (λ o. word o.0 ++ (Signed signs.Colon ∷ spell_of_pattern o.1 ++ Signed signs.Semicolon ∷ []))
    (λ o. IsName o.0 × All IsBuiltEqual o.1) (λ o. never)
claim_once =
    once_then (once_word IsName)
    (once_after (once_before pattern_once (Signed signs.Semicolon) [] pattern_stops) (Signed signs.Colon))

item_split : (x y : Item) (a b : T) → IsBuiltItem x → IsBuiltItem y → Past never a → Past never b →
    spell_of_item x ++ a ≡ spell_of_item y ++ b → (x ≡ y) × (a ≡ b)
item_split (Kind n xs) (Kind m ys) a b p q u v e =
    let split =
    (once_after values_once (Key words.Kind)).once (n, xs) (m, ys) a b (p.0, (p.1, p.2)) (q.0, (q.1, q.2)) u v e in
    (ap (λ (o : List ℕ × List (List ℕ)). Kind o.0 o.1) split.0, split.1)
item_split (Field n k) (Field m l) a b p q u v e = (cc, cc)
item_split (OfClass x) (OfClass y) a b p q u v e =
    let split = built_class_once.once x y a b p q u v e in (ap OfClass split.0, split.1)
item_split (Host n) (Host m) a b p q u v e = (cc, cc)
item_split (Instance n k xs) (Instance m l ys) a b p q u v e =
    let split =
    (once_after box_once (Key words.Box)).once (n, (k, xs)) (m, (l, ys)) a b (p.0, (p.1, p.2))
    (q.0, (q.1, q.2)) u v e in
    (ap (λ (o : List ℕ × (List ℕ × List Atom)). Instance o.0 o.1.0 o.1.1) split.0, split.1)
item_split (Link x z) (Link y w) a b p q u v e =
    let split = (once_after ends_once (Key words.Link)).once (x, z) (y, w) a b p q u v e in
    (ap (λ (o : End × End). Link o.0 o.1) split.0, split.1)
item_split (Sends n xs) (Sends m ys) a b p q u v e =
    let split = (once_after claim_once (Key words.Sends)).once (n, xs) (m, ys) a b p q u v e in
    (ap (λ (o : List ℕ × List Equal). Sends o.0 o.1) split.0, split.1)
item_split (Forbid n xs) (Forbid m ys) a b p q u v e =
    let split = (once_after claim_once (Key words.Forbid)).once (n, xs) (m, ys) a b p q u v e in
    (ap (λ (o : List ℕ × List Equal). Forbid o.0 o.1) split.0, split.1)
item_split x y a b _ _ _ _ e = absurd (omega (arith, ap rank_of e))

pub item_once : Once spell_of_item IsBuiltItem (λ item. never)
item_once = record { once = item_split }

item_begin : (item : Item) →
    (token : Token) × (tokens : T) × (spell_of_item item ≡ token ∷ tokens) × (starts_item token ≡ true)
item_begin (Kind name values) = (_, _, refl, refl)
item_begin (Field name kind) = (_, _, refl, refl)
item_begin (OfClass class) = (_, _, refl, refl)
item_begin (Host name) = (_, _, refl, refl)
item_begin (Instance name class first) = (_, _, refl, refl)
item_begin (Link one two) = (_, _, refl, refl)
item_begin (Sends host pattern) = (_, _, refl, refl)
item_begin (Forbid host pattern) = (_, _, refl, refl)

pub item_begins : Begins spell_of_item IsBuiltItem starts_item
item_begins = record { begins = λ item p. item_begin item }

pub tree_once : Once spell IsWellBuilt (λ tree. starts_item)
tree_once = record {
  once = λ x y a b p q u v e.
      let whole =
      once_after
      (once_then (once_word IsName) (once_after (once_many item_once item_begins) (Signed signs.Semicolon)))
      (Key words.Network) in
      let split = whole.once (x.name, x.items) (y.name, y.items) a b (p.named, p.items) (q.named, q.items) u v e in
      (ap (λ (o : List ℕ × List Item). record { name = o.0; items = o.1 }) split.0, split.1);
}
