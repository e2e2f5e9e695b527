-- Classes, items and whole trees are read right.
use Rattle.std.proofs.Common.{◌≡◌, ℕ, true, false, List, [], ◌∷◌, ◌++◌, refl, ap, arith}
use Rattle.std.specs.List.{flat_map, All}
use Rattle.std.proofs.lemmas.List.Elements.{All-weaker}
use Rattle.amdl_tree.specs.Word.{IsName}
use Rattle.amdl_tree.specs.WellBuilt.{OneOrMore, IsBuiltRelation, StmtFits, HandlerFits, ClassFits, IsBuiltStmt}
use Rattle.amdl_tree.specs.WellBuilt.{IsBuiltHandler, IsBuiltClass, IsBuiltItem, ItemFits, IsWellBuilt, IsShaped}
use Rattle.amdl_tree.specs.Spelling.{spell_of_relation, spell_of_handler, spell_of_class, spell_of_item, spell}
use Rattle.amdl_tree.specs.GoesOn.{Past, Begins, starts_relation, starts_handler, starts_item}
use Rattle.amdl_tree.specs.declared.token.Token.{Token}
use Rattle.amdl_tree.specs.declared.token.Token.TheVariants.{Key, Sign as Signed}
use Rattle.amdl_tree.specs.declared.token.Sign.TheVariants as signs
use Rattle.amdl_tree.specs.declared.reserved.Reserved.TheVariants as words
use Rattle.amdl_tree.specs.declared.class.Class.{Class}
use Rattle.amdl_tree.specs.declared.class.Handler.{Handler}
use Rattle.amdl_tree.specs.declared.class.Relation.{Relation}
use Rattle.amdl_tree.specs.declared.tree.Item.{Item}
use Rattle.amdl_tree.specs.declared.tree.Item.TheVariants.{Kind, Field, Class as OfClass, Host, Instance, Link, Sends}
use Rattle.amdl_tree.specs.declared.tree.Item.TheVariants.{Forbid}
use Rattle.amdl_tree.specs.declared.tree.Tree.{Tree}
use Rattle.amdl_tree.proofs.SpellingOnce.{rank_of}
use Rattle.amdl_tree.proofs.DepthLaws.{item-built}
use Rattle.amdl_tree.proofs.FitsLemmas.{handler-rises}
use Rattle.amdl_tree.proofs.BuiltLemmas.{common-each, handler-built}
use Rattle.amdl_tree.proofs.TreeOnce.{relation_begins, item_once, item_begins}
use Rattle.amdl_parser.specs.Reading.{begins, made_at}
use Rattle.amdl_parser.specs.Grammar.{handler_of, handler_at, handlers_at, relations_at, body_at, ClassParts, class_of}
use Rattle.amdl_parser.specs.Grammar.{class_at, item_at, items_at, tree_of, tree_at, block_at, statements_at}
use Rattle.amdl_parser.proofs.Holds.{Heads, Holds, Reader, Named, refused_holds}
use Rattle.amdl_parser.proofs.Readers.{never_goes, names, chain, shaped, recast, after, before, many, variant, if_holds}
use Rattle.amdl_parser.proofs.Readers.{not_begun}
use Rattle.amdl_parser.proofs.Parts.{own_sign, own_key, name_list, comma_semicolon, relation}
use Rattle.amdl_parser.proofs.ItemReaders.{kind_holds, field_holds, host_holds, box_holds, link_holds, sends_holds}
use Rattle.amdl_parser.proofs.ItemReaders.{forbid_holds}
use Rattle.amdl_parser.proofs.StatementReaders.{block}

abbrev T : Type 0
T = List Token

handler_open : (handler : Handler) → IsBuiltHandler handler → IsName handler.port × All IsBuiltStmt handler.body
handler_open handler p = (p.1.0, All-weaker (StmtFits p.0) IsBuiltStmt (λ x q. (p.0, q)) handler.body p.1.1)

handler : (n : ℕ) → Reader spell_of_handler IsBuiltHandler (HandlerFits n) never_goes (handler_at n)
unfolding handler_at block_at statements_at
handler n = recast (shaped
    (after (chain names (after (block n) (Signed signs.Colon) (own_sign signs.Colon)) (λ x y a p q u. refl))
    (Key words.On) (own_key words.On))
    handler_of (λ (handler : Handler). (handler.port, handler.body)) (λ x w. refl) (λ y. refl) spell_of_handler
    (λ y. refl))
    handler-built handler_open (λ x f. f) (λ x f. f)

handler_begins : Begins spell_of_handler IsBuiltHandler starts_handler
handler_begins = record { begins = λ handler p. (_, _, refl, refl) }

relations_stop : (relations : List Relation) (handlers : List Handler) (a : T) →
    Past starts_relation ((flat_map spell_of_handler handlers ++ Signed signs.CloseBrace ∷ []) ++ a)
relations_stop relations [] a = refl
relations_stop relations (handler ∷ handlers) a = refl

body : (n : ℕ) →
    Reader {X = List Relation × List Handler}
    (λ p. flat_map spell_of_relation p.0 ++ (flat_map spell_of_handler p.1 ++ Signed signs.CloseBrace ∷ []))
    (λ p. All IsBuiltRelation p.0 × All IsBuiltHandler p.1)
    (λ p. All IsBuiltRelation p.0 × All (HandlerFits n) p.1) never_goes (body_at n)
unfolding body_at relations_at handlers_at
body n = chain (many relation starts_relation relation_begins)
    (before (many (handler n) starts_handler handler_begins) (Signed signs.CloseBrace) (own_sign signs.CloseBrace)
    (λ x w. refl)) (λ x y a p q u. relations_stop x y a)

abbrev class_back : Class → ClassParts
class_back class = (class.name, (class.ports, (class.relations, class.handlers)))

abbrev PartsBuilt : Class → Type 0
PartsBuilt class =
    IsName class.name
    × (OneOrMore IsName class.ports × (All IsBuiltRelation class.relations × All IsBuiltHandler class.handlers))

class_to : (class : Class) → PartsBuilt class → IsBuiltClass class
class_to class p =
    let each = common-each HandlerFits handler-rises class.handlers p.1.1.1 in
    (each.0, record { named = p.0; ports = p.1.0; relations = p.1.1.0; handlers = each.1 })

class_from : (class : Class) → IsBuiltClass class → PartsBuilt class
class_from class p = (
  p.1.named,
  (
    p.1.ports,
    (p.1.relations, All-weaker (HandlerFits p.0) IsBuiltHandler (λ x q. (p.0, q)) class.handlers p.1.handlers),
  ),
)

class : (n : ℕ) → Reader spell_of_class IsBuiltClass (ClassFits n) never_goes (class_at n)
unfolding class_at
class n = recast (shaped
    (after (chain names
    (after
    (after
    (chain name_list (after (body n) (Signed signs.Semicolon) (own_sign signs.Semicolon))
    (λ x y a p q u. comma_semicolon)) (Key words.Port) (own_key words.Port)) (Signed signs.OpenBrace)
    (own_sign signs.OpenBrace)) (λ x y a p q u. refl)) (Key words.Middlebox) (own_key words.Middlebox))
    class_of class_back (λ x w. refl) (λ y. refl) spell_of_class (λ y. refl))
    class_to class_from
    (λ class p. record { named = p.0; ports = p.1.0; relations = p.1.1.0; handlers = p.1.1.1 })
    (λ class p. (p.named, (p.ports, (p.relations, p.handlers))))

class_only : (n : ℕ) (tokens : T) (y : Item) (b : T) → IsBuiltItem y →
    Heads (Key words.Middlebox ∷ tokens) (spell_of_item y ++ b) →
    (x : Class) × (y ≡ OfClass x) × IsBuiltClass x × (ItemFits n y → ClassFits n x)
class_only n tokens (OfClass class) b w h = (class, refl, w, (λ f. f))
class_only n tokens y b w h = absurd (omega (arith, ap rank_of h.1))

class_holds : (n : ℕ) (ts : T) → Named ts → begins (Key words.Middlebox) ts ≡ true →
    Holds spell_of_item IsBuiltItem (ItemFits n) never_goes ts (made_at OfClass (class_at n) ts)
class_holds n =
    variant (class n) spell_of_item IsBuiltItem (ItemFits n) OfClass (item-built n) (λ x. refl) (λ x f. f) (λ x w. w)
    (Key words.Middlebox) (class_only n)

no_item : (ts : T) → begins (Key words.Kind) ts ≡ false → begins (Key words.Field) ts ≡ false →
    begins (Key words.Middlebox) ts ≡ false → begins (Key words.Host) ts ≡ false → begins (Key words.Box) ts ≡ false →
    begins (Key words.Link) ts ≡ false → begins (Key words.Sends) ts ≡ false → begins (Key words.Forbid) ts ≡ false →
    (y : Item) (b : T) → Heads ts (spell_of_item y ++ b) → ⊥
no_item ts k f m h x l s o (Kind _ _) b e = not_begun (Key words.Kind) ts _ (own_key words.Kind) k e
no_item ts k f m h x l s o (Field _ _) b e = not_begun (Key words.Field) ts _ (own_key words.Field) f e
no_item ts k f m h x l s o (OfClass _) b e = not_begun (Key words.Middlebox) ts _ (own_key words.Middlebox) m e
no_item ts k f m h x l s o (Host _) b e = not_begun (Key words.Host) ts _ (own_key words.Host) h e
no_item ts k f m h x l s o (Instance _ _ _) b e = not_begun (Key words.Box) ts _ (own_key words.Box) x e
no_item ts k f m h x l s o (Link _ _) b e = not_begun (Key words.Link) ts _ (own_key words.Link) l e
no_item ts k f m h x l s o (Sends _ _) b e = not_begun (Key words.Sends) ts _ (own_key words.Sends) s e
no_item ts k f m h x l s o (Forbid _ _) b e = not_begun (Key words.Forbid) ts _ (own_key words.Forbid) o e

module _ (n : ℕ) where
  item_holds : (ts : T) → Named ts → Holds spell_of_item IsBuiltItem (ItemFits n) never_goes ts (item_at n ts)
  unfolding item_at
  item_holds ts named =
      if_holds spell_of_item IsBuiltItem (ItemFits n) never_goes ts (begins (Key words.Kind) ts) _ _
      (kind_holds n ts named) (λ k.
      if_holds spell_of_item IsBuiltItem (ItemFits n) never_goes ts (begins (Key words.Field) ts) _ _
      (field_holds n ts named) (λ f.
      if_holds spell_of_item IsBuiltItem (ItemFits n) never_goes ts (begins (Key words.Middlebox) ts) _ _
      (class_holds n ts named) (λ m.
      if_holds spell_of_item IsBuiltItem (ItemFits n) never_goes ts (begins (Key words.Host) ts) _ _
      (host_holds n ts named) (λ h.
      if_holds spell_of_item IsBuiltItem (ItemFits n) never_goes ts (begins (Key words.Box) ts) _ _
      (box_holds n ts named) (λ x.
      if_holds spell_of_item IsBuiltItem (ItemFits n) never_goes ts (begins (Key words.Link) ts) _ _
      (link_holds n ts named) (λ l.
      if_holds spell_of_item IsBuiltItem (ItemFits n) never_goes ts (begins (Key words.Sends) ts) _ _
      (sends_holds n ts named) (λ s.
      if_holds spell_of_item IsBuiltItem (ItemFits n) never_goes ts (begins (Key words.Forbid) ts) _ _
      (forbid_holds n ts named) (λ o.
      refused_holds ts (Host names.least) names.small (λ y b w u e. no_item ts k f m h x l s o y b e)))))))))

pub item : (n : ℕ) → Reader spell_of_item IsBuiltItem (ItemFits n) never_goes (item_at n)
item n = record
    { once = item_once; fits = item-built n; least = Host names.least; small = names.small; holds = item_holds n }

pub tree : Reader spell IsWellBuilt IsShaped (λ tree. starts_item) (tree_at 32)
unfolding tree_at items_at
tree = recast (shaped
    (after (chain names
    (after (many (item 32) starts_item item_begins) (Signed signs.Semicolon) (own_sign signs.Semicolon))
    (λ x y a p q u. refl)) (Key words.Network) (own_key words.Network))
    tree_of (λ (tree : Tree). (tree.name, tree.items)) (λ x w. refl) (λ y. refl) spell (λ y. refl))
    (λ tree p. record { named = p.0; items = p.1 }) (λ tree p. (p.named, p.items))
    (λ tree p. record { named = p.0; items = p.1 }) (λ tree p. (p.named, p.items))
