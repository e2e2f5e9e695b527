-- Each flat form of items is read right.
use Rattle.std.proofs.Common.{◌≡◌, ℕ, Bool, true, List, [], ◌∷◌, ◌++◌, refl, sym, ap, append_assoc, arith}
use Rattle.std.specs.List.{All}
use Rattle.amdl_tree.specs.Word.{IsName}
use Rattle.amdl_tree.specs.WellBuilt.{OneOrMore, IsBuiltAtom, IsBuiltEqual, IsBuiltEnd, IsBuiltItem, ItemFits}
use Rattle.amdl_tree.specs.Spelling.{word, led, with_commas, spell_of_pattern, spell_of_item}
use Rattle.amdl_tree.specs.declared.token.Token.{Token}
use Rattle.amdl_tree.specs.declared.token.Token.TheVariants.{Word, Key, Sign as Signed}
use Rattle.amdl_tree.specs.declared.token.Sign.TheVariants as signs
use Rattle.amdl_tree.specs.declared.reserved.Reserved.{Reserved}
use Rattle.amdl_tree.specs.declared.reserved.Reserved.TheVariants as words
use Rattle.amdl_tree.specs.declared.guard.Atom.{Atom}
use Rattle.amdl_tree.specs.declared.tree.Equal.{Equal}
use Rattle.amdl_tree.specs.declared.tree.End.{End}
use Rattle.amdl_tree.specs.declared.tree.Item.{Item}
use Rattle.amdl_tree.specs.declared.tree.Item.TheVariants.{Kind, Field, Host, Instance, Link, Sends, Forbid}
use Rattle.amdl_tree.proofs.SpellingOnce.{rank_of}
use Rattle.amdl_tree.proofs.DepthLaws.{item-built}
use Rattle.amdl_parser.specs.Reading.{Answer, is_same, begins, word_at, then_at, after_at, before_at}
use Rattle.amdl_parser.specs.Grammar.{names_at, kind_of, kind_at, field_of, field_at, host_at, box_of, box_at, link_of}
use Rattle.amdl_parser.specs.Grammar.{link_at, claim_at, sends_of, sends_at, forbid_of, forbid_at}
use Rattle.amdl_parser.proofs.Holds.{Heads, Holds, Reader, Named, past_none}
use Rattle.amdl_parser.proofs.Readers.{never_goes, names, chain, after, before, variant}
use Rattle.amdl_parser.proofs.Parts.{own_sign, own_key, name_list, comma_close_brace, pattern, pattern_stops, end}
use Rattle.amdl_parser.proofs.Parts.{end_dashes, end_semicolon, first, first_stops}

abbrev T : Type 0
T = List Token

semicolon : is_same (Signed signs.Semicolon) (Signed signs.Semicolon) ≡ true
semicolon = own_sign signs.Semicolon

-- behind a colon
after_colon : {X : Type 0} {s : X → T} {W F : X → Type 0} {goes : X → Token → Bool} {r : T → Answer X} →
    Reader s W F goes r → Reader (led (Signed signs.Colon) s) W F goes (after_at (Signed signs.Colon) r)
after_colon part = after part (Signed signs.Colon) (own_sign signs.Colon)

kind_parts : Reader {X = List ℕ × List (List ℕ)}
    (λ p. Key words.Kind ∷ Word p.0 ∷ Signed signs.Equals ∷ Signed signs.OpenBrace
    ∷ ((with_commas word p.1 ++ Signed signs.CloseBrace ∷ []) ++ Signed signs.Semicolon ∷ []))
    (λ p. IsName p.0 × OneOrMore IsName p.1) (λ p. IsName p.0 × OneOrMore IsName p.1) never_goes
    (after_at (Key words.Kind)
    (then_at word_at
    (after_at (Signed signs.Equals)
    (after_at (Signed signs.OpenBrace)
    (before_at (before_at names_at (Signed signs.CloseBrace)) (Signed signs.Semicolon))))))
kind_parts =
    after
    (chain names
    (after
    (after
    (before (before name_list (Signed signs.CloseBrace) (own_sign signs.CloseBrace) (λ xs w. comma_close_brace))
    (Signed signs.Semicolon) semicolon (λ xs w. refl))
    (Signed signs.OpenBrace) (own_sign signs.OpenBrace)) (Signed signs.Equals) (own_sign signs.Equals))
    (λ x y a p q u. refl)) (Key words.Kind) (own_key words.Kind)

kind_only : (n : ℕ) (tokens : T) (y : Item) (b : T) → IsBuiltItem y →
    Heads (Key words.Kind ∷ tokens) (spell_of_item y ++ b) →
    (x : List ℕ × List (List ℕ)) × (y ≡ kind_of x) × (IsName x.0 × OneOrMore IsName x.1)
    × (ItemFits n y → IsName x.0 × OneOrMore IsName x.1)
kind_only n tokens (Kind name values) b w h = ((name, values), refl, (w.0, (w.1, w.2)), (λ f. (f.0, (f.1, f.2))))
kind_only n tokens y b w h = absurd (omega (arith, ap rank_of h.1))

pub kind_holds : (n : ℕ) (ts : T) → Named ts → begins (Key words.Kind) ts ≡ true →
    Holds spell_of_item IsBuiltItem (ItemFits n) never_goes ts (kind_at ts)
unfolding kind_at
kind_holds n = variant kind_parts spell_of_item IsBuiltItem (ItemFits n) kind_of (item-built n)
    (λ x. ap (λ l. Key words.Kind ∷ Word x.0 ∷ Signed signs.Equals ∷ Signed signs.OpenBrace ∷ l)
    (sym (append_assoc (with_commas word x.1) (Signed signs.CloseBrace ∷ []) (Signed signs.Semicolon ∷ []))))
    (λ x f. (f.0, f.1.0, f.1.1)) (λ x w. (w.0, w.1.0, w.1.1)) (Key words.Kind) (kind_only n)

field_only : (n : ℕ) (tokens : T) (y : Item) (b : T) → IsBuiltItem y →
    Heads (Key words.Field ∷ tokens) (spell_of_item y ++ b) →
    (x : List ℕ × List ℕ) × (y ≡ field_of x) × (IsName x.0 × IsName x.1) × (ItemFits n y → IsName x.0 × IsName x.1)
field_only n tokens (Field name kind) b w h = ((name, kind), refl, w, (λ f. f))
field_only n tokens y b w h = absurd (omega (arith, ap rank_of h.1))

pub field_holds : (n : ℕ) (ts : T) → Named ts → begins (Key words.Field) ts ≡ true →
    Holds spell_of_item IsBuiltItem (ItemFits n) never_goes ts (field_at ts)
unfolding field_at
field_holds n =
    variant
    (after
    (chain names (after_colon (before names (Signed signs.Semicolon) semicolon (λ x w. refl))) (λ x y a p q u. refl))
    (Key words.Field) (own_key words.Field))
    spell_of_item IsBuiltItem (ItemFits n) field_of (item-built n) (λ x. refl) (λ x f. f) (λ x w. w) (Key words.Field)
    (field_only n)

host_only : (n : ℕ) (tokens : T) (y : Item) (b : T) → IsBuiltItem y →
    Heads (Key words.Host ∷ tokens) (spell_of_item y ++ b) →
    (x : List ℕ) × (y ≡ Host x) × IsName x × (ItemFits n y → IsName x)
host_only n tokens (Host name) b w h = (name, refl, w, (λ f. f))
host_only n tokens y b w h = absurd (omega (arith, ap rank_of h.1))

pub host_holds : (n : ℕ) (ts : T) → Named ts → begins (Key words.Host) ts ≡ true →
    Holds spell_of_item IsBuiltItem (ItemFits n) never_goes ts (host_at ts)
unfolding host_at
host_holds n =
    variant
    (after (before names (Signed signs.Semicolon) semicolon (λ x w. refl)) (Key words.Host) (own_key words.Host))
    spell_of_item IsBuiltItem (ItemFits n) Host (item-built n) (λ x. refl) (λ x f. f) (λ x w. w) (Key words.Host)
    (host_only n)

box_only : (n : ℕ) (tokens : T) (y : Item) (b : T) → IsBuiltItem y →
    Heads (Key words.Box ∷ tokens) (spell_of_item y ++ b) →
    (x : List ℕ × (List ℕ × List Atom)) × (y ≡ box_of x) × (IsName x.0 × (IsName x.1.0 × All IsBuiltAtom x.1.1))
    × (ItemFits n y → IsName x.0 × (IsName x.1.0 × All IsBuiltAtom x.1.1))
box_only n tokens (Instance name class first) b w h =
    ((name, (class, first)), refl, (w.0, (w.1, w.2)), (λ f. (f.0, (f.1, f.2))))
box_only n tokens y b w h = absurd (omega (arith, ap rank_of h.1))

pub box_holds : (n : ℕ) (ts : T) → Named ts → begins (Key words.Box) ts ≡ true →
    Holds spell_of_item IsBuiltItem (ItemFits n) never_goes ts (box_at ts)
unfolding box_at
box_holds n =
    variant
    (after
    (chain names
    (after_colon
    (chain names (before first (Signed signs.Semicolon) semicolon (λ xs w. first_stops xs))
    (λ x y a p q u. past_none _))) (λ x y a p q u. refl)) (Key words.Box) (own_key words.Box))
    spell_of_item IsBuiltItem (ItemFits n) box_of (item-built n) (λ x. refl) (λ x f. (f.0, f.1.0, f.1.1))
    (λ x w. (w.0, w.1.0, w.1.1)) (Key words.Box) (box_only n)

link_only : (n : ℕ) (tokens : T) (y : Item) (b : T) → IsBuiltItem y →
    Heads (Key words.Link ∷ tokens) (spell_of_item y ++ b) →
    (x : End × End) × (y ≡ link_of x) × (IsBuiltEnd x.0 × IsBuiltEnd x.1)
    × (ItemFits n y → IsBuiltEnd x.0 × IsBuiltEnd x.1)
link_only n tokens (Link one two) b w h = ((one, two), refl, w, (λ f. f))
link_only n tokens y b w h = absurd (omega (arith, ap rank_of h.1))

pub link_holds : (n : ℕ) (ts : T) → Named ts → begins (Key words.Link) ts ≡ true →
    Holds spell_of_item IsBuiltItem (ItemFits n) never_goes ts (link_at ts)
unfolding link_at
link_holds n =
    variant
    (after
    (chain end
    (after (before end (Signed signs.Semicolon) semicolon (λ x w. end_semicolon x)) (Signed signs.Dashes)
    (own_sign signs.Dashes)) (λ x y a p q u. end_dashes x)) (Key words.Link) (own_key words.Link))
    spell_of_item IsBuiltItem (ItemFits n) link_of (item-built n) (λ x. refl) (λ x f. f) (λ x w. w) (Key words.Link)
    (link_only n)

-- a host with a pattern, behind a word
claim : (word : Reserved) →
    Reader {X = List ℕ × List Equal}
    (λ p. Key word ∷ Word p.0 ∷ Signed signs.Colon ∷ (spell_of_pattern p.1 ++ Signed signs.Semicolon ∷ []))
    (λ p. IsName p.0 × All IsBuiltEqual p.1) (λ p. IsName p.0 × All IsBuiltEqual p.1) never_goes (claim_at (Key word))
unfolding claim_at
claim word =
    after
    (chain names (after_colon (before pattern (Signed signs.Semicolon) semicolon pattern_stops)) (λ x y a p q u. refl))
    (Key word) (own_key word)

sends_only : (n : ℕ) (tokens : T) (y : Item) (b : T) → IsBuiltItem y →
    Heads (Key words.Sends ∷ tokens) (spell_of_item y ++ b) →
    (x : List ℕ × List Equal) × (y ≡ sends_of x) × (IsName x.0 × All IsBuiltEqual x.1)
    × (ItemFits n y → IsName x.0 × All IsBuiltEqual x.1)
sends_only n tokens (Sends host pattern) b w h = ((host, pattern), refl, w, (λ f. f))
sends_only n tokens y b w h = absurd (omega (arith, ap rank_of h.1))

pub sends_holds : (n : ℕ) (ts : T) → Named ts → begins (Key words.Sends) ts ≡ true →
    Holds spell_of_item IsBuiltItem (ItemFits n) never_goes ts (sends_at ts)
sends_holds n =
    variant (claim words.Sends) spell_of_item IsBuiltItem (ItemFits n) sends_of (item-built n) (λ x. refl) (λ x f. f)
    (λ x w. w) (Key words.Sends) (sends_only n)

forbid_only : (n : ℕ) (tokens : T) (y : Item) (b : T) → IsBuiltItem y →
    Heads (Key words.Forbid ∷ tokens) (spell_of_item y ++ b) →
    (x : List ℕ × List Equal) × (y ≡ forbid_of x) × (IsName x.0 × All IsBuiltEqual x.1)
    × (ItemFits n y → IsName x.0 × All IsBuiltEqual x.1)
forbid_only n tokens (Forbid host pattern) b w h = ((host, pattern), refl, w, (λ f. f))
forbid_only n tokens y b w h = absurd (omega (arith, ap rank_of h.1))

pub forbid_holds : (n : ℕ) (ts : T) → Named ts → begins (Key words.Forbid) ts ≡ true →
    Holds spell_of_item IsBuiltItem (ItemFits n) never_goes ts (forbid_at ts)
forbid_holds n =
    variant (claim words.Forbid) spell_of_item IsBuiltItem (ItemFits n) forbid_of (item-built n) (λ x. refl) (λ x f. f)
    (λ x w. w) (Key words.Forbid) (forbid_only n)
