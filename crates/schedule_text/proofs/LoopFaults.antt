-- What a loop that reads the parts of a list returns where one of its readings finds a fault.
use Rattle.std.proofs.Common.{◌≡◌, Bool, true, List, Result, Ok, Err, refl, sym, ap, ◌∙◌, subst}
use Rattle.amdl_tree.specs.declared.token.Lexed.{Lexed}
use Rattle.amdl_tree.specs.declared.token.Token.{Token}
use Rattle.amdl_parser.specs.declared.fault.Fault.TheVariants as faults
use Rattle.amdl_parser.proofs.Loops.{Listing, Gathering, listing_fault, listing_wrong, gather_faulted}
use Rattle.schedule_text.specs.declared.fault.Fault.{Fault}
use Rattle.schedule_text.specs.declared.fault.Fault.TheVariants.{Syntax, NoMemory}
use Rattle.schedule_text.specs.Readings.{Answer, Reads, tokens_of, heads, begins, fixed_at}

abbrev T : Type 0
T = List Token

-- what the exit of a `?` returns
pub error_of : {A : Type 0} (r : Result A Fault) (fault : Fault) → (found : Fault) × (r ≡ Err found) × (found ≡ fault) →
    r ≡ Err fault
error_of r fault p = p.1 ∙ ap Err p.2

module _ {A : Type 0} (token : Token) (part : T → Answer A) (whole : T → Answer (List A)) where
  pub listing_faulted : (before left mid rest : List Lexed) (found : List A) (fault : Fault)
      (r : Result (List A) Fault) → Listing whole token part before left found →
      begins token (tokens_of left) ≡ true → Reads (fixed_at token) left mid (Ok tt) →
      Reads part mid rest (Err fault) → r ≡ Err fault → Reads whole before rest r
  listing_faulted before left mid rest found (Syntax n) r h e f g is =
      subst (Reads whole before rest) (sym is)
      (listing_fault token part whole before left mid found (faults.Syntax n) h e f g)
  listing_faulted before left mid rest found NoMemory r h e f g is = subst (Reads whole before rest) (sym is) tt

  pub listing_wronged : (before left rest : List Lexed) (found : List A) (fault : Fault) (r : Result (List A) Fault) →
      Listing whole token part before left found → begins token (tokens_of left) ≡ true →
      Reads (fixed_at token) left rest (Err fault) → r ≡ Err fault → Reads whole before rest r
  listing_wronged before left rest found (Syntax n) r h e f is =
      subst (Reads whole before rest) (sym is)
      (listing_wrong token part whole before left found (faults.Syntax n) h e f)
  listing_wronged before left rest found NoMemory r h e f is = subst (Reads whole before rest) (sym is) tt

module _ {A : Type 0} (starts : Token → Bool) (part : T → Answer A) (whole : T → Answer (List A)) where
  pub gathering_faulted : (before left rest : List Lexed) (found : List A) (fault : Fault)
      (r : Result (List A) Fault) → Gathering whole starts part before left found → heads starts
      (tokens_of left) ≡ true →
      Reads part left rest (Err fault) → r ≡ Err fault → Reads whole before rest r
  gathering_faulted before left rest found (Syntax n) r h e f is =
      subst (Reads whole before rest) (sym is)
      (gather_faulted starts part whole before left rest found (faults.Syntax n) (Err (faults.Syntax n)) h e f refl)
  gathering_faulted before left rest found NoMemory r h e f is = subst (Reads whole before rest) (sym is) tt
