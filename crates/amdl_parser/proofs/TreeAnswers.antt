-- The answer to a token list as a tree, and that it is the only one.
use Rattle.std.proofs.Common.{◌≡◌, List, length, Result, Ok, Err, inl, inr, refl, sym, subst}
use Rattle.amdl_tree.specs.declared.token.Lexed.{Lexed}
use Rattle.amdl_tree.specs.declared.token.Token.{Token}
use Rattle.amdl_tree.specs.declared.tree.Tree.{Tree}
use Rattle.amdl_parser.specs.declared.refusal.SyntaxRefusal.{SyntaxRefusal}
use Rattle.amdl_parser.specs.declared.refusal.SyntaxRefusal.TheVariants.{Syntax, Deep, NoMemory}
use Rattle.amdl_parser.specs.Reading.{tokens_of, answer_of, IsUnlessMemory}
use Rattle.amdl_parser.specs.Grammar.{tree_at}
use Rattle.amdl_parser.specs.Answer.{IsTreeAnswer, IsFullAnswer, IsOrNoMemory, OneAnswer}
use Rattle.amdl_parser.proofs.Holds.{Named}
use Rattle.amdl_parser.proofs.Loops.{count_of}
use Rattle.amdl_parser.proofs.AnswerLemmas.{answers_alike}
use Rattle.amdl_parser.proofs.TreeReaders.{tree}
use Rattle.amdl_parser.proofs.WholeLemmas.{answered, never_wants}

abbrev pub tree_answer : List Token → Result Tree SyntaxRefusal
tree_answer ts = answer_of (length ts) (tree_at 32 ts)

pub is_full : (ts : List Token) → Named ts → IsFullAnswer ts (tree_answer ts)
is_full ts named =
    let held = tree.holds ts named in
    (answered tree.once tree.fits ts (tree_at 32 ts) held, never_wants _ _ _ _ (length ts) ts (tree_at 32 ts) held)

pub one : OneAnswer
one ts a b p q = answers_alike tree.once tree.fits ts a b p.0 q.0 p.1 q.1

or_none : (answer result : Result Tree SyntaxRefusal) → IsUnlessMemory answer result → IsOrNoMemory result answer
or_none answer (Ok x) e = inl (sym e)
or_none answer (Err (Syntax k)) e = inl (sym e)
or_none answer (Err (Deep k)) e = inl (sym e)
or_none answer (Err NoMemory) e = inr refl

is_right : (ts : List Token) (answer result : Result Tree SyntaxRefusal) → IsTreeAnswer ts answer →
    IsOrNoMemory result answer → IsTreeAnswer ts result
is_right ts answer result full (inl e) = subst (IsTreeAnswer ts) (sym e) full
is_right ts answer result full (inr e) = subst (IsTreeAnswer ts) (sym e) tt

-- the code's result is the answer, unless memory was wanting
module _ (tokens : List Lexed) (result : Result Tree SyntaxRefusal) (named : Named (tokens_of tokens))
    (read : IsUnlessMemory (answer_of (length tokens) (tree_at 32 (tokens_of tokens))) result) where
  found : IsOrNoMemory result (tree_answer (tokens_of tokens))
  found = or_none (tree_answer (tokens_of tokens)) result
      (subst (λ n. IsUnlessMemory (answer_of n (tree_at 32 (tokens_of tokens))) result) (sym (count_of tokens)) read)

  pub is_answer : IsTreeAnswer (tokens_of tokens) result
  is_answer =
      is_right (tokens_of tokens) (tree_answer (tokens_of tokens)) result (is_full (tokens_of tokens) named).0 found

  -- and there is no other
  pub forced : (other : Result Tree SyntaxRefusal) → IsFullAnswer (tokens_of tokens) other → IsOrNoMemory result other
  forced other full =
      subst (IsOrNoMemory result)
      (one (tokens_of tokens) (tree_answer (tokens_of tokens)) other (is_full (tokens_of tokens) named) full) found
