use Rattle.std.proofs.Common.{◌+◌, ◌++◌, ◌∷◌, [], length, arith, subst, sym, ap}
use Rattle.std.proofs.lemmas.List.{length_push}
use Rattle.amdl_tree.specs.Lexical.{lexed, Reads}
use Rattle.amdl_lexer.proofs.Pieces.{step_gap, step_token}
use Rattle.amdl_lexer.proofs.lexing.read.Goals as goal

pub loop-at-preserved-in-Gap : goal.loop-at-preserved-in-Gap
loop-at-preserved-in-Gap c = record {
  read = step_gap c.args.bytes.now c.loop-at.at c.in-Gap.size c.loop-at.tokens c.loop-at.invariant.read
      c.in-Gap.ensures;
  few = c.loop-at.invariant.few;
}

pub returns-then-as_slice-eq-MOST_TOKENS : goal.returns-then-as_slice-eq-MOST_TOKENS
returns-then-as_slice-eq-MOST_TOKENS c =
    let end = c.loop-at.at + c.in-Good.size in
    let token = lexed c.in-Good.token c.loop-at.at end in
    record {
      at = end;
      tokens = c.loop-at.tokens ++ token ∷ [];
      read = step_token c.args.bytes.now c.loop-at.at c.in-Good.size c.loop-at.tokens c.in-Good.token
          c.loop-at.invariant.read c.in-Good.ensures;
      many = omega (arith, length_push c.loop-at.tokens token, ap length c.as_slice.ensures);
    }

pub loop-at-preserved : goal.loop-at-preserved
loop-at-preserved c =
    let end = c.loop-at.at + c.in-Good.size in
    let token = lexed c.in-Good.token c.loop-at.at end in
    record {
      read = subst (Reads c.args.bytes.now end) (sym c.in_ok-push-in-Good.ensures.ok)
          (step_token c.args.bytes.now c.loop-at.at c.in-Good.size c.loop-at.tokens c.in-Good.token
          c.loop-at.invariant.read c.in-Good.ensures);
      few = omega (
        arith,
        length_push c.loop-at.tokens token,
        ap length c.as_slice.ensures,
        ap length c.in_ok-push-in-Good.ensures.ok,
      );
    }
