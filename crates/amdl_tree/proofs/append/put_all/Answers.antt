use Rattle.std.proofs.Common.{◌∙◌, take, drop}
use Rattle.std.specs.List.{flat_map}
use Rattle.amdl_tree.proofs.AppendLemmas.{pieces_split}
use Rattle.amdl_tree.proofs.append.put_all.Goals as goal

pub returns-in-Err-clause-err : goal.returns-in-Err-clause-err
returns-in-Err-clause-err c = record {
  front = flat_map (λ piece. piece.now) (take c.loop-piece.piece-index c.args.pieces.now);
  rest = flat_map (λ piece. piece.now) (drop c.loop-piece.piece-index c.args.pieces.now);
  appended = c.in-Err.ensures.items ∙ c.loop-piece.invariant;
  begun = pieces_split (λ piece. piece.now) c.args.pieces.now c.loop-piece.piece-index;
}
