use Rattle.amdl_tree.proofs.BuiltLemmas.{guard-built, guard-open, lit-built, lit-open, alternative-built}
use Rattle.amdl_tree.proofs.BuiltLemmas.{alternative-open, stmt-built, stmt-open}
use Rattle.amdl_tree.proofs.laws.built_by_parts.Goals as goal

pub returns : goal.returns
returns c = record {
  guard = λ guard. (guard-open guard, guard-built guard);
  lit = λ lit. (lit-open lit, lit-built lit);
  alternative = λ alternative. (alternative-open alternative, alternative-built alternative);
  stmt = λ stmt. (stmt-open stmt, stmt-built stmt);
}
