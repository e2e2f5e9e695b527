use Rattle.std.proofs.Common.{◌∙◌, arith}
use Rattle.amdl_format.proofs.FrontLemmas.{front_taken}
use Rattle.amdl_format.proofs.formatting.put_whole.Goals as goal

pub returns-in-Err-clause-err : goal.returns-in-Err-clause-err
returns-in-Err-clause-err c =
    c.truncate.ensures.items
    ∙ front_taken c.args.out.now.items c.put_tree.new.out.items c.len-start.result
    (omega (arith, c.len-start.ensures)) c.put_tree.ensures.kept
