use Rattle.std.proofs.Common.{rules}
use Rattle.amdl_tree.specs.Word.{IsName}
use Rattle.amdl_tree.proofs.NamePadding.{copied}
use Rattle.amdl_tree.proofs.name.Name.new.Goals as goal

pub invariant_of-result : goal.invariant_of-result
invariant_of-result c =
    let named : IsName c.args.bytes.now = search rules in
    rw c.copy_from_slice.ensures.after (copied c.args.bytes.now named)
