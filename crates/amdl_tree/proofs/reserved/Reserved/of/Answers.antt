use Rattle.std.proofs.Common.{◌≡◌}
use Rattle.amdl_tree.specs.Word.{spelling_of_reserved}
use Rattle.amdl_tree.proofs.ReservedWords.{none_of_them}
use Rattle.amdl_tree.proofs.reserved.Reserved.of.Goals as goal

pub returns : goal.returns
returns c =
    none_of_them c.first_spelled.result c.args.bytes.now c.of_length.result.now
    (λ word. c.args.bytes.now ≡ spelling_of_reserved word) c.of_length.ensures c.first_spelled.ensures
