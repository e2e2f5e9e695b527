use Rattle.declared_names.proofs.DeclaredLemmas.{nothing_added}
use Rattle.declared_names.proofs.declared.Declared.add.Goals as goal

pub returns-in_default : goal.returns-in_default
returns-in_default c before declares =
    nothing_added c.args.item.now c.in_default.not-Kind c.in_default.not-Field before c.args.self.now declares
