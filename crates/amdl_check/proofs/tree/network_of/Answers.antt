use Rattle.std.proofs.Common.{sym, subst, ◌∙◌}
use Rattle.std.proofs.lemmas.Option.{same_Some}
use Rattle.net_plan.specs.Sound.{IsSound}
use Rattle.amdl_check.proofs.CheckLemmas.{tree_built}
use Rattle.amdl_check.proofs.tree.network_of.Goals as goal

pub network_with-requires : goal.network_with-requires
network_with-requires c =
    let tree = c.args.tree.now in
    let law = c.well_formed_is_sound.ensures tree (tree_built tree c.requires.shaped) c.requires.formed in
    subst IsSound
    (same_Some law.0 c.in-Ok-Some.plan (sym law.1 ∙ sym c.in-Ok-Some.ensures ∙ c.in-Ok-Some.field-0-is)) law.2
