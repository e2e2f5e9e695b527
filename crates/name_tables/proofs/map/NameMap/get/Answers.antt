use Rattle.std.proofs.Common.{◌∙◌}
use Rattle.name_tables.specs.Names.{told}
use Rattle.name_tables.proofs.map.NameMap.get.Goals as goal

pub returns : goal.returns
returns c = c.copied.ensures ∙ c.get.ensures.value ∙ (λ i. told (c.self.view_is i) (c.new.ensures i))
