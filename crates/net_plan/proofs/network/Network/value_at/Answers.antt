use Rattle.std.proofs.Common.{◌<◌, List, ℕ, length, sym, ap, subst, ◌∙◌}
use Rattle.header_set.specs.Headers.{field_of}
use Rattle.box_handlers.specs.Tuple.{value_of}
use Rattle.net_plan.specs.Plan.{fields_at}
use Rattle.net_plan.specs.Reading.{IsRead}
use Rattle.net_plan.proofs.ReadLemmas.{field_read}
use Rattle.net_plan.proofs.network.Network.value_at.Goals as goal

pub returns-in-Field : goal.returns-in-Field
returns-in-Field c =
    let there : c.in-Field.k < length c.args.self.now.fields =
    subst (IsRead c.args.self.now c.args.picked.now) c.in-Field.is c.requires.read in
    c.field.ensures.value
    ∙ ap (λ (sizes : List ℕ). field_of sizes c.args.p c.in-Field.k) c.headers.ensures
    ∙ sym (field_read c.args.self.now c.args.p c.in-Field.k there)
    ∙ ap (value_of (fields_at c.args.self.now c.args.p) c.args.picked.now) (sym c.in-Field.is)
