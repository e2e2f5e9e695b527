use Rattle.std.proofs.Common.{Some, cond, is_some, ◌∙◌, sym}
use Rattle.name_tables.specs.Names.{same_name, told}
use Rattle.name_tables.proofs.MapLemmas.{stays, adds, untold, on_ok, on_err}
use Rattle.name_tables.proofs.map.NameMap.put.Goals as goal
use Rattle.name_tables.proofs.map.NameMap.put.Goals.{in-Ok, in-Err}

pub returns-then-contains_key-clause-put : goal.returns-then-contains_key-clause-put
returns-then-contains_key-clause-put c =
    stays c.args.self.now c.args.first c.args.second
    ((λ i. is_some (told (sym c.self.view_is i) (sym c.new-key.ensures i))) ∙ sym c.contains_key.ensures
    ∙ c.if-contains_key.true)

pub returns-clause-put : goal.returns-clause-put
returns-clause-put c =
    elim c.match-insert.branch [
      | in-Ok w ↦ on_ok c.match-insert.result
          (adds c.args.self.now c.insert.new.self.entries c.args.first c.args.second
          (untold (told c.args.self.now c.args.first)
          ((λ i. is_some (told (sym c.self.view_is i) (sym c.new-key.ensures i))) ∙ sym c.contains_key.ensures
          ∙ c.if-contains_key.false))
          (λ name. w.in-Ok.ensures.updates.0 name
          ∙ (λ i. cond (same_name (c.new-key.ensures i) name) (Some c.args.second) (told (c.self.view_is i) name))))
      | in-Err w ↦ on_err _ c.match-insert.result (record {}) w.result-is
    ]
