-- The rules by hand.
use Rattle.std.proofs.Common.{refl}
use Rattle.amdl_tree.specs.declared.guard.Lit.TheViews.{outs-Has, outs-Same, outs-True}
use Rattle.amdl_tree.specs.declared.statement.Stmt.TheViews.{outs-Output, outs-Choose, outs-Pick}
use Rattle.box_handlers.specs.Body.{BodiesAreRead, FormulasAreRead}
use Rattle.tree_plan.specs.Laws.{StatementsAreNumbered}
use Rattle.tree_rules.specs.ByHand.{
  NamesByHand,
  UnknownByHand,
  CountsByHand,
  HeadersByHand,
  RelationsByHand,
  HandlersByHand,
  LinksByHand,
  CellsByHand,
  OrderByHand,
  RulesByHand,
}
use Rattle.tree_rules.proofs.UseLemmas.{literal_uses, guard_uses_are, statement_uses, alternative_uses}

names_by_hand : NamesByHand
names_by_hand = record {
  kind_again = refl;
  value_twice = refl;
  value_as_field = refl;
  kind_as_value = refl;
  box_as_host = refl;
  field_twice = refl;
  pick_as_value = simp (statement_uses, outs-Pick) refl;
  pick_in_pick = simp (statement_uses, outs-Pick) refl;
  pick_beside_pick = simp (statement_uses, outs-Pick) refl;
}

headers_by_hand : HeadersByHand
headers_by_hand = record { two = refl; three = refl; late = refl; early = refl }

relations_by_hand : RelationsByHand
relations_by_hand = record {
  arity = simp (statement_uses, alternative_uses, guard_uses_are, literal_uses, outs-Choose, outs-Has) refl;
  argument = simp (statement_uses, alternative_uses, guard_uses_are, literal_uses, outs-Choose, outs-Has) refl;
  fits = simp (statement_uses, alternative_uses, guard_uses_are, literal_uses, outs-Choose, outs-Has) refl;
  compared = simp (statement_uses, alternative_uses, guard_uses_are, literal_uses, outs-Choose, outs-Same) refl;
  pattern = refl;
  two = refl;
  three = refl;
}

links_by_hand : LinksByHand
links_by_hand = record {
  itself = refl;
  other_port = refl;
  taken = refl;
  free = refl;
  again = refl;
  forbidden = refl;
  turned = refl;
}

cells_by_hand : CellsByHand
cells_by_hand = record { ends = refl; ends_more = refl; fieldless = refl }

module _ (numbered : StatementsAreNumbered) (bodies : BodiesAreRead) (formulas : FormulasAreRead) where
  unknown_by_hand : UnknownByHand
  unknown_by_hand = record {
    kind = refl;
    later_value =
        simp (numbered.statement, numbered.alternative, numbered.guard, numbered.literal, outs-Choose, outs-Has) refl;
    port_of_class = simp (numbered.statement, outs-Output) refl;
    box_alone = refl;
    ends_known = refl;
    field_as_value = refl;
  }

  counts_by_hand : CountsByHand
  counts_by_hand = record {
    values = refl;
    values_more = refl;
    hosts = refl;
    hosts_more = refl;
    statements =
        simp (
          numbered.statement,
          numbered.alternative,
          numbered.guard,
          numbered.literal,
          outs-Choose,
          outs-True,
          bodies.choose,
          bodies.branch,
          formulas.test,
          formulas.always,
        ) refl;
  }

  handlers_by_hand : HandlersByHand
  handlers_by_hand = record {
    twice = refl;
    ten_ifs =
        simp (
          numbered.statement,
          numbered.alternative,
          numbered.guard,
          numbered.literal,
          outs-Choose,
          outs-True,
          bodies.choose,
          bodies.branch,
        ) refl;
    eleven_ifs =
        simp (
          numbered.statement,
          numbered.alternative,
          numbered.guard,
          numbered.literal,
          outs-Choose,
          outs-True,
          bodies.choose,
          bodies.branch,
        ) refl;
    twelve =
        simp (
          numbered.statement,
          numbered.alternative,
          numbered.guard,
          numbered.literal,
          outs-Pick,
          outs-Choose,
          outs-Has,
          bodies.pick,
          bodies.choose,
          bodies.branch,
          formulas.test,
          formulas.has,
        ) refl;
    thirteen =
        simp (
          numbered.statement,
          numbered.alternative,
          numbered.guard,
          numbered.literal,
          outs-Pick,
          outs-Choose,
          outs-Has,
          bodies.pick,
          bodies.choose,
          bodies.branch,
          formulas.test,
          formulas.has,
        ) refl;
  }

  order_by_hand : OrderByHand
  order_by_hand = record {
    name_unknown = refl;
    unknown_count = refl;
    count_header = refl;
    header_late = refl;
    arity_kind = refl;
    unknown_itself = refl;
    itself_taken = refl;
    kind_same = refl;
    count_cells = refl;
    twice_paths =
        simp (
          statement_uses,
          alternative_uses,
          guard_uses_are,
          literal_uses,
          numbered.statement,
          numbered.alternative,
          numbered.guard,
          numbered.literal,
          outs-Pick,
          outs-Choose,
          outs-Has,
          outs-True,
          bodies.pick,
          bodies.choose,
          bodies.branch,
          formulas.test,
          formulas.has,
          formulas.always,
        ) refl;
    paths_queries =
        simp (
          statement_uses,
          alternative_uses,
          guard_uses_are,
          literal_uses,
          numbered.statement,
          numbered.alternative,
          numbered.guard,
          numbered.literal,
          outs-Pick,
          outs-Choose,
          outs-Has,
          outs-True,
          bodies.pick,
          bodies.choose,
          bodies.branch,
          formulas.test,
          formulas.has,
          formulas.always,
        ) refl;
  }

  pub rules_by_hand : RulesByHand
  rules_by_hand = record {
    names = names_by_hand;
    unknown = unknown_by_hand;
    counts = counts_by_hand;
    headers = headers_by_hand;
    relations = relations_by_hand;
    handlers = handlers_by_hand;
    links = links_by_hand;
    cells = cells_by_hand;
    order = order_by_hand;
  }
