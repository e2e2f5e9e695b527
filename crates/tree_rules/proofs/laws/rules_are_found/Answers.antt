use Rattle.tree_rules.proofs.AnswerLemmas as lemmas
use Rattle.tree_rules.proofs.laws.rules_are_found.Goals as goal

pub returns : goal.returns
returns c = record {
  found = lemmas.rule_found;
  none = lemmas.none_found;
  begun = lemmas.nothing_kept;
  more = lemmas.one_more;
  formed = lemmas.formed_by;
}
