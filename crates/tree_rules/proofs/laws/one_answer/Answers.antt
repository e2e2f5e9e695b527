use Rattle.tree_rules.proofs.AnswerLemmas as lemmas
use Rattle.tree_rules.proofs.laws.one_answer.Goals as goal

pub returns : goal.returns
returns c = record {
  some_answer = lemmas.some_answer;
  not_both = lemmas.not_both;
  one_place = lemmas.one_place;
  one_rule = lemmas.one_rule;
}
