use Rattle.net_plan.proofs.Rising as rising
use Rattle.net_plan.proofs.laws.least_is_unique.Goals as goal

pub returns : goal.returns
returns c = λ plan one two boxless first second.
    rising.rising_is_unique one two first.rising second.rising
    (λ fact. (
      λ there. (second.member fact).1 ((first.member fact).0 there),
      λ there. (first.member fact).1 ((second.member fact).0 there),
    ))
