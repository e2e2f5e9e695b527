use Rattle.std.proofs.Common.{List, ℕ, ap, ◌∙◌, slice_set}
use Rattle.concrete_net.proofs.ChannelLemmas.{given_back}
use Rattle.concrete_net.proofs.outputs.exchange.Goals as goal

pub returns-in-Err-clause-err : goal.returns-in-Err-clause-err
returns-in-Err-clause-err c =
    c.replace.ensures.rest
    ∙ ap (λ (l : List (List ℕ)). slice_set l c.args.from c.replace-whole.result)
    (c.in-Err.ensures.err ∙ c.replace-whole.ensures.rest)
    ∙ given_back c.args.waiting.now c.args.from c.replace-whole.result c.remove.new.self c.replace-whole.ensures.item
