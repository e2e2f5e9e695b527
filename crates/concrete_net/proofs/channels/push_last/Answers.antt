use Rattle.std.proofs.Common.{◌≡◌, ◌∷◌, ◌++◌, [], ℕ, List, ◌∙◌, ap, slice_set}
use Rattle.concrete_net.specs.PutOut.{IsPushed}
use Rattle.concrete_net.proofs.ChannelLemmas.{on_ok, set_twice}
use Rattle.concrete_net.proofs.channels.push_last.Goals as goal

pub returns-clause-ok : goal.returns-clause-ok
returns-clause-ok c =
    let old : List (List ℕ) = c.args.waiting.now in
    on_ok c.push-pushed.result (c.push-pushed.new.self ≡ c.replace-channel.result ++ c.args.packet ∷ [])
    (IsPushed c.args.end c.args.packet c.args.waiting.now c.replace.new.self)
    (λ more. (
      c.replace-channel.result,
      c.replace-channel.ensures.item,
      c.replace.ensures.rest
          ∙ ap (λ (l : List (List ℕ)). slice_set l c.args.end c.push-pushed.new.self) c.replace-channel.ensures.rest
          ∙ set_twice old c.args.end c.new.result c.push-pushed.new.self
          ∙ ap (slice_set old c.args.end) more,
    )) c.push-pushed.ensures.ok
