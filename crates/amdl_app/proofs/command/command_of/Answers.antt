use Rattle.std.proofs.Common.{◌≡◌, ◌∷◌, [], ℕ, List, MatchOption, ap, subst, arith}
use Rattle.std.specs.String.{string_bytes}
use Rattle.amdl_app.specs.Asked.{asked_for}
use Rattle.amdl_app.specs.Command.{Asks, AskNothing}
use Rattle.amdl_app.specs.Promises.{spelled}
use Rattle.amdl_app.proofs.Words.{two_items}
use Rattle.amdl_app.proofs.command.command_of.Goals as goal

pub returns-in-len2 : goal.returns-in-len2
returns-in-len2 c =
    let items : spelled c.args.words.now ≡ string_bytes c.verb-item.result ∷ string_bytes c.network-item.result ∷ [] =
    ap spelled
    (two_items c.args.words.now
    (omega arith) c.verb-item.result c.network-item.result c.verb-item.is c.network-item.is) in
    let verb : c.as_str.result.now ≡ string_bytes c.verb-item.result = c.as_str.ensures.value in
    let network : c.as_str-in-len2.result.now ≡ string_bytes c.network-item.result = c.as_str-in-len2.ensures.value in
    let same : c.as_str.result.now ∷ c.as_str-in-len2.result.now ∷ [] ≡ spelled c.args.words.now = cc in
    subst (λ (words : List (List ℕ)). MatchOption c.command_on.result (AskNothing words)
    (λ command. Asks words (asked_for command))) same c.command_on.ensures
