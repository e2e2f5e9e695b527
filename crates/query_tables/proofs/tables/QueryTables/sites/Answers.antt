use Rattle.std.proofs.Common.{ℕ, ◌<◌, ◌≤◌, subst}
use Rattle.net_plan.specs.Plan.{boxes_of}
use Rattle.query_tables.specs.Sites.{Tables, IsSiteAt}
use Rattle.query_tables.proofs.StoredLemmas.{numbered}
use Rattle.query_tables.proofs.tables.QueryTables.sites.Goals as goal

pub returns-clause-all : goal.returns-clause-all
returns-clause-all c number site at entry_is =
    let table = c.index.result.now in
    let box : ℕ = c.args.b in
    let entry = c.args.entry in
    let from : ℕ = c.numbers_of.result.from in
    let to : ℕ = c.numbers_of.result.to in
    subst (λ (tables : Tables). box < boxes_of tables.plan → IsSiteAt tables box number site →
    (from ≤ number) × (number < to)) c.self.view_is
    (λ boxed there.
    numbered c.self.inside.net.now c.self.inside.boxes.items box table c.self.invariant boxed c.index.ensures
    c.deref.result.now c.deref.ensures.value entry from to number site c.numbers_of.ensures.all there entry_is)
    c.requires at
