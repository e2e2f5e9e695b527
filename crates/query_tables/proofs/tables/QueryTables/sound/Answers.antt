use Rattle.std.proofs.Common.{ℕ, ◌<◌, subst}
use Rattle.net_plan.specs.Plan.{packets_of, boxes_of}
use Rattle.query_tables.specs.Sites.{Tables, IsSite, IsSiteAt, IsSiteOf}
use Rattle.query_tables.specs.Tables.{Reads}
use Rattle.query_tables.proofs.StoredLemmas.{all_found, all_right}
use Rattle.query_tables.proofs.tables.QueryTables.sound.Goals as goal

pub returns-clause-sites : goal.returns-clause-sites
returns-clause-sites c box packet entry =
    subst (λ (tables : Tables). box < boxes_of tables.plan → packet < packets_of tables.plan →
    Reads tables.plan box packet entry → (number : ℕ) × IsSiteOf tables box number entry packet) c.self.view_is
    (all_found c.self.inside.net.now c.self.inside.boxes.items c.self.invariant box packet entry)

pub returns-clause-are : goal.returns-clause-are
returns-clause-are c box number site =
    subst (λ (tables : Tables). box < boxes_of tables.plan → IsSiteAt tables box number site → IsSite tables.plan box site)
    c.self.view_is (all_right c.self.inside.net.now c.self.inside.boxes.items c.self.invariant box number site)
