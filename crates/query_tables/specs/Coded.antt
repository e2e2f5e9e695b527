-- How what is seen of the tables is stored.
use Rattle.std.specs.Prelude.{List, refl}
use Rattle.std.specs.Coded.{Coded, code_by, coded×, coded_list}
use Rattle.net_plan.specs.declared.plan.Plan.{Plan}
use Rattle.query_tables.specs.declared.sites.Site.{Site}
use Rattle.query_tables.specs.Sites.{Tables}

abbrev pub tables_code : Coded Plan → Coded Site → Coded Tables
tables_code plan_code site_code =
    code_by (Plan × List (List Site)) (coded× plan_code (coded_list (coded_list site_code)))
    (λ tables. (tables.plan, tables.sites)) (λ parts. record { plan = parts.0; sites = parts.1 }) (λ _. refl)
