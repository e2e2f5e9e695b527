-- The rules by what is made of a class.
use Rattle.std.proofs.Common.{◌≡◌, Bool, nat_lt, length, ap, ◌∙◌}
use Rattle.std.specs.List.{list_any}
use Rattle.amdl_tree.specs.declared.tree.Item.TheVariants.{Class as OfClass}
use Rattle.box_handlers.specs.Body.{body_of}
use Rattle.box_handlers.specs.Queries.{queries_of}
use Rattle.box_handlers.specs.Size.{paths_of}
use Rattle.tree_plan.specs.Handlers.{handlers_of}
use Rattle.tree_plan.specs.Tables.{known_by}
use Rattle.tree_rules.specs.Rules.{passes, too_many_paths, too_many_queries}
use Rattle.class_rules.specs.declared.read.ReadClass.{ReadClass}
use Rattle.class_rules.specs.Reads.{IsRead}

module _ (read : ReadClass) (is_read : IsRead read) where
  pub paths_are : (found : Bool) →
      found ≡ passes (list_any (λ acts. nat_lt 1024 (paths_of (body_of acts)))) read.bodies.now →
      found ≡ too_many_paths read.before.now (OfClass read.class.now)
  paths_are found is = is ∙ ap (passes (list_any (λ acts. nat_lt 1024 (paths_of (body_of acts))))) is_read.bodies

  pub queries_are : (found : Bool) →
      found ≡ passes (λ handlers. nat_lt 12 (length (queries_of handlers)))
      (handlers_of (known_by read.tables.now) read.class.now.handlers) →
      found ≡ too_many_queries read.before.now (OfClass read.class.now)
  queries_are found is =
      is ∙ ap (λ known. passes (λ handlers. nat_lt 12 (length (queries_of handlers)))
      (handlers_of known read.class.now.handlers)) is_read.known
