use Rattle.std.proofs.Common.{ℕ, subst}
use Rattle.std.specs.List.{Contains}
use Rattle.amdl_tree.specs.Derivation.{IsDerivable}
use Rattle.fix_engine.specs.Progress.{found_in}
use Rattle.fix_engine.specs.Rules.{GivenOrFollows, HasReacted}
use Rattle.packet_domain.specs.Follows.{Follows}
use Rattle.move_table.specs.Moves.{Memory}
use Rattle.packet_domain.proofs.domain.PacketDomainAbstractDomain.react.Goals as goal

pub returns-clause-all : goal.returns-clause-all
returns-clause-all g c =
    subst (λ (memory : Memory). HasReacted (Follows memory.plan) c.args.cell c.args.work.now.done (found_in c.react.new.work))
    c.self.view_is c.react.ensures.all

pub returns-clause-only : goal.returns-clause-only
returns-clause-only g c =
    subst (λ (memory : Memory). (found : ℕ) → Contains (found_in c.react.new.work) found →
    IsDerivable (GivenOrFollows (Follows memory.plan) (found_in c.args.work.now)) found) c.self.view_is c.react.ensures.only
