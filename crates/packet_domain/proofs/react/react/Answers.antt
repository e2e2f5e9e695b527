use Rattle.std.proofs.Common.{ℕ, sym, subst}
use Rattle.std.specs.List.{Contains}
use Rattle.fix_engine.specs.Progress.{found_in, Takes}
use Rattle.fix_engine.specs.Rules.{HasReacted}
use Rattle.fix_engine.proofs.ProgressLemmas.{Takes-done}
use Rattle.packet_domain.specs.Follows.{Follows}
use Rattle.packet_domain.proofs.ReactLemmas.{all_reacted, only_derived}
use Rattle.packet_domain.proofs.MoveLemmas.{tracks_on}
use Rattle.packet_domain.proofs.react.react.Goals as goal

pub returns-clause-all : goal.returns-clause-all
returns-clause-all g c =
    let plan = c.args.net.now in
    let old = c.args.work.now in
    let new = c.react_to.new.work in
    subst (λ (cell : ℕ). HasReacted (Follows plan) cell old.done (found_in new)) c.fact_at.ensures.cell
    (all_reacted plan old.done c.fact_at.result c.fact_at.ensures.in_range old new c.react_to.ensures.offered)

pub returns-clause-only : goal.returns-clause-only
returns-clause-only g c =
    only_derived c.args.net.now c.args.work.now c.react_to.new.work c.fact_at.result c.fact_at.ensures.in_range
    (subst (Contains c.args.work.now.done) (sym c.fact_at.ensures.cell)
    (Takes-done c.requires.tracks.0 c.args.cell c.args.work.now c.requires.tracks.1)) c.react_to.ensures.offered

pub returns-clause-tracks : goal.returns-clause-tracks
returns-clause-tracks g c =
    tracks_on c.args.net.now c.requires.tracks.0 c.args.work.now c.fact_at.result c.fact_at.ensures.in_range
    (subst (λ (cell : ℕ). Takes c.requires.tracks.0 cell c.args.work.now) (sym c.fact_at.ensures.cell) c.requires.tracks.1)
    c.args.table.now.moves c.requires.tracks.2 c.react_to.new.table.moves c.react_to.new.work c.react_to.ensures.adds
    c.react_to.ensures.offered
