use Rattle.std.proofs.Common.{ℕ, ◌≡◌, ◌↔◌, ◌⊎◌, slice_set, subst}
use Rattle.box_moves.specs.Moves.{IsSized, HasMove}
use Rattle.box_moves.proofs.MoveLemmas.{noted_by}
use Rattle.box_moves.proofs.moves.Moves.add.Goals as goal

pub returns-clause-moves : goal.returns-clause-moves
returns-clause-moves c =
    let sets = c.self.inside.sets.items in
    subst (λ s. IsSized c.args.net.now s → (b' q w w' : ℕ) →
    HasMove c.args.net.now (slice_set sets c.args.b c.add.new.self) b' q w w'
    ↔ (HasMove c.args.net.now s b' q w w'
    ⊎ ((c.args.b ≡ b') × (c.args.packet ≡ q) × (c.args.mask ≡ w) × (c.args.other ≡ w')))) c.self.view_is
    (λ sized. noted_by c.args.net.now sets c.args.b c.args.packet c.args.mask c.args.other
    c.number_of-move_number.result c.index_mut.result.now c.add.new.self sized c.requires.kept c.requires.is_move
    c.number_of-move_number.ensures.number c.number_of-move_number.ensures.below c.index_mut.ensures.value
    c.add.ensures.added) c.requires.sized
