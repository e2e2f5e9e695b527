use Rattle.std.proofs.Common.{refl, arith}
use Rattle.fix_examples.proofs.laws.walk_by_hand.Goals as goal

pub returns : goal.returns
returns c = (
  (record { from = 0; to = 1 }, ((0, omega arith, refl), omega arith, omega arith), refl, refl),
  (
    record { start = 0; place = 2 },
    record { edge_is = ((1, omega arith, refl), omega arith, omega arith); leaves = refl; start = refl; place = refl },
    (
      record { start = 0; place = 3 },
      record {
        edge_is =
            ((2, omega arith, refl), omega arith, omega arith);
        leaves = refl;
        start = refl;
        place = refl;
      },
      refl,
    ),
  ),
)
