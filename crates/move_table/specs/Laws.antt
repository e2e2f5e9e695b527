-- The laws that the table stands on.
use Rattle.box_contents.specs.Laws.{HeldWith, HeldWithout}

pub record AreLaws : Type 0 where
  pub held_with : HeldWith
  pub held_without : HeldWithout
