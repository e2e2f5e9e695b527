-- Sizes that are counted up to the largest number of 64 bits.
use Rattle.std.specs.Prelude.{ℕ, ◌-◌, ◌^◌, min}
use Rattle.box_handlers.specs.Body.{Body, Branches}
use Rattle.box_handlers.specs.Size.{literals_of, literals_of_branches, statements_of, statements_of_branches, paths_of}
use Rattle.box_handlers.specs.Size.{paths_of_branches}
use Rattle.handler_sizes.specs.declared.size.Size.{Size}

-- a number, and the largest of 64 bits for each that is larger
abbrev pub capped : ℕ → ℕ
capped n = min n (2 ^ 64 - 1)

abbrev pub sized : ℕ → ℕ → ℕ → Size
sized statements literals paths = record {
  statements = capped statements;
  literals = capped literals;
  paths = capped paths;
}

-- the size of a block, and of the branches of a choice
abbrev pub size_of : Body → Size
size_of body = sized (statements_of body) (literals_of body) (paths_of body)

abbrev pub size_of_branches : Branches → Size
size_of_branches branches =
    sized (statements_of_branches branches) (literals_of_branches branches) (paths_of_branches branches)
