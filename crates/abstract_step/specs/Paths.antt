-- The paths through a block, each with what stands behind the block, as results.
use Rattle.std.specs.Prelude.{ℕ, Bool, true, false, List, [], ◌∷◌, ◌++◌}
use Rattle.std.specs.List.{flat_map, range_with_len}
use Rattle.box_contents.specs.declared.entry.Entry.{Entry}
use Rattle.box_handlers.specs.Body.{Body, Stop, Writes, Emit, Halt, Fork, Each, Branches, NoBranch, OneBranch}
use Rattle.handler_runs.specs.Reading.{Scene, with_value, entry_by, packet_by, holds_by, any_holds}
use Rattle.box_masks.specs.declared.write.Write.{Write}
use Rattle.abstract_step.specs.declared.put.Put.{Put}
use Rattle.abstract_step.specs.Masks.{marked, mask_after}
use Rattle.abstract_step.specs.Step.{Result}

-- how far a path has come: what the contents answer now, and what was written and put out
pub record Partial : Type 0 where
  pub mask : ℕ
  pub writes : List Write
  pub puts : List Put

abbrev pub wrote : List Entry → Partial → Entry → Bool → Partial
wrote tuples now entry add = record {
  mask = mask_after tuples now.mask entry add;
  writes = now.writes ++ record { entry = entry; add = add } ∷ [];
  puts = now.puts;
}

abbrev pub put_out : Partial → ℕ → ℕ → Partial
put_out now port packet = record now { puts = now.puts ++ record { port = port; packet = packet } ∷ [] }

abbrev pub aborted : Result
aborted = record { aborted = true; writes = []; puts = [] }

abbrev pub ending_of : Partial → Result
ending_of now = record { aborted = false; writes = now.writes; puts = now.puts }

-- what stands behind a block
abbrev pub Behind : Type 0
Behind = Partial → List Result

-- nothing: the path ends
abbrev pub ended : Behind
ended now = ending_of now ∷ []

-- some results where a test holds, and where it doesn't
abbrev pub where_true : Bool → List Result → List Result
where_true true results = results
where_true false results = []

abbrev pub where_false : Bool → List Result → List Result
where_false true results = []
where_false false results = results

abbrev mutual
  pub paths : Body → List Entry → Scene → Behind → Behind
  paths Stop tuples scene behind now = behind now
  paths (Writes query add rest) tuples scene behind now =
      paths rest tuples scene behind (wrote tuples now (entry_by scene query) add)
  paths (Emit port changes rest) tuples scene behind now =
      paths rest tuples scene behind (put_out now port (packet_by scene changes))
  paths (Halt rest) tuples scene behind now = aborted ∷ []
  paths (Fork branches rest) tuples scene behind now =
      chosen branches tuples scene (paths rest tuples scene behind) now
      ++ where_false (any_holds scene (marked tuples now.mask) branches) (paths rest tuples scene behind now)
  paths (Each values body rest) tuples scene behind now =
      flat_map (λ value. paths body tuples (with_value scene value) (paths rest tuples scene behind) now)
      (range_with_len 0 values)

  -- those through the branches whose guards are true
  pub chosen : Branches → List Entry → Scene → Behind → Behind
  chosen NoBranch tuples scene behind now = []
  chosen (OneBranch guard body more) tuples scene behind now =
      where_true (holds_by scene (marked tuples now.mask) guard) (paths body tuples scene behind now)
      ++ chosen more tuples scene behind now
