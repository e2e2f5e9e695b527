use Rattle.std.proofs.Common.{◌≡◌, ℕ, ◌<◌, None, MatchOption, length, take, slice_index_or}
use Rattle.net_plan.specs.Ends.{IsLinkedBy}
use Rattle.net_plan.proofs.tables.partners_of.Given as goal

-- each end has the partner that the links so far give it
abbrev pub invariant-loop-link : goal.invariant-loop-link
invariant-loop-link l = record {
  room : length l.partners ≡ l.ends;
  told : (end : ℕ) → end < l.ends → MatchOption (slice_index_or l.partners end None)
      ((other : ℕ) → IsLinkedBy (take l.link-index l.plan.links) end other → ⊥)
      (IsLinkedBy (take l.link-index l.plan.links) end);
}
