-- The fields of a plan.
use Rattle.std.proofs.Common.{◌≡◌, length}
use Rattle.std.proofs.lemmas.List.{length-map}
use Rattle.net_plan.specs.declared.plan.Plan.{Plan}
use Rattle.net_plan.specs.Plan.{sizes_of, size_of}

-- there are as many fields as sizes
pub length-sizes : (plan : Plan) → length (sizes_of plan) ≡ length plan.fields
length-sizes plan = length-map plan.fields (size_of plan)
