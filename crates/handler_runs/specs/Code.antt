-- The values of the code as those of the definitions.
use Rattle.std.specs.Prelude.{ℕ, Bool, true, false, List, map}
use Rattle.box_executions.specs.Execution.{Emission}
use Rattle.handler_runs.specs.declared.setting.Setting.{Setting}
use Rattle.handler_runs.specs.declared.progress.Emission.{Emission as Sent}
use Rattle.handler_runs.specs.declared.progress.Progress.{Progress}
use Rattle.handler_runs.specs.declared.progress.Course.{Course}
use Rattle.handler_runs.specs.declared.progress.Course.TheVariants as course
use Rattle.handler_runs.specs.Reading.{Scene}
use Rattle.handler_runs.specs.Run.{Standing, Answer, Goes, Aborts, Stuck}

abbrev pub scene_by : Setting → List ℕ → Scene
scene_by setting picked = record {
  sizes = setting.sizes.now;
  relations = setting.relations.now;
  fields = setting.fields.now;
  picked = picked;
}

abbrev pub emission_of : Sent → Emission
emission_of sent = record { port = sent.port; packet = sent.packet }

abbrev pub standing : Progress → Standing
standing progress = record {
  contents = progress.contents;
  outputs = map emission_of progress.outputs;
  left = progress.left.now;
}

abbrev pub goes_on : Course → Bool
goes_on course.Goes = true
goes_on course.Aborts = false
goes_on course.Stuck = false

-- what a piece came to, where the run stands so behind it
abbrev pub course_is : Course → Standing → Answer
course_is course.Goes now = Goes now
course_is course.Aborts now = Aborts now.left
course_is course.Stuck now = Stuck now.left
