-- What the text of a schedule is read as.
use Rattle.std.specs.Prelude.{◌≤◌, ℕ, List, length, Result, Ok, Err}
use Rattle.amdl_tree.specs.Lexical.{StandsFor}
use Rattle.amdl_tree.specs.declared.token.Token.{Token}
use Rattle.amdl_lexer.specs.Answer.{StartsNothing, StartsOverlong, StopsAt, IsOverfull}
use Rattle.net_plan.specs.declared.plan.Plan.{Plan}
use Rattle.net_runs.specs.declared.world.Step.{Step}
use Rattle.schedule.specs.declared.refusal.ScheduleRefusal.TheVariants as causes
use Rattle.schedule.specs.Read.{ReadsAs, IsCauseOf}
use Rattle.schedule_file.specs.declared.refusal.FileRefusal.{FileRefusal}
use Rattle.schedule_file.specs.declared.refusal.FileRefusal.TheVariants.{TooLong, BadByte, WordTooLong, TooManyTokens}
use Rattle.schedule_file.specs.declared.refusal.FileRefusal.TheVariants.{Syntax, UnknownName, OutOfRange}

-- the tokens spell these steps of the network by their names, or have this fault
abbrev pub AreReadAs : Plan → List Token → Result (List Step) FileRefusal → Type 0
AreReadAs plan tokens (Ok steps) = ReadsAs plan tokens steps
AreReadAs plan tokens (Err (Syntax at)) = IsCauseOf plan tokens (causes.Syntax at)
AreReadAs plan tokens (Err (UnknownName step)) = IsCauseOf plan tokens (causes.UnknownName step)
AreReadAs plan tokens (Err (OutOfRange step)) = IsCauseOf plan tokens (causes.OutOfRange step)
AreReadAs plan tokens (Err refusal) = ⊥

-- the text stands for tokens, which are not too many and are read so
pub record HasTokensReadAs (plan : Plan) (text : List ℕ) (reading : Result (List Step) FileRefusal) : Type 0 where
  pub tokens : List Token
  pub stands : StandsFor text tokens
  pub few : length tokens ≤ 1000000
  pub read : AreReadAs plan tokens reading

-- the text spells these steps of the network, or has this fault; no text within the limit is too long
abbrev pub IsReadAs : Plan → List ℕ → Result (List Step) FileRefusal → Type 0
IsReadAs plan text (Ok steps) = HasTokensReadAs plan text (Ok steps)
IsReadAs plan text (Err TooLong) = ⊥
IsReadAs plan text (Err (BadByte at)) = StopsAt StartsNothing text at
IsReadAs plan text (Err (WordTooLong at)) = StopsAt StartsOverlong text at
IsReadAs plan text (Err TooManyTokens) = IsOverfull text
IsReadAs plan text (Err (Syntax at)) = HasTokensReadAs plan text (Err (Syntax at))
IsReadAs plan text (Err (UnknownName step)) = HasTokensReadAs plan text (Err (UnknownName step))
IsReadAs plan text (Err (OutOfRange step)) = HasTokensReadAs plan text (Err (OutOfRange step))
