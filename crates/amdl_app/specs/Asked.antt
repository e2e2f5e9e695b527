-- What a command of the code asks for, and what a load of the code came to.
use Rattle.amdl_app.specs.declared.command.Command.{Command}
use Rattle.amdl_app.specs.declared.command.Command.TheVariants as code
use Rattle.amdl_app.specs.declared.load.Loaded.{Loaded}
use Rattle.amdl_app.specs.declared.load.Loaded.TheVariants.{Found, Stopped}
use Rattle.amdl_app.specs.declared.load.Stop.{Stop}
use Rattle.amdl_app.specs.declared.load.Stop.TheVariants.{TooLong, Missing, Failed}
use Rattle.amdl_app.specs.Command as command
use Rattle.amdl_app.specs.Loaded as outcome

abbrev pub asked_for : Command → command.Command
asked_for (code.Analyse network) = command.Analyse network.now
asked_for (code.Check network) = command.Check network.now
asked_for (code.Format network) = command.Format network.now
asked_for (code.Replay mode network schedule) = command.Replay mode network.now schedule.now

abbrev pub stopped_by : Stop → outcome.Loaded
stopped_by TooLong = outcome.Over
stopped_by Missing = outcome.Lacking
stopped_by Failed = outcome.Failed

abbrev pub came_to : Loaded → outcome.Loaded
came_to (Found text) = outcome.Found text.items
came_to (Stopped stop) = stopped_by stop
