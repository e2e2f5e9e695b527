use Rattle.std.proofs.Common.{rules, ◌+◌, false, length}
use Rattle.abstract_step.proofs.FoundLemmas.{gains_one}
use Rattle.abstract_step.proofs.found.add_ending.Goals as goal

pub returns : goal.returns
returns c =
    gains_one c.args.found.now _ (record {
      aborted = false;
      writes_from = c.len-writes_from.result;
      writes_to = c.len-writes_from.result + length c.args.writes.now;
      puts_from = c.len-puts_from.result;
      puts_to = c.len-puts_from.result + length c.args.puts.now;
    }) c.args.writes.now c.args.puts.now c.requires.within (search rules) (search rules)
    (search rules) (search rules) (search rules) (search rules) (search rules) (search rules)
