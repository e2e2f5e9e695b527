use Rattle.box_contents.proofs.Entries.{entries_total}
use Rattle.box_contents.proofs.Searched.{searched_has, searched_with, searched_without}
use Rattle.box_contents.proofs.contents.place_of.Goals as goal

pub returns-clause-held : goal.returns-clause-held
returns-clause-held c =
    searched_has entries_total c.args.entry c.args.entries.now c.requires c.binary_search.result
    c.binary_search.ensures.bound c.binary_search.ensures.position

pub returns-clause-with : goal.returns-clause-with
returns-clause-with c =
    searched_with entries_total c.args.entry c.args.entries.now c.requires c.binary_search.result
    c.binary_search.ensures.bound c.binary_search.ensures.position

pub returns-clause-without : goal.returns-clause-without
returns-clause-without c =
    searched_without entries_total c.args.entry c.args.entries.now c.requires c.binary_search.result
    c.binary_search.ensures.bound c.binary_search.ensures.position
