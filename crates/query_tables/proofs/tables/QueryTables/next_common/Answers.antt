use Rattle.query_tables.proofs.StoredLemmas.{least_common}
use Rattle.query_tables.proofs.tables.QueryTables.next_common.Goals as goal

pub returns : goal.returns
returns c = least_common c.args.self.now c.args.b c.args.one c.args.other c.requires.one c.requires.other _ _
    c.members.ensures.all c.members.ensures.only c.members-2.ensures.all c.members-2.ensures.only c.args.from
    c.common_from.result c.common_from.ensures
