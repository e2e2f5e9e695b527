use Rattle.std.proofs.Common.{sym}
use Rattle.amdl_format.proofs.ListLemmas.{appended_as, names_between}
use Rattle.amdl_format.proofs.guards.put_compared.Goals as goal

pub returns-clause-ok : goal.returns-clause-ok
returns-clause-ok c =
    appended_as c.put_all.result c.args.out.now.items c.put_all.new.out.items _ _
    (sym (names_between c.bytes.result.now c.args.sign.now c.bytes-2.result.now c.args.one c.args.two
    c.bytes.ensures.spelled c.bytes-2.ensures.spelled))
    c.put_all.ensures.ok
