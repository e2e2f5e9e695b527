use Rattle.std.proofs.Common.{[], refl}
use Rattle.outside.proofs.HostLemmas.{OnOk-always, OnErr-always, write_failed, write_no_memory}
use Rattle.outside.proofs.host.HostSinkSink.TheImpl.Goals as goal

pub put-tells : goal.put-tells
put-tells g c = record {
  tells = refl;
  later = c.ensures.later;
  appended = OnOk-always c.result refl;
  failed = write_failed _ _ c.result c.ensures.counted;
  partly = OnErr-always c.result ([], (c.args.piece.now, refl), refl);
  no_memory = write_no_memory _ _ c.result c.ensures.counted;
  kept = λ _. refl;
}
