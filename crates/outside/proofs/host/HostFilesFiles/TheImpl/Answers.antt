use Rattle.std.proofs.Common.{inl, refl}
use Rattle.outside.proofs.HostLemmas.{OnOk-always, OnErr-always, load_failed, load_missing, load_no_memory}
use Rattle.outside.proofs.HostLemmas.{store_failed, store_no_memory}
use Rattle.outside.proofs.host.HostFilesFiles.TheImpl.Goals as goal

pub load-tells : goal.load-tells
load-tells g c = record {
  same = refl;
  later = c.ensures.later;
  loaded = c.ensures.loaded;
  failed = load_failed _ _ c.result c.ensures.counted;
  missing =
      λ e. record { absent = λ files told. absurd (cc); untold = λ _. load_missing _ _ c.result c.ensures.counted e };
  too_long = λ e. record { longer = λ files told. absurd (cc); untold = λ _. c.ensures.too_long e };
  no_memory = load_no_memory _ _ c.result c.ensures.counted;
  partly = c.ensures.partly;
}

pub store-tells : goal.store-tells
store-tells g c = record {
  tells = refl;
  later = c.ensures.later;
  stored = OnOk-always c.result refl;
  failed = store_failed _ _ c.result c.ensures.counted;
  partly = OnErr-always c.result (inl refl);
  no_memory = store_no_memory _ _ c.result c.ensures.counted;
  kept = λ _. refl;
}
