-- What a count that follows the answer says of a rise, where nothing is told of content.
use Rattle.std.proofs.Common.{◌≡◌, ℕ, Result, Ok, Err, OnOk, OnErr, ap, ◌∙◌, arith}
use Rattle.outside.specs.declared.traits.LoadFault.{LoadFault}
use Rattle.outside.specs.declared.traits.LoadFault.TheVariants as load
use Rattle.outside.specs.declared.traits.StoreFault.{StoreFault}
use Rattle.outside.specs.declared.traits.StoreFault.TheVariants as store
use Rattle.outside.specs.declared.traits.SinkFault.{SinkFault}
use Rattle.outside.specs.declared.traits.SinkFault.TheVariants as sink
use Rattle.outside.specs.Faults.{one_more, Rose}
use Rattle.outside.specs.Host.{faults_after_load, faults_after_store, faults_after_write}

-- what holds anyway holds at each variant
pub OnOk-always : {T E P : Type 0} (answer : Result T E) → P → OnOk answer P
OnOk-always (Ok x) p = p
OnOk-always (Err e) p = tt

pub OnErr-always : {T E P : Type 0} (answer : Result T E) → P → OnErr answer P
OnErr-always (Ok x) p = tt
OnErr-always (Err e) p = p

one_more-Rose : (old new : ℕ) → new ≡ one_more old → Rose old new
one_more-Rose old new e = omega (arith, e)

module _ (old new : ℕ) where
  module _ (answer : Result (Unit {0}) LoadFault) (counted : new ≡ faults_after_load old answer) where
    pub load_failed : answer ≡ Err load.Failed → Rose old new
    load_failed e = one_more-Rose old new (counted ∙ ap (faults_after_load old) e)

    pub load_missing : answer ≡ Err load.Missing → Rose old new
    load_missing e = one_more-Rose old new (counted ∙ ap (faults_after_load old) e)

    pub load_no_memory : answer ≡ Err load.NoMemory → new ≡ old
    load_no_memory e = counted ∙ ap (faults_after_load old) e

  module _ (answer : Result (Unit {0}) StoreFault) (counted : new ≡ faults_after_store old answer) where
    pub store_failed : answer ≡ Err store.Failed → Rose old new
    store_failed e = one_more-Rose old new (counted ∙ ap (faults_after_store old) e)

    pub store_no_memory : answer ≡ Err store.NoMemory → new ≡ old
    store_no_memory e = counted ∙ ap (faults_after_store old) e

  module _ (answer : Result (Unit {0}) SinkFault) (counted : new ≡ faults_after_write old answer) where
    pub write_failed : answer ≡ Err sink.Failed → Rose old new
    write_failed e = one_more-Rose old new (counted ∙ ap (faults_after_write old) e)

    pub write_no_memory : answer ≡ Err sink.NoMemory → new ≡ old
    write_no_memory e = counted ∙ ap (faults_after_write old) e
