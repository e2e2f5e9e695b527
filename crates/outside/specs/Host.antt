-- What the count of faults of the system's files and of standard output is after a call.
use Rattle.std.specs.Prelude.{ℕ, Result, Ok, Err}
use Rattle.outside.specs.Faults.{one_more}
use Rattle.outside.specs.declared.traits.LoadFault.{LoadFault}
use Rattle.outside.specs.declared.traits.LoadFault.TheVariants as load
use Rattle.outside.specs.declared.traits.StoreFault.{StoreFault}
use Rattle.outside.specs.declared.traits.StoreFault.TheVariants as store
use Rattle.outside.specs.declared.traits.SinkFault.{SinkFault}
use Rattle.outside.specs.declared.traits.SinkFault.TheVariants as sink

-- after a load: one more where the system failed, a missing file included
abbrev pub faults_after_load : ℕ → Result (Unit {0}) LoadFault → ℕ
faults_after_load faults (Ok _) = faults
faults_after_load faults (Err load.Failed) = one_more faults
faults_after_load faults (Err load.Missing) = one_more faults
faults_after_load faults (Err load.TooLong) = faults
faults_after_load faults (Err load.NoMemory) = faults

-- after a store: one more where the system failed
abbrev pub faults_after_store : ℕ → Result (Unit {0}) StoreFault → ℕ
faults_after_store faults (Ok _) = faults
faults_after_store faults (Err store.Failed) = one_more faults
faults_after_store faults (Err store.NoMemory) = faults

-- after bytes were written: one more where the system failed
abbrev pub faults_after_write : ℕ → Result (Unit {0}) SinkFault → ℕ
faults_after_write faults (Ok _) = faults
faults_after_write faults (Err sink.Failed) = one_more faults
faults_after_write faults (Err sink.NoMemory) = faults
