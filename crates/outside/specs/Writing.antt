-- Why a file wasn't stored, from why its bytes weren't written.
use Rattle.outside.specs.declared.traits.SinkFault.{SinkFault}
use Rattle.outside.specs.declared.traits.SinkFault.TheVariants as sink
use Rattle.outside.specs.declared.traits.StoreFault.{StoreFault}
use Rattle.outside.specs.declared.traits.StoreFault.TheVariants as store

-- the same cause
abbrev pub store_fault_of : SinkFault → StoreFault
store_fault_of sink.Failed = store.Failed
store_fault_of sink.NoMemory = store.NoMemory
