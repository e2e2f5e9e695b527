pub mod FrontLemmas
pub mod LoopFaults
pub mod NameLemmas
pub mod NumberLemmas
pub mod ResolveLemmas
pub mod ScheduleAnswers
pub mod StepReaders
pub mod WrittenLemmas
