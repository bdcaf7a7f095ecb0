pub mod CallLines
pub mod NamedCalls
pub mod RecordTraps
pub mod ScriptTraps
pub mod TrapLines
pub mod TrapPlaces
