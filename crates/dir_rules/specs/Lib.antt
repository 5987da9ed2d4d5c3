pub mod Marks
pub mod Standing
pub mod LockRules
pub mod Seen
pub mod Rules
pub mod Conforms
pub mod Anomalies
