pub mod PodMachine
pub mod Executions
pub mod Ownership
pub mod Readings
pub mod Watch
