pub mod Back
pub mod Faults
pub mod OneFault
pub mod OneText
pub mod Prefixes
