pub mod OpenFolders
pub mod Setup
pub mod LockAnswers
pub mod Counts
pub mod Shown
