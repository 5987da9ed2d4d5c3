pub mod Mapped
pub mod ChoiceFaults
pub mod ChosenPods
mod AppFiles
mod Loops
mod Behind
mod FolderPlans
mod PodFolders
mod Roots
pub mod Under
pub mod Zips
pub mod Results
pub mod Keys
pub mod Lacks
pub mod Again
pub mod Times
pub mod Once
pub mod Laid
pub mod PickedTrees
pub mod NoTrees
pub mod Rooted
pub mod Ready
pub mod Picked
pub mod Faithful
pub mod Plans
