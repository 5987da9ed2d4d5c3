pub mod Beginnings
pub use Rattle.tree_digest.specs.Listings
pub use Rattle.tree_digest.specs.Lines
