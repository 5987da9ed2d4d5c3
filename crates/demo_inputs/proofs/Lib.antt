pub mod Dependencies
