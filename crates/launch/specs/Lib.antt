pub mod Environment
pub mod LastValues
pub mod Programs
pub mod Launches
