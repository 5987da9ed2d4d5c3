pub mod Images
pub mod Damage
pub mod Laws
