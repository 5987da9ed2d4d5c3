pub mod JsonTexts
pub mod OptionalFields
pub mod Versions
