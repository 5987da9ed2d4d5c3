pub mod Booleans
pub mod Numbers
pub mod Lists
pub mod Fronts
pub mod Texts
pub mod Results
