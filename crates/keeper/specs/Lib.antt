pub mod Fronts
pub mod Keepers
pub mod Theorems
