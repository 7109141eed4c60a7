pub mod Meaning
pub mod Stepped
pub mod Theorems
pub mod Units
