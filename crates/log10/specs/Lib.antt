pub mod Meaning
pub mod Theorems
pub mod Promise
pub mod Cases
