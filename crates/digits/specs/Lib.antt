pub mod Cases
pub mod Meaning
pub mod Promise
pub mod Runs
pub mod Theorems
