pub mod Meaning
pub mod Promise
pub mod Step
pub mod Theorems
