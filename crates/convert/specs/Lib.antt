pub mod Cases
pub mod Fault
pub mod Meaning
pub mod Promise
pub mod Theorems
