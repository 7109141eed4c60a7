pub mod Cases
pub mod Judge
pub mod Meaning
pub mod Promise
pub mod Read
pub mod Room
pub mod Theorems
