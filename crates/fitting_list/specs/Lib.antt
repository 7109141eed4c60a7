pub mod Cases
pub mod Filled
pub mod Meaning
pub mod Promise
pub mod Records
pub mod Theorems
