pub mod Cases
pub mod Inner
pub mod Meaning
pub mod Promise
pub mod Theorems
pub mod Value
pub mod Views
pub mod Zeros
