pub mod Cases
pub mod Kit
pub mod Meaning
pub mod Parts
pub mod Promise
pub mod Theorems
