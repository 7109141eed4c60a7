pub mod Magnitude
pub mod Promise
pub mod Read
pub mod Theorems
