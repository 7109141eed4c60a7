pub mod Meaning
pub mod Refusals
pub mod Settled
pub mod Signs
pub mod Theorems
pub mod Unique
