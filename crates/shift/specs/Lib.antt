pub mod Cases
pub mod Meaning
pub mod Promise
pub mod Refusals
pub mod Settled
