pub mod Copies
pub mod Lent
pub mod Meaning
pub mod Promise
