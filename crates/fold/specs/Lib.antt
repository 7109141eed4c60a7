pub mod Body
pub mod Fold
pub mod Round
