pub mod Meaning
pub mod Layout
pub mod Laid
pub mod Digits
pub mod Promise
pub mod Cases
pub mod Form
pub mod Theorems
