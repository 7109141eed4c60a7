pub mod Cases
pub mod Held
pub mod Lines
pub mod Literal
pub mod Meaning
pub mod Store
pub mod Theorems
