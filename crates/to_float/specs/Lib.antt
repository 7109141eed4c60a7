pub mod Among
pub mod Cases
pub mod Encoding
pub mod Kit
pub mod Meaning
pub mod Near
pub mod Promise
pub mod Theorems
