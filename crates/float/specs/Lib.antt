pub mod Folds
pub mod Formats
pub mod Kit
pub mod Meaning
pub mod Parts
pub mod Scaled
pub mod Theorems
