pub mod Ends
pub mod Steps
pub mod Theorems
