pub mod After
pub mod Found
pub mod Literal
pub mod Parts
