pub mod Buffers
pub mod Gathered
pub mod Words
