pub mod Bits
pub mod Cut
pub mod Numbers
