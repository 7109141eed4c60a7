pub mod Digits
pub mod Middle
pub mod Order
pub mod Point
pub mod Prefix
pub mod Tens
pub mod Walk
