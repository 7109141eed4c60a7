pub mod List
pub mod Written
