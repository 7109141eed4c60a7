pub mod Meaning
pub mod Results
