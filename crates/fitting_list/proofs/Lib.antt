-- What is proved over the tie, which an edit of must-fail/ makes false.
pub mod Cases
pub mod Theorems
