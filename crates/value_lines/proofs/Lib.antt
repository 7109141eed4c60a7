-- The theorems that rest on a definition which an edit of must-fail/ changes, and what is proved over them.
pub mod Lines
pub mod Storing
pub mod Theorems
