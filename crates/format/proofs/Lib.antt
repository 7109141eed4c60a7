-- The theorems that rest on a definition which an edit of must-fail/ changes, and what is proved over them.
pub mod Theorems
pub mod Limits
pub mod Manners
pub mod Far
