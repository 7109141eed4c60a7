pub mod Cuts
pub mod Exps
pub mod Firsts
pub mod Moves
pub mod Spans
