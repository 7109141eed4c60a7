-- What the proofs of more than one function use.
mod Entry
mod Grown
mod Parts
mod Steps
