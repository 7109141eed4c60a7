-- Laws on plain numbers that the proofs of the functions cite.
mod Guess
mod LongDivision
mod Normal
