-- What the proofs of the functions stand on, one idea a file.
mod Compare
mod Entry
mod Leading
mod Mend
