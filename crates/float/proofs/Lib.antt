-- The steps of `rounding`, over numbers.
mod Scaling
