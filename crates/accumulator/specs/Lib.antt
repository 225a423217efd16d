pub mod Accumulator
pub mod Rings
pub mod Rotates
