pub mod Seeing
pub mod Timing
