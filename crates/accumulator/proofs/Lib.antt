pub mod Adjusting
pub mod Rings
pub mod Rotates
