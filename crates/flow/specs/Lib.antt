pub mod Control
pub mod Jumps
pub mod Stack
