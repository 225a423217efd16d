pub mod Keeping
pub mod Within
