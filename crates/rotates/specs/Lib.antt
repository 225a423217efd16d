pub mod Example
pub mod Strings
