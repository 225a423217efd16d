pub mod Example
pub mod Filling
pub mod Seen
pub mod Stepping
