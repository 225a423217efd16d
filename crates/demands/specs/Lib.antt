pub mod Far
pub mod Tested
