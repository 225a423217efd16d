pub mod Bytes
pub mod Calls
pub mod Naming
pub mod Packed
pub mod Stepping
