pub mod Counting
pub mod Mode
pub mod Pins
pub mod Psw
pub mod Rom
pub mod State
