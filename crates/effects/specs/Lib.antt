pub mod Effect
pub mod Events
pub mod Memory
pub mod Moves
pub mod Ports
