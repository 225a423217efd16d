pub mod Arms
pub mod Counts
pub mod Edges
pub mod Entries
pub mod Everywhere
pub mod Finding
pub mod Once
pub mod Sets
