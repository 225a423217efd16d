pub mod AtStart
pub mod Demand3
pub mod Example
pub mod Inside
pub mod Naming
pub mod NoSet
pub mod OneStep
pub mod States
