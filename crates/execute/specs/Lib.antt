pub mod Execute
pub mod Setting
