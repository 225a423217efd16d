pub mod Shows
pub mod Going
