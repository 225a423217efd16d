pub mod Drafts
pub mod Example
pub mod Lines
pub mod Once
pub mod Short
pub mod Texts
