pub mod Draft
pub mod Item
pub mod Listing
pub mod Text
