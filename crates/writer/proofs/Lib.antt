pub mod Back
pub mod Example
pub mod Families
pub mod Once
pub mod RoundTrips
