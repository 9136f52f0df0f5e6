pub mod Counts
pub mod Grants
pub mod Views
pub mod Headers
pub mod Drafted
