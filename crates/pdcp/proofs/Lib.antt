pub mod Listings
pub mod Windows
pub mod Orders
pub mod Rising
pub mod Takings
