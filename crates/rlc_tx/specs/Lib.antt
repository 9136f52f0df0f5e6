pub mod Marks
pub mod Slots
pub mod Plans
pub mod Considered
pub mod Windows
pub mod Ends
pub mod Searches
pub mod Touches
