pub mod Emptied
pub mod Notes
pub mod Fronts
pub mod Pushes
pub mod Lets
