pub mod Compared
pub mod Shown
