pub mod Headers
pub mod Places
pub mod Stores
pub mod Views
