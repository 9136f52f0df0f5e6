pub mod Meaning
pub mod Queues
pub mod Waits
pub mod Kept
pub mod Fading
pub mod Soundness
