pub mod Places
pub mod Structure
pub mod Recorded
