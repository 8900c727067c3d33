pub mod Ends
pub mod Position
pub mod Unique
