pub mod Guards
pub mod Scanning
pub mod Position
