pub mod Positions
pub mod Steps
pub mod WellFormed
pub mod Examples
pub mod Unique
pub mod Looking
