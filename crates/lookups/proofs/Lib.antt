pub mod Passed
pub mod Order
pub mod Structured
pub mod Past
pub mod Unique
pub mod Recorded
