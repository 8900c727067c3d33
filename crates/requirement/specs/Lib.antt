pub mod Requirement
pub mod Tags
pub mod Limits
pub mod Reading
pub mod Walking
pub mod Working
