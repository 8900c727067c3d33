pub mod Limits
pub mod Moves
pub mod Running
pub mod Trace
pub mod Working
