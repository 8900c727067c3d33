pub mod Refusal
pub mod Number
pub mod Code
pub mod Room
pub mod Block
pub mod Working
