pub mod Putting
pub mod Codes
pub mod Steps
pub mod Fitting
pub mod Agreement
pub mod Answers
pub mod Unique
