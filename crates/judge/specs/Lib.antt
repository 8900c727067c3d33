pub mod Judging
pub mod Working
