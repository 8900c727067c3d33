pub mod Judging
pub mod FromBytes
