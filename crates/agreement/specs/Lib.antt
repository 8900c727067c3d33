pub mod Alike
pub mod FromBytes
