pub mod Allowed
pub mod AllowedInputs
pub mod ByBytes
