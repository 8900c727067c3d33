pub mod Checksum
pub mod Obeying
pub mod Words
