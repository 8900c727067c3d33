pub mod Digits
pub mod Bytes
pub mod Until
pub mod Walks
pub mod Words
pub mod Packing
pub mod Next
pub mod Counts
