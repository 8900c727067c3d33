pub mod Arrays
pub mod Mapped
pub mod Equal
pub mod Unique
