pub mod Laws
pub mod Names
pub mod One
pub mod Standing
pub mod Faults
pub mod OneSheet
pub mod MadeUp
