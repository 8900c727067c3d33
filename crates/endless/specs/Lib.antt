pub mod Recorded
pub mod Unrolled
pub mod ByTheRules
pub mod Bench
