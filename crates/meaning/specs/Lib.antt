pub mod Phases
pub mod Meaning
pub mod Translation
pub mod Trace
pub mod Rows
pub mod Findings
