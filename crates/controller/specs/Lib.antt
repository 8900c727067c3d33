pub mod State
pub mod Rules
pub mod Actions
pub mod Tests
pub mod Same
pub mod Seen
