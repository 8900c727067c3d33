-- What no public promise cites: the law that a source keeps, and its proof.
pub mod Rows
pub mod Turning
