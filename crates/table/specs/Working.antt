-- Definitions that serve private functions and proofs alone: were one of them wrong, a proof would fail and no promise
-- would say another thing.
pub mod Skipping
pub mod Looking
