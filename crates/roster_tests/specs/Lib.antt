-- The definitions that the trials' contracts cite.
pub mod Pairs
