pub mod Replicas
pub mod Pairs
pub mod Invariant
