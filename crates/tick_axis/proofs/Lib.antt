pub mod Rounds
pub mod Multiples
pub mod Stepping
pub mod Marking
pub mod Places
pub mod Grouping
