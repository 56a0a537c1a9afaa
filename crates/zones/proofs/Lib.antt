pub mod Conflicts
pub mod Crossings
pub mod Greatest
pub mod Pairs
pub mod Existence
pub mod Placed
