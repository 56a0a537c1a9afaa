pub mod Truth
pub mod One
pub mod Clear
pub mod Listed
pub mod Theorem
pub mod Drawn
pub mod Claimed
pub mod Filling
