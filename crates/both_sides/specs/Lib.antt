pub mod Raised
pub mod SideLaws
pub mod LeastSides
pub mod Gaps
pub mod WriteStarts
