pub mod Ticks
pub mod Readable
pub mod Texts
pub mod Numbered
pub mod Matched
pub mod Clear
pub mod ReadBack
