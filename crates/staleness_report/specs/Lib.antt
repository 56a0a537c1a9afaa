pub mod Escaped
pub mod Report
pub mod Counting
