pub mod SentLetters
pub mod Lanes
pub mod Taking
pub mod Shards
pub mod Making
pub mod Recorded
