pub mod Lines
pub mod LastWrites
pub mod GeneratedLines
pub mod ReadsBack
