pub mod Saying
pub mod WritingFiles
