pub mod Runs
pub mod Judging
pub mod Performing
pub mod Keeping
pub mod Ending
pub mod Without
