pub mod Letters
pub mod Recorders
pub mod Prepared
pub mod Collected
pub mod Passes
pub mod Logs
pub mod Making
