pub mod Lines
pub mod Status
pub mod Made
pub mod Outputs
pub mod Ends
pub mod Offline
pub mod Steps
