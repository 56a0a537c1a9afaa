pub mod Lines
pub mod Reading
pub mod Parts
pub mod JournalSteps
pub mod TakingSteps
pub mod SendingSteps
pub mod CallSteps
