pub mod Totals
pub mod Letters
pub mod Steps
pub mod Told
