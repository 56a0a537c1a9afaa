pub mod Totals
pub mod OneToLength
pub mod Steps
