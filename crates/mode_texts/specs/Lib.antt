pub mod Totals
pub mod Measures
pub mod TwoTexts
pub mod SidesTexts
pub mod LiveTexts
pub mod Counting
pub mod LiveSteps
