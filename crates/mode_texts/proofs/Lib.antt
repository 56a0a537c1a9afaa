mod Leasts
mod Written
mod Finishing
mod Feeding
mod LiveLines
