pub mod Steps
pub mod Judges
pub mod Stops
