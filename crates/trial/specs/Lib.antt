pub mod Endings
pub mod Leaves
pub mod Runs
pub mod Judges
pub mod Stops
