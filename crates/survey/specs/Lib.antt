pub mod Lines
pub mod Reads
pub mod Surveys
pub mod Asks
pub mod Fetches
