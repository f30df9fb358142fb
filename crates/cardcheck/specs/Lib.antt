pub mod Texts
pub mod Judges
