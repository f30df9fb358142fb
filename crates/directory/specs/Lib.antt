pub mod Lines
pub mod Places
pub mod Rows
pub mod Trees
