pub mod Entries
pub mod Headers
pub mod Pages
pub mod Places
pub mod Tables
pub mod Texts
pub mod Words
