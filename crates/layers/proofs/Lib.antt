pub mod Fuses
pub mod Holds
pub mod Rows
pub mod Downs
