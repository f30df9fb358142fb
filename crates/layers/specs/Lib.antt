pub mod Layered
pub mod Fusing
pub mod Rows
pub mod Holding
