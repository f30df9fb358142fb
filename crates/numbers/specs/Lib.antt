pub mod Lengths
pub mod Names
pub mod Order
pub mod Sectors
