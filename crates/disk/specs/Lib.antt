pub mod Faults
pub mod Texts
pub mod Meaning
pub mod Rules
pub mod Laws
pub mod Sectors
