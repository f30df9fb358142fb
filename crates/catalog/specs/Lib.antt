pub mod Faults
pub mod Texts
pub mod Catalogs
pub mod Lays
pub mod Questions
pub mod Written
pub mod Laws
pub mod Examples
