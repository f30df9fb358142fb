pub mod Tree
pub mod Insert
pub mod Delete
pub mod Fresh
pub mod Laws
pub mod Examples
pub mod Stored
pub mod StoredExamples
