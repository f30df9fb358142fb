pub mod Bytes
pub mod Refusals
pub mod Images
pub mod Follows
