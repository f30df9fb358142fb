pub mod Linking
pub mod Naming
pub mod Ordered
pub mod Sizes
