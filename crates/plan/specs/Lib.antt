pub mod Messages
pub mod Lines
pub mod Plans
