pub mod Asking
pub mod Denials
pub mod Lines
