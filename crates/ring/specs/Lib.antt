pub mod Span
pub mod Elements
