pub mod Raw
pub mod Canonical
pub mod Views
