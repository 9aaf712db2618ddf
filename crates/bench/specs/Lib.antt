pub mod Desk
pub mod Scaler
