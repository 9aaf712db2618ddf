pub mod Uart
pub mod Looping
