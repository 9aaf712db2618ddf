pub mod Fifo
pub mod Line
pub mod Calls
pub mod Serial
pub mod Lists
