pub mod Spooled
