pub mod Few
pub mod Rule
pub mod Lists
pub mod Reply
pub mod Pass
