pub mod Module
pub mod Discipline
