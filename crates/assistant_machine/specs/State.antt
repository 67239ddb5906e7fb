-- How the state of an assistant stands for its calls.
pub mod Assistants
