pub mod BigSync
pub mod Reference
