pub mod Comments
pub mod Ends
pub mod Head
pub mod Translations
