pub mod Calendars
pub mod Ends
pub mod Listed
pub mod Puts
pub mod Records
