pub mod AllDays
pub mod DayGroups
