mod DeedLaws
mod CountLaws
pub mod DayLaws
