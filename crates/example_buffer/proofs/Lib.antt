mod DayLaws
