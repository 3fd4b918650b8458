mod RepeatLaws
