-- Lists of steps: that all of them keep the rule, and some that show what a clause is for.
pub mod CoreRuns
pub mod NoteRuns
pub mod CheckRun
pub mod FenceRun
pub mod QuitRun
pub mod NoteRun
