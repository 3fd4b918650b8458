pub mod Standing
pub mod TellLaws
pub mod OneWriter
pub mod AskingLaws
pub mod FairLaws
