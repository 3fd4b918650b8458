pub mod TakenLaws
pub mod AskingLaws
