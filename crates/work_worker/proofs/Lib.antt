mod Calls
mod GoingLaws
mod RoomLaws
mod RowLaws
mod StandLaws
mod TellLaws
mod TurnLaws
mod LeaveLaws
mod ReplyLaws
mod StopLaws
pub mod InstallLaws
mod RiseLaws
mod CoveredLaws
mod CountLaws
pub mod RiseCoverLaws
