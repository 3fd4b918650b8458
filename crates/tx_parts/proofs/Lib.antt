pub mod FirstLaws
pub mod RoomLaws
