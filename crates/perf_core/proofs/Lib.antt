mod CallerLaws
pub mod EndLaws
mod RowLaws
