-- Lemmas on the definitions of `specs/`, a file for each.
pub mod OpeningLemmas
pub mod WordLemmas
pub mod RunLemmas
pub mod ListLemmas
pub mod SeatLemmas
pub mod NoteLemmas
pub mod SeenLemmas
