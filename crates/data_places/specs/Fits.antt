-- Where places lie in a memory.
use Rattle.std.specs.Prelude.{ℕ, ◌≤◌, ◌<◌, ◌+◌, ◌^◌}
use Rattle.data_places.specs.declared.place.Place.{Place}
use Rattle.data_places.specs.declared.places.Places.{Places}

-- the place is one of so many words
abbrev pub PlaceFits : {T : Type 0} → Place T → ℕ → Type 0
PlaceFits place words = place.at < words

-- so is each of the places
abbrev pub PlacesFit : {T : Type 0} → Places T → ℕ → Type 0
PlacesFit places words = (places.first + places.count ≤ words) × (places.first + places.count < 2 ^ 64)
