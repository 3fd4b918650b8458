-- What the law function says.
use Rattle.std.specs.Prelude.{ℕ, ◌≡◌, ◌==◌, ◌||◌, ◌&&◌, not, List, false}
use Rattle.data_effects.specs.Keys.{has, with_key, without_key, Ascends}

abbrev pub AddsToSet : Type 0
AddsToSet = (a k : ℕ) (xs : List ℕ) → Ascends xs → has k xs ≡ false → Ascends (with_key k xs) × (has a (with_key k xs) ≡ ((a == k) || has a xs))

abbrev pub RemovesFromSet : Type 0
RemovesFromSet = (a k : ℕ) (xs : List ℕ) → Ascends xs → Ascends (without_key k xs) × (has a (without_key k xs) ≡ (not (a == k) && has a xs))

abbrev pub EqualSetsAreEqualLists : Type 0
EqualSetsAreEqualLists = (xs ys : List ℕ) → Ascends xs → Ascends ys → ((k : ℕ) → has k xs ≡ has k ys) → xs ≡ ys
