-- What the law functions say.
use Rattle.std.specs.Prelude.{ℕ, ◌≡◌, ◌+◌, ◌*◌, ◌%◌, ◌^◌, ◌<◌, ◌≤◌, ◌⊎◌, ◌==◌, if◌then◌else◌, List, [], ◌∷◌, length, replicate, slice_index, Some, None}
use Rattle.std.specs.Option.{is_some}
use Rattle.data_sums.specs.declared.sum_map.SumMap.{SumMap}
use Rattle.data_sums.specs.declared.sum_map.MapPut.TheVariants.{Added, Replaced, NoRoom}
use Rattle.data_sums.specs.Sums.{SumMapFits, Used, IsSumMap, left_at, right_at, sum_at, value, sum_under, pairs, value_of, with_pair, put_in, removed_in, HasWords}

-- the pairs with another value at a key that is there
abbrev pub with_value : ℕ × ℕ → List (ℕ × ℕ) → List (ℕ × ℕ)
with_value p [] = []
with_value p (q ∷ qs) = if q.0 == p.0 then p ∷ qs else q ∷ with_value p qs

-- a put gives a key that is there the value; one that isn't gets a pair of its own where there is room, and else
-- nothing happens
abbrev pub PutsPair : Type 0
PutsPair = (r : SumMap) (m : List ℕ) (key v : ℕ) → IsSumMap r m → SumMapFits r (length m) → ((i : ℕ) → i < r.cells → value r m i < 2 ^ 64) → key < 2 ^ 32 → v < 2 ^ 64 →
    IsSumMap r (put_in r key v m).memory
    × ((old : ℕ) → value_of key (pairs r m) ≡ Some old → ((put_in r key v m).reply ≡ Replaced) × (pairs r (put_in r key v m).memory ≡ with_value (key, v) (pairs r m)))
    × (value_of key (pairs r m) ≡ None → length (pairs r m) < r.cells → ((put_in r key v m).reply ≡ Added) × (pairs r (put_in r key v m).memory ≡ with_pair (key, v) (pairs r m)))
    × (value_of key (pairs r m) ≡ None → r.cells ≤ length (pairs r m) → ((put_in r key v m).reply ≡ NoRoom) × ((put_in r key v m).memory ≡ m))

-- each used cell's sum word is its value and the sums under its links, modulo 2^64: so the sum of its subtree
abbrev pub SumsSubtrees : Type 0
SumsSubtrees = (r : SumMap) (m : List ℕ) (i : ℕ) → IsSumMap r m → Used r m i →
    slice_index m (sum_at r i) ≡ (value r m i + sum_under r m (slice_index m (left_at r i)) + sum_under r m (slice_index m (right_at r i))) % 2 ^ 64

abbrev pub ZerosAreEmpty : Type 0
ZerosAreEmpty = (r : SumMap) (n : ℕ) → IsSumMap r (replicate n 0) × (pairs r (replicate n 0) ≡ [])

-- whether a map is well formed is told by the words of its region alone
abbrev pub DependsOnOwnWords : Type 0
DependsOnOwnWords = (r : SumMap) (m k : List ℕ) → IsSumMap r m → ((x : ℕ) → r.at ≤ x → x < r.at + 1 + 5 * r.cells → slice_index k x ≡ slice_index m x) → IsSumMap r k

-- a put changes no word outside the region
abbrev pub ChangesOwnWords : Type 0
ChangesOwnWords =
    (r : SumMap) (m : List ℕ) (key v x : ℕ) → IsSumMap r m → SumMapFits r (length m) → ((i : ℕ) → i < r.cells → value r m i < 2 ^ 64)
    → key < 2 ^ 32 → (x < r.at) ⊎ (r.at + 1 + 5 * r.cells ≤ x) → slice_index (put_in r key v m).memory x ≡ slice_index m x

-- a removal leaves the map well formed, and changes no word outside the region
abbrev pub RemovesWithin : Type 0
RemovesWithin = (r : SumMap) (m : List ℕ) (key : ℕ) → IsSumMap r m → SumMapFits r (length m) → HasWords r m → key < 2 ^ 32 →
    IsSumMap r (removed_in r key m).memory
    × ((x : ℕ) → (x < r.at) ⊎ (r.at + 1 + 5 * r.cells ≤ x) → slice_index (removed_in r key m).memory x ≡ slice_index m x)

-- a removal takes the key with its value, and no other; its answer is whether the key was there
abbrev pub RemovesKey : Type 0
RemovesKey = (r : SumMap) (m : List ℕ) (key : ℕ) → IsSumMap r m → SumMapFits r (length m) → HasWords r m → key < 2 ^ 32 →
    ((removed_in r key m).reply ≡ is_some (value_of key (pairs r m)))
    × ((n : ℕ) → value_of n (pairs r (removed_in r key m).memory) ≡ (if n == key then None else value_of n (pairs r m)))

-- the values stay words
abbrev pub WordsStay : Type 0
WordsStay = (r : SumMap) (m : List ℕ) (key v : ℕ) → IsSumMap r m → SumMapFits r (length m) → HasWords r m → key < 2 ^ 32 → v < 2 ^ 64 →
    HasWords r (put_in r key v m).memory × HasWords r (removed_in r key m).memory
