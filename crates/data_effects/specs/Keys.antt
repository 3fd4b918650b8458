-- The contents of a structure: its keys in ascending order, each once, so that equal sets are equal lists.
use Rattle.std.specs.Prelude.{ℕ, zero, suc, ◌<◌, Bool, false, ◌||◌, ◌==◌, leb, if◌then◌else◌, List, [], ◌∷◌, Option, Some, None}
use Rattle.data_effects.specs.declared.insert.Insert.{Insert}
use Rattle.data_effects.specs.declared.insert.Insert.TheVariants.{Added, Present, NoRoom}

abbrev pub AllAbove : ℕ → List ℕ → Type 0
AllAbove k [] = Unit {0}
AllAbove k (x ∷ xs) = (k < x) × AllAbove k xs

abbrev pub Ascends : List ℕ → Type 0
Ascends [] = Unit {0}
Ascends (x ∷ xs) = AllAbove x xs × Ascends xs

-- whether the key is there
abbrev pub has : ℕ → List ℕ → Bool
has k [] = false
has k (x ∷ xs) = (k == x) || has k xs

-- with the key in its order
abbrev pub with_key : ℕ → List ℕ → List ℕ
with_key k [] = k ∷ []
with_key k (x ∷ xs) = if leb k x then k ∷ x ∷ xs else x ∷ with_key k xs

abbrev pub without_key : ℕ → List ℕ → List ℕ
without_key k [] = []
without_key k (x ∷ xs) = if k == x then xs else x ∷ without_key k xs

abbrev pub least : List ℕ → Option ℕ
least [] = None
least (x ∷ xs) = Some x

-- the keys after an insert, by what it replies
abbrev pub keys_after : Insert → ℕ → List ℕ → List ℕ
keys_after Added key ks = with_key key ks
keys_after Present key ks = ks
keys_after NoRoom key ks = ks

-- a cell's tag is 0 where the cell is free, else its key + 1
abbrev pub with_tag : ℕ → List ℕ → List ℕ
with_tag zero ks = ks
with_tag (suc k) ks = with_key k ks

-- the number before it; of 0, 0
abbrev pub less_one : ℕ → ℕ
less_one zero = zero
less_one (suc k) = k

-- the keys in the first n cells, by the cells' tags
abbrev pub keys_of : (ℕ → ℕ) → ℕ → List ℕ
keys_of tag zero = []
keys_of tag (suc n) = with_tag (tag n) (keys_of tag n)

-- the lowest free one of the n cells from j on
abbrev pub free_from : (ℕ → ℕ) → ℕ → ℕ → Option ℕ
free_from tag j zero = None
free_from tag j (suc n) = if tag j == 0 then Some j else free_from tag (suc j) n

-- how many of the first n numbers pass the test
abbrev pub how_many : (ℕ → Bool) → ℕ → ℕ
how_many f zero = 0
how_many f (suc n) = if f n then suc (how_many f n) else how_many f n
