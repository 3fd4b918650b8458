-- Where lookups go, by the list of the items alone.
use Rattle.std.specs.Prelude.{ℕ, ◌≡◌, ◌≢◌, ◌<◌, ◌+◌, List, length, Option, Some, MatchOption}
use Rattle.stm_logs.specs.declared.index.Homes.{Homes}
use Rattle.stm_logs.specs.declared.index.Homes.TheVariants.{Mixed, Modulo}
use Rattle.stm_logs.specs.Buckets.{wrapped, home_of, address_of}

-- the bucket so many after the address's home
abbrev pub after_home : Homes → ℕ → ℕ → ℕ → ℕ
after_home homes buckets a k = wrapped buckets (home_of homes buckets a + k)

-- which item each bucket has: item i the first from its address's home on that no earlier item has, and no other
pub record HasBuckets (homes : Homes) (buckets : ℕ) (items : List (ℕ × ℕ)) (owner : ℕ → Option ℕ) : Type 0 where
  pub placed : (i : ℕ) → i < length items
      → (d : ℕ) × (d < buckets) × (owner (after_home homes buckets (address_of items i) d) ≡ Some i)
      × ((k : ℕ) → k < d → (j : ℕ) × (j < i) × (owner (after_home homes buckets (address_of items i) k) ≡ Some j))
  pub named : (x i : ℕ) → x < buckets → owner x ≡ Some i → i < length items
  pub single : (x y i : ℕ) → x < buckets → y < buckets → owner x ≡ Some i → owner y ≡ Some i → x ≡ y

-- a lookup of a passes so many buckets: from its home on those of other addresses, and ends at that of its item,
-- or at one that no item has
pub record Passes (homes : Homes) (buckets : ℕ) (items : List (ℕ × ℕ)) (a passed : ℕ) : Type 0 where
  pub owner : ℕ → Option ℕ
  pub has : HasBuckets homes buckets items owner
  pub within : passed < buckets
  pub others : (k : ℕ) → k < passed → (j : ℕ) × (j < length items) × (owner (after_home homes buckets a k) ≡ Some j) × (address_of items j ≢ a)
  pub last : MatchOption (owner (after_home homes buckets a passed)) (Unit {0}) (λ j. address_of items j ≡ a)

-- with homes modulo the number of buckets a lookup of a looks at n buckets, the last among them
abbrev pub IsProbed : ℕ → List (ℕ × ℕ) → ℕ → ℕ → Type 0
IsProbed buckets items a n = (passed : ℕ) × (n ≡ passed + 1) × Passes Modulo buckets items a passed

-- where a lookup of a ends in the index by which a log finds its items; the items alone decide it
abbrev pub IsPlace : ℕ → List (ℕ × ℕ) → ℕ → ℕ → Type 0
IsPlace buckets items a place = (passed : ℕ) × (place ≡ after_home Mixed buckets a passed) × Passes Mixed buckets items a passed
