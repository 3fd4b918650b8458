-- The index of a log: what its buckets tell of the items, and what looking up an address finds there.
use Rattle.std.specs.Prelude.{ℕ, ◌≡◌, ◌≢◌, ◌<◌, ◌≤◌, ◌+◌, ◌-◌, ◌*◌, ◌/◌, ◌%◌, ◌==◌, nat_lt, if◌then◌else◌, List, length, slice_index_or, MatchOption, None}
use Rattle.std.specs.List.{sum_by}
use Rattle.stm_model.specs.Memories.{item_at, Once}
use Rattle.stm_logs.specs.declared.index.Bucket.{Bucket}
use Rattle.stm_logs.specs.declared.index.Lookup.{Lookup}
use Rattle.stm_logs.specs.declared.index.Homes.{Homes}
use Rattle.stm_logs.specs.declared.index.Homes.TheVariants.{Mixed, Modulo}

-- The bucket at which the lookup of address a begins. Mixed: a product modulo 2^32, scaled to the number of buckets.
abbrev pub home_of : Homes → ℕ → ℕ → ℕ
home_of Mixed buckets a = a % 4294967296 * 1339872799 % 4294967296 * buckets / 4294967296
home_of Modulo buckets a = a % buckets

-- Number x where the first bucket comes again after the last; x is below twice their number.
abbrev pub wrapped : ℕ → ℕ → ℕ
wrapped buckets x = if nat_lt x buckets then x else x - buckets

abbrev pub blank : Bucket
blank = record { mark = 0; item = 0 }

abbrev pub bucket_at : List Bucket → ℕ → Bucket
bucket_at bs x = slice_index_or bs (wrapped (length bs) x) blank

abbrev pub address_of : List (ℕ × ℕ) → ℕ → ℕ
address_of items i = (slice_index_or items i (0, 0)).0

-- a bucket is taken where its mark is the generation g: here all d buckets from x on
abbrev pub AllTaken : ℕ → List Bucket → ℕ → ℕ → Type 0
AllTaken g bs x d = (k : ℕ) → k < d → (bucket_at bs (x + k)).mark ≡ g

abbrev pub taken : ℕ → Bucket → ℕ
taken g b = if b.mark == g then 1 else 0

-- going on from x, over taken buckets of earlier items alone, one comes to a taken bucket that names item i
pub record Reaches (g : ℕ) (bs : List Bucket) (x i : ℕ) : Type 0 where
  pub distance : ℕ
  pub within : distance < length bs
  pub passed : AllTaken g bs x distance
  pub earlier : (k : ℕ) → k < distance → (bucket_at bs (x + k)).item < i
  pub mark : (bucket_at bs (x + distance)).mark ≡ g
  pub item : (bucket_at bs (x + distance)).item ≡ i

-- The buckets are an index of the items: one item an address; each is reached from its home, past earlier items alone;
-- a taken bucket names an item, and no other names the same;
-- no mark is later than the generation; no more buckets are taken than there are items.
pub record IsIndex (homes : Homes) (g : ℕ) (items : List (ℕ × ℕ)) (bs : List Bucket) : Type 0 where
  pub once : Once items
  pub reached : (i : ℕ) → i < length items → Reaches g bs (home_of homes (length bs) (address_of items i)) i
  pub names : (x : ℕ) → x < length bs → (bucket_at bs x).mark ≡ g → (bucket_at bs x).item < length items
  pub single : (x y : ℕ) → x < length bs → y < length bs → (bucket_at bs x).mark ≡ g → (bucket_at bs y).mark ≡ g → (bucket_at bs x).item ≡ (bucket_at bs y).item → x ≡ y
  pub latest : (x : ℕ) → x < length bs → (bucket_at bs x).mark ≤ g
  pub few : sum_by (taken g) bs ≤ length items

-- Looking up a goes from its home over taken buckets of other addresses, no more than there are items, to the bucket
-- that names the item of a, or to an open one, and then no item has a.
pub record IsLookup (homes : Homes) (g : ℕ) (items : List (ℕ × ℕ)) (bs : List Bucket) (a : ℕ) (found : Lookup) : Type 0 where
  pub within : found.at < length bs
  pub distance : found.distance ≤ length items
  pub at : found.at ≡ wrapped (length bs) (home_of homes (length bs) a + found.distance)
  pub passed : AllTaken g bs (home_of homes (length bs) a) found.distance
  pub others : (k : ℕ) → k < found.distance → address_of items (bucket_at bs (home_of homes (length bs) a + k)).item ≢ a
  pub answer : MatchOption found.item ((item_at a items ≡ None) × ((bucket_at bs found.at).mark ≢ g)) (λ i.
      (i < length items) × (address_of items i ≡ a) × ((bucket_at bs found.at).mark ≡ g) × ((bucket_at bs found.at).item ≡ i))
