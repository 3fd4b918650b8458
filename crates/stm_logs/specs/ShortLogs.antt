-- A short log: a word of bits in front of items that are looked through, or have an index once there are more.
use Rattle.std.specs.Prelude.{ℕ, ◌≡◌, ◌≢◌, ◌<◌, ◌≤◌, ◌%◌, List, [], length, None}
use Rattle.std.specs.Int.{bit_at}
use Rattle.stm_model.specs.Memories.{item_at, Once}
use Rattle.stm_logs.specs.declared.index.Bucket.{Bucket}
use Rattle.stm_logs.specs.declared.index.Homes.TheVariants.{Mixed}
use Rattle.stm_logs.specs.Buckets.{address_of, IsIndex}

-- the word has the bit of each item's address
abbrev pub HasSeen : ℕ → List (ℕ × ℕ) → Type 0
HasSeen seen items = (i : ℕ) → i < length items → bit_at seen (address_of items i % 64) ≡ 1

-- up to `short` items the index is empty; where that is 0 it is one of the items
pub record IsKept (short seen g : ℕ) (items : List (ℕ × ℕ)) (bs : List Bucket) : Type 0 where
  pub once : Once items
  pub front : HasSeen seen items
  pub most : short ≤ 8
  pub few : short ≢ 0 → length items ≤ short
  pub blank : short ≢ 0 → IsIndex Mixed g [] bs
  pub indexed : short ≡ 0 → IsIndex Mixed g items bs

-- the number of the address's item, or that of the items where none has it
pub record IsPosition (a : ℕ) (items : List (ℕ × ℕ)) (i : ℕ) : Type 0 where
  pub within : i ≤ length items
  pub there : i < length items → address_of items i ≡ a
  pub none : i ≡ length items → item_at a items ≡ None
