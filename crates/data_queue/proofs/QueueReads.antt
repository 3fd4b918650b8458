-- What the reads of a call show of a queue.
use Rattle.std.proofs.Common.{ℕ, ◌≡◌, ◌<◌, ◌+◌, List, refl, arith}
use Rattle.stm_model.specs.Logs.{Log, Reads, SameMemories, IsExplained}
use Rattle.data_effects.specs.Effects.{Under, Shows}
use Rattle.data_effects.specs.EffectLaws.{shows-none, shows-read, shown}
use Rattle.data_queue.specs.declared.queue.Queue.{Queue}
use Rattle.data_queue.specs.Queues.{QueueFits, IsQueue, front, count, cell, cell_at}
use Rattle.data_queue.specs.QueueLaws.{front-inside, first-small}

abbrev pub HasCount : Queue → ℕ → List ℕ → Type 0
HasCount q n m = IsQueue q m × (n ≡ count q m)

abbrev pub HasFront : Queue → ℕ → ℕ → List ℕ → Type 0
HasFront q n f m = IsQueue q m × (n ≡ count q m) × (f ≡ front q m)

abbrev pub HasFirst : Queue → ℕ → ℕ → ℕ → List ℕ → Type 0
HasFirst q n f x m = IsQueue q m × (n ≡ count q m) × (f ≡ front q m) × (x ≡ cell q m f)

module _ (good : List ℕ → Type 0) (words : ℕ) (l : Log) (q : Queue) (fits : QueueFits q words) (well : Under good words l (IsQueue q)) where
  pub read-count : (k : Log) (n : ℕ) → Reads l (q.at + 1) n k → Shows good words l k (HasCount q n)
  read-count k n rd = shows-read good words l l k (IsQueue q) (HasCount q n) (q.at + 1) n (shows-none good words l (IsQueue q) well) refl (let w = fits.1 in omega arith) rd (λ m w e. (w, e))

  pub read-front : (k j : Log) (n f : ℕ) → Reads l (q.at + 1) n k → k.writes ≡ l.writes → Reads k q.at f j → Shows good words l j (HasFront q n f)
  read-front k j n f rd ws rd' = shows-read good words l k j (HasCount q n) (HasFront q n f) q.at f (read-count k n rd) ws (let w = fits.1 in omega arith) rd' (λ m p e. (p.0, p.1, e))

  -- the front is one of the cells
  pub is-inside : (k j : Log) (n f : ℕ) (good' : List ℕ → Type 0) (words' : ℕ) → Reads l (q.at + 1) n k → k.writes ≡ l.writes
      → Reads k q.at f j → SameMemories good good' → words' ≡ words → IsExplained good' words' j → f < q.cells
  is-inside k j n f good' words' rd ws rd' same w ex = shown good words l j good' words' (HasFront q n f) (f < q.cells) (read-front k j n f rd ws rd') same w ex (λ m p. front-inside q m f p.0 fits.0 p.2)

  pub read-first : (k j i : Log) (n f x : ℕ) → f < q.cells → Reads l (q.at + 1) n k → k.writes ≡ l.writes → Reads k q.at f j → j.writes ≡ l.writes → Reads j (cell_at q f) x i → Shows good words l i (HasFirst q n f x)
  read-first k j i n f x lt rd ws rd' ws' rd'' =
      shows-read good words l j i (HasFront q n f) (HasFirst q n f x) (cell_at q f) x (read-front k j n f rd ws rd') ws'
      (let w = fits.1 in omega arith) rd'' (λ m p e. (p.0, p.1, p.2, e))

  pub is-small : (k j i : Log) (n f x : ℕ) (good' : List ℕ → Type 0) (words' : ℕ) → f < q.cells → 0 < n → Reads l (q.at + 1) n k → k.writes ≡ l.writes → Reads k q.at f j → j.writes ≡ l.writes → Reads j (cell_at q f) x i
      → SameMemories good good' → words' ≡ words → IsExplained good' words' i → x < 4294967296
  is-small k j i n f x good' words' lt some rd ws rd' ws' rd'' same w ex =
      shown good words l i good' words' (HasFirst q n f x) (x < 4294967296) (read-first k j i n f x lt rd ws rd' ws' rd'') same w ex (λ m p. first-small q m n f x p.0 fits.0 p.1 p.2 p.3 some)
