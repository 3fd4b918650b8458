-- Words read or written one after the other, and what that tells of the memory.
use Rattle.std.specs.Prelude.{ℕ, suc, ◌≡◌, ◌<◌, ◌≤◌, ◌+◌, ◌-◌, ◌^◌, Bool, List, [], ◌∷◌, length, get_or, take, drop, sum, count_by}
use Rattle.stm_model.specs.Logs.{Log, Reads, Writes, IsExplained}
use Rattle.data_effects.specs.Effects.{Shows}

-- each address is one of the memory's words
abbrev pub AllBelow : ℕ → List ℕ → Type 0
AllBelow words [] = Unit {0}
AllBelow words (a ∷ rest) = (a < words) × AllBelow words rest

-- one call after the other: each read is of a word of the memory, and found this
abbrev pub ReadEach : ℕ → Log → List (ℕ × ℕ) → Log → Type 0
ReadEach words l [] k = l ≡ k
ReadEach words l (r ∷ rs) k = (r.0 < words) × (j : Log) × Reads l r.0 r.1 j × ReadEach words j rs k

-- so too each write
abbrev pub WrittenEach : Log → List (ℕ × ℕ) → Log → Type 0
WrittenEach l [] k = l ≡ k
WrittenEach l (w ∷ ws) k = (j : Log) × Writes l w.0 w.1 j × WrittenEach j ws k

-- the same as records, since a law can tell from their types what was read and written
pub record AllRead (words : ℕ) (l : Log) (rs : List (ℕ × ℕ)) (k : Log) : Type 0 where
  pub each : ReadEach words l rs k

pub record AllWritten (l : Log) (ws : List (ℕ × ℕ)) (k : Log) : Type 0 where
  pub each : WrittenEach l ws k

-- these addresses with their values, which stand in a list from its i-th on
abbrev pub valued : ℕ → List ℕ → List ℕ → List (ℕ × ℕ)
valued i [] vs = []
valued i (a ∷ rest) vs = (a, get_or vs i 0) ∷ valued (suc i) rest vs

-- these values of a range's words, from its first on
abbrev pub placed : ℕ → List ℕ → List (ℕ × ℕ)
placed start [] = []
placed start (v ∷ vs) = (start, v) ∷ placed (suc start) vs

-- a range's words, their sum, and how many of them pass a test
abbrev pub words_in : ℕ → ℕ → List ℕ → List ℕ
words_in start end m = take (end - start) (drop start m)

abbrev pub sum_in : ℕ → ℕ → List ℕ → ℕ
sum_in start end m = sum (words_in start end m)

abbrev pub count_in : (ℕ → Bool) → ℕ → ℕ → List ℕ → ℕ
count_in passes start end m = count_by passes (words_in start end m)

-- a range's words were read one after the other, and this is told of what they were
pub record RangeRead (words : ℕ) (l : Log) (start end : ℕ) (tells : List ℕ → Type 0) (k : Log) : Type 0 where
  pub found : List ℕ
  pub all : start + length found ≡ end
  pub within : end ≤ words
  pub told : tells found
  pub read : AllRead words l (placed start found) k

-- what is called so answers this of each word
abbrev pub Decides : (ℕ → Bool → Type 0) → (ℕ → Bool) → Type 0
Decides post passes = (x : ℕ) (b : Bool) → x < 2 ^ 64 → post x b → b ≡ passes x

-- from l to k an attempt only read: a good memory explains k, and each one that does explains l, and P is so of it
-- under the writes before
pub record Found (good : List ℕ → Type 0) (words : ℕ) (l : Log) (P : List ℕ → Type 0) (k : Log) : Type 0 where
  pub only_read : k.writes ≡ l.writes
  pub seen : IsExplained good words k
  pub shows : Shows good words l k P
