-- What a caller made, by the transactions that took effect.
use Rattle.std.specs.Prelude.{ℕ, zero, suc, ◌≡◌, ◌+◌, ◌-◌, ◌^◌, ◌⊎◌, true, false, min, List, [], ◌∷◌, ◌++◌}
use Rattle.stm_model.specs.Histories.{Entry}
use Rattle.stm_model.specs.Logs.{Log}
use Rattle.stm_model.specs.Memories.{is_empty}

-- what the transaction of an entry read and wrote
abbrev pub log_of : Entry → Log
log_of e = record { reads = e.reads; writes = e.writes }

-- one more took effect: it only read, and left no entry, or this log is that of the caller's next entry
abbrev pub MadeOne : Log → List Entry → List Entry → Type 0
MadeOne log us ws = ((is_empty log.writes ≡ true) × (ws ≡ us)) ⊎ ((is_empty log.writes ≡ false) × (e : Entry) × (log_of e ≡ log) × (ws ≡ us ++ e ∷ []))

-- so many took effect since the entries were us, one after another; of the log of the k-th, from 0, this is told
pub data MadeAll (tells : ℕ → Log → Type 0) (us : List Entry) : ℕ → List Entry → Type 0 where
  none : MadeAll tells us 0 us
  more : {k : ℕ} {vs ws : List Entry} (log : Log) → MadeAll tells us k vs → tells k log → MadeOne log vs ws → MadeAll tells us (suc k) ws

-- some answer tells this of the log
abbrev pub Answered : {A : Type 0} → (A → Log → Type 0) → ℕ → Log → Type 0
Answered {A = A} tells k log = (answer : A) × tells answer log

-- some answer of a transaction that was made for the round does
abbrev pub Rounds : {T A : Type 0} → (ℕ → T → Type 0) → (T → A → Log → Type 0) → ℕ → Log → Type 0
Rounds {T = T} {A = A} makes tells k log = (t : T) × makes k t × (answer : A) × tells t answer log

-- a count after one more; it stands still at its greatest
abbrev pub risen : ℕ → ℕ
risen count = min (count + 1) (2 ^ 64 - 1)

-- after so many more
abbrev pub raised : ℕ → ℕ → ℕ
raised count zero = count
raised count (suc k) = risen (raised count k)
