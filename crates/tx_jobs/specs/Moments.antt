-- Where a transaction stands in the one history.
use Rattle.std.specs.Prelude.{ℕ, suc, ◌≡◌, ◌≤◌, true, not, List, replicate, ◌++◌}
use Rattle.stm_model.specs.Histories.{Entry, Ascending, memory_at}
use Rattle.stm_model.specs.Logs.{Log}
use Rattle.stm_model.specs.Memories.{overlay, Explains, is_empty}
use Rattle.tx_jobs.specs.Known.{Known}
use Rattle.tx_jobs.specs.Repeats.{MadeOne}

-- the entries that were seen, up to the front, begin the history
abbrev pub BeginsHistory : List Entry → ℕ → List Entry → Type 0
BeginsHistory seen front history = (later : List Entry) × (history ≡ seen ++ later) × Ascending front later

abbrev pub zeros : ℕ → List ℕ
zeros words = replicate words 0

-- between these two moments of the history, at one of them, a transaction with this log took effect
pub record Stands (good : List ℕ → Type 0) (words : ℕ) (log : Log) (from to : ℕ) (history : List Entry) : Type 0 where
  pub at : ℕ
  pub later : from ≤ at
  pub sooner : at ≤ to
  pub kept : good (memory_at at history (zeros words))
  pub read : Explains (memory_at at history (zeros words)) log.reads
  pub wrote : not (is_empty log.writes) ≡ true → (suc at ≤ to) × (memory_at (suc at) history (zeros words) ≡ overlay (memory_at at history (zeros words)) log.writes)

-- from u to w one transaction took effect, of whose log this is told, after all that u had seen
pub record Took (good : List ℕ → Type 0) (words : ℕ) (tells : Log → Type 0) (u w : Known) : Type 0 where
  pub log : Log
  pub told : tells log
  pub made : MadeOne log u.made w.made
  pub stands : Stands good words log u.front w.front w.seen

-- the same in the history of the closed memory
pub record Happened (good : List ℕ → Type 0) (words : ℕ) (tells : Log → Type 0) (u w : Known) (history : List Entry) : Type 0 where
  pub log : Log
  pub told : tells log
  pub made : MadeOne log u.made w.made
  pub stands : Stands good words log u.front w.front history
