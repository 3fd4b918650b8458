-- Where a transaction stands in the history of a closed memory.
use Rattle.std.specs.Prelude.{ℕ, suc, ◌≡◌, ◌≤◌, ◌+◌, true, not, if◌then◌else◌, List, length}
use Rattle.stm_model.specs.declared.config.Config.{Config}
use Rattle.stm_model.specs.Histories.{Entry, memory_at}
use Rattle.stm_model.specs.Logs.{Log}
use Rattle.stm_model.specs.Memories.{overlay, Explains, is_empty}
use Rattle.stm_rule.specs.Callers.{BeginsHistory}
use Rattle.stm_answers.specs.CallerState.{CallerState, zeros}
use Rattle.tx_atomic.specs.Attempts.{TookEffect}
use Rattle.tx_atomic.specs.Extends.{Extends}

-- between u and w, at one moment of the history, after all that u had seen:
-- the memory was good and explains what the transaction read;
-- what it wrote, if anything, makes it that of the next moment, and is the caller's one entry
pub record Happened (good : List ℕ → Type 0) (c : Config) (tells : Log → Type 0) (u w : CallerState) (history : List Entry) : Type 0 where
  pub log : Log
  pub told : tells log
  pub at : ℕ
  pub later : u.front ≤ at
  pub sooner : at ≤ w.front
  pub kept : good (memory_at at history (zeros c.words))
  pub read : Explains (memory_at at history (zeros c.words)) log.reads
  pub wrote : not (is_empty log.writes) ≡ true → (suc at ≤ w.front) × (memory_at (suc at) history (zeros c.words) ≡ overlay (memory_at at history (zeros c.words)) log.writes)
  pub made : length w.made ≡ length u.made + (if is_empty log.writes then 0 else 1)

-- each transaction that took effect from u to w has its moment in every history that begins with what was seen since
abbrev pub HaveMoments : {A : Type 0} (good : List ℕ → Type 0) (tells : ℕ → A → Log → Type 0) → Type 0
HaveMoments {A = A} good tells =
    (c : Config) (n : ℕ) (came : A) (u w k : CallerState) (history : List Entry) → TookEffect good c n (tells c.words came) u.front u w
    → Extends w k → BeginsHistory k.seen k.front history → Happened good c (tells c.words came) u w history
