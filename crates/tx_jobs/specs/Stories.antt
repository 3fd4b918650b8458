-- What came of a memory.
use Rattle.std.specs.Prelude.{ℕ, zero, suc, ◌≡◌, ◌<◌, ◌≤◌, List, [], ◌∷◌, length, get_or}
use Rattle.stm_model.specs.declared.alg.Alg.{Alg}
use Rattle.stm_model.specs.declared.config.Config.{Config}
use Rattle.stm_model.specs.Histories.{Entry, IsLegal, made_by, memory_at}
use Rattle.stm_model.specs.HistoryLaws.{Within}
use Rattle.tx_jobs.specs.Known.{Known}
use Rattle.tx_jobs.specs.Moments.{BeginsHistory, zeros}

-- the clock, the one history, and what caller 0, caller 1 and so on installed, and counted as commits
pub record Past : Type 0 where
  pub clock : ℕ
  pub history : List Entry
  pub installs : List (List Alg)
  pub commits : List ℕ

-- what a caller of a memory installed before its job: the first one the algorithm under which the memory was opened
abbrev pub first_installs : Alg → ℕ → List Alg
first_installs alg zero = alg ∷ []
first_installs alg (suc n) = []

-- caller n answered this, and so it is told; it had made nothing before, and installed nothing but the memory's first
-- algorithm; after it, what it made is what the history has of it, what it had seen begins the history, and what it
-- installed and counted is what is told of it, and it found no clock beyond the last
pub record IsStory {V : Type 0} (alg : Alg) (tells : V → Known → Known → Type 0) (past : Past) (n : ℕ) (value : V) : Type 0 where
  pub before : Known
  pub after : Known
  pub told : tells value before after
  pub fresh : (before.made ≡ []) × (before.commits ≡ 0)
  pub begun : before.installs ≡ first_installs alg n
  pub made : after.made ≡ made_by n past.history
  pub seen : BeginsHistory after.seen after.front past.history
  pub installed : get_or past.installs n [] ≡ after.installs
  pub counted : get_or past.commits n 0 ≡ after.commits
  pub found : after.top ≤ past.clock

-- the words are good, and those at the end of a legal history, in which each caller has its story,
-- and nobody else has made anything
pub record Came {V : Type 0} (good : List ℕ → Type 0) (c : Config) (alg : Alg) (tells : ℕ → V → Known → Known → Type 0) (words : List ℕ) (answers : List V) (past : Past) : Type 0 where
  pub kept : good words
  pub count : length words ≡ c.words
  pub each : length answers ≡ c.callers
  pub legal : IsLegal good (zeros c.words) c.clock past.history
  pub within : Within past.clock past.history
  pub end : words ≡ memory_at past.clock past.history (zeros c.words)
  pub stories : (i : ℕ) (d : V) → i < c.callers → IsStory alg (tells i) past i (get_or answers i d)
  pub nobody_else : (n : ℕ) → c.callers ≤ n → made_by n past.history ≡ []
