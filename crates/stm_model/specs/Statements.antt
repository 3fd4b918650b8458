-- What the law functions say.
use Rattle.std.specs.Prelude.{ℕ, ◌≡◌, ◌<◌, ◌^◌, All, List}
use Rattle.stm_model.specs.declared.config.TheConstants.{MOST_WORDS, MOST_RECORDS, MOST_RING, MOST_CALLERS, MOST_LOG, MOST_MARKS, SMALL_WORDS, SMALL_CALLERS, BLOCK, MAX_WORDS, MAX_RECORDS, MIN_RING, MAX_RING, MAX_CALLERS, MAX_LOG, CLOCK_LIMIT}
use Rattle.stm_model.specs.Memories.{AreWords, overlay, written, Once}
use Rattle.stm_model.specs.Logs.{Log, Keeps}

abbrev pub OverlayIsWritten : Type 0
OverlayIsWritten = (memory : List ℕ) (ws : List (ℕ × ℕ)) → Once ws → overlay memory ws ≡ written memory ws

-- writes of words keep each rule that holds of all memories of words: so a rule may rest on the size of a word
abbrev pub WordsAreKept : (List ℕ → Type 0) → Type 0
WordsAreKept good = (words : ℕ) (l : Log) → ((m : List ℕ) → AreWords m → good m) → All (λ (w : ℕ × ℕ). w.1 < 2 ^ 64) l.writes → Keeps good words l

-- the limits of a configuration, and those of a workload's header
pub record LimitsAre : Type 0 where
  pub words : MAX_WORDS ≡ 1048576
  pub records : MAX_RECORDS ≡ 4096
  pub least_ring : MIN_RING ≡ 2
  pub ring : MAX_RING ≡ 64
  pub callers : MAX_CALLERS ≡ 32
  pub log : MAX_LOG ≡ 4096
  pub most_words : MOST_WORDS ≡ 2 ^ 32
  pub most_records : MOST_RECORDS ≡ 2 ^ 24
  pub most_ring : MOST_RING ≡ 4096
  pub most_callers : MOST_CALLERS ≡ 254
  pub most_log : MOST_LOG ≡ 2 ^ 20
  pub most_marks : MOST_MARKS ≡ 8
  pub small_words : SMALL_WORDS ≡ 2 ^ 20
  pub small_callers : SMALL_CALLERS ≡ 62
  pub block : BLOCK ≡ 2 ^ 13
  pub clock : CLOCK_LIMIT ≡ 2 ^ 62
