-- The ranges of a configuration, as numerals: a constant that says another range is refused.
use Rattle.std.specs.Prelude.{ℕ, ◌≤◌, ◌^◌, ◌%◌, ◌≡◌, true}
use Rattle.stm_model.specs.declared.config.Config.{Config}

-- the memory is small, so that a fence's number has room for any range; else a range is a number of blocks
abbrev pub IsSmall : Config → Type 0
IsSmall c = (c.words ≤ 1048576) × (c.callers ≤ 62)

abbrev pub AreBlocks : ℕ → Type 0
AreBlocks n = n % 8192 ≡ 0

pub record IsConfig (c : Config) : Type 0 where
  pub words : (1 ≤ c.words) × (c.words ≤ 4294967296)
  pub records : (1 ≤ c.records) × (c.records ≤ 16777216)
  pub ring : (2 ≤ c.ring) × (c.ring ≤ 4096)
  pub callers : (1 ≤ c.callers) × (c.callers ≤ 254)
  pub reads : (1 ≤ c.reads) × (c.reads ≤ 1048576)
  pub writes : (1 ≤ c.writes) × (c.writes ≤ 1048576)
  pub clock : c.clock ≤ 2 ^ 62
  -- where ranges may be taken out of the transactions, all words are such a range
  pub fenced : c.fence ≡ true → (IsSmall c → ⊥) → AreBlocks c.words
  pub marks : c.marks ≤ 8
