-- What a record word says, and what it vouches for.
use Rattle.std.specs.Prelude.{ℕ, ◌+◌, ◌*◌, ◌%◌, if◌then◌else◌}
use Rattle.stm_model.specs.declared.config.Config.{Config}
use Rattle.rule_base.specs.declared.views.Ownership.{Ownership}
use Rattle.rule_base.specs.Encodings.{is_owned, version_of, owner_of}
use Rattle.rule_base.specs.History.{over}

-- what a record word says
pub data Rec : Type 0 where
  Free : (version : ℕ) → Rec
  Taken : (owner : ℕ) → Rec

abbrev pub rec_of : ℕ → Rec
rec_of word = if is_owned word then Taken (owner_of word) else Free (version_of word)

-- Twice the version that record r will have at least, and 1 more where its words are as the history has them. A version
-- alone isn't enough: a holder whose entry has the very time that was sampled may have stored half of its words.
abbrev pub rank_in : Ownership → ℕ → ℕ
rank_in v r = if v.committed then 2 * v.time else (if v.eager then 2 * over v.held r 0 + 2 else 2 * over v.held r 0 + 1)

-- the same where one caller alone may own records
abbrev pub rank_one : Ownership → ℕ → Rec → ℕ
rank_one v r (Free x) = 2 * x + 1
rank_one v r (Taken m) = rank_in v r

-- the record of an address
abbrev pub home_of : Config → ℕ → ℕ
home_of c a = a % c.records
