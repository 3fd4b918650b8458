-- What a step of OrecLazy and OrecEager shows: of the word found, of the other callers, and of the history where it
-- moves the start or appends the entry.
use Rattle.std.specs.Prelude.{ℕ, ◌≡◌, ◌+◌, ◌≤◌, true, false, Some, List, ◌∷◌}
use Rattle.stm_model.specs.declared.config.Config.{Config}
use Rattle.stm_model.specs.declared.config.TheConstants.{CLOCK_LIMIT}
use Rattle.rule_base.specs.declared.entries.Cell.{Cell}
use Rattle.rule_base.specs.declared.entries.Entry.{Entry}
use Rattle.rule_base.specs.declared.views.View.{View}
use Rattle.rule_base.specs.Encodings.{is_owned, version_of, owner_of}
use Rattle.rule_base.specs.History.{over, touches, word_now, upto, Below, Explains, Legal}
use Rattle.rule_base.specs.World.{World}
use Rattle.rule_seq.specs.CglSteps.{Begins}
use Rattle.rule_orec.specs.OrecSteps.{passes, orec_entry, OrecConfirms}
use Rattle.stm_rule.specs.Alone.{left_at}
use Rattle.stm_rule.specs.Findings.{NamesOther, FindsSole, OrecFails, OrecSettled}

-- the word of record r
pub record FindsRecord (c : Config) (n r : ℕ) (w : World) (v : View) (x : ℕ) : Type 0 where
  -- an owned one that caller n doesn't hold is another caller's
  pub others : is_owned x ≡ true → touches v.owned.held r ≡ false → NamesOther c n (1 + owner_of x)
  -- the version of a free one is a number of the clock
  pub within : is_owned x ≡ false → version_of x ≤ CLOCK_LIMIT
  -- with one caller alone its own steps have raised the clock to it
  pub sole : c.callers ≡ 1 → is_owned x ≡ false → version_of x ≤ c.clock + v.steps.rises
  -- and the record is as its last step there left it
  pub left : c.callers ≡ 1 → (y : ℕ) → left_at r v.steps.step_trace ≡ Some y → x ≡ y
  -- the start is a number of the clock
  pub started : v.attempt.start ≤ CLOCK_LIMIT

-- the clock
pub record FindsClock (c : Config) (w : World) (v : View) (x : ℕ) : Type 0 where
  pub settled : OrecSettled w v x
  -- a start that has come to the limit shows there
  pub started : v.attempt.start ≤ x
  pub sole : FindsSole c w v x
  pub within : x ≤ CLOCK_LIMIT
  -- a record that the caller holds was free at no later number
  pub olds : (r : ℕ) → touches v.owned.held r ≡ true → over v.owned.held r 0 ≤ x

-- the clock under a promoted attempt: it is the start still
pub record FindsStill (c : Config) (w : World) (v : View) (x : ℕ) : Type 0 where
  pub started : x ≡ v.attempt.start
  pub sole : FindsSole c w v x
  pub within : x ≤ CLOCK_LIMIT

-- The start may move to this number, of which this is the history: it is legal, begins with what was seen before, and
-- leaves a memory that explains all reads.
pub record Moves (good : (ℕ → ℕ) → Type 0) (c : Config) (history : List Entry) (v : View) (start : ℕ) : Type 0 where
  pub legal : Legal good c history
  pub below : Below history (start + 1)
  pub seen : v.history.seen ≡ upto history v.history.front
  pub front : v.history.front ≤ start
  pub limit : start ≤ CLOCK_LIMIT
  pub sees : Explains (word_now history) v.attempt.reads

-- The history with the entry is legal, and the caller had seen all before it.
pub record Enters (good : (ℕ → ℕ) → Type 0) (c : Config) (e : Entry) (w : World) (v : View) : Type 0 where
  pub legal : Legal good c (e ∷ w.history)
  pub below : Below (e ∷ w.history) (e.time + 1)
  pub seen : v.history.seen ≡ w.history

-- the clock as the start
pub record FindsStart (good : (ℕ → ℕ) → Type 0) (c : Config) (w : World) (v : View) (x : ℕ) : Type 0 where
  pub begins : Begins good c w v x
  pub sole : FindsSole c w v x
  -- who doesn't hold the gate doesn't know the clock as its holder
  pub not_quiescent : v.gate.holds ≡ false → v.gate.quiescent ≡ false

-- the record that was sampled, again
pub record FindsAgain (good : (ℕ → ℕ) → Type 0) (c : Config) (n r : ℕ) (w : World) (v : View) (x : ℕ) : Type 0 where
  pub found : FindsRecord c n r w v x
  pub confirms : OrecConfirms good c w v x

-- the record of a read to validate
pub record FindsRead (c : Config) (n r : ℕ) (w : World) (v : View) (x : ℕ) : Type 0 where
  pub found : FindsRecord c n r w v x
  pub fails : OrecFails n w v x

-- the last one: where it passes, the start moves to the clock of the validation
pub record FindsLast (good : (ℕ → ℕ) → Type 0) (c : Config) (n r : ℕ) (w : World) (v : View) (x : ℕ) : Type 0 where
  pub read : FindsRead c n r w v x
  pub moves : passes x v ≡ true → Moves good c (upto w.history v.check.upto) v v.check.upto

-- the last one of a promotion: where it passes, the start moves to the clock that the gate's holder knows
pub record FindsGrant (good : (ℕ → ℕ) → Type 0) (c : Config) (n r : ℕ) (w : World) (v : View) (x : ℕ) : Type 0 where
  pub read : FindsRead c n r w v x
  pub moves : passes x v ≡ true → Moves good c w.history v v.gate.time

-- the clock, to which the start moves where no record is to be loaded
pub record FindsAll (good : (ℕ → ℕ) → Type 0) (c : Config) (w : World) (v : View) (x : ℕ) : Type 0 where
  pub clock : FindsClock c w v x
  pub moves : Moves good c w.history v x

-- the clock that was to be exchanged
pub record FindsCommit (good : (ℕ → ℕ) → Type 0) (c : Config) (n start : ℕ) (writes : List Cell) (w : World) (v : View) (x : ℕ) : Type 0 where
  pub clock : FindsClock c w v x
  pub enters : x ≡ start → Enters good c (orec_entry n (start + 1) writes v) w v
