-- What the calls on a range of words tell.
use Rattle.std.specs.Prelude.{ℕ, ◌≡◌, ◌<◌, ◌≤◌, ◌++◌, ◌∷◌, [], true, false, List, length, Option, Some, None, Result, Ok, Err}
use Rattle.stm_model.specs.declared.config.Config.{Config}
use Rattle.stm_model.specs.declared.config.TheConstants.{CLOCK_LIMIT}
use Rattle.stm_model.specs.Histories.{Entry, IsLegal}
use Rattle.stm_model.specs.Memories.{is_empty}
use Rattle.rule_base.specs.Encodings.{fenced}
use Rattle.stm_answers.specs.Answers.{entry}
use Rattle.stm_answers.specs.declared.answers.Give.{Give}
use Rattle.stm_answers.specs.declared.answers.Give.TheVariants as gives
use Rattle.stm_answers.specs.Fences.{ReadsDirect, WritesDirect, is_within}
use Rattle.stm_answers.specs.CallerState.{CallerState, Grows, no_log, zeros}
use Rattle.tx_checked.specs.Alone.{IsHeldUp, IsTakeRefused, FindsFullAt}
use Rattle.tx_checked.specs.Counting.{after_refusal}
use Rattle.tx_checked.specs.declared.errand.Errand.{Errand}
use Rattle.tx_checked.specs.declared.errand.Errand.TheVariants as errands
use Rattle.tx_checked.specs.declared.checked_caller.CheckedCaller.{CheckedCaller}
use Rattle.tx_checked.specs.declared.checked_caller.Range.{Range}
use Rattle.tx_checked.specs.declared.refusal.Refusal.{Refusal}
use Rattle.tx_checked.specs.declared.refusal.Refusal.TheVariants as refusals
use Rattle.tx_checked.specs.declared.phase.CallerPhase.TheVariants.{Idle}
use Rattle.tx_checked.specs.Errands.{is_closing}
use Rattle.tx_checked.specs.CheckedCallers.{config_of, known_to, number_of}
use Rattle.tx_checked.specs.Phases.{Any, phase_after}

-- it knows all that it knew, but of its range
abbrev pub GrowsBeside : CallerState → CallerState → Type 0
GrowsBeside v w = Grows v (record w { fenced = v.fenced })

-- the words are the caller's alone. What had been committed then, of which it had seen a part, is a legal history.
pub record TakesOut (c : Config) (from count : ℕ) (v w : CallerState) : Type 0 where
  pub held : w.fenced.held ≡ true
  pub words : (a : ℕ) → fenced w.fenced.number a ≡ is_within from count a
  pub log : w.fenced.log ≡ no_log
  pub legal : IsLegal Any (zeros c.words) c.clock w.fenced.seen
  pub later : List Entry
  pub seen : w.fenced.seen ≡ v.seen ++ later
  pub front : v.front ≤ w.fenced.front

-- the direct reads and writes are one entry of a legal history, which begins with what was found as the range was
-- taken, later than all that the caller had seen; and the range is back
pub record GivesAt (c : Config) (n time : ℕ) (v w : CallerState) : Type 0 where
  pub made : w.made ≡ v.made ++ entry time n (length v.made) v.fenced.log ∷ []
  pub back : w.fenced.held ≡ false
  pub before : List Entry
  pub meanwhile : List Entry
  pub taken : before ≡ v.fenced.seen ++ meanwhile
  pub legal : IsLegal Any (zeros c.words) c.clock (before ++ entry time n (length v.made) v.fenced.log ∷ [])
  pub since : List Entry
  pub seen : w.seen ≡ (before ++ entry time n (length v.made) v.fenced.log ∷ []) ++ since
  pub later : v.front < time
  pub front : time ≤ w.front

-- a full clock leaves the range to the caller
abbrev pub GivesBack : Config → ℕ → Give → CallerState → CallerState → Type 0
GivesBack c n (gives.Committed time) v w = GivesAt c n time v w
GivesBack c n gives.Unchanged v w = (w.made ≡ v.made) × (w.fenced.held ≡ false) × (is_empty v.fenced.log.writes ≡ true)
GivesBack c n (gives.ClockFull clock) v w = (w.made ≡ v.made) × (w.fenced ≡ v.fenced) × (CLOCK_LIMIT ≤ clock)

-- the call of that errand was refused so: nothing was taken, given or installed, for what is written down
pub record IsLeft (asked : Errand) (e : Refusal) (m n : CheckedCaller) : Type 0 where
  pub grew : Grows (known_to m) (known_to n)
  pub made : (known_to n).made ≡ (known_to m).made
  pub rises : (known_to n).rises ≡ (known_to m).rises
  pub installs : (known_to n).installs ≡ (known_to m).installs
  pub phase : n.phase ≡ phase_after e
  pub errand : n.errand ≡ asked
  pub range : n.range ≡ m.range
  pub refusal : n.refusal ≡ Some e
  pub counts : n.counts ≡ after_refusal e m.counts

abbrev pub HasTaken : ℕ → ℕ → CheckedCaller → CheckedCaller → Result (Unit {0}) Refusal → Type 0
HasTaken from count m n (Ok r) =
    TakesOut (config_of m) from count (known_to m) (known_to n) × GrowsBeside (known_to m) (known_to n)
    × ((known_to n).made ≡ (known_to m).made) × ((known_to n).installs ≡ (known_to m).installs) × (n.phase ≡ Idle)
    × (n.range ≡ Some (record { from = from; count = count }))
    × (n.refusal ≡ m.refusal) × (n.counts ≡ m.counts)
HasTaken from count m n (Err e) = IsLeft (errands.Take from count) e m n × IsTakeRefused (config_of m) (number_of m) (is_closing m.phase) e (known_to m) (known_to n)

abbrev pub range_after : Give → Option Range → Option Range
range_after (gives.Committed time) r = None
range_after gives.Unchanged r = None
range_after (gives.ClockFull clock) r = r

abbrev pub give_refusal : Give → Option Refusal → Option Refusal
give_refusal (gives.Committed time) old = old
give_refusal gives.Unchanged old = old
give_refusal (gives.ClockFull clock) old = Some (refusals.ClockFull clock)

abbrev pub HasGiven : CheckedCaller → CheckedCaller → Result Give Refusal → Type 0
HasGiven m n (Ok r) =
    GivesBack (config_of m) (number_of m) r (known_to m) (known_to n)
    × FindsFullAt (config_of m) (number_of m) (is_closing m.phase) r (known_to m) (known_to n) × GrowsBeside (known_to m) (known_to n)
    × ((known_to n).installs ≡ (known_to m).installs) × (n.phase ≡ Idle) × (n.range ≡ range_after r m.range) × (n.refusal ≡ give_refusal r m.refusal) × (n.counts ≡ m.counts)
HasGiven m n (Err e) = IsLeft errands.Give e m n × IsHeldUp (config_of m) (number_of m) (is_closing m.phase) e (known_to m) (known_to n)

abbrev pub HasReadDirect : ℕ → CheckedCaller → CheckedCaller → ℕ → Type 0
HasReadDirect a m n x = ReadsDirect Any (config_of m) (number_of m) a x (known_to m) (known_to n) × (n.range ≡ m.range) × (n.refusal ≡ m.refusal) × (n.counts ≡ m.counts)

abbrev pub HasWrittenDirect : ℕ → ℕ → CheckedCaller → CheckedCaller → Unit {0} → Type 0
HasWrittenDirect a x m n r = WritesDirect Any (config_of m) (number_of m) a x (known_to m) (known_to n) × (n.range ≡ m.range) × (n.refusal ≡ m.refusal) × (n.counts ≡ m.counts)
