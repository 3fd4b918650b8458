-- What the parts of the commit of an attempt of OrecEager that wrote ask and tell.
use Rattle.std.specs.Prelude.{ℕ, ◌≡◌, ◌+◌, ◌<◌, ◌≤◌, ◌++◌, ◌⊎◌, Bool, true, false, List, [], Result, Ok, Err}
use Rattle.stm_model.specs.Algorithms.{has_records}
use Rattle.stm_model.specs.declared.alg.Alg.TheVariants.{OrecEager}
use Rattle.stm_model.specs.declared.config.Config.{Config}
use Rattle.stm_model.specs.declared.config.TheConstants.{CLOCK_LIMIT}
use Rattle.stm_model.specs.declared.stop.Cause.{Cause}
use Rattle.rule_base.specs.declared.entries.Entry.{Entry}
use Rattle.rule_base.specs.declared.layout.At.TheVariants.{Clock}
use Rattle.rule_base.specs.declared.views.Phase.TheVariants.{In}
use Rattle.rule_base.specs.declared.views.TracedStep.{TracedStep}
use Rattle.rule_base.specs.declared.views.Validation.{Validation}
use Rattle.rule_base.specs.declared.views.View.{View}
use Rattle.rule_base.specs.Bridge.{items}
use Rattle.rule_base.specs.History.{Inside}
use Rattle.rule_base.specs.Own.{Own}
use Rattle.stm_rule.specs.declared.local.Local.{Local}
use Rattle.stm_rule.specs.Attempts.{IsInside, HasRoom}
use Rattle.stm_answers.specs.Causes.{Conflicts}
use Rattle.stm_answers.specs.Causes.Asked.{ToCommit}
use Rattle.stm_answers.specs.Evidence.{Found}
use Rattle.stm_answers.specs.CallerState.{Grows, known_of}
use Rattle.alg_orec.specs.Committing.{readied}
use Rattle.alg_orec.specs.EagerEnding.{AllBelow}

-- an attempt of OrecEager that wrote, and was not promoted
pub record CanCommitPlaced (good : List ℕ → Type 0) (c : Config) (n : ℕ) (l : Local) (v : View) : Type 0 where
  pub inside : IsInside good c n l v
  pub eager : l.algorithm ≡ OrecEager
  pub plain : l.granted ≡ false
  pub wrote : l.wrote ≡ true
  pub running : l.running ≡ true
  pub holds : l.holds ≡ v.gate.holds
  pub lengths : HasRoom l

module _ (good : List ℕ → Type 0) (c : Config) (n : ℕ) where
  -- the reads are valid at the start, which is the clock loaded in this call where the call before answered Again
  pub record IsRevalidated (l : Local) (v : View) (m : Local) (w : View) : Type 0 where
    pub local : m ≡ record l { start = m.start }
    pub seen : List Entry
    pub loaded : Bool
    pub check : Validation
    pub more : List TracedStep
    pub is : w ≡ readied v seen m.start v.owned.held loaded check more
    pub stays : IsInside good c n m w
    pub grows : (o : Own) → Grows (known_of v o) (known_of w o)
    -- the start moves only where a validation was owed
    pub start : (m.start ≡ l.start) ⊎ (((o : Own) → Found Clock m.start (known_of v o) (known_of w o)) × (l.committing ≡ true))
    pub again : l.committing ≡ true → (o : Own) → Found Clock m.start (known_of v o) (known_of w o)

  -- or one is not
  pub record IsOverrun (cause : Cause) (l : Local) (v : View) (m : Local) (w : View) : Type 0 where
    pub local : m ≡ l
    pub check : Validation
    pub more : List TracedStep
    pub is : w ≡ record v { check = check; steps = record v.steps { step_trace = more ++ v.steps.step_trace } }
    pub conflicts : (o p : Own) → o.committing ≡ l.committing → Conflicts c n ToCommit cause (known_of v o) (known_of w p)
    pub others : 1 < c.callers

  abbrev pub Revalidates : Result (Unit {0}) Cause → Local → View → Local → View → Type 0
  Revalidates (Ok _) l v m w = IsRevalidated l v m w
  Revalidates (Err cause) l v m w = IsOverrun cause l v m w

-- a promoted attempt that wrote nothing, and may hold records of writes that were taken back
pub record CanGiveAbove (c : Config) (l : Local) (v : View) : Type 0 where
  pub phase : v.gate.phase ≡ In
  pub granted : v.gate.granted ≡ true
  pub eager : v.gate.algorithm ≡ OrecEager
  pub unwritten : v.attempt.stores ≡ []
  pub unentered : v.attempt.entered ≡ false
  pub front : v.history.front ≡ v.attempt.start
  pub locks : l.locks.items ≡ items v.owned.held
  pub places : Inside c.records v.owned.held
  pub below : AllBelow CLOCK_LIMIT v.owned.held

-- it holds none any more; where it did, the clock may have been raised by one, without an entry
pub record GivesAbove (v w : View) : Type 0 where
  pub is : w ≡ record v {
    history = record v.history { front = w.history.front };
    gate = record v.gate { time = w.gate.time; rebased = w.gate.rebased; completed = w.gate.completed };
    attempt = w.attempt;
    owned = w.owned;
    steps = record v.steps { rises = w.steps.rises; step_trace = w.steps.step_trace };
  }
  pub more : List TracedStep
  pub step_trace : w.steps.step_trace ≡ more ++ v.steps.step_trace
  pub handed : w.owned.held ≡ []
  pub unstored : w.attempt.stores ≡ []
  pub unentered : w.attempt.entered ≡ false
  pub later : v.history.front ≤ w.history.front
  pub rose : (v.steps.rises ≤ w.steps.rises) × (w.steps.rises ≤ v.steps.rises + 1)
  pub level : v.owned.held ≡ [] → w.steps.rises ≡ v.steps.rises

-- a promoted attempt whose entry was made at t
pub record CanGiveDirect (c : Config) (t : ℕ) (l : Local) (v : View) : Type 0 where
  pub granted : v.gate.granted ≡ true
  pub algorithm : has_records v.gate.algorithm ≡ true
  pub entered : v.attempt.entered ≡ true
  pub time : t ≡ v.attempt.start
  pub locks : l.locks.items ≡ items v.owned.held
  pub places : Inside c.records v.owned.held
