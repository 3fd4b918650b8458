-- What the parts of the commit of an attempt that wrote ask and tell.
use Rattle.std.specs.Prelude.{ℕ, ◌≡◌, ◌<◌, ◌++◌, ◌⊎◌, Bool, true, false, List, [], Result, Ok, Err, length, ◌≤◌}
use Rattle.stm_model.specs.declared.alg.Alg.TheVariants.{OrecLazy}
use Rattle.stm_model.specs.declared.config.Config.{Config}
use Rattle.stm_model.specs.declared.stop.Cause.{Cause}
use Rattle.rule_base.specs.declared.entries.Cell.{Cell}
use Rattle.rule_base.specs.declared.entries.Entry.{Entry}
use Rattle.rule_base.specs.declared.layout.At.TheVariants.{Clock}
use Rattle.rule_base.specs.declared.views.TracedStep.{TracedStep}
use Rattle.rule_base.specs.declared.views.Validation.{Validation}
use Rattle.rule_base.specs.declared.views.View.{View}
use Rattle.rule_base.specs.Bridge.{items}
use Rattle.rule_base.specs.History.{Inside}
use Rattle.rule_base.specs.Own.{Own}
use Rattle.rule_orec.specs.OrecSteps.{HasOrec}
use Rattle.stm_rule.specs.declared.local.Local.{Local}
use Rattle.stm_rule.specs.Attempts.{IsInside, HasRoom}
use Rattle.stm_rule.specs.RecordsKept.{cells_of}
use Rattle.stm_gate.specs.LeavingLaws.{IsUnmade}
use Rattle.stm_answers.specs.Causes.{Conflicts, OwesValidation}
use Rattle.stm_answers.specs.Causes.Asked.{ToCommit}
use Rattle.stm_answers.specs.Evidence.{Found}
use Rattle.stm_answers.specs.CallerState.{Grows, known_of}
use Rattle.alg_orec.specs.Ending.{CanAbortLazy}

-- an attempt of OrecLazy that wrote, and was not promoted
pub record CanCommit (good : List ℕ → Type 0) (c : Config) (n : ℕ) (l : Local) (v : View) : Type 0 where
  pub inside : IsInside good c n l v
  pub lazy : l.algorithm ≡ OrecLazy
  pub plain : l.granted ≡ false
  pub wrote : l.wrote ≡ true
  pub running : l.running ≡ true
  pub holds : l.holds ≡ v.gate.holds
  pub lengths : HasRoom l

-- the view after the records were taken, and the reads validated
abbrev pub readied : View → List Entry → ℕ → List Cell → Bool → Validation → List TracedStep → View
readied v seen start held loaded check more = record v {
  history = record v.history { seen = seen; front = start };
  attempt = record v.attempt { start = start };
  owned = record v.owned { held = held };
  sample = record v.sample { loaded = loaded };
  check = check;
  steps = record v.steps { step_trace = more ++ v.steps.step_trace };
}

module _ (good : List ℕ → Type 0) (c : Config) (n : ℕ) where
  -- between these two a validation came to be owed
  abbrev pub Owed : Local → View → View → Type 0
  Owed l v w = (o : Own) → o.buffered ≡ cells_of l.writes.items → o.committing ≡ l.committing → OwesValidation c ToCommit (known_of v o) (known_of w o)

  -- All records of what was written are held, and the reads are valid at a start that has seen their versions: it
  -- stands as in the middle of a commit. v is the view before the steps, and w that after them.
  pub record IsReady (l : Local) (v : View) (m : Local) (w : View) : Type 0 where
    pub local : m ≡ record l { start = m.start; locks = m.locks }
    pub len : m.locks.len ≡ l.locks.len
    pub seen : List Entry
    pub held : List Cell
    pub loaded : Bool
    pub check : Validation
    pub more : List TracedStep
    pub is : w ≡ readied v seen m.start held loaded check more
    pub stays : IsInside good c n (record m { committing = true }) w
    pub grows : (o : Own) → Grows (known_of v o) (known_of w o)
    -- the start moves only where a validation was owed
    pub start : (m.start ≡ l.start) ⊎ (((o : Own) → Found Clock m.start (known_of v o) (known_of w o)) × Owed l v w)
    pub again : l.committing ≡ true → (o : Own) → Found Clock m.start (known_of v o) (known_of w o)

  -- or another transaction came in between, and the attempt is to be taken back
  pub record IsStopped (cause : Cause) (l : Local) (v : View) (m : Local) (w : View) : Type 0 where
    pub local : m ≡ record l { locks = m.locks }
    pub len : m.locks.len ≡ l.locks.len
    pub few : length m.locks.items ≤ l.writes.len
    pub can : CanAbortLazy c m w
    pub gate : w.gate ≡ v.gate
    pub unmade : IsUnmade v w
    pub rises : w.steps.rises ≡ v.steps.rises
    pub conflicts : (o : Own) → o.buffered ≡ cells_of l.writes.items → o.committing ≡ l.committing → Conflicts c n ToCommit cause (known_of v o) (known_of w o)
    pub others : 1 < c.callers

  abbrev pub Prepares : Result (Unit {0}) Cause → Local → View → Local → View → Type 0
  Prepares (Ok _) l v m w = IsReady l v m w
  Prepares (Err cause) l v m w = IsStopped cause l v m w

-- the entry is made at t, and nothing of it but what is to be stored and given back is left
pub record CanFinish (c : Config) (t : ℕ) (l : Local) (v : View) : Type 0 where
  pub has : HasOrec v
  pub committed : v.owned.committed ≡ true
  pub time : t ≡ v.owned.time
  pub undone : v.owned.undo ≡ []
  pub back : v.owned.back ≡ cells_of l.writes.items
  pub inside : Inside c.words (cells_of l.writes.items)
  pub locks : l.locks.items ≡ items v.owned.held
  pub places : Inside c.records v.owned.held
  pub unlocked : v.lock.taken ≡ false
  pub unfixed : v.lock.irrevocable ≡ false
  pub unwritten : v.tml.writer ≡ false
  pub uncommitted : v.ring_commit.committed ≡ false
  pub unstored : v.attempt.stores ≡ []
  pub unentered : v.attempt.entered ≡ false
  pub holds : l.holds ≡ v.gate.holds
  pub named : l.algorithm ≡ v.gate.algorithm
