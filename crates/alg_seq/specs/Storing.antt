-- What stands between the parts of a call of the algorithms of one lock.
use Rattle.std.specs.Prelude.{ℕ, ◌≡◌, ◌<◌, ◌≤◌, ◌^◌, ◌++◌, if◌then◌else◌, Bool, true, false, List, [], ◌∷◌, length, None, Result, Ok, Err}
use Rattle.stm_model.specs.declared.config.TheConstants.{CLOCK_LIMIT}
use Rattle.stm_model.specs.Memories.{item_at, put}
use Rattle.rule_base.specs.declared.layout.At.TheVariants.{Clock}
use Rattle.rule_base.specs.declared.views.TracedStep.{TracedStep}
use Rattle.rule_base.specs.Bridge.{addresses, items}
use Rattle.stm_logs.specs.LogStates.{LogState}
use Rattle.stm_answers.specs.Evidence.{Found}
use Rattle.stm_model.specs.declared.config.Config.{Config}
use Rattle.rule_base.specs.declared.views.View.{View}
use Rattle.rule_base.specs.History.{member, touches, Inside}
use Rattle.rule_base.specs.Own.{Own}
use Rattle.rule_base.specs.StepKinds.{view_after}
use Rattle.rule_base.specs.World.{World}
use Rattle.rule_seq.specs.CglSteps.{store_heap, CanStoreHeap}
use Rattle.stm_rule.specs.declared.local.Local.{Local}
use Rattle.stm_rule.specs.Attempts.{IsInside, IsOutside, ended}
use Rattle.stm_gate.specs.Leaving.{left}
use Rattle.stm_gate.specs.LeavingLaws.{IsUnmade}
use Rattle.stm_answers.specs.declared.answers.Write.{Write}
use Rattle.stm_answers.specs.declared.answers.Write.TheVariants.{Done}
use Rattle.stm_answers.specs.Answers.{HasWritten}
use Rattle.stm_answers.specs.CallerState.{known_of}

-- caller n ended the attempt and left no trace but its steps
pub record GivesUp (n : ℕ) (v w : View) : Type 0 where
  pub outside : IsOutside w
  pub before : View
  pub unmade : IsUnmade v before
  pub rises : before.steps.rises ≡ v.steps.rises
  pub is : w ≡ left n before

-- the clock was loaded, or nothing was done
pub record IsClocked (v w : View) : Type 0 where
  pub more : List TracedStep
  pub is : w ≡ record v { lock = record v.lock { clocked = w.lock.clocked }; steps = record v.steps { step_trace = more ++ v.steps.step_trace } }

-- the attempt may have its entry, or the clock was loaded at its limit
abbrev pub HasClock : Result (Unit {0}) ℕ → Local → View → View → Type 0
HasClock (Ok _) l v w = IsClocked v w × (l.start < CLOCK_LIMIT)
HasClock (Err clock) l v w = IsClocked v w × (l.wrote ≡ false) × (CLOCK_LIMIT ≤ clock) × ((o : Own) → Found Clock clock (known_of v o) (known_of w o))

-- the undo log has an old value at a, and the write log the new one
pub record HasLogged (words a x : ℕ) (l : Local) (v : View) (m : Local) (w : View) : Type 0 where
  pub local : m ≡ record l { undo = m.undo; writes = m.writes }
  pub undo_len : m.undo.len ≡ l.undo.len
  pub writes_len : m.writes.len ≡ l.writes.len
  pub marks : m.writes.marks ≡ l.writes.marks
  pub marks_limit : m.writes.marks_limit ≡ l.writes.marks_limit
  pub more : List TracedStep
  pub is : w ≡ record v { lock = record v.lock { undo = w.lock.undo }; steps = record v.steps { step_trace = more ++ v.steps.step_trace } }
  pub undone : m.undo.items ≡ items w.lock.undo
  pub logged : touches w.lock.undo a ≡ true
  pub within : Inside words w.lock.undo
  -- what it had it keeps, and an address that is new comes after the others
  pub covers : (b : ℕ) → touches v.lock.undo b ≡ true → touches w.lock.undo b ≡ true
  pub kept : addresses (items w.lock.undo) ≡ (if member (addresses (items v.lock.undo)) a then addresses (items v.lock.undo) else addresses (items v.lock.undo) ++ a ∷ [])
  pub most : length m.undo.items ≤ m.undo.len
  pub writes : m.writes.items ≡ put a x (items v.attempt.stores)

-- whether the undo log has an item for the address, or room for one
abbrev pub HasPlace : Bool → ℕ → LogState → Type 0
HasPlace true a l = item_at a l.items ≡ None → length l.items < l.len
HasPlace false a l = (item_at a l.items ≡ None) × (length l.items ≡ l.len)

-- what a descriptor keeps of an attempt whose log is under way
abbrev pub IsOwn : Local → Own → Type 0
IsOwn l o = (o.committing ≡ false) × (o.writes_limit ≡ l.undo.len)

module _ (good : List ℕ → Type 0) (c : Config) (n a x : ℕ) where
  -- x may be stored at a next: the attempt goes on then, and has written it. v is the view at the call.
  pub record MayStore (l : Local) (v w : View) : Type 0 where
    pub can : x < 2 ^ 64 → CanStoreHeap c.words a x w
    pub gate : w.gate ≡ v.gate
    pub inside : (m : World) → IsInside good c n (record l { wrote = true }) (view_after (store_heap a x) m w x)
    pub written : (o : Own) → IsOwn l o → (m : World) → HasWritten good c n a x Done (known_of v o) (known_of (view_after (store_heap a x) m w x) o)

  -- and the logs have what is asked of them
  pub record IsKept (l : Local) (v : View) (m : Local) (w : View) : Type 0 where
    pub is : m ≡ record l { undo = m.undo; writes = m.writes }
    pub undo_len : m.undo.len ≡ l.undo.len
    pub writes_len : m.writes.len ≡ l.writes.len
    pub marks : m.writes.marks ≡ l.writes.marks
    pub marks_limit : m.writes.marks_limit ≡ l.writes.marks_limit
    pub may : MayStore m v w

  -- the old value is kept, or the attempt is taken back and ended
  abbrev pub KeepsOld : Result (Unit {0}) Write → Local → View → Local → View → Type 0
  KeepsOld (Ok _) l v m w = IsKept l v m w
  KeepsOld (Err refusal) l v m w = (m ≡ ended l) × IsOutside w × ((o : Own) → IsOwn l o → HasWritten good c n a x refusal (known_of v o) (known_of w o))
