-- What the parts of a call of RingSW ask and tell.
use Rattle.std.specs.Prelude.{ℕ, ◌≡◌, ◌+◌, ◌≤◌, ◌++◌, true, false, List, [], ◌∷◌, Option, Some, None}
use Rattle.stm_model.specs.Memories.{Once}
use Rattle.stm_model.specs.declared.alg.Alg.TheVariants.{RingSw}
use Rattle.stm_model.specs.declared.config.Config.{Config}
use Rattle.stm_model.specs.declared.config.TheConstants.{CLOCK_LIMIT}
use Rattle.rule_base.specs.declared.entries.Entry.{Entry}
use Rattle.rule_base.specs.declared.layout.At.TheVariants.{Lock}
use Rattle.rule_base.specs.declared.views.Act.TheVariants.{Store}
use Rattle.rule_base.specs.declared.views.TracedStep.{TracedStep}
use Rattle.rule_base.specs.declared.views.View.{View}
use Rattle.rule_base.specs.Bridge.{of_words}
use Rattle.rule_base.specs.History as rules
use Rattle.rule_base.specs.Own.{Own}
use Rattle.rule_base.specs.World.{World}
use Rattle.rule_ring.specs.RingSteps.{RingEnters, CanRingFree, HasTurn, HasEntered, ring_entry, no_read, no_turn}
use Rattle.rule_seq.specs.CglSteps.{fresh_lock, no_lock}
use Rattle.stm_logs.specs.LogStates.{LogState}
use Rattle.stm_rule.specs.declared.local.Local.{Local}
use Rattle.stm_rule.specs.Attempts.{IsInside, IsOutside, Stands, ended, own_of}
use Rattle.stm_rule.specs.RecordsKept.{Apart, Buffers, cells_of}
use Rattle.stm_answers.specs.declared.answers.Commit.{Commit}
use Rattle.stm_answers.specs.declared.answers.Read.{Read}
use Rattle.stm_answers.specs.declared.answers.Read.TheVariants.{Value, Conflict, Full}
use Rattle.stm_answers.specs.Answers.{HasRead, KeepsRule, Commits}
use Rattle.stm_answers.specs.CallerState.{CallerState, known_of, is_irrevocable, wrote}
use Rattle.stm_gate.specs.Leaving.{CanLeave, left}
use Rattle.alg_ring.specs.Checking.{IsFilterOf}

-- what is to be written back is stored, and nothing else changed
pub record WritesBack (v w : View) : Type 0 where
  pub more : List TracedStep
  pub is : w ≡ record v { ring_commit = record v.ring_commit { back = [] }; steps = record v.steps { step_trace = more ++ v.steps.step_trace } }

-- the log's items are those that are to be written back
pub record CanWriteBack (c : Config) (log : LogState) (v : View) : Type 0 where
  pub entered : HasEntered v
  pub once : Once log.items
  pub inside : rules.Inside c.words (cells_of log.items)
  pub back : v.ring_commit.back ≡ cells_of log.items

-- a promoted attempt has stored the items in the heap
pub record Stores (log : LogState) (v w : View) : Type 0 where
  pub more : List TracedStep
  pub is : w ≡ record v { attempt = record v.attempt { stores = cells_of log.items ++ v.attempt.stores }; steps = record v.steps { step_trace = more ++ v.steps.step_trace } }

-- the lock was freed, and nothing is left of the turn
abbrev pub freed : View → View
freed v = record v { lock = no_lock; ring_commit = no_turn; steps = record v.steps { step_trace = record { place = Lock; act = Store 0; found = None } ∷ v.steps.step_trace } }

module _ (good : List ℕ → Type 0) (c : Config) where
  -- the attempt has its turn, and its start is the clock
  pub record CanEnter (time : ℕ) (l : Local) (v : View) : Type 0 where
    pub turn : HasTurn v
    pub ticked : v.ring_commit.ticked ≡ true
    pub unslotted : v.ring_commit.slotted ≡ 0
    pub checked : v.attempt.start ≡ v.ring_commit.clock
    pub next : time ≡ v.ring_commit.clock + 1
    pub limit : time ≤ CLOCK_LIMIT
    pub settled : v.ring_read.loaded ≡ false
    pub not_quiescent : v.gate.quiescent ≡ false
    pub buffers : Buffers c l
    pub spared : Apart v.gate.fence (cells_of l.writes.items)
    pub wrote : l.wrote ≡ true
    pub stored : IsFilterOf l.stored (cells_of l.writes.items)
    pub keeps : rules.Keeps (of_words good c.words) v.attempt.reads (cells_of l.writes.items)

  -- the view with the buffered writes as those of its entry
  abbrev pub writing : Local → View → View
  writing l v = record v { ring_commit = record v.ring_commit { writes = cells_of l.writes.items } }

  -- the view after the entry, of these writes, in a world that had this history
  abbrev pub entered_at : ℕ → ℕ → List Entry → Local → List TracedStep → View → View
  entered_at n time before l more v = record v {
    history = record v.history {
      made = ring_entry n time (writing l v) ∷ v.history.made;
      seen = ring_entry n time (writing l v) ∷ before;
      front = time;
    };
    attempt = record { start = 0; reads = []; stores = []; entered = v.attempt.entered };
    ring_read = no_read;
    ring_commit = record { slotted = 0; writes = cells_of l.writes.items; ticked = true; clock = time; committed = true; finished = false; back = cells_of l.writes.items };
    steps = record v.steps { rises = v.steps.rises + 1; step_trace = more ++ v.steps.step_trace };
  }

  -- the entry is in the history
  pub record Enters (n time : ℕ) (l : Local) (v w : View) : Type 0 where
    pub world : World
    pub more : List TracedStep
    pub is : w ≡ entered_at n time world.history l more v
    pub shown : RingEnters (of_words good c.words) c n time world (writing l v) time

  module _ (n : ℕ) where
    -- a word that was loaded is read, or the attempt ended
    abbrev pub LoadsNew : ℕ → Read → Local → View → Local → View → Type 0
    LoadsNew a (Value x) l v m w =
        IsInside good c n m w × (m ≡ record l { start = m.start; loaded = m.loaded }) × (w.gate.holds ≡ v.gate.holds)
        × ((o : Own) → o.committing ≡ false → o.buffered ≡ cells_of l.writes.items
        → HasRead good c n a (Value x) (known_of v o) (known_of w o))
    LoadsNew a (Conflict cause) l v m w =
        IsOutside w × (m ≡ ended (record l { loaded = m.loaded }))
        × ((o : Own) → o.committing ≡ false → o.buffered ≡ cells_of l.writes.items
        → HasRead good c n a (Conflict cause) (known_of v o) (known_of w o))
    LoadsNew a (Full limit) l v m w = ⊥

    -- an attempt, between two calls
    pub record HasAttempt (l : Local) (v : View) : Type 0 where
      pub stands : Stands good c n l v
      pub running : (known_of v (own_of l)).running ≡ true
      pub named : (known_of v (own_of l)).alg ≡ RingSw

    -- a call told its caller so, and left a descriptor that stands
    pub record StandsTold (tells : CallerState → CallerState → Type 0) (l : Local) (v : View) (m : Local) (w : View) : Type 0 where
      pub stands : Stands good c n m w
      pub told : tells (known_of v (own_of l)) (known_of w (own_of m))

    -- it can be cancelled, wrote something, and keeps the user's rule
    pub record HasWrites (l : Local) (v : View) : Type 0 where
      pub attempt : HasAttempt l v
      pub revocable : is_irrevocable (known_of v (own_of l)) ≡ false
      pub wrote : wrote (known_of v (own_of l)) ≡ true
      pub keeps : KeepsRule good c n (known_of v (own_of l))

    -- it had this view before, and took the lock
    pub record TookTurn (before : View) (l : Local) (v : View) : Type 0 where
      pub has : HasWrites l before
      pub more : List TracedStep
      pub is : v ≡ record before { lock = fresh_lock RingSw; ring_commit = no_turn; steps = record before.steps { step_trace = more ++ before.steps.step_trace } }

    -- what `turn` tells: it has its turn, or this is the answer
    abbrev pub Turns : Option Commit → Local → View → Local → View → Type 0
    Turns None l v m w = (m ≡ l) × TookTurn v l w
    Turns (Some answer) l v m w = StandsTold (Commits good c n answer) l v m w

    abbrev pub CanFinish : Local → View → Type 0
    CanFinish l v = (before : View) × TookTurn before l v

    -- what `finish` tells of the whole commit: it is over, one way or the other
    abbrev pub Finishes : Commit → Local → View → Local → View → Type 0
    Finishes answer l v m w = (before : View) → TookTurn before l v → StandsTold (Commits good c n answer) l before m w

    -- the commit came to this: so it is once the lock is free and the attempt has left
    pub record IsDecided (answer : Commit) (before : View) (l : Local) (v : View) : Type 0 where
      pub free : CanRingFree v
      pub leave : CanLeave (freed v)
      pub gate : v.gate ≡ before.gate
      pub commits : Commits good c n answer (known_of before (own_of l)) (known_of (left n (freed v)) (own_of l))

    abbrev pub Decides : Commit → Local → View → View → Type 0
    Decides answer l v w = (before : View) → TookTurn before l v → IsDecided answer before l w
