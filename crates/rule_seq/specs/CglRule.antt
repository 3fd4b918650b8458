-- CGL and Serial: one attempt at a time has the lock, and works in place in the heap. Serial's can be aborted until it
-- is irrevocable, CGL's is irrevocable from its beginning. While the lock is free the heap is the memory; while it is
-- taken the heap is the memory under the holder's stores. Without `free` the next holder could begin with a dirty heap.
-- Without `start` and `sees` the holder's entry needn't be the next one, or legal. Without `undone` and `covered` an
-- abort could leave a dirty word.
use Rattle.std.specs.Prelude.{ℕ, ◌≡◌, List, [], true, false}
use Rattle.rule_base.specs.declared.entries.Entry.{Entry}
use Rattle.stm_model.specs.declared.config.Config.{Config}
use Rattle.rule_base.specs.declared.views.Attempt.{Attempt}
use Rattle.rule_base.specs.declared.views.LockView.{LockView}
use Rattle.rule_base.specs.declared.views.View.{View}
use Rattle.rule_base.specs.History.{over, touches, word_now, Inside, Small, Explains}
use Rattle.rule_base.specs.RunProjection.{RunView, RunProjection}
use Rattle.rule_base.specs.World.{World, parts}
use Rattle.rule_seq.specs.RunWorld.{RunWorld}

-- what these clauses see of a view, and of the world
pub record CglView : Type 0 where
  pub attempt : Attempt
  pub lock : LockView
  pub front : ℕ

abbrev pub cgl_view : View → CglView
cgl_view v = record { attempt = v.attempt; lock = v.lock; front = v.history.front }

pub record CglProjection : Type 0 where
  pub clock : ℕ
  pub lock : ℕ
  pub heap : ℕ → ℕ
  pub history : List Entry
  pub views : ℕ → CglView

abbrev pub cgl_projection : World → CglProjection
cgl_projection w = record { clock = w.clock; lock = w.lock; heap = w.heap; history = w.history; views = parts cgl_view w.views }

-- what stands of the caller that has the lock
pub record CglHolder (words : ℕ) (s : CglProjection) (v : CglView) : Type 0 where
  -- the heap is the memory after the history under the holder's stores: its loads see its own writes, and the entry
  -- makes the heap the memory again
  pub stored : (a : ℕ) → s.heap a ≡ over v.attempt.stores a (word_now s.history a)
  -- nothing is stored before the start is loaded, and nothing is left when the entry stands:
  -- freeing the lock then leaves the memory
  pub unstored : v.lock.started ≡ false → v.attempt.stores ≡ []
  -- the start is the clock: start + 1 is the next time
  pub start : v.lock.started ≡ true → v.attempt.start ≡ s.clock
  -- the holder has seen the whole history: what it reads is the memory after what it has seen
  pub front : v.lock.started ≡ true → v.front ≡ s.clock
  -- its reads are of that one memory (opacity), so the entry is legal
  pub sees : Explains (word_now s.history) v.attempt.reads
  -- its reads and writes are words of the memory
  pub reads_inside : Inside words v.attempt.reads
  pub stores_inside : Inside words v.attempt.stores
  pub stores_small : Small v.attempt.stores
  -- what the undo log has of an address is the memory there, and until the attempt is irrevocable it has each address
  -- stored: taking all back leaves the memory
  pub undone : (a : ℕ) → touches v.lock.undo a ≡ true → (d : ℕ) → over v.lock.undo a d ≡ word_now s.history a
  pub covered : v.lock.irrevocable ≡ false → (a : ℕ) → touches v.attempt.stores a ≡ true → touches v.lock.undo a ≡ true

pub record CglRule (words : ℕ) (s : CglProjection) : Type 0 where
  -- a free lock leaves the memory after the history: the next holder, an install and closing take the heap as it is
  pub free : s.lock ≡ 0 → (a : ℕ) → s.heap a ≡ word_now s.history a
  pub holder : (n : ℕ) → (s.views n).lock.taken ≡ true → CglHolder words s (s.views n)

-- of the projection of what runs
abbrev pub cgl_part : RunProjection → CglProjection
cgl_part s = record { clock = s.clock; lock = s.lock; heap = s.heap; history = s.history; views = parts (λ (v : RunView). record { attempt = v.attempt; lock = v.lock; front = v.front }) s.views }

abbrev pub CglRuns : Config → RunProjection → Type 0
CglRuns c s = CglRule c.words (cgl_part s)

-- the rule while the gate names CGL or Serial
abbrev pub CglWorld : ((ℕ → ℕ) → Type 0) → Config → World → Type 0
CglWorld good c = RunWorld (CglRuns c) good c
