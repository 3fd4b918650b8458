-- TML: readers check the clock after each load, and one writer works in place while the clock is odd. With no writer
-- the clock is even and the heap is the memory. Without `free` a reader could load a word of a writer that is gone.
-- Without `pending` the check would show nothing of the word loaded. Without `even` and `odd` a start could be a
-- writer's clock. Without `below` the writer's time needn't be the next, and without `one` two could store in the heap.
use Rattle.std.specs.Prelude.{ℕ, ◌≡◌, ◌≤◌, ◌<◌, ◌+◌, ◌%◌, List, [], true, false}
use Rattle.rule_base.specs.declared.entries.Entry.{Entry}
use Rattle.stm_model.specs.declared.config.Config.{Config}
use Rattle.rule_base.specs.declared.views.Attempt.{Attempt}
use Rattle.rule_base.specs.declared.views.TmlView.{TmlView}
use Rattle.rule_base.specs.declared.views.View.{View}
use Rattle.rule_base.specs.History.{over, word_now, word_at, Inside, Small, Explains, Below}
use Rattle.rule_base.specs.RunProjection.{RunView, RunProjection}
use Rattle.rule_base.specs.World.{World, parts}
use Rattle.rule_seq.specs.RunWorld.{RunWorld}

-- what these clauses see of a view, and of the world
pub record TmlPart : Type 0 where
  pub attempt : Attempt
  pub tml : TmlView
  pub front : ℕ

abbrev pub tml_view : View → TmlPart
tml_view v = record { attempt = v.attempt; tml = v.tml; front = v.history.front }

pub record TmlProjection : Type 0 where
  pub clock : ℕ
  pub heap : ℕ → ℕ
  pub history : List Entry
  pub views : ℕ → TmlPart

abbrev pub tml_projection : World → TmlProjection
tml_projection w = record { clock = w.clock; heap = w.heap; history = w.history; views = parts tml_view w.views }

-- what stands of who has loaded its start
pub record TmlReader (words clock : ℕ) (history : List Entry) (v : TmlPart) : Type 0 where
  -- the start is an even number of the clock
  pub start : v.attempt.start ≤ clock
  pub even : v.attempt.start % 2 ≡ 0
  -- it has seen the history up to its start, and its reads are of that one memory (opacity)
  pub front : v.front ≡ v.attempt.start
  pub sees : Explains (word_at history v.attempt.start) v.attempt.reads
  pub reads_inside : Inside words v.attempt.reads
  -- only a writer stores
  pub unstored : v.tml.writer ≡ false → v.attempt.stores ≡ []
  -- a word loaded is the memory's if the clock is still the start: no writer came between
  pub pending : v.tml.loaded ≡ true → clock ≡ v.attempt.start → v.tml.value ≡ word_now history v.tml.from
  pub from : v.tml.loaded ≡ true → v.tml.from < words

-- what stands of the writer beside
pub record TmlWriter (words : ℕ) (s : TmlProjection) (v : TmlPart) : Type 0 where
  pub inside : v.tml.inside ≡ true
  -- it made the clock odd, which was its start, and no entry came since
  pub odd : s.clock ≡ v.attempt.start + 1
  pub below : Below s.history (v.attempt.start + 1)
  -- the heap is the memory after the history under its stores
  pub stored : (a : ℕ) → s.heap a ≡ over v.attempt.stores a (word_now s.history a)
  pub stores_inside : Inside words v.attempt.stores
  pub stores_small : Small v.attempt.stores

pub record TmlRule (words : ℕ) (s : TmlProjection) : Type 0 where
  -- with no writer the clock is even and the heap is the memory
  pub free : ((n : ℕ) → (s.views n).tml.writer ≡ true → ⊥) → (s.clock % 2 ≡ 0) × ((a : ℕ) → s.heap a ≡ word_now s.history a)
  pub reader : (n : ℕ) → (s.views n).tml.inside ≡ true → TmlReader words s.clock s.history (s.views n)
  pub writer : (n : ℕ) → (s.views n).tml.writer ≡ true → TmlWriter words s (s.views n)
  -- the writer is the only one
  pub one : (m n : ℕ) → (s.views m).tml.writer ≡ true → (s.views n).tml.writer ≡ true → m ≡ n

-- of the projection of what runs
abbrev pub tml_part : RunProjection → TmlProjection
tml_part s = record { clock = s.clock; heap = s.heap; history = s.history; views = parts (λ (v : RunView). record { attempt = v.attempt; tml = v.tml; front = v.front }) s.views }

abbrev pub TmlRuns : Config → RunProjection → Type 0
TmlRuns c s = TmlRule c.words (tml_part s)

-- the rule while the gate names TML
abbrev pub TmlWorld : ((ℕ → ℕ) → Type 0) → Config → World → Type 0
TmlWorld good c = RunWorld (TmlRuns c) good c
