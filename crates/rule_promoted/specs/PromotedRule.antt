-- A promoted attempt, under each algorithm that promotes: it works in place, so the heap is the memory under its
-- stores; its start and its front are the clock, and its reads are of the memory. That it is alone is said by the
-- clauses of the gate and of installs. Without `stored` and `sees` its entry needn't be legal. Without `unlocked` it
-- could give the gate back and keep the lock. `Suits` is what its algorithm needs to go on afterwards: without it a
-- record could be released below its stamp, or TML go on with an odd clock.
use Rattle.std.specs.Prelude.{ℕ, ◌≡◌, ◌%◌, ◌*◌, ◌<◌, ◌≤◌, true, false, List}
use Rattle.stm_model.specs.declared.alg.Alg.{Alg}
use Rattle.stm_model.specs.declared.alg.Alg.TheVariants.{Cgl, Tml, OrecLazy, OrecEager, RingSw, Serial}
use Rattle.rule_base.specs.declared.entries.Entry.{Entry}
use Rattle.stm_model.specs.declared.config.Config.{Config}
use Rattle.rule_base.specs.declared.views.Attempt.{Attempt}
use Rattle.rule_base.specs.declared.views.LockView.{LockView}
use Rattle.rule_base.specs.declared.views.TmlView.{TmlView}
use Rattle.rule_base.specs.declared.views.Ownership.{Ownership}
use Rattle.rule_base.specs.declared.views.View.{View}
use Rattle.rule_base.specs.Encodings.{is_owned}
use Rattle.rule_base.specs.History.{over, touches, word_now, last_write, Inside, Small, Explains}
use Rattle.rule_base.specs.Ranks.{rec_of, rank_one, home_of}
use Rattle.rule_base.specs.RunProjection.{RunProjection}
use Rattle.rule_base.specs.World.{World}
use Rattle.rule_ring.specs.RingPromoted.{RingKeeps}
use Rattle.rule_seq.specs.RunWorld.{RunWorld}

-- what these clauses see of the attempt, and of the world: of the other callers nothing
pub record DirectView : Type 0 where
  pub attempt : Attempt
  pub lock : LockView
  pub tml : TmlView
  pub front : ℕ

abbrev pub direct_view : View → DirectView
direct_view v = record { attempt = v.attempt; lock = v.lock; tml = v.tml; front = v.history.front }

pub record DirectProjection : Type 0 where
  pub clock : ℕ
  pub heap : ℕ → ℕ
  pub history : List Entry
  pub own : DirectView

abbrev pub direct_projection : ℕ → World → DirectProjection
direct_projection n w = record { clock = w.clock; heap = w.heap; history = w.history; own = direct_view (w.views n) }

pub record DirectRule (words : ℕ) (s : DirectProjection) : Type 0 where
  -- the heap is the memory after the history under its own stores
  pub stored : (a : ℕ) → s.heap a ≡ over s.own.attempt.stores a (word_now s.history a)
  -- its start is the clock, and it has seen the whole history: nobody else adds to it
  pub start : s.own.attempt.start ≡ s.clock
  pub front : s.own.front ≡ s.clock
  -- its reads are of that one memory (opacity), so the entry is legal
  pub sees : Explains (word_now s.history) s.own.attempt.reads
  pub reads_inside : Inside words s.own.attempt.reads
  pub stores_inside : Inside words s.own.attempt.stores
  pub stores_small : Small s.own.attempt.stores
  -- a promotion takes the gate and no lock, and no attempt that has the lock is promoted
  pub unlocked : s.own.lock.taken ≡ false

-- what the algorithm's own clauses of a promoted attempt see
pub record SuitView : Type 0 where
  pub attempt : Attempt
  pub tml : TmlView
  pub owned : Ownership

abbrev pub suit_view : View → SuitView
suit_view v = record { attempt = v.attempt; tml = v.tml; owned = v.owned }

pub record SuitProjection : Type 0 where
  pub clock : ℕ
  pub base : ℕ
  pub records : ℕ → ℕ
  pub history : List Entry
  pub own : SuitView

abbrev pub suit_projection : ℕ → World → SuitProjection
suit_projection n w = record { clock = w.clock; base = w.base; records = w.records; history = w.history; own = suit_view (w.views n) }

-- what the algorithm takes back when the attempt is over
pub record TmlSuits (s : SuitProjection) : Type 0 where
  pub even : s.clock % 2 ≡ 0
  pub unwritten : s.own.tml.writer ≡ false

-- while the attempt has no entry the stamps vouch as before; afterwards nobody looks at them until BASE has its time
pub record OrecSuits (home : ℕ → ℕ) (s : SuitProjection) : Type 0 where
  pub stamped : s.own.attempt.entered ≡ false → (a : ℕ) → s.base < last_write s.history a → 2 * last_write s.history a ≤ rank_one s.own.owned (home a) (rec_of (s.records (home a)))
  -- what it holds had versions at most the clock, and older ones once it has raised the clock:
  -- given back with that number no stamp falls
  pub uncommitted : s.own.owned.committed ≡ false
  pub olds : (r : ℕ) → touches s.own.owned.held r ≡ true → over s.own.owned.held r 0 ≤ s.clock
  pub older : s.own.attempt.entered ≡ true → (r : ℕ) → touches s.own.owned.held r ≡ true → over s.own.owned.held r 0 < s.clock
  -- older too once it has raised the clock without an entry; and the word of what it holds is an own lock: given back
  -- one later than it was, no stamp falls
  pub raised : s.own.owned.raised ≡ true → (r : ℕ) → touches s.own.owned.held r ≡ true → over s.own.owned.held r 0 < s.clock
  pub locked : (r : ℕ) → touches s.own.owned.held r ≡ true → is_owned (s.records r) ≡ true

-- by the algorithm: of its own part; under CGL and Serial nothing is promoted
abbrev pub Suits : (ℕ → ℕ) → Alg → SuitProjection → Type 0
Suits home Cgl s = ⊥
Suits home Tml s = TmlSuits s
Suits home OrecLazy s = OrecSuits home s
Suits home OrecEager s = OrecSuits home s
Suits home RingSw s = Unit {0}
Suits home Serial s = ⊥

-- of the projection of what runs
abbrev pub direct_part : ℕ → RunProjection → DirectProjection
direct_part n s = record { clock = s.clock; heap = s.heap; history = s.history; own = record { attempt = (s.views n).attempt; lock = (s.views n).lock; tml = (s.views n).tml; front = (s.views n).front } }

abbrev pub suit_part : ℕ → RunProjection → SuitProjection
suit_part n s = record { clock = s.clock; base = s.base; records = s.records; history = s.history; own = record { attempt = (s.views n).attempt; tml = (s.views n).tml; owned = (s.views n).owned } }

pub record DirectRuns (c : Config) (alg : Alg) (n : ℕ) (s : RunProjection) : Type 0 where
  pub direct : DirectRule c.words (direct_part n s)
  pub suits : Suits (home_of c) alg (suit_part n s)
  -- RingSW also takes back words and the parts of others
  pub ring : alg ≡ RingSw → RingKeeps c.ring n s

-- the rule while the attempt of caller n is promoted
abbrev pub DirectWorld : ((ℕ → ℕ) → Type 0) → Config → Alg → ℕ → World → Type 0
DirectWorld good c alg n = RunWorld (DirectRuns c alg n) good c
