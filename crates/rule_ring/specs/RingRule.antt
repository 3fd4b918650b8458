-- RingSW: readers check the slots of the entries since their start, and one committer at a time adds its entry, writes
-- it back and then moves DONE. A start is at most DONE, and the reads are of the memory at it. Without `slots` and
-- `since` a check could pass an entry that wrote what was read. Without `clean` and `behind` a reader could take a word
-- that isn't written back yet for the memory's last. Without `fresh` and `level` an attempt could begin before what its
-- caller has seen.
use Rattle.std.specs.Prelude.{ℕ, ◌≡◌, ◌≤◌, ◌<◌, ◌+◌, List, [], Bool, true, false, not, if◌then◌else◌}
use Rattle.rule_base.specs.declared.entries.Entry.{Entry}
use Rattle.stm_model.specs.declared.config.Config.{Config}
use Rattle.rule_base.specs.declared.layout.TheConstants.{SLOT_WORDS}
use Rattle.rule_base.specs.declared.views.Attempt.{Attempt}
use Rattle.rule_base.specs.declared.views.LockView.{LockView}
use Rattle.rule_base.specs.declared.views.RingRead.{RingRead}
use Rattle.rule_base.specs.declared.views.RingCommit.{RingCommit}
use Rattle.rule_base.specs.declared.views.View.{View}
use Rattle.rule_base.specs.History.{over, touches, word_now, word_at, Inside, Explains, Below}
use Rattle.rule_base.specs.RunProjection.{RunView, RunProjection}
use Rattle.rule_base.specs.World.{World, parts}
use Rattle.rule_ring.specs.Filters.{Filters}
use Rattle.rule_ring.specs.Slots.{slot_place, writes_of, has_entry, has_word, loaded_word}
use Rattle.rule_seq.specs.RunWorld.{RunWorld}

-- what these clauses see of a view, and of the world
pub record RingPart : Type 0 where
  pub attempt : Attempt
  pub lock : LockView
  pub read : RingRead
  pub turn : RingCommit
  pub front : ℕ

abbrev pub ring_view : View → RingPart
ring_view v = record { attempt = v.attempt; lock = v.lock; read = v.ring_read; turn = v.ring_commit; front = v.history.front }

pub record RingProjection : Type 0 where
  pub clock : ℕ
  pub lock : ℕ
  pub base : ℕ
  pub done : ℕ
  pub slots : ℕ → ℕ
  pub heap : ℕ → ℕ
  pub history : List Entry
  pub views : ℕ → RingPart

abbrev pub ring_projection : World → RingProjection
ring_projection w = record { clock = w.clock; lock = w.lock; base = w.base; done = w.done; slots = w.slots; heap = w.heap; history = w.history; views = parts ring_view w.views }

-- its entry is in the history, and DONE was not yet stored
abbrev pub late : RingPart → Bool
late v = if v.turn.committed then not v.turn.finished else false

module _ (F : Filters) where
  -- what stands of who has loaded its start
  pub record RingReader (ring words clock done base : ℕ) (history : List Entry) (v : RingPart) : Type 0 where
    -- the start is a number of DONE: all up to it is written back
    pub start : v.attempt.start ≤ done
    -- the entries since the start are those that the slots vouch for
    pub vouched : (e : ℕ) → v.attempt.start < e → has_entry history e ≡ true → base < e
    -- it has seen the history up to its start, and its reads are of that one memory (opacity)
    pub front : v.front ≡ v.attempt.start
    pub sees : Explains (word_at history v.attempt.start) v.attempt.reads
    pub reads_inside : Inside words v.attempt.reads
    pub unstored : v.attempt.stores ≡ []
    -- its filter has what it read and the word under way
    pub watched : (a : ℕ) → touches v.attempt.reads a ≡ true → touches v.read.watched a ≡ true
    pub aim : v.read.loaded ≡ true → touches v.read.watched v.read.from ≡ true
    pub from : v.read.loaded ≡ true → v.read.from < words
    -- the word under way is that of a time since the start, and not past the clock that the check loaded
    pub after : v.read.loaded ≡ true → v.attempt.start ≤ v.read.at
    pub before : v.read.loaded ≡ true → v.read.at ≤ clock
    pub found : v.read.loaded ≡ true → v.read.value ≡ word_at history v.read.at v.read.from
    pub looked : v.read.checking ≡ true → v.read.clock ≤ clock
    pub onward : v.read.checking ≡ true → v.attempt.start ≤ v.read.clock
    pub covers : v.read.checking ≡ true → v.read.loaded ≡ true → v.read.at ≤ v.read.clock
    pub timely : (e i : ℕ) → v.read.checking ≡ true → has_word v.read.words e i ≡ true → e ≤ v.read.clock
    -- the slot words loaded are of the filters of the entries, if no later entry has taken their slots;
    -- the second load of the clock makes that sure
    pub clear : (e i : ℕ) → v.read.checking ≡ true → clock < v.attempt.start + ring → v.attempt.start < e → has_word v.read.words e i ≡ true
        → has_entry history e ≡ true → loaded_word v.read.words e i ≡ F.word (writes_of history e) i
    pub sure : (e i : ℕ) → v.read.checking ≡ true → v.read.sure ≡ true → v.attempt.start < e → has_word v.read.words e i ≡ true → has_entry history e ≡ true → loaded_word v.read.words e i ≡ F.word (writes_of history e) i

  -- what stands of the turn of who has the lock
  pub record RingTurn (ring clock done : ℕ) (slots heap : ℕ → ℕ) (history : List Entry) (v : RingCommit) : Type 0 where
    -- the clock that it loaded stands, and is its entry's time once that is in the history
    pub tick : v.ticked ≡ true → v.clock ≡ clock
    pub entered : v.committed ≡ true → v.ticked ≡ true
    -- the first words of the next slot have the filter of its writes
    pub slotted : v.committed ≡ false → (i : ℕ) → i < v.slotted → slots (slot_place ring (clock + 1) i) ≡ F.word v.writes i
    -- what is still to be written back has in the heap the memory at DONE, all else has the memory after its entry
    pub back : (a : ℕ) → touches v.back a ≡ true → (v.committed ≡ true) × (v.finished ≡ false)
    pub clean : (a : ℕ) → touches v.back a ≡ false → heap a ≡ word_now history a
    pub behind : (a : ℕ) → touches v.back a ≡ true → heap a ≡ word_at history done a
    pub backs : (a : ℕ) → over v.back a (word_now history a) ≡ word_now history a

  pub record RingRule (ring words : ℕ) (s : RingProjection) : Type 0 where
    pub base : s.base ≤ s.clock
    pub done : s.done ≤ s.clock
    -- entries that aren't done are later than BASE
    pub since : (e : ℕ) → s.done < e → has_entry s.history e ≡ true → s.base < e
    -- the slots of the last entries have their filters
    pub slots : (e i : ℕ) → s.base < e → s.clock + 1 < e + ring → has_entry s.history e ≡ true → i < SLOT_WORDS → s.slots (slot_place ring e i) ≡ F.word (writes_of s.history e) i
    -- a free lock leaves the memory after the history in the heap
    pub free : s.lock ≡ 0 → (a : ℕ) → s.heap a ≡ word_now s.history a
    -- all have seen no more than what is done (freshness), but who is between its entry and DONE
    pub fresh : (n : ℕ) → late (s.views n) ≡ false → (s.views n).front ≤ s.done
    -- with nobody there all is done
    pub covered : ((n : ℕ) → late (s.views n) ≡ false) → Below s.history (s.done + 1)
    -- and DONE is the clock, unless who holds the gate raised the clock and is still to store DONE
    pub level : ((n : ℕ) → late (s.views n) ≡ false) → ((n : ℕ) → (s.views n).attempt.entered ≡ false) → s.done ≡ s.clock
    pub reader : (n : ℕ) → (s.views n).read.inside ≡ true → RingReader ring words s.clock s.done s.base s.history (s.views n)
    pub turn : (n : ℕ) → (s.views n).lock.taken ≡ true → RingTurn ring s.clock s.done s.slots s.heap s.history (s.views n).turn
    -- who has an entry to write back has the lock
    pub locked : (n : ℕ) → (s.views n).turn.committed ≡ true → (s.views n).lock.taken ≡ true

-- of the projection of what runs
abbrev pub ring_part : RunProjection → RingProjection
ring_part s =
    record {
      clock = s.clock;
      lock = s.lock;
      base = s.base;
      done = s.done;
      slots = s.slots;
      heap = s.heap;
      history = s.history;
      views = parts
          (λ (v : RunView). record { attempt = v.attempt; lock = v.lock; read = v.ring_read; turn = v.ring_commit; front = v.front }) s.views;
    }

abbrev pub RingRuns : Filters → Config → RunProjection → Type 0
RingRuns F c s = RingRule F c.ring c.words (ring_part s)

-- the rule while the gate names RingSW
abbrev pub RingWorld : Filters → ((ℕ → ℕ) → Type 0) → Config → World → Type 0
RingWorld F good c = RunWorld (RingRuns F c) good c
