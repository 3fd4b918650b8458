-- OrecLazy and OrecEager: each word belongs to a record, whose version vouches for the entries that wrote its words,
-- and a caller stores only in words whose record it owns. The reads of an attempt are of the memory at its start.
-- Without `stamped` a record that is as it was sampled could hide an entry. Without `clean` and `mixed` a load under a
-- free record could find a value of no entry. Without `vouched` and `olds` a record released with its old version could
-- hide an entry. Without `place_undo` and `undone` an abort could leave a dirty word.
use Rattle.std.specs.Prelude.{ℕ, ◌≡◌, ◌+◌, ◌*◌, ◌<◌, ◌≤◌, if◌then◌else◌, true, false, List}
use Rattle.rule_base.specs.declared.entries.Entry.{Entry}
use Rattle.stm_model.specs.declared.config.Config.{Config}
use Rattle.rule_base.specs.declared.views.Attempt.{Attempt}
use Rattle.rule_base.specs.declared.views.Ownership.{Ownership}
use Rattle.rule_base.specs.declared.views.Sample.{Sample}
use Rattle.rule_base.specs.declared.views.Validation.{Validation}
use Rattle.rule_base.specs.declared.views.View.{View}
use Rattle.rule_base.specs.History.{over, touches, word_at, word_now, last_write, Inside}
use Rattle.rule_base.specs.Ranks.{Rec, rec_of, rank_in, home_of}
use Rattle.rule_base.specs.Ranks.Rec.{Free, Taken}
use Rattle.rule_base.specs.RunProjection.{RunView, RunProjection}
use Rattle.rule_base.specs.World.{World, parts}
use Rattle.rule_seq.specs.RunWorld.{RunWorld}

-- what these clauses see of a view, and of the world
pub record OrecView : Type 0 where
  pub attempt : Attempt
  pub owned : Ownership
  pub sample : Sample
  pub check : Validation
  pub front : ℕ

abbrev pub orec_view : View → OrecView
orec_view v = record { attempt = v.attempt; owned = v.owned; sample = v.sample; check = v.check; front = v.history.front }

pub record OrecProjection : Type 0 where
  pub clock : ℕ
  pub base : ℕ
  pub records : ℕ → Rec
  pub heap : ℕ → ℕ
  pub history : List Entry
  pub views : ℕ → OrecView

abbrev pub orec_projection : World → OrecProjection
orec_projection w = record { clock = w.clock; base = w.base; records = parts rec_of w.records; heap = w.heap; history = w.history; views = parts orec_view w.views }

abbrev pub rank_of : (ℕ → OrecView) → ℕ → Rec → ℕ
rank_of vs r (Free v) = 2 * v + 1
rank_of vs r (Taken n) = rank_in (vs n).owned r

abbrev pub rank : OrecProjection → ℕ → ℕ
rank s r = rank_of s.views r (s.records r)

-- what record r's version will be at least
abbrev pub stamp_of : (ℕ → OrecView) → ℕ → Rec → ℕ
stamp_of vs r (Free v) = v
stamp_of vs r (Taken n) = if (vs n).owned.committed then (vs n).owned.time else (if (vs n).owned.eager then over (vs n).owned.held r 0 + 1 else over (vs n).owned.held r 0)

abbrev pub stamp : OrecProjection → ℕ → ℕ
stamp s r = stamp_of s.views r (s.records r)

-- the reads of an attempt
pub record OwnReads (words : ℕ) (s : OrecProjection) (t : Attempt) : Type 0 where
  pub start : t.start ≤ s.clock
  -- the records vouch for what is later than BASE
  pub based : s.base ≤ t.start
  -- the reads are of the one memory at the start (opacity)
  pub sees : (a : ℕ) → over t.reads a (word_at s.history t.start a) ≡ word_at s.history t.start a
  pub reads_inside : Inside words t.reads

-- a validation up to a number of the clock: what is not left to do holds at that number
pub record OwnCheck (s : OrecProjection) (t : Attempt) (v : Validation) : Type 0 where
  pub upto : v.checking ≡ true → v.upto ≤ s.clock
  pub onward : v.checking ≡ true → t.start ≤ v.upto
  pub checked : (a : ℕ) → v.checking ≡ true → touches v.todo a ≡ false → over t.reads a (word_at s.history v.upto a) ≡ word_at s.history v.upto a

-- home a is the record of a
module _ (home : ℕ → ℕ) where
  -- a read under way
  pub record OwnSample (s : OrecProjection) (start : ℕ) (v : Sample) : Type 0 where
    pub sampled : v.sampled ≡ true → 2 * v.version + 1 ≤ rank s (home v.from)
    pub sample_old : v.sampled ≡ true → v.version ≤ s.clock
    -- if the record still has that version, the word loaded is the one at the start: nobody stored there between
    pub loaded : v.loaded ≡ true → rank s (home v.from) ≤ 2 * v.version + 1 → word_at s.history start v.from ≡ v.value

  -- what is owned, and what is owed to the heap
  pub record OwnOwned (s : OrecProjection) (n start : ℕ) (v : Ownership) : Type 0 where
    pub held : (r : ℕ) → touches v.held r ≡ true → s.records r ≡ Taken n
    pub olds : (r : ℕ) → touches v.held r ≡ true → over v.held r 0 ≤ s.clock
    -- until its owner's entry the old version vouches for a record's words
    pub vouched : (a : ℕ) → v.committed ≡ false → touches v.held (home a) ≡ true → s.base < last_write s.history a → last_write s.history a ≤ over v.held (home a) 0
    pub eagerly : (r : ℕ) → v.eager ≡ true → v.committed ≡ false → touches v.held r ≡ true → over v.held r 0 ≤ start
    pub timed : v.committed ≡ true → v.time ≤ s.clock
    -- values in the heap before the entry are OrecEager's, in owned records, and can be taken back
    pub in_place : (a : ℕ) → touches v.in_place a ≡ true → touches v.held (home a) ≡ true
    pub place_eager : (a : ℕ) → touches v.in_place a ≡ true → v.eager ≡ true
    pub place_open : (a : ℕ) → touches v.in_place a ≡ true → v.committed ≡ false
    pub place_undo : (a : ℕ) → touches v.in_place a ≡ true → touches v.undo a ≡ true
    -- values of the entry that aren't in the heap yet are in owned records
    pub back : (a : ℕ) → touches v.back a ≡ true → touches v.held (home a) ≡ true
    pub back_done : (a : ℕ) → touches v.back a ≡ true → v.committed ≡ true
    pub backs : (a : ℕ) → over v.back a (word_now s.history a) ≡ word_now s.history a
    pub undo : (a : ℕ) → touches v.undo a ≡ true → touches v.held (home a) ≡ true
    pub undone : (a : ℕ) → over v.undo a (word_now s.history a) ≡ word_now s.history a
    -- the clock was raised above the old versions: each may be released with its own plus one
    pub raised : (r : ℕ) → v.raised ≡ true → touches v.held r ≡ true → over v.held r 0 < s.clock

  -- what stands of who is in an attempt
  pub record Own (words : ℕ) (s : OrecProjection) (n : ℕ) (v : OrecView) : Type 0 where
    pub attempt : OwnReads words s v.attempt
    -- it has seen the history up to its start
    pub front : v.owned.committed ≡ false → v.front ≡ v.attempt.start
    pub owned : OwnOwned s n v.attempt.start v.owned
    pub sample : OwnSample s v.attempt.start v.sample
    pub check : OwnCheck s v.attempt v.check

  pub record OrecRule (words : ℕ) (s : OrecProjection) : Type 0 where
    pub based : s.base ≤ s.clock
    -- who is outside owns nothing
    pub shut : (n : ℕ) → (s.views n).owned.inside ≡ false → (r : ℕ) → touches (s.views n).owned.held r ≡ false
    -- each entry later than BASE has a time at most the stamp of the record of each address that it wrote
    pub stamped : (a : ℕ) → s.base < last_write s.history a → 2 * last_write s.history a ≤ rank s (home a)
    -- in a free record lies the memory, and in an owned one that under its owner's values;
    -- of what its owner still owes nothing is said
    pub clean : (a v : ℕ) → s.records (home a) ≡ Free v → s.heap a ≡ word_now s.history a
    pub mixed : (a n : ℕ) → s.records (home a) ≡ Taken n → touches (s.views n).owned.back a ≡ false → s.heap a ≡ over (s.views n).owned.in_place a (word_now s.history a)
    pub own : (n : ℕ) → (s.views n).owned.inside ≡ true → Own words s n (s.views n)

-- of the projection of what runs
abbrev pub orec_part : RunProjection → OrecProjection
orec_part s =
    record {
      clock = s.clock;
      base = s.base;
      records = parts rec_of s.records;
      heap = s.heap;
      history = s.history;
      views =
          parts (λ (v : RunView). record { attempt = v.attempt; owned = v.owned; sample = v.sample; check = v.check; front = v.front }) s.views;
    }

abbrev pub OrecRuns : Config → RunProjection → Type 0
OrecRuns c s = OrecRule (home_of c) c.words (orec_part s)

-- the rule while the gate names OrecLazy or OrecEager
abbrev pub OrecWorld : ((ℕ → ℕ) → Type 0) → Config → World → Type 0
OrecWorld good c = RunWorld (OrecRuns c) good c
