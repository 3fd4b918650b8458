-- When each answer of the calls on a range of words comes, and what stands after it.
use Rattle.std.specs.Prelude.{ℕ, ◌≡◌, ◌≢◌, ◌<◌, ◌≤◌, ◌+◌, Bool, true, false, if◌then◌else◌, nat_le, ltb, List, [], ◌∷◌, ◌++◌, length, slice_index, MatchOption}
use Rattle.stm_model.specs.Algorithms.{entry_rise}
use Rattle.stm_model.specs.declared.config.Config.{Config}
use Rattle.stm_model.specs.Histories.{Entry, memory_after, Ascending, IsLegal}
use Rattle.stm_model.specs.Memories.{AreWords, overlay, item_at, is_empty, put}
use Rattle.rule_base.specs.declared.views.TracedStep.{TracedStep}
use Rattle.rule_base.specs.Encodings.{gate_word, fence_number, fenced}
use Rattle.stm_answers.specs.declared.answers.Fence.{Fence}
use Rattle.stm_answers.specs.declared.answers.Fence.TheVariants as fences
use Rattle.stm_answers.specs.declared.answers.Give.{Give}
use Rattle.stm_answers.specs.declared.answers.Give.TheVariants as gives
use Rattle.stm_answers.specs.Answers.{HoldsClosed, entry}
use Rattle.stm_answers.specs.Causes.{FindsFull}
use Rattle.stm_answers.specs.CallerState.{CallerState, Grows, no_log, zeros}

-- the caller goes on holding the gate, and what it knew stands, but what it knew of its range
pub record StaysClosed (v w : CallerState) : Type 0 where
  pub holds : HoldsClosed w
  pub grows : Grows v (record w { fenced = v.fenced })
  pub checked : w.checked ≡ v.checked
  pub alg : w.alg ≡ v.alg
  pub installs : w.installs ≡ v.installs

-- one step more, and nothing that the caller knew changed but what it knew of its range
pub record StaysBeside (v w : CallerState) : Type 0 where
  pub is : w ≡ record v { top = w.top; step_trace = w.step_trace; fenced = w.fenced }
  pub item : TracedStep
  pub step_trace : w.step_trace ≡ item ∷ v.step_trace

-- the address is one of `count` addresses from `from`
abbrev pub is_within : ℕ → ℕ → ℕ → Bool
is_within from count a = if nat_le from a then ltb a (from + count) else false

-- the caller has no range any more
abbrev pub HasNone : CallerState → Type 0
HasNone w = (w.fence ≡ 0) × (w.fenced.held ≡ false)

-- what had been committed as it last took a range is as it was
abbrev pub SameTaken : CallerState → CallerState → Type 0
SameTaken v w = (w.fenced.seen ≡ v.fenced.seen) × (w.fenced.front ≡ v.fenced.front)

-- good is what the user keeps true of memory; c is the memory's configuration, and n the caller
module _ (good : List ℕ → Type 0) (c : Config) (n : ℕ) where
  -- the memory as the caller took its range: that after all that had been committed
  abbrev pub memory_taken : CallerState → List ℕ
  memory_taken v = memory_after v.fenced.seen (zeros c.words)

  -- the range is the caller's from here on. What had been committed, of which it had seen a part, is a legal history.
  pub record TakesRange (from count : ℕ) (v w : CallerState) : Type 0 where
    pub closed : StaysClosed v w
    pub free : v.fence ≡ 0
    pub made : w.made ≡ v.made
    pub rises : w.rises ≡ v.rises
    pub settled : w.settled ≡ v.settled
    pub fence : w.fence ≡ fence_number n from count
    pub range : w.fenced ≡ record v.fenced { held = true; number = fence_number n from count; seen = w.fenced.seen; front = w.fenced.front; log = no_log }
    pub words : (a : ℕ) → fenced w.fenced.number a ≡ is_within from count a
    pub legal : IsLegal good (zeros c.words) c.clock w.fenced.seen
    pub later : List Entry
    pub seen : w.fenced.seen ≡ v.seen ++ later
    pub front : v.front ≤ w.fenced.front

  -- what `fence` tells: Taken comes exactly where the gate has a fence, and changes nothing
  abbrev pub Fences : ℕ → ℕ → Fence → CallerState → CallerState → Type 0
  Fences from count fences.Fenced v w = TakesRange from count v w
  Fences from count (fences.Taken gate) v w = (w ≡ v) × (v.fence ≢ 0) × (gate ≡ gate_word v.fence (1 + n) v.alg)

  -- what `direct_read` of a tells: the caller's last direct write there; where there is none,
  -- the memory as it took the range, which it logs
  pub record ReadsDirect (a x : ℕ) (v w : CallerState) : Type 0 where
    pub stays : StaysBeside v w
    pub range : w.fenced ≡ record v.fenced { log = record v.fenced.log { reads = w.fenced.log.reads } }
    pub value : MatchOption (item_at a v.fenced.log.writes)
        ((x ≡ slice_index (memory_taken v) a) × (w.fenced.log.reads ≡ put a x v.fenced.log.reads))
        (λ y. (x ≡ y) × (w.fenced.log.reads ≡ v.fenced.log.reads))

  -- what `direct_write` of x at a tells
  pub record WritesDirect (a x : ℕ) (v w : CallerState) : Type 0 where
    pub stays : StaysBeside v w
    pub range : w.fenced ≡ record v.fenced { log = record v.fenced.log { writes = put a x v.fenced.log.writes } }

  -- what `give_back` asks where there were direct writes: from every good memory of words with the values that stood in
  -- the range as it was taken, they lead to a good one
  abbrev pub KeepsFenced : CallerState → Type 0
  KeepsFenced v = is_empty v.fenced.log.writes ≡ false → (m : List ℕ) → good m → length m ≡ c.words
      → ((a : ℕ) → fenced v.fenced.number a ≡ true → slice_index m a ≡ slice_index (memory_taken v) a) → AreWords m → good (overlay m v.fenced.log.writes)

  -- the direct reads and writes are one entry of the caller, the latest of a legal history, and the range is back. What
  -- it found as it took the range begins that history, all of which it knows of its range now.
  pub record GivesAt (time : ℕ) (v w : CallerState) : Type 0 where
    pub closed : StaysClosed v w
    pub none : HasNone w
    pub wrote : is_empty v.fenced.log.writes ≡ false
    pub settled : w.settled ≡ true
    pub rises : w.rises ≡ v.rises + entry_rise v.alg
    pub made : w.made ≡ v.made ++ entry time n (length v.made) v.fenced.log ∷ []
    pub before : List Entry
    pub seen : w.seen ≡ before ++ entry time n (length v.made) v.fenced.log ∷ []
    pub legal : IsLegal good (zeros c.words) c.clock w.seen
    pub above : v.front < time
    pub front : w.front ≡ time
    pub since : List Entry
    pub taken : before ≡ v.fenced.seen ++ since
    pub after : Ascending v.fenced.front since × (v.fenced.front < time)
    pub found : (w.fenced.seen ≡ w.seen) × (w.fenced.front ≡ time)

  -- no entry was made, and the clock is as it was
  pub record GivesNothing (v w : CallerState) : Type 0 where
    pub closed : StaysClosed v w
    pub made : w.made ≡ v.made
    pub seen : w.seen ≡ v.seen
    pub front : w.front ≡ v.front
    pub rises : w.rises ≡ v.rises

  -- what `give_back` tells: Unchanged comes exactly where there was no direct write,
  -- and ClockFull leaves the range to the caller
  abbrev pub Gives : Give → CallerState → CallerState → Type 0
  Gives (gives.Committed time) v w = GivesAt time v w
  Gives gives.Unchanged v w = GivesNothing v w × HasNone w × (is_empty v.fenced.log.writes ≡ true) × SameTaken v w
  Gives (gives.ClockFull clock) v w = GivesNothing v w × (w.fence ≡ v.fence) × (w.fenced ≡ v.fenced) × (is_empty v.fenced.log.writes ≡ false) × FindsFull clock v w
