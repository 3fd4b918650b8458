-- What came of attempts at a transaction, by the answers of the calls that they made.
use Rattle.std.specs.Prelude.{ℕ, zero, suc, ◌≡◌, ◌≢◌, ◌+◌, ◌⊎◌, ◌&&◌, ◌||◌, not, leb, Bool, true, false, List, [], ◌∷◌, Option, Some, None}
use Rattle.stm_model.specs.declared.alg.Alg.{Alg}
use Rattle.stm_model.specs.declared.config.Config.{Config}
use Rattle.stm_model.specs.declared.stop.Stop.TheVariants as stops
use Rattle.stm_answers.specs.declared.answers.Begin.TheVariants as begins
use Rattle.stm_answers.specs.declared.answers.Commit.TheVariants as commits
use Rattle.stm_answers.specs.declared.answers.Irrev.TheVariants as grants
use Rattle.stm_answers.specs.Answers.{Begins, Commits, Irrevs, Stops}
use Rattle.stm_answers.specs.CallerState.{CallerState, Grows}
use Rattle.tx_atomic.specs.declared.tally.Ended.{Ended}
use Rattle.tx_atomic.specs.declared.tally.Ended.TheVariants as ends
use Rattle.tx_atomic.specs.Accounts.{Account, ended_in, met_times, promoted_in, told}
use Rattle.tx_atomic.specs.Lengths.{Lengthens}

-- one attempt: whether it was to be irrevocable before it did anything, how often that found another in an attempt, how
-- often another was faster at its commit, and how it ended, None where it committed;
-- and the address of the read or write that was refused
pub record Try : Type 0 where
  pub irrevocable : Bool
  pub busy : ℕ
  pub again : ℕ
  pub ended : Option Ended
  pub at : Option ℕ

-- one of a run of attempts, and whether a log was lengthened after it, before the next
pub record Round : Type 0 where
  pub attempt : Try
  pub lengthened : Bool

abbrev pub has_committed : Option Ended → Bool
has_committed None = true
has_committed (Some e) = false

-- a log had its length; another was in the way of an attempt that had begun
abbrev pub ran_full : Option Ended → Bool
ran_full (Some ends.Full) = true
ran_full e = false

abbrev pub was_crossed : Option Ended → ℕ
was_crossed (Some (ends.Conflict cause)) = 1
was_crossed (Some ends.Busy) = 1
was_crossed (Some ends.Taken) = 1
was_crossed (Some ends.Again) = 1
was_crossed (Some ends.ClockFull) = 1
was_crossed e = 0

-- a log had its length, and none was lengthened after it
abbrev pub stays_short : Round → Bool
stays_short x = ran_full x.attempt.ended && not x.lengthened

abbrev pub any_short : List Round → Bool
any_short [] = false
any_short (x ∷ xs) = stays_short x || any_short xs

abbrev pub crossed : List Round → ℕ
crossed [] = 0
crossed (x ∷ xs) = was_crossed x.attempt.ended + crossed xs

-- after these the next one is to be irrevocable before it does anything: a log had its length and none could be
-- lengthened, or sixteen that had begun were refused
abbrev pub is_due : List Round → Bool
is_due xs = any_short xs || leb 16 (crossed xs)

-- after an attempt that ended so, and before the next: a log was lengthened, where one had its length; else nothing
-- changed
abbrev pub Prepares : ℕ → Bool → Option Ended → CallerState → CallerState → Type 0
Prepares most true ended v w = (ran_full ended ≡ true) × Lengthens most v w
Prepares most false ended v w = w ≡ v

-- the account after an attempt, which was promoted where it was to be irrevocable and committed: `tried` has all but
-- the count of its end, which `counted` adds
module _ {H : Type 0} (hears : Ended → Option ℕ → H → H) where
  abbrev pub tried : Try → Account H → Account H
  tried x a = told hears x.ended x.at (met_times hears x.again ends.Again (promoted_in (x.irrevocable && has_committed x.ended) (met_times hears x.busy ends.Busy a)))

  abbrev pub counted : Try → Account H → Account H
  counted x a = ended_in x.ended (tried x a)

  -- after attempts, of which the latest stands first
  abbrev pub counted_all : List Round → Account H → Account H
  counted_all [] a = a
  counted_all (x ∷ xs) a = counted x.attempt (counted_all xs a)

-- good is what the user keeps true of memory; c is the memory's configuration, and n the caller
module _ (good : List ℕ → Type 0) (c : Config) (n : ℕ) where
  -- the attempt that was to begin didn't
  abbrev pub EndsBegin : Ended → CallerState → CallerState → Type 0
  EndsBegin ends.Closed v w = (gate : ℕ) × Begins good c n (begins.Closed gate) v w
  EndsBegin ends.Held v w = (word : ℕ) × Begins good c n (begins.Held word) v w
  EndsBegin ends.Fenced v w = (begun : CallerState) × (alg : Alg) × Begins good c n (begins.Begun alg) v begun × (begun.fence ≢ 0) × Grows begun w
  EndsBegin ends.ClockFull v w = (clock : ℕ) × Begins good c n (begins.ClockFull clock) v w
  EndsBegin e v w = ⊥

  -- a call to be irrevocable was refused, and with it the attempt
  abbrev pub EndsPromotion : Ended → CallerState → CallerState → Type 0
  EndsPromotion (ends.Conflict cause) v w = Irrevs good c n (grants.Conflict cause) v w
  EndsPromotion ends.Taken v w = (asked : CallerState) × (gate : ℕ) × Irrevs good c n (grants.Taken gate) v asked × Grows asked w
  EndsPromotion ends.ClockFull v w = (clock : ℕ) × Irrevs good c n (grants.ClockFull clock) v w
  EndsPromotion e v w = ⊥

  -- a read or a write at a was
  abbrev pub EndsAccess : ℕ → Ended → CallerState → CallerState → Type 0
  EndsAccess a (ends.Conflict cause) v w = Stops good c n a (stops.Conflict cause) v w
  EndsAccess a ends.Full v w = (limit : ℕ) × Stops good c n a (stops.Full limit) v w
  EndsAccess a ends.ClockFull v w = (clock : ℕ) × Stops good c n a (stops.ClockFull clock) v w
  EndsAccess a e v w = ⊥

  -- a commit was
  abbrev pub EndsCommit : Ended → CallerState → CallerState → Type 0
  EndsCommit (ends.Conflict cause) v w = Commits good c n (commits.Conflict cause) v w
  EndsCommit ends.ClockFull v w = (clock : ℕ) × Commits good c n (commits.ClockFull clock) v w
  EndsCommit e v w = ⊥

  -- the last call of an attempt that ran: it committed, or its commit was refused, or a read or a write at that address
  abbrev pub EndsRun : Option ℕ → Option Ended → CallerState → CallerState → Type 0
  EndsRun None None v w = (time : ℕ) × (Commits good c n (commits.Committed time) v w ⊎ Commits good c n (commits.ReadOnly time) v w)
  EndsRun None (Some e) v w = EndsCommit e v w
  EndsRun (Some a) None v w = ⊥
  EndsRun (Some a) (Some e) v w = EndsAccess a e v w

  -- so many calls, one after the other: each asked to be irrevocable and found another in an attempt;
  -- each asked to commit and another was faster
  abbrev pub FindsBusy : ℕ → CallerState → CallerState → Type 0
  FindsBusy zero u w = w ≡ u
  FindsBusy (suc k) u w = (v : CallerState) × FindsBusy k u v × (caller : ℕ) × (status : ℕ) × Irrevs good c n (grants.Busy caller status) v w

  abbrev pub FindsAgain : ℕ → CallerState → CallerState → Type 0
  FindsAgain zero u w = w ≡ u
  FindsAgain (suc k) u w = (v : CallerState) × FindsAgain k u v × (word : ℕ) × (had : ℕ) × (now : ℕ) × Commits good c n (commits.Again word had now) v w

  -- an attempt began
  abbrev pub HasBegun : CallerState → CallerState → Type 0
  HasBegun v w = (alg : Alg) × Begins good c n (begins.Begun alg) v w

  -- where it was to be irrevocable, that was granted by the last of its calls for it; else it made none
  abbrev pub IsGranted : Bool → ℕ → CallerState → CallerState → Type 0
  IsGranted true busy v w = (asked : CallerState) × FindsBusy busy v asked × Irrevs good c n grants.Granted asked w
  IsGranted false busy v w = (busy ≡ 0) × (w ≡ v)

  -- the attempt from u to w did not begin
  pub record WasUnbegun (x : Try) (u w : CallerState) : Type 0 where
    pub busy : x.busy ≡ 0
    pub again : x.again ≡ 0
    pub at : x.at ≡ None
    pub ended : Ended
    pub is : x.ended ≡ Some ended
    pub last : EndsBegin ended u w

  -- it began, asked to be irrevocable before it did anything, and was refused
  pub record WasUngranted (x : Try) (u w : CallerState) : Type 0 where
    pub irrevocable : x.irrevocable ≡ true
    pub begun : CallerState
    pub begins : HasBegun u begun
    pub asked : CallerState
    pub busy : FindsBusy x.busy begun asked
    pub again : x.again ≡ 0
    pub at : x.at ≡ None
    pub ended : Ended
    pub is : x.ended ≡ Some ended
    pub last : EndsPromotion ended asked w

  -- it began, was made irrevocable where it was to be, went on, asked to commit, and ended by its last call: by a
  -- commit where it was irrevocable
  pub record HasRun (x : Try) (u w : CallerState) : Type 0 where
    pub begun : CallerState
    pub begins : HasBegun u begun
    pub opened : CallerState
    pub granted : IsGranted x.irrevocable x.busy begun opened
    pub acted : CallerState
    pub acts : Grows opened acted
    pub before : CallerState
    pub again : FindsAgain x.again acted before
    pub last : EndsRun x.at x.ended before w
    pub irrevocable : x.irrevocable ≡ true → has_committed x.ended ≡ true

  abbrev pub WasTried : Try → CallerState → CallerState → Type 0
  WasTried x u w = WasUnbegun x u w ⊎ (WasUngranted x u w ⊎ HasRun x u w)

  -- attempts from u to w, one after the other, the latest first:
  -- each was to be irrevocable where those before it say so
  abbrev pub WereTried : ℕ → List Round → CallerState → CallerState → Type 0
  WereTried most [] u w = w ≡ u
  WereTried most (x ∷ xs) u w =
      (v : CallerState) × WereTried most xs u v × (over : CallerState) × WasTried x.attempt v over × (x.attempt.irrevocable ≡ is_due xs)
      × Prepares most x.lengthened x.attempt.ended over w

  -- all failed, and none for the clock
  abbrev pub AllFailed : List Round → Type 0
  AllFailed [] = Unit {0}
  AllFailed (x ∷ xs) = ((e : Ended) × (x.attempt.ended ≡ Some e) × (e ≢ ends.ClockFull)) × AllFailed xs

  -- the last one ended so, and all before it failed, none for the clock
  abbrev pub LastEnded : Option Ended → List Round → Type 0
  LastEnded last [] = ⊥
  LastEnded last (x ∷ xs) = (x.attempt.ended ≡ last) × AllFailed xs

  module _ {H : Type 0} (hears : Ended → Option ℕ → H → H) where
    -- one attempt, and what is kept after its calls
    pub record Tried (irrevocable : Bool) (ended : Option Ended) (u w : CallerState) (s t : Account H) : Type 0 where
      pub busy : ℕ
      pub again : ℕ
      pub at : Option ℕ
      pub was : WasTried (record { irrevocable = irrevocable; busy = busy; again = again; ended = ended; at = at }) u w
      pub counted : t ≡ tried hears (record { irrevocable = irrevocable; busy = busy; again = again; ended = ended; at = at }) s

    -- a run of attempts from u to w of which the last ended so, and what is kept after it:
    -- each call that was refused is told and counted once
    pub record Ran (last : Option Ended) (u w : CallerState) (s t : Account H) : Type 0 where
      pub tries : List Round
      pub were : WereTried s.most tries u w
      pub ended : LastEnded last tries
      pub counted : t ≡ counted_all hears tries s

    -- attempts that failed, with the count of those that another was in the way of
    pub record Failing (failed : ℕ) (u w : CallerState) (s t : Account H) : Type 0 where
      pub tries : List Round
      pub were : WereTried s.most tries u w
      pub all : AllFailed tries
      pub counted : t ≡ counted_all hears tries s
      pub due : leb 16 failed ≡ is_due tries
      pub low : is_due tries ≡ false → failed ≡ crossed tries

    -- so many runs from u to w, one after the other, each of which committed, and what is kept after them
    abbrev pub HaveRun : ℕ → CallerState → CallerState → Account H → Account H → Type 0
    HaveRun zero u w s t = (w ≡ u) × (t ≡ s)
    HaveRun (suc k) u w s t = (v : CallerState) × (r : Account H) × HaveRun k u v s r × Ran None v w r t

    -- so many runs that committed, and after them one of which the last attempt ended so
    pub record RanAgain (last : Option Ended) (u w : CallerState) (s t : Account H) : Type 0 where
      pub before : ℕ
      pub since : CallerState
      pub account : Account H
      pub runs : HaveRun before u since s account
      pub ran : Ran last since w account t

    -- an attempt began, and was made irrevocable where it was to be
    pub record Opens (irrevocable : Bool) (u w : CallerState) (s t : Account H) : Type 0 where
      pub busy : ℕ
      pub begun : CallerState
      pub begins : HasBegun u begun
      pub granted : IsGranted irrevocable busy begun w
      pub counted : t ≡ promoted_in irrevocable (met_times hears busy ends.Busy s)

    -- it asked to be irrevocable, and the last such call granted that or ended it
    abbrev pub AsksBy : Option Ended → CallerState → CallerState → Type 0
    AsksBy None v w = Irrevs good c n grants.Granted v w
    AsksBy (Some e) v w = EndsPromotion e v w

    pub record Asks (ended : Option Ended) (u w : CallerState) (s t : Account H) : Type 0 where
      pub busy : ℕ
      pub asked : CallerState
      pub waits : FindsBusy busy u asked
      pub last : AsksBy ended asked w
      pub counted : t ≡ told hears ended None (promoted_in (has_committed ended) (met_times hears busy ends.Busy s))

    -- it didn't begin
    pub record IsTurnedBack (e : Ended) (u w : CallerState) (s t : Account H) : Type 0 where
      pub last : EndsBegin e u w
      pub counted : t ≡ told hears (Some e) None s

    -- what it did was refused
    pub record IsStopped (e : Ended) (u w : CallerState) (s t : Account H) : Type 0 where
      pub before : CallerState
      pub goes : Grows u before
      pub at : ℕ
      pub last : EndsAccess at e before w
      pub counted : t ≡ told hears (Some e) (Some at) s

    -- it asked to commit, and the last such call did or ended it
    pub record Finishes (ended : Option Ended) (u w : CallerState) (s t : Account H) : Type 0 where
      pub again : ℕ
      pub before : CallerState
      pub waits : FindsAgain again u before
      pub last : EndsRun None ended before w
      pub counted : t ≡ told hears ended None (met_times hears again ends.Again s)

    -- it did what it does, and asked to commit; or what it did was refused
    pub record Runs (ended : Option Ended) (u w : CallerState) (s t : Account H) : Type 0 where
      pub acted : CallerState
      pub acts : Grows u acted
      pub again : ℕ
      pub before : CallerState
      pub waits : FindsAgain again acted before
      pub at : Option ℕ
      pub last : EndsRun at ended before w
      pub counted : t ≡ told hears ended at (met_times hears again ends.Again s)
