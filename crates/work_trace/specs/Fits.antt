-- WHAT A TRACE IS: which lines are the trace of a workload, and which rows they tell.
use Rattle.std.specs.Prelude.{ℕ, ◌≡◌, ◌<◌, ◌≤◌, ◌⊎◌, false, Some, None, List, [], ◌∷◌, ◌++◌, length, map, replicate, All, slice_index_or, slice_set, IsPermutation}
use Rattle.stm_model.specs.declared.alg.Alg.TheVariants.{Cgl}
use Rattle.work_profile.specs.declared.policy.Policy.TheVariants.{Fixed}
use Rattle.work_script.specs.declared.report.Report.{Report}
use Rattle.work_script.specs.declared.report.Row.{Row}
use Rattle.work_script.specs.declared.workload.Go.{Go}
use Rattle.work_script.specs.declared.workload.Header.{Header}
use Rattle.work_script.specs.declared.workload.Workload.{Workload}
use Rattle.work_script.specs.Reports.{counted}
use Rattle.work_trace.specs.Adapting.{no_profile, policy_for}
use Rattle.work_trace.specs.declared.line.Line.{Line}
use Rattle.work_trace.specs.declared.line.Line.TheVariants.{Of, Finish}
use Rattle.work_trace.specs.declared.said.Phase.TheVariants.{Between}
use Rattle.work_trace.specs.declared.said.Said.{Said}
use Rattle.work_trace.specs.Places.{CallerProgress, after, clock_of, items_of}
use Rattle.work_trace.specs.Turns.{MaySay, MayWind, MayFinish, IsFair, IsOver}

-- where a caller stands at first: it switches where the text says so, and caller 0 by the text's policy
abbrev pub first_place : Workload → ℕ → CallerProgress
first_place w n =
    record {
      caller = n;
      left = items_of n w.items;
      failed = 0;
      must = false;
      phase = Between;
      alg = w.header.alg;
      rest = [];
      replies = [];
      emits = [];
      wrote = false;
      granted = false;
      rows = [];
      policy = policy_for w.header.policy n;
      profile = no_profile;
      chosen = None;
      reads_limit = w.header.reads;
      writes_limit = w.header.writes;
    }

abbrev pub first_places : Workload → List CallerProgress
first_places w = map (first_place w) (counted 0 w.header.callers)

abbrev pub no_place : CallerProgress
no_place =
    record {
      caller = 0;
      left = [];
      failed = 0;
      must = false;
      phase = Between;
      alg = Cgl;
      rest = [];
      replies = [];
      emits = [];
      wrote = false;
      granted = false;
      rows = [];
      policy = Fixed;
      profile = no_profile;
      chosen = None;
      reads_limit = 1;
      writes_limit = 1;
    }

abbrev pub place_of : List CallerProgress → ℕ → CallerProgress
place_of places n = slice_index_or places n no_place

-- the caller says this: its place is the one after it, and the others stand
abbrev pub says : List CallerProgress → ℕ → Said → List CallerProgress
says places n said = slice_set places n (after (place_of places n) said)

-- whose turns the lines are
abbrev pub callers : List Line → List ℕ
callers [] = []
callers (Of n said ∷ lines) = n ∷ callers lines
callers (Finish ∷ lines) = callers lines

-- whose turns a schedule has
abbrev pub turns : List Go → List ℕ
turns [] = []
turns (go ∷ gos) = replicate go.turns go.caller ++ turns gos

-- ascending, from low on
abbrev pub Rising : ℕ → List ℕ → Type 0
Rising low [] = Unit {0}
Rising low (n ∷ ns) = (low ≤ n) × Rising n ns

-- no line tells of a full clock
abbrev pub IsCalm : List Line → Type 0
IsCalm [] = Unit {0}
IsCalm (Of n said ∷ lines) = (clock_of said ≡ None) × IsCalm lines
IsCalm (Finish ∷ lines) = IsCalm lines

-- nothing is left to the callers below n
abbrev pub AreOverBelow : ℕ → List CallerProgress → Type 0
AreOverBelow n places = (k : ℕ) → k < n → IsOver (place_of places k)

-- the rows that the callers have
abbrev pub all_told : List CallerProgress → List Row
all_told [] = []
all_told (at ∷ places) = at.rows ++ all_told places

-- h is the workload's header
module _ (h : Header) where
  -- each line may come where its caller stands, as the lines before it tell, with fair numbers;
  -- after them the callers stand at last
  abbrev pub Path : (CallerProgress → Said → Type 0) → List CallerProgress → List Line → List CallerProgress → Type 0
  Path may places [] last = places ≡ last
  Path may places (Of n said ∷ lines) last = (n < length places) × may (place_of places n) said × IsFair h (place_of places n) said × Path may (says places n said) lines last
  Path may places (Finish ∷ lines) last = ⊥

  -- in the schedule: the lines are its first turns
  pub record Scheduled (start : List CallerProgress) (schedule : List Go) (lines : List Line) (now : List CallerProgress) : Type 0 where
    pub path : Path MaySay start lines now
    pub later : List ℕ
    pub order : callers lines ++ later ≡ turns schedule

  -- after it, while attempts and closings end, each caller's in turn
  pub record Winding (start : List CallerProgress) (schedule : List Go) (lines : List Line) (now : List CallerProgress) : Type 0 where
    pub first : List Line
    pub second : List Line
    pub parts : lines ≡ first ++ (Finish ∷ second)
    pub middle : List CallerProgress
    pub played : Path MaySay start first middle
    pub order : callers first ≡ turns schedule
    pub path : Path MayWind middle second now
    pub rises : Rising 0 (callers second)

  -- no attempt and no closing is open, and each caller in turn goes on until nothing is left
  pub record Finishing (start : List CallerProgress) (schedule : List Go) (lines : List Line) (now : List CallerProgress) : Type 0 where
    pub first : List Line
    pub second : List Line
    pub parts : lines ≡ first ++ second
    pub middle : List CallerProgress
    pub wound : Winding start schedule first middle
    pub closed : All (λ (at : CallerProgress). at.phase ≡ Between) middle
    pub path : Path MayFinish middle second now
    pub rises : Rising 0 (callers second)

  -- the lines are those of a schedule and its end, and the rows those that they tell, in some order
  pub record IsWhole (start : List CallerProgress) (schedule : List Go) (lines : List Line) (rows : List Row) : Type 0 where
    pub calm : IsCalm lines
    pub now : List CallerProgress
    pub finished : Finishing start schedule lines now
    pub over : All IsOver now
    pub told : IsPermutation (all_told now) rows

  -- the last line, and no other, tells of a full clock: this one. It is a turn of the schedule, or one of the turns to
  -- the end, and then nothing is left to the callers below
  pub record IsCut (start : List CallerProgress) (schedule : List Go) (lines : List Line) (clock : ℕ) : Type 0 where
    pub before : List Line
    pub caller : ℕ
    pub said : Said
    pub parts : lines ≡ before ++ Of caller said ∷ []
    pub calm : IsCalm before
    pub full : clock_of said ≡ Some clock
    pub now : List CallerProgress
    pub reached : Scheduled start schedule lines now ⊎ (Finishing start schedule lines now × AreOverBelow caller now)

-- THE TRACE FITS the workload and its report
abbrev pub TraceFits : Workload → List Line → Report → Type 0
TraceFits w lines report = IsWhole w.header (first_places w) w.schedule lines report.rows

-- the trace fits the workload up to a clock that was found full
abbrev pub TraceFitsSoFar : Workload → List Line → ℕ → Type 0
TraceFitsSoFar w lines clock = IsCut w.header (first_places w) w.schedule lines clock
