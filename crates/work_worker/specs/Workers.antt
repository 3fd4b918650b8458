-- What a worker keeps, and what a turn does.
use Rattle.std.specs.Prelude.{ℕ, ◌≡◌, ◌<◌, ◌≤◌, ◌+◌, ◌^◌, ◌&&◌, not, Bool, true, false, List, [], ◌∷◌, ◌++◌, length, drop, Contains, Option, Some, None, MatchOption, vec_capacity, vec_len}
use Rattle.rule_base.specs.declared.layout.At.TheVariants.{Clock}
use Rattle.rule_base.specs.declared.views.Act.{Act}
use Rattle.stm_model.specs.Histories.{Entry}
use Rattle.stm_model.specs.declared.alg.Alg.{Alg}
use Rattle.work_profile.specs.declared.outcome.Outcome.{Outcome}
use Rattle.work_profile.specs.declared.outcome.Outcome.TheVariants as outcomes
use Rattle.work_profile.specs.declared.policy.Policy.{Policy}
use Rattle.work_profile.specs.Profiles.{with_outcome}
use Rattle.stm_model.specs.declared.config.Config.{Config}
use Rattle.stm_model.specs.declared.config.TheConstants.{MAX_LOG}
use Rattle.stm_model.specs.declared.stop.Stop.{Stop}
use Rattle.stm_model.specs.declared.stop.Stop.TheVariants as stops
use Rattle.data_regions.specs.declared.region.Region.{Region}
use Rattle.work_script.specs.declared.report.Kind.{Kind}
use Rattle.work_script.specs.declared.report.Row.{Row}
use Rattle.work_script.specs.declared.workload.Header.{Header}
use Rattle.work_script.specs.declared.workload.Item.{Item}
use Rattle.work_script.specs.declared.workload.Item.TheVariants.{Tx, Switch, Reserve}
use Rattle.work_script.specs.GrowthLaws.{Grew}
use Rattle.work_script.specs.Keeping.{ScriptKeeps}
use Rattle.work_script.specs.Operations.{ScriptFits}
use Rattle.work_script.specs.Outputs.{Output}
use Rattle.work_script.specs.Parts.{Worked}
use Rattle.work_script.specs.Reports.{scripts_of, script_of, zeros}
use Rattle.stm_rule.specs.Callers.{Handle, IsOf, IsSameCaller}
use Rattle.stm_rule.specs.declared.stm.Stm.{Stm}
use Rattle.stm_answers.specs.Answers.{HoldsClosed, SeesQuiet}
use Rattle.stm_answers.specs.CallerState.{CallerState, IsIdle, IsUnrolled, caller_of, owed}
use Rattle.stm_tx.specs.Descs.{known}
use Rattle.work_trace.specs.declared.said.Phase.{Phase}
use Rattle.work_trace.specs.declared.said.Phase.TheVariants.{Between, Inside, Closing, Quiet}
use Rattle.work_trace.specs.declared.said.Said.{Said}
use Rattle.work_trace.specs.Adapting.{asked_by, no_profile}
use Rattle.work_trace.specs.Places.{CallerProgress, after, clock_of, ended, failed_next, must_next, most_failed, recorded, rest_of, script_at, irrevocable}
use Rattle.work_trace.specs.Turns.{BeforeTx, Lengthens, MustSwitch, HasSizes, IsFair}
use Rattle.work_worker.specs.declared.worker.Worker.{Worker}
use Rattle.work_worker.specs.Goings.{Going}
use Rattle.work_worker.specs.Courses.{IsUncut, Knows, Went, all_installed, installed, is_cut}
use Rattle.work_worker.specs.Tellings.{Tells}

abbrev pub place_of : {K : Type 0} → Worker K → CallerProgress
place_of w =
    record {
      caller = caller_of w.desc.who.role;
      left = w.items_left.now;
      failed = w.failed;
      must = w.must;
      phase = w.phase;
      alg = w.alg;
      rest = w.operations_left.now;
      replies = w.out.replies;
      emits = w.out.emits;
      wrote = w.wrote;
      granted = w.granted;
      rows = w.rows.items;
      policy = w.policy;
      profile = w.profile;
      chosen = w.chosen;
      reads_limit = (known w.desc).reads_limit;
      writes_limit = (known w.desc).writes_limit;
    }

-- the descriptor of caller n is idle, in an attempt, or holds the gate
abbrev pub IsAt : (List ℕ → Type 0) → Config → ℕ → Phase → CallerState → Type 0
IsAt good c n Between v = IsIdle v
IsAt good c n Inside v = v.running ≡ true
IsAt good c n Closing v = HoldsClosed v
IsAt good c n Quiet v = HoldsClosed v × SeesQuiet good c n v

-- a step found the clock to be this
abbrev pub Loaded : CallerState → ℕ → Type 0
Loaded v clock = (act : Act) × Contains v.step_trace (record { place = Clock; act = act; found = Some clock })

abbrev pub WhenInside : Phase → Type 0 → Type 0
WhenInside Between P = Unit {0}
WhenInside Inside P = P
WhenInside Closing P = Unit {0}
WhenInside Quiet P = Unit {0}

-- who closes the gate has a switch to do
abbrev pub ToSwitch : Phase → Option Alg → List Item → Type 0
ToSwitch Between chosen left = Unit {0}
ToSwitch Inside chosen left = Unit {0}
ToSwitch Closing chosen left = MustSwitch chosen left
ToSwitch Quiet chosen left = MustSwitch chosen left

-- the length of a log
abbrev pub IsLength : ℕ → Type 0
IsLength n = (1 ≤ n) × (n ≤ MAX_LOG)

-- the items of caller n: each script fits and keeps the rule on memories
abbrev pub ItemsFit : (List ℕ → Type 0) → ℕ → List Region → ℕ → List Item → Type 0
ItemsFit good words regions n [] = Unit {0}
ItemsFit good words regions n (Tx caller script ∷ items) = (caller ≡ n) × ScriptFits regions words script × ScriptKeeps good words regions script × ItemsFit good words regions n items
ItemsFit good words regions n (Switch caller alg ∷ items) = (caller ≡ n) × ItemsFit good words regions n items
ItemsFit good words regions n (Reserve caller reads writes ∷ items) = (caller ≡ n) × IsLength reads × IsLength writes × ItemsFit good words regions n items

-- these are the last of all its items: the ones before them are done
abbrev pub DidFirst : List Item → List Item → Type 0
DidFirst all left = (first : List Item) × (all ≡ first ++ left)

-- the caller's rows and what it knows: each row is what its script does
abbrev pub Works : (List ℕ → Type 0) → ℕ → List Region → List Item → ℕ → CallerState → List Row → Type 0
Works good words regions all n v rows = Worked good (zeros words) regions (script_of all) n v.made v.seen v.front rows

-- the same in an open attempt, from what the caller knew when it began
pub record WorksSince (good : List ℕ → Type 0) (words : ℕ) (regions : List Region) (all : List Item) (n : ℕ) (v : CallerState) (rows : List Row) : Type 0 where
  pub seen : List Entry
  pub front : ℕ
  pub works : Worked good (zeros words) regions (script_of all) n v.made seen front rows
  pub grew : Grew seen front v.seen v.front
  pub fresh : front ≤ v.start

abbrev pub Stands : (List ℕ → Type 0) → ℕ → List Region → List Item → ℕ → CallerState → List Row → Phase → Type 0
Stands good words regions all n v rows Between = Works good words regions all n v rows
Stands good words regions all n v rows Inside = WorksSince good words regions all n v rows
Stands good words regions all n v rows Closing = Works good words regions all n v rows
Stands good words regions all n v rows Quiet = Works good words regions all n v rows

-- the logs have the lengths of the memory's configuration
abbrev pub HasLengths : Config → CallerState → Type 0
HasLengths c v = (v.reads_limit ≡ c.reads) × (v.writes_limit ≡ c.writes)

-- attempts are counted until the next one must become irrevocable
abbrev pub IsCounted : ℕ → Bool → Type 0
IsCounted failed must = must ≡ false → failed < most_failed

abbrev pub cleared : Output → Output
cleared o = record o { replies = []; emits = [] }

abbrev pub blank : ℕ → Output
blank room = record { replies = []; emits = []; room = room }

-- empty room for each script to come, the next one's last, and nothing after the last script
abbrev pub spares : List Item → List Output
spares [] = blank 0 ∷ []
spares (Tx caller script ∷ items) = spares items ++ blank (length script) ∷ []
spares (Switch caller alg ∷ items) = spares items
spares (Reserve caller reads writes ∷ items) = spares items

-- the room for the replies and rows to come is there
pub record Roomy {K : Type 0} (w : Worker K) : Type 0 where
  pub spare : w.spare.items ++ cleared w.out ∷ [] ≡ spares w.items_left.now
  pub rows : vec_len w.rows + length w.spare.items ≤ vec_capacity w.rows

-- the same caller, with the same items to do
pub record IsKept {K : Type 0} (v w : Worker K) : Type 0 where
  pub same : IsSameCaller v.desc w.desc
  pub all : w.all.now ≡ v.all.now
  pub regions : w.regions.now ≡ v.regions.now
  pub policy : w.policy ≡ v.policy

-- the same caller later: it took turns, and installed what they say.
-- cut: whether an attempt may have been cancelled as a schedule was over
pub record IsSame {K : Type 0} (cut : Bool) (v w : Worker K) : Type 0 where
  pub kept : IsKept v w
  pub course : List Said
  pub went : (h : Header) → HasSizes v.desc.who.config h → Went h (place_of v) course (place_of w)
  pub uncut : cut ≡ false → IsUncut course
  pub installs : (known w.desc).installs ≡ (known v.desc).installs ++ all_installed course
  -- who is alone runs under what it installed last
  pub alone : v.desc.who.config.callers ≡ 1 → Knows (known v.desc).alg course (known w.desc).alg

-- nothing is done, and there is room for all; alg is the memory's algorithm at the start
pub record IsFreshWorker {K : Type 0} (desc : Handle K) (items : List Item) (regions : List Region) (alg : Alg) (policy : Policy) (w : Worker K) : Type 0 where
  pub is_desc : w.desc ≡ desc
  pub all : w.all.now ≡ items
  pub at : place_of w
      ≡ record {
        caller = caller_of desc.who.role;
        left = items;
        failed = 0;
        must = false;
        phase = Between;
        alg = alg;
        rest = [];
        replies = [];
        emits = [];
        wrote = false;
        granted = false;
        rows = [];
        policy = policy;
        profile = no_profile;
        chosen = None;
        reads_limit = (known desc).reads_limit;
        writes_limit = (known desc).writes_limit;
      }
  pub over : w.regions.now ≡ regions
  pub roomy : Roomy w

-- the row is written, and the next replies begin
pub record WroteRow {K : Type 0} (kind : Kind) (time : ℕ) (v w : Worker K) : Type 0 where
  pub at : place_of w ≡ recorded kind time (place_of v)
  pub desc : w.desc ≡ v.desc
  pub all : w.all.now ≡ v.all.now
  pub regions : w.regions.now ≡ v.regions.now
  pub roomy : Roomy w

-- and the policy is asked
pub record EndsWith {K : Type 0} (kind : Kind) (time : ℕ) (v w : Worker K) : Type 0 where
  pub at : place_of w ≡ ended kind time (place_of v)
  pub desc : w.desc ≡ v.desc
  pub all : w.all.now ≡ v.all.now
  pub regions : w.regions.now ≡ v.regions.now
  pub roomy : Roomy w

-- the attempt has ended without a row
abbrev pub gave_up : {K : Type 0} → Worker K → Worker K
gave_up w = record w { phase = Between; out = cleared w.out }

-- and what it came to is noted
abbrev pub gave_up_as : {K : Type 0} → Outcome → Worker K → Worker K
gave_up_as outcome w = record w { phase = Between; out = cleared w.out; profile = with_outcome w.profile outcome }

-- since another caller was in its way
abbrev pub made_way : {K : Type 0} → Outcome → Worker K → Worker K
made_way outcome w = record w { phase = Between; out = cleared w.out; failed = failed_next w.must w.failed; must = must_next w.must w.failed; profile = with_outcome w.profile outcome }

-- by why it was stopped
abbrev pub stopped_by : {K : Type 0} → Stop → Worker K → Worker K
stopped_by (stops.Conflict cause) w = made_way outcomes.Conflict w
stopped_by (stops.Full limit) w = record w { phase = Between; out = cleared w.out; must = true; profile = with_outcome w.profile outcomes.Full }
stopped_by (stops.ClockFull clock) w = gave_up w

-- the last attempt of a transaction is noted, and the policy asked
abbrev pub adapted : {K : Type 0} → Outcome → Worker K → Worker K
adapted outcome w = record w { profile = with_outcome w.profile outcome; chosen = asked_by w.policy (with_outcome w.profile outcome) w.alg }

-- the operation `irrev` is done, which was granted
pub record DoneIrrev {K : Type 0} (v w : Worker K) : Type 0 where
  pub left : w.operations_left.now ≡ rest_of v.operations_left.now
  pub told : w.out ≡ record v.out { replies = v.out.replies ++ 1 ∷ [] }
  pub is : w ≡ record v { operations_left = w.operations_left; out = w.out; granted = true }

-- an open attempt: where it is in the middle of its commit its script is over;
-- where it must become irrevocable and is not yet, it has done nothing
pub record IsUnderWay {K : Type 0} (good : List ℕ → Type 0) (words : ℕ) (w : Worker K) : Type 0 where
  pub going : Going good words w.regions.now (script_at w.items_left.now) w.operations_left.now (known w.desc) w.alg w.granted w.out w.wrote
  pub here : BeforeTx w.items_left.now
  -- no range of words is out of the transactions
  pub unfenced : (known w.desc).fence ≡ 0
  -- it was not rolled back: where it wrote nothing, it keeps nothing
  pub unrolled : IsUnrolled (known w.desc)
  pub committing : (known w.desc).committing ≡ true → (w.operations_left.now ≡ []) × ((w.must && not (irrevocable (place_of w))) ≡ false)
  pub waits : w.must ≡ true → irrevocable (place_of w) ≡ false → w.wrote ≡ false

module _ {K : Type 0} (good : List ℕ → Type 0) (stm : Stm K) where
  pub record Sound (w : Worker K) : Type 0 where
    pub own : IsOf w.desc stm
    pub at : IsAt good stm.config (caller_of w.desc.who.role) w.phase (known w.desc)
    pub stands : Stands good stm.config.words w.regions.now w.all.now (caller_of w.desc.who.role) (known w.desc) w.rows.items w.phase
    pub done : DidFirst w.all.now w.items_left.now
    pub todo : scripts_of (caller_of w.desc.who.role) w.items_left.now ≡ drop (length w.rows.items) (scripts_of (caller_of w.desc.who.role) w.all.now)
    pub within : length w.rows.items ≤ length (scripts_of (caller_of w.desc.who.role) w.all.now)
    pub counted : IsCounted w.failed w.must
    pub fits : ItemsFit good stm.config.words w.regions.now (caller_of w.desc.who.role) w.items_left.now
    pub roomy : Roomy w
    pub turning : ToSwitch w.phase w.chosen w.items_left.now
    -- the memory takes no fences
    pub plain : stm.config.fence ≡ false
    pub under_way : WhenInside w.phase (IsUnderWay good stm.config.words w)

  -- a turn says what may come at its place, tells what its call found, by the numbers that its cause allows,
  -- and leads where that leads
  pub record Turned (may : CallerProgress → Said → Type 0) (v : Worker K) (said : Said) (w : Worker K) : Type 0 where
    pub sound : Sound w
    pub here : may (place_of v) said
    pub told : Tells good stm.config (caller_of v.desc.who.role) said (known v.desc) (known w.desc)
    pub now : place_of w ≡ after (place_of v) said
    pub same : IsSame (is_cut said) v w
    -- what follows of it: the numbers of its line, the clock's rises (by the attempt and not by the turn), the clock
    -- that was found full, and what was installed
    pub fair : (h : Header) → HasSizes stm.config h → IsFair h (place_of v) said
    pub owes : owed (known w.desc) ≤ owed (known v.desc) + 2
    pub found : MatchOption (clock_of said) (Unit {0}) (λ clock. (2 ^ 62 ≤ clock) × Loaded (known w.desc) clock)
    pub installs : (known w.desc).installs ≡ (known v.desc).installs ++ installed said

  -- memory for the longer logs of the next item was refused, and all is as it was
  pub record Starved (v w : Worker K) : Type 0 where
    pub sound : Sound w
    pub between : v.phase ≡ Between
    pub next : (reads writes : ℕ) × Lengthens reads writes v.items_left.now
    pub still : w ≡ v

  -- the open attempt can't be cancelled, and stands as it did
  pub record Refused (v w : Worker K) : Type 0 where
    pub sound : Sound w
    pub irrevocable_now : irrevocable (place_of v) ≡ true
    pub now : place_of w ≡ place_of v
    pub knows : known w.desc ≡ known v.desc
    pub same : IsSame false v w
