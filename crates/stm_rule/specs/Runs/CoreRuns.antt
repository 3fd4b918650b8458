-- Every list of steps of the core: at the gate, of each algorithm, of a promoted attempt, and with notes.
use Rattle.std.specs.Prelude.{ℕ, ◌≡◌, ◌+◌, ◌<◌, ◌^◌, true, false, List, [], ◌∷◌, take}
use Rattle.stm_model.specs.declared.alg.Alg.{Alg}
use Rattle.stm_model.specs.declared.config.Config.{Config}
use Rattle.stm_model.specs.declared.config.TheConstants.{CLOCK_LIMIT}
use Rattle.rule_base.specs.declared.views.View.{View}
use Rattle.rule_base.specs.GateSteps.{announce, CanAnnounce, load_gate, CanLoadGate, depart, CanDepart, aim, CanAim, take_gate, CanTakeGate, check, CanCheck, reopen, CanReopen, look_gate, CanLookGate, seize, CanSeize, return_gate, CanReturn}
use Rattle.rule_base.specs.History.{Keeps}
use Rattle.rule_base.specs.InstallSteps.{settle, CanSettle, even_clock, CanEvenClock, store_base, store_done, CanMark, install, CanInstall}
use Rattle.rule_base.specs.Opening.{opening_world}
use Rattle.rule_base.specs.Rest.{IsQuiet, HasInstalled}
use Rattle.rule_base.specs.Runs.{run, Allowed}
use Rattle.rule_base.specs.StepKinds.{StepKind}
use Rattle.rule_base.specs.World.{Lies}
use Rattle.rule_ring.specs.RingRuns.{RingStep, ring_kind, RingMayAs}
use Rattle.rule_ring.specs.RingRuns.RingStep.{ring_begins, ring_loads, ring_looks, ring_locks, ring_ticks, ring_slots, ring_enters, ring_writes, ring_dones, ring_frees}
use Rattle.rule_base.specs.declared.entries.Cell.{Cell}
use Rattle.rule_ring.specs.SlotFilter.{slot_filter}
use Rattle.rule_seq.specs.CglRuns.{CglStep, cgl_kind, MayAs}
use Rattle.rule_promoted.specs.PromotedSteps.{tml_grant, CanTmlGrant, ring_look_grant, CanRingGrant, ring_move_grant, CanRingMoveGrant, direct_load, CanDirectLoad, direct_store, CanDirectStore, direct_commit, CanDirectCommit, direct_release, CanDirectRelease}
use Rattle.rule_promoted.specs.RaisingSteps.{direct_raise_clock, CanDirectRaiseClock, direct_up, CanDirectUp}
use Rattle.rule_seq.specs.TmlRuns.{TmlStep, tml_kind, TmlMayAs}
use Rattle.rule_seq.specs.CglRuns.CglStep.{acquires_lock, loads_start, loads_heap, stores_heap, stores_clock, frees_lock, loads_undo, loads_limit, stores_back}
use Rattle.rule_seq.specs.TmlRuns.TmlStep.{tml_begins, tml_loads, tml_agains, tml_writes, tml_stores, tml_commits}
use Rattle.stm_model.specs.declared.alg.Alg.TheVariants.{Tml, RingSw, Serial, OrecLazy, OrecEager}
use Rattle.rule_base.specs.Ranks.{home_of}
use Rattle.rule_orec.specs.OrecSteps.{orec_grant, CanOrecGrant, orec_grant_all, CanOrecGrantAll}
use Rattle.rule_orec.specs.OrecRuns.OrecStep.{orec_begins, orec_samples, orec_loads, orec_confirms, orec_clocks, orec_looks, orec_limits, orec_locks, orec_commits, orec_writes_back, orec_times, orec_own_loads, orec_saves, orec_places}
use Rattle.rule_orec.specs.OrecRuns.{OrecStep, orec_kind, OrecMayAs}
use Rattle.rule_seq.specs.CglSteps.{CanLoadHeap, CanStoreHeap, CanLoadUndo}
use Rattle.rule_seq.specs.TmlSteps.{CanTmlLoad, CanTmlStore}
use Rattle.rule_ring.specs.RingSteps.{CanRingLoad, CanRingEnter}
use Rattle.rule_orec.specs.OrecSteps.{CanOrecLoad, CanOrecCommit, CanOrecOwnLoad, CanOrecSave}
use Rattle.rule_base.specs.Encodings.{fence_number}
use Rattle.rule_base.specs.FenceSteps.{fence, CanFence, fence_load, CanFenceLoad, fence_store, CanFenceStore, fence_commit, CanFenceCommit, unfence, CanUnfence}
use Rattle.stm_rule.specs.Kinds.Lifting.{IsSpared, AreSpared}
use Rattle.stm_rule.specs.NoteSteps.{hear, load_end, CanLoadEnd}
use Rattle.stm_rule.specs.Openings.{opening_words}
use Rattle.stm_rule.specs.Product.{Invariant}

-- a step by its kind and its numbers
pub data CoreStep : Type 0 where
  announces : CoreStep
  loads_gate : CoreStep
  departs : CoreStep
  aims : CoreStep
  takes_gate : (word : ℕ) → CoreStep
  checks : (other : ℕ) → CoreStep
  reopens : (fence : ℕ) (alg : Alg) → CoreStep
  settles : CoreStep
  evens_clock : (time : ℕ) → CoreStep
  stores_base : (time : ℕ) → CoreStep
  stores_done : (time : ℕ) → CoreStep
  installs : (fence : ℕ) (alg : Alg) → CoreStep
  of_cgl : (step : CglStep) → CoreStep
  of_tml : (step : TmlStep) → CoreStep
  of_ring : (step : RingStep) → CoreStep
  looks_gate : CoreStep
  seizes : (fence : ℕ) (alg : Alg) → CoreStep
  grants : CoreStep
  look_grants : CoreStep
  move_grants : CoreStep
  of_orec : (step : OrecStep) → CoreStep
  orec_grants : (r b : ℕ) → CoreStep
  orec_grants_all : CoreStep
  direct_releases : (r time : ℕ) → CoreStep
  direct_loads : (a : ℕ) → CoreStep
  direct_stores : (a x : ℕ) → CoreStep
  direct_commits : (alg : Alg) (time : ℕ) → CoreStep
  direct_raises_clock : (least : ℕ) → CoreStep
  direct_ups : (r version : ℕ) → CoreStep
  returns : (fence : ℕ) (alg : Alg) → CoreStep
  fences : (from count : ℕ) (alg : Alg) → CoreStep
  fence_loads : (a : ℕ) → CoreStep
  fence_stores : (a x : ℕ) → CoreStep
  fence_commits : (alg : Alg) (time : ℕ) → CoreStep
  unfences : (alg : Alg) → CoreStep
  hears : CoreStep
  loads_end : CoreStep

abbrev pub core_kind : ℕ → CoreStep → StepKind
core_kind n announces = announce n
core_kind n loads_gate = load_gate
core_kind n departs = depart n
core_kind n aims = aim
core_kind n (takes_gate word) = take_gate n word
core_kind n (checks other) = check other
core_kind n (reopens fence alg) = reopen fence alg
core_kind n settles = settle
core_kind n (evens_clock time) = even_clock time
core_kind n (stores_base time) = store_base time
core_kind n (stores_done time) = store_done time
core_kind n (installs fence alg) = install n fence alg
core_kind n (of_cgl step) = cgl_kind n step
core_kind n (of_tml step) = tml_kind n step
core_kind n (of_ring step) = ring_kind slot_filter n step
core_kind n looks_gate = look_gate
core_kind n (seizes fence alg) = seize n fence alg
core_kind n grants = tml_grant
core_kind n look_grants = ring_look_grant
core_kind n move_grants = ring_move_grant
core_kind n (of_orec step) = orec_kind n step
core_kind n (orec_grants r b) = orec_grant r b
core_kind n orec_grants_all = orec_grant_all
core_kind n (direct_releases r time) = direct_release r time
core_kind n (direct_loads a) = direct_load a
core_kind n (direct_stores a x) = direct_store a x
core_kind n (direct_commits alg time) = direct_commit n alg time
core_kind n (direct_raises_clock least) = direct_raise_clock least
core_kind n (direct_ups r version) = direct_up r version
core_kind n (returns fence alg) = return_gate fence alg
core_kind n (fences from count alg) = fence n (fence_number n from count) alg
core_kind n (fence_loads a) = fence_load a
core_kind n (fence_stores a x) = fence_store a x
core_kind n (fence_commits alg time) = fence_commit n alg time
core_kind n (unfences alg) = unfence n alg
core_kind n hears = hear
core_kind n loads_end = load_end

module _ (good : (ℕ → ℕ) → Type 0) (c : Config) where
  abbrev pub CoreMayAs : ℕ → CoreStep → View → Type 0
  CoreMayAs n announces v = CanAnnounce v
  CoreMayAs n loads_gate v = CanLoadGate v
  CoreMayAs n departs v = CanDepart v
  CoreMayAs n aims v = CanAim v
  CoreMayAs n (takes_gate word) v = CanTakeGate word v
  CoreMayAs n (checks other) v = CanCheck n other v
  CoreMayAs n (reopens fence alg) v = CanReopen fence alg v
  CoreMayAs n settles v = CanSettle c.callers n v
  CoreMayAs n (evens_clock time) v = CanEvenClock time v
  CoreMayAs n (stores_base time) v = CanMark time v
  CoreMayAs n (stores_done time) v = CanMark time v
  CoreMayAs n (installs fence alg) v = CanInstall fence alg v
  CoreMayAs n (of_cgl (loads_heap a)) v = CanLoadHeap c.words a v × IsSpared a v
  CoreMayAs n (of_cgl (stores_heap a x)) v = CanStoreHeap c.words a x v × IsSpared a v
  CoreMayAs n (of_cgl (loads_undo a)) v = CanLoadUndo a v × IsSpared a v
  CoreMayAs n (of_cgl step) v = MayAs good c step v
  CoreMayAs n (of_tml (tml_loads a)) v = CanTmlLoad c.words a v × IsSpared a v
  CoreMayAs n (of_tml (tml_stores a x)) v = CanTmlStore c.words a x v × IsSpared a v
  CoreMayAs n (of_tml step) v = TmlMayAs good c step v
  CoreMayAs n (of_ring (ring_loads a)) v = CanRingLoad c.words a v × IsSpared a v
  CoreMayAs n (of_ring (ring_enters t)) v = CanRingEnter good c.words t v × AreSpared v.ring_commit.writes v
  CoreMayAs n (of_ring step) v = RingMayAs slot_filter good c step v
  CoreMayAs n looks_gate v = CanLookGate v
  CoreMayAs n (seizes fence alg) v = CanSeize fence alg v
  CoreMayAs n grants v = CanTmlGrant c.callers n v
  CoreMayAs n look_grants v = CanRingGrant v
  CoreMayAs n move_grants v = CanRingMoveGrant slot_filter v
  CoreMayAs n (of_orec (orec_loads a)) v = CanOrecLoad a v × IsSpared a v
  CoreMayAs n (of_orec (orec_commits start writes back)) v = CanOrecCommit (home_of c) good c.words start writes back v × AreSpared writes v
  CoreMayAs n (of_orec (orec_own_loads a)) v = CanOrecOwnLoad (home_of c) c.words a v × IsSpared a v
  CoreMayAs n (of_orec (orec_saves a)) v = CanOrecSave (home_of c) a v × IsSpared a v
  CoreMayAs n (of_orec step) v = OrecMayAs good c step v
  CoreMayAs n (orec_grants r b) v = CanOrecGrant (home_of c) c.words r b v
  CoreMayAs n orec_grants_all v = CanOrecGrantAll (home_of c) c.words c.callers n v
  CoreMayAs n (direct_releases r time) v = CanDirectRelease r time v
  CoreMayAs n (direct_loads a) v = CanDirectLoad c.words a v × IsSpared a v
  CoreMayAs n (direct_stores a x) v = CanDirectStore c.words a x v × IsSpared a v
  CoreMayAs n (direct_commits alg time) v = CanDirectCommit good alg time v
  CoreMayAs n (direct_raises_clock least) v = CanDirectRaiseClock least v
  CoreMayAs n (direct_ups r version) v = CanDirectUp r version v
  CoreMayAs n (returns fence alg) v = CanReturn fence alg v
  CoreMayAs n (fences from count alg) v = CanFence c n from count alg v
  CoreMayAs n (fence_loads a) v = CanFenceLoad a v
  CoreMayAs n (fence_stores a x) v = CanFenceStore a x v
  CoreMayAs n (fence_commits alg time) v = CanFenceCommit good alg time v
  CoreMayAs n (unfences alg) v = CanUnfence c.callers n alg v
  CoreMayAs n hears v = Unit {0}
  CoreMayAs n loads_end v = CanLoadEnd v

  -- a caller of this memory may take the step where its view allows it
  abbrev pub CoreMay : ℕ → CoreStep → View → Type 0
  CoreMay n s v = (n < c.callers) × CoreMayAs n s v

  -- the opening words and the first views meet the rule
  abbrev pub CoreOpens : Type 0
  CoreOpens = Invariant good c (opening_world c) × Lies c (opening_world c) (opening_words c)

  -- caller 0 comes in, reads the word at a, stores x there, commits at time t and leaves
  abbrev pub one_attempt : ℕ → ℕ → ℕ → List (ℕ × CoreStep)
  one_attempt t a x =
      (0, announces) ∷ (0, loads_gate) ∷ (0, of_cgl acquires_lock) ∷ (0, of_cgl loads_start) ∷ (0, of_cgl (loads_heap a))
      ∷ (0, of_cgl (stores_heap a x)) ∷ (0, of_cgl (stores_clock t)) ∷ (0, of_cgl frees_lock) ∷ (0, departs) ∷ []

  -- from the opening, below the clock's limit, these steps are allowed, and the history is then this one entry
  abbrev pub CoreCommits : Type 0
  CoreCommits = (a x : ℕ) → 0 < c.callers → c.clock < CLOCK_LIMIT → a < c.words → x < 2 ^ 64 → Keeps good (record { at = a; value = 0 } ∷ []) (record { at = a; value = x } ∷ [])
      → Allowed core_kind CoreMay (one_attempt (c.clock + 1) a x) (opening_world c)
      × ((run core_kind CoreMay (one_attempt (c.clock + 1) a x) (opening_world c)).history
      ≡ record { time = c.clock + 1; caller = 0; number = 0; reads = record { at = a; value = 0 } ∷ []; writes = record { at = a; value = x } ∷ [] } ∷ [])

  -- caller 0 installs TML, commits once as a writer and once promoted, installs Serial, takes a store back,
  -- becomes irrevocable and commits
  abbrev pub one_of_each : ℕ → List (ℕ × CoreStep)
  one_of_each x =
      (0, announces) ∷ (0, aims) ∷ (0, takes_gate 0) ∷ (0, departs) ∷ (0, settles) ∷ (0, stores_base 0) ∷ (0, stores_done 0)
      ∷ (0, installs 0 Tml) ∷ (0, reopens 0 Tml) ∷ (0, announces) ∷ (0, loads_gate) ∷ (0, of_tml tml_begins) ∷ (0, of_tml (tml_loads 0))
      ∷ (0, of_tml tml_agains) ∷ (0, of_tml (tml_writes 0)) ∷ (0, of_tml (tml_stores 0 x)) ∷ (0, of_tml (tml_commits 2)) ∷ (0, departs)
      ∷ (0, announces) ∷ (0, loads_gate) ∷ (0, of_tml tml_begins) ∷ (0, looks_gate) ∷ (0, seizes 0 Tml) ∷ (0, grants) ∷ (0, direct_loads 0)
      ∷ (0, direct_stores 0 x) ∷ (0, direct_commits Tml 4) ∷ (0, stores_base 4) ∷ (0, stores_done 4) ∷ (0, returns 0 Tml) ∷ (0, departs)
      ∷ (0, announces) ∷ (0, aims) ∷ (0, takes_gate 1) ∷ (0, departs) ∷ (0, settles) ∷ (0, stores_base 4) ∷ (0, stores_done 4)
      ∷ (0, installs 0 Serial) ∷ (0, reopens 0 Serial) ∷ (0, announces) ∷ (0, loads_gate) ∷ (0, of_cgl acquires_lock)
      ∷ (0, of_cgl loads_start) ∷ (0, of_cgl (loads_heap 0)) ∷ (0, of_cgl (loads_undo 0)) ∷ (0, of_cgl (loads_limit false))
      ∷ (0, of_cgl (stores_heap 0 0)) ∷ (0, of_cgl (stores_back 0 x)) ∷ (0, of_cgl (loads_limit true)) ∷ (0, of_cgl (stores_heap 0 x))
      ∷ (0, of_cgl (stores_clock 5)) ∷ (0, of_cgl frees_lock) ∷ (0, departs) ∷ []

-- with one caller and from clock 0 these steps are allowed; after the first 24 its attempt is promoted, and the history
-- is in the end these three entries
abbrev pub CorePromotes : ((ℕ → ℕ) → Type 0) → Config → Type 0
CorePromotes good c = (x : ℕ) → 0 < c.words → x < 2 ^ 64 → ((y : ℕ) → Keeps good (record { at = 0; value = y } ∷ []) (record { at = 0; value = x } ∷ []))
    → Allowed core_kind (CoreMay good (record c { callers = 1; clock = 0 })) (one_of_each good (record c { callers = 1; clock = 0 }) x) (opening_world (record c { callers = 1; clock = 0 }))
    × (((run core_kind (CoreMay good (record c { callers = 1; clock = 0 }))
    (take 24 (one_of_each good (record c { callers = 1; clock = 0 }) x)) (opening_world (record c { callers = 1; clock = 0 }))).views
    0).gate.granted ≡ true)
    × ((run core_kind (CoreMay good (record c { callers = 1; clock = 0 })) (one_of_each good (record c { callers = 1; clock = 0 }) x) (opening_world (record c { callers = 1; clock = 0 }))).history
    ≡ record { time = 5; caller = 0; number = 2; reads = record { at = 0; value = x } ∷ []; writes = record { at = 0; value = x } ∷ [] }
    ∷ record { time = 4; caller = 0; number = 1; reads = record { at = 0; value = x } ∷ []; writes = record { at = 0; value = x } ∷ [] }
    ∷ record { time = 2; caller = 0; number = 0; reads = record { at = 0; value = 0 } ∷ []; writes = record { at = 0; value = x } ∷ [] }
    ∷ [])

-- caller 0 closes the gate, sees caller 1 idle, loads and stores the clock and installs Serial
abbrev pub one_install : ℕ → List (ℕ × CoreStep)
one_install clock = (0, announces) ∷ (0, aims) ∷ (0, takes_gate 0) ∷ (0, departs) ∷ (0, checks 1) ∷ (0, settles) ∷ (0, stores_base clock) ∷ (0, stores_done clock) ∷ (0, installs 0 Serial) ∷ []

-- with two callers these steps are allowed from the opening, and caller 0 then is quiet and has installed:
-- what is said of both is said of some world
abbrev pub CoreInstalls : ((ℕ → ℕ) → Type 0) → Config → Type 0
CoreInstalls good c = Allowed core_kind (CoreMay good (record c { callers = 2 })) (one_install c.clock) (opening_world (record c { callers = 2 }))
    × IsQuiet (record c { callers = 2 }) 0 (run core_kind (CoreMay good (record c { callers = 2 })) (one_install c.clock) (opening_world (record c { callers = 2 })))
    × HasInstalled 0 (run core_kind (CoreMay good (record c { callers = 2 })) (one_install c.clock) (opening_world (record c { callers = 2 })))

abbrev pub one_cell : ℕ → List Cell
one_cell x = record { at = 0; value = x } ∷ []

-- caller 0 installs RingSW, reads and commits word 0 by the ring, and once more promoted
abbrev pub two_by_ring : Config → ℕ → List (ℕ × CoreStep)
two_by_ring c x =
    (0, announces) ∷ (0, aims) ∷ (0, takes_gate 0) ∷ (0, departs) ∷ (0, settles) ∷ (0, stores_base 0) ∷ (0, stores_done 0)
    ∷ (0, installs 0 RingSw) ∷ (0, reopens 0 RingSw) ∷ (0, announces) ∷ (0, loads_gate) ∷ (0, of_ring ring_begins)
    ∷ (0, of_ring (ring_loads 0)) ∷ (0, of_ring ring_looks) ∷ (0, of_ring ring_locks) ∷ (0, of_ring ring_ticks) ∷ (0, of_ring ring_looks)
    ∷ (0, of_ring (ring_slots c.ring 1 0 (one_cell x))) ∷ (0, of_ring (ring_slots c.ring 1 1 (one_cell x)))
    ∷ (0, of_ring (ring_slots c.ring 1 2 (one_cell x))) ∷ (0, of_ring (ring_slots c.ring 1 3 (one_cell x)))
    ∷ (0, of_ring (ring_slots c.ring 1 4 (one_cell x))) ∷ (0, of_ring (ring_slots c.ring 1 5 (one_cell x)))
    ∷ (0, of_ring (ring_slots c.ring 1 6 (one_cell x))) ∷ (0, of_ring (ring_slots c.ring 1 7 (one_cell x)))
    ∷ (0, of_ring (ring_slots c.ring 1 8 (one_cell x))) ∷ (0, of_ring (ring_slots c.ring 1 9 (one_cell x)))
    ∷ (0, of_ring (ring_slots c.ring 1 10 (one_cell x))) ∷ (0, of_ring (ring_slots c.ring 1 11 (one_cell x)))
    ∷ (0, of_ring (ring_slots c.ring 1 12 (one_cell x))) ∷ (0, of_ring (ring_slots c.ring 1 13 (one_cell x)))
    ∷ (0, of_ring (ring_slots c.ring 1 14 (one_cell x))) ∷ (0, of_ring (ring_slots c.ring 1 15 (one_cell x))) ∷ (0, of_ring (ring_enters 1))
    ∷ (0, of_ring (ring_writes 0 x)) ∷ (0, of_ring (ring_dones 1)) ∷ (0, of_ring ring_frees) ∷ (0, departs) ∷ (0, announces)
    ∷ (0, loads_gate) ∷ (0, of_ring ring_begins) ∷ (0, of_ring (ring_loads 0)) ∷ (0, looks_gate) ∷ (0, seizes 0 RingSw) ∷ (0, settles)
    ∷ (0, look_grants) ∷ (0, direct_stores 0 x) ∷ (0, direct_commits RingSw 2) ∷ (0, stores_base 2) ∷ (0, stores_done 2)
    ∷ (0, returns 0 RingSw) ∷ (0, departs) ∷ []

abbrev pub CoreRings : ((ℕ → ℕ) → Type 0) → Config → Type 0
CoreRings good c = (x : ℕ) → 0 < c.words → x < 2 ^ 64 → ((y : ℕ) → Keeps good (record { at = 0; value = y } ∷ []) (one_cell x))
    → Allowed core_kind (CoreMay good (record c { callers = 1; clock = 0 })) (two_by_ring c x) (opening_world (record c { callers = 1; clock = 0 }))
    × ((run core_kind (CoreMay good (record c { callers = 1; clock = 0 })) (two_by_ring c x) (opening_world (record c { callers = 1; clock = 0 }))).history
    ≡ record { time = 2; caller = 0; number = 1; reads = one_cell x; writes = one_cell x } ∷ record { time = 1; caller = 0; number = 0; reads = one_cell 0; writes = one_cell x } ∷ [])

-- caller 0 installs OrecLazy and commits, installs OrecEager, stores in place, is promoted and commits, reads, is
-- promoted after loading the record again and commits
abbrev pub record_steps : ℕ → List (ℕ × CoreStep)
record_steps x =
    (0, announces) ∷ (0, aims) ∷ (0, takes_gate 0) ∷ (0, departs) ∷ (0, settles) ∷ (0, stores_base 0) ∷ (0, stores_done 0)
    ∷ (0, installs 0 OrecLazy) ∷ (0, reopens 0 OrecLazy) ∷ (0, announces) ∷ (0, loads_gate) ∷ (0, of_orec orec_begins)
    ∷ (0, of_orec (orec_samples 0 0)) ∷ (0, of_orec (orec_loads 0)) ∷ (0, of_orec (orec_confirms 0)) ∷ (0, of_orec (orec_looks 0))
    ∷ (0, of_orec (orec_locks 0 0)) ∷ (0, of_orec (orec_commits 0 (record { at = 0; value = x } ∷ []) (record { at = 0; value = x } ∷ [])))
    ∷ (0, of_orec (orec_writes_back 0 x)) ∷ (0, of_orec (orec_times 0 1)) ∷ (0, departs) ∷ (0, announces) ∷ (0, aims) ∷ (0, takes_gate 2)
    ∷ (0, departs) ∷ (0, settles) ∷ (0, stores_base 1) ∷ (0, stores_done 1) ∷ (0, installs 0 OrecEager) ∷ (0, reopens 0 OrecEager)
    ∷ (0, announces) ∷ (0, loads_gate) ∷ (0, of_orec orec_begins) ∷ (0, of_orec (orec_samples 0 0)) ∷ (0, of_orec (orec_loads 0))
    ∷ (0, of_orec (orec_confirms 0)) ∷ (0, of_orec orec_limits) ∷ (0, of_orec (orec_looks 0)) ∷ (0, of_orec (orec_locks 0 1))
    ∷ (0, of_orec (orec_saves 0)) ∷ (0, of_orec (orec_places 0 x)) ∷ (0, looks_gate) ∷ (0, seizes 0 OrecEager) ∷ (0, settles)
    ∷ (0, orec_grants_all) ∷ (0, direct_loads 0) ∷ (0, direct_stores 0 x) ∷ (0, direct_commits OrecEager 2) ∷ (0, direct_releases 0 2)
    ∷ (0, stores_base 2) ∷ (0, stores_done 2) ∷ (0, returns 0 OrecEager) ∷ (0, departs) ∷ (0, announces) ∷ (0, loads_gate)
    ∷ (0, of_orec orec_begins) ∷ (0, of_orec (orec_samples 0 0)) ∷ (0, of_orec (orec_loads 0)) ∷ (0, of_orec (orec_confirms 0))
    ∷ (0, looks_gate) ∷ (0, seizes 0 OrecEager) ∷ (0, settles) ∷ (0, of_orec (orec_clocks (record { at = 0; value = x } ∷ [])))
    ∷ (0, orec_grants 0 0) ∷ (0, direct_stores 0 x) ∷ (0, direct_commits OrecEager 3) ∷ (0, stores_base 3) ∷ (0, stores_done 3)
    ∷ (0, returns 0 OrecEager) ∷ (0, departs) ∷ []

abbrev pub small_config : Config → Config
small_config c = record c { callers = 1; records = 1; clock = 0 }

-- with one caller and one record and from clock 0 these steps are allowed, and the history is then these three entries
abbrev pub CoreRecords : ((ℕ → ℕ) → Type 0) → Config → Type 0
CoreRecords good c =
    (x : ℕ) → 0 < c.words → x < 2 ^ 64 → ((y : ℕ) → Keeps good (record { at = 0; value = y } ∷ []) (record { at = 0; value = x } ∷ []))
    → Keeps good (record { at = 0; value = x } ∷ []) (record { at = 0; value = x } ∷ record { at = 0; value = x } ∷ [])
    → Allowed core_kind (CoreMay good (small_config c)) (record_steps x) (opening_world (small_config c))
    × ((run core_kind (CoreMay good (small_config c)) (record_steps x) (opening_world (small_config c))).history
    ≡ record { time = 3; caller = 0; number = 2; reads = record { at = 0; value = x } ∷ []; writes = record { at = 0; value = x } ∷ [] }
    ∷ record {
      time = 2;
      caller = 0;
      number = 1;
      reads = record { at = 0; value = x } ∷ [];
      writes = record { at = 0; value = x } ∷ record { at = 0; value = x } ∷ [];
    }
    ∷ record { time = 1; caller = 0; number = 0; reads = record { at = 0; value = 0 } ∷ []; writes = record { at = 0; value = x } ∷ [] }
    ∷ [])
