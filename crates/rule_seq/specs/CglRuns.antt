-- Every list of CGL's steps.
use Rattle.std.specs.Prelude.{false, ℕ, ◌≡◌, ◌+◌, ◌<◌, ◌^◌, List, [], ◌∷◌, Bool}
use Rattle.stm_model.specs.declared.alg.Alg.TheVariants.{Cgl}
use Rattle.stm_model.specs.declared.config.Config.{Config}
use Rattle.stm_model.specs.declared.config.TheConstants.{CLOCK_LIMIT}
use Rattle.rule_base.specs.declared.views.GateView.{GateView}
use Rattle.rule_base.specs.declared.views.Phase.TheVariants.{In}
use Rattle.rule_base.specs.declared.views.View.{View}
use Rattle.rule_base.specs.Opening.{first_view, opening_world}
use Rattle.rule_base.specs.History.{Keeps}
use Rattle.rule_base.specs.Runs.{run, Allowed, KeepsAlong}
use Rattle.rule_base.specs.StepKinds.{StepKind}
use Rattle.rule_base.specs.World.{World}
use Rattle.rule_seq.specs.CglRule.{CglWorld}
use Rattle.rule_seq.specs.CglSteps.{take_lock, CanTakeLock, load_start, CanLoadStart, load_heap, CanLoadHeap, store_heap, CanStoreHeap, store_clock, CanStoreClock, free_lock, CanFreeLock, load_undo, CanLoadUndo, load_limit, CanLoadLimit, store_back, CanStoreBack}

-- a step by its kind and its numbers
pub data CglStep : Type 0 where
  acquires_lock : CglStep
  loads_start : CglStep
  loads_heap : (a : ℕ) → CglStep
  stores_heap : (a x : ℕ) → CglStep
  stores_clock : (t : ℕ) → CglStep
  frees_lock : CglStep
  loads_undo : (a : ℕ) → CglStep
  loads_limit : (grants : Bool) → CglStep
  stores_back : (a x : ℕ) → CglStep

abbrev pub cgl_kind : ℕ → CglStep → StepKind
cgl_kind n acquires_lock = take_lock n
cgl_kind n loads_start = load_start
cgl_kind n (loads_heap a) = load_heap a
cgl_kind n (stores_heap a x) = store_heap a x
cgl_kind n (stores_clock t) = store_clock n t
cgl_kind n frees_lock = free_lock
cgl_kind n (loads_undo a) = load_undo a
cgl_kind n (loads_limit grants) = load_limit grants
cgl_kind n (stores_back a x) = store_back a x

module _ (good : (ℕ → ℕ) → Type 0) (c : Config) where
  abbrev pub MayAs : CglStep → View → Type 0
  MayAs acquires_lock v = CanTakeLock v
  MayAs loads_start v = CanLoadStart v
  MayAs (loads_heap a) v = CanLoadHeap c.words a v
  MayAs (stores_heap a x) v = CanStoreHeap c.words a x v
  MayAs (stores_clock t) v = CanStoreClock good t v
  MayAs frees_lock v = CanFreeLock v
  MayAs (loads_undo a) v = CanLoadUndo a v
  MayAs (loads_limit grants) v = CanLoadLimit v
  MayAs (stores_back a x) v = CanStoreBack a x v

  -- a caller of this memory may take the step where its view allows it
  abbrev pub CglMay : ℕ → CglStep → View → Type 0
  CglMay n s v = (n < c.callers) × MayAs s v

  -- whatever steps of CGL any callers take, each allowed where it comes, the rule holds after each
  abbrev pub CglKeepsAlong : Type 0
  CglKeepsAlong = KeepsAlong cgl_kind CglMay (CglWorld good c)

-- the opening words, and each caller's first view but for what it knows of the gate
abbrev pub opened_with : Config → (ℕ → GateView) → World
opened_with c gates = record (opening_world c) { views = λ n. record (first_view c) { gate = gates n } }

-- the rule holds at the opening, whichever callers the gate has let in
abbrev pub CglOpens : ((ℕ → ℕ) → Type 0) → Config → Type 0
CglOpens good c = (gates : ℕ → GateView) → CglWorld good c (opened_with c gates)

-- caller 0 reads the word at a, stores x there and commits at time t
abbrev pub one_commit : ℕ → ℕ → ℕ → List (ℕ × CglStep)
one_commit t a x = (0, acquires_lock) ∷ (0, loads_start) ∷ (0, loads_heap a) ∷ (0, stores_heap a x) ∷ (0, stores_clock t) ∷ (0, frees_lock) ∷ []

-- below the clock's limit, a caller that the gate has let in may take these steps from the opening,
-- and the history is then this one entry
abbrev pub CglCommits : ((ℕ → ℕ) → Type 0) → Config → Type 0
CglCommits good c = (gates : ℕ → GateView) (a x : ℕ) → (gates 0).phase ≡ In → (gates 0).algorithm ≡ Cgl → (gates 0).holds ≡ false → 0 < c.callers → c.clock < CLOCK_LIMIT → a < c.words → x < 2 ^ 64
    → Keeps good (record { at = a; value = 0 } ∷ []) (record { at = a; value = x } ∷ [])
    → Allowed cgl_kind (CglMay good c) (one_commit (c.clock + 1) a x) (opened_with c gates)
    × ((run cgl_kind (CglMay good c) (one_commit (c.clock + 1) a x) (opened_with c gates)).history
    ≡ record { time = c.clock + 1; caller = 0; number = 0; reads = record { at = a; value = 0 } ∷ []; writes = record { at = a; value = x } ∷ [] } ∷ [])
