-- A roll back in an attempt of Serial, by the kinds of step that there are: the lock stays held.
use Rattle.std.specs.Prelude.{ℕ, ◌≡◌, ◌+◌, ◌<◌, List, [], ◌∷◌, false}
use Rattle.stm_model.specs.declared.alg.Alg.TheVariants.{Serial}
use Rattle.stm_model.specs.declared.config.Config.{Config}
use Rattle.stm_model.specs.declared.config.TheConstants.{CLOCK_LIMIT}
use Rattle.rule_base.specs.declared.entries.Cell.{Cell}
use Rattle.rule_base.specs.declared.views.GateView.{GateView}
use Rattle.rule_base.specs.declared.views.Phase.TheVariants.{In}
use Rattle.rule_base.specs.History.{Keeps}
use Rattle.rule_base.specs.Runs.{run, Allowed}
use Rattle.rule_base.specs.World.{World}
use Rattle.rule_seq.specs.CglRuns.{CglStep, cgl_kind, CglMay, opened_with}
use Rattle.rule_seq.specs.CglRuns.CglStep.{acquires_lock, loads_start, loads_heap, stores_heap, stores_clock, frees_lock, loads_undo, loads_limit, stores_back}

-- caller 0 stores 1 in word 0; after a mark it loads its own value, and stores 2 there and 3 in word 1;
-- then it rolls back, and commits
abbrev pub serial_back : ℕ → List (ℕ × CglStep)
serial_back t = (0, acquires_lock) ∷ (0, loads_start) ∷ (0, loads_limit false) ∷ (0, loads_undo 0) ∷ (0, stores_heap 0 1) ∷ (0, loads_heap 0) ∷ (0, stores_heap 0 2) ∷ (0, loads_undo 1) ∷ (0, stores_heap 1 3)
    ∷ (0, stores_heap 0 1) ∷ (0, stores_back 1 0) ∷ (0, stores_clock t) ∷ (0, frees_lock) ∷ []

-- what is left of its stores, the latest first
abbrev pub left_stored : List Cell
left_stored = record { at = 0; value = 1 } ∷ record { at = 0; value = 2 } ∷ record { at = 0; value = 1 } ∷ []

abbrev pub serial_end : ((ℕ → ℕ) → Type 0) → Config → (ℕ → GateView) → World
serial_end good c gates = run cgl_kind (CglMay good c) (serial_back (c.clock + 1)) (opened_with c gates)

-- all these steps are allowed; after them word 0 has its value at the mark and word 1 what it had before,
-- and the entry writes word 0 alone
abbrev pub SerialRollsBack : ((ℕ → ℕ) → Type 0) → Config → Type 0
SerialRollsBack good c = (gates : ℕ → GateView) → (gates 0).phase ≡ In → (gates 0).algorithm ≡ Serial → (gates 0).holds ≡ false → 0 < c.callers → c.clock < CLOCK_LIMIT → 1 < c.words → Keeps good [] left_stored
    → Allowed cgl_kind (CglMay good c) (serial_back (c.clock + 1)) (opened_with c gates) × ((serial_end good c gates).heap 0 ≡ 1) × ((serial_end good c gates).heap 1 ≡ 0)
    × ((serial_end good c gates).history ≡ record { time = c.clock + 1; caller = 0; number = 0; reads = []; writes = left_stored } ∷ [])
