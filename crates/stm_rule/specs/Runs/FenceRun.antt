-- A range that is taken out and comes back: caller 0 has word 0, which caller 1 leaves alone since it finds the gate
-- closed, and gives it back with one entry.
use Rattle.std.proofs.Common.{◌≡◌, ◌≢◌, ℕ, zero, suc, ◌<◌, List, [], ◌∷◌, true, refl, arith}
use Rattle.std.specs.Prelude.{◌^◌}
use Rattle.stm_model.specs.declared.alg.Alg.TheVariants.{Cgl}
use Rattle.stm_model.specs.declared.config.Config.{Config}
use Rattle.rule_base.specs.History.{member, over}
use Rattle.rule_base.specs.Opening.{opening_world}
use Rattle.rule_base.specs.Runs.{run, Allowed}
use Rattle.stm_rule.specs.Runs.CoreRuns.{CoreStep, core_kind, CoreMay, one_cell}
use Rattle.stm_rule.specs.Runs.CoreRuns.CoreStep.{announces, loads_gate, departs, aims, takes_gate, checks, settles, stores_base, stores_done, fences, fence_loads, fence_stores, fence_commits, unfences}

abbrev pub fenced_config : Config → Config
fenced_config c = record c { callers = 2; clock = 0; fence = true }

-- caller 0 closes the gate, sees caller 1 idle and takes word 0 out
abbrev pub taking_out : List (ℕ × CoreStep)
taking_out = (0, announces) ∷ (0, aims) ∷ (0, takes_gate 0) ∷ (0, departs) ∷ (0, checks 1) ∷ (0, fences 0 1 Cgl) ∷ []

-- it loads the word and stores x there, while caller 1 comes and withdraws, and gives it back
abbrev pub giving_back : ℕ → List (ℕ × CoreStep)
giving_back x = (0, fence_loads 0) ∷ (1, announces) ∷ (1, loads_gate) ∷ (0, fence_stores 0 x) ∷ (1, departs) ∷ (0, settles) ∷ (0, fence_commits Cgl 1) ∷ (0, stores_base 1) ∷ (0, stores_done 1) ∷ (0, unfences Cgl) ∷ []

-- with two callers, in a memory that takes fences and from clock 0, these steps are allowed; between them caller 0 has
-- the range, and the history is then this one entry
abbrev pub CoreFences : ((ℕ → ℕ) → Type 0) → Config → Type 0
CoreFences good c = (x : ℕ) → 0 < c.words → x < 2 ^ 64 → ((m : ℕ → ℕ) → good m → m 0 ≡ 0 → good (λ a. over (one_cell x) a (m a)))
    → Allowed core_kind (CoreMay good (fenced_config c)) taking_out (opening_world (fenced_config c))
    × (((run core_kind (CoreMay good (fenced_config c)) taking_out (opening_world (fenced_config c))).views 0).fence.holds ≡ true)
    × Allowed core_kind (CoreMay good (fenced_config c)) (giving_back x) (run core_kind (CoreMay good (fenced_config c)) taking_out (opening_world (fenced_config c)))
    × ((run core_kind (CoreMay good (fenced_config c)) (giving_back x) (run core_kind (CoreMay good (fenced_config c)) taking_out (opening_world (fenced_config c)))).history
    ≡ record { time = 1; caller = 0; number = 0; reads = one_cell 0; writes = one_cell x } ∷ [])

pub core_fences_lem : (good : (ℕ → ℕ) → Type 0) (c : Config) → CoreFences good c
core_fences_lem good c x some small keeps = (
  (
    (omega arith, refl),
    (
      (omega arith, refl),
      (
        (omega arith, record { phase = refl; aimed = refl }),
        (
          (omega arith, record { phase = refl; reopened = λ e. absurd cc; unlocked = refl; disowned = refl; unwritten = refl; uncommitted = refl; unentered = λ e. refl }),
          (
            (omega arith, record { holds = refl; other = λ e. cc }),
            (
              (omega arith, record { on = refl; phase = refl; quiet = seen; named = refl; free = refl; ungiven = refl; some = omega arith; inside = omega arith; fits = record { caller = omega arith; low = omega arith; few = omega arith; blocks = λ e. absurd cc } }),
              tt,
            ),
          ),
        ),
      ),
    ),
  ),
  refl,
  (
    (omega arith, record { holds = refl; inside = refl }),
    (
      (omega arith, refl),
      (
        (omega arith, refl),
        (
          (omega arith, record { holds = refl; inside = refl; small = small }),
          (
            (omega arith, record { phase = refl; reopened = λ e. absurd cc; unlocked = refl; disowned = refl; unwritten = refl; uncommitted = refl; unentered = λ e. refl }),
            (
              (omega arith, record { holds = refl; quiet = seen }),
              (
                (omega arith, record { phase = refl; quiescent = refl; named = refl; holds = refl; ungiven = refl; time = refl; limit = omega arith; wrote = λ e. cc; keeps = λ m was kept words. keeps m was (kept 0 refl) }),
                (
                  (omega arith, record { closing = λ e. refl; quiescent = refl; time = refl }),
                  (
                    (omega arith, record { closing = λ e. refl; quiescent = refl; time = refl }),
                    (
                      (omega arith, record { phase = refl; quiet = seen; named = refl; holds = refl; unstored = refl; plain = λ e. absurd cc; marked = λ e. (refl, refl, refl) }),
                      tt,
                    ),
                  ),
                ),
              ),
            ),
          ),
        ),
      ),
    ),
  ),
  refl,
)
  where
    -- the other of two callers is caller 1
    seen : (k : ℕ) → k < 2 → k ≢ 0 → member (1 ∷ []) k ≡ true
    seen zero low other = absurd (other refl)
    seen (suc zero) low other = refl
    seen (suc (suc k)) low other = absurd (omega arith)
