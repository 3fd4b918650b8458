-- Steps that may be taken, one after the other.
use Rattle.std.proofs.Common.{ℕ, List, [], ◌∷◌, ◌++◌, refl, arith}
use Rattle.stm_model.specs.declared.config.Config.{Config}
use Rattle.stm_model.specs.declared.alg.Alg.{Alg}
use Rattle.rule_base.specs.Opening.{opening_world}
use Rattle.rule_base.specs.Runs.{run, Allowed}
use Rattle.stm_rule.specs.Runs.CoreRuns.{CoreStep, core_kind, CoreMay}
use Rattle.stm_rule.specs.Runs.CoreRuns.CoreStep.{announces, loads_gate, departs, aims, takes_gate, reopens, settles, stores_base, stores_done, installs}

infixr 5 ◌▸◌
-- a step that may be taken, and what follows it
pub ◌▸◌ : {A B : Type 0} → A → B → A × B
◌▸◌ step rest = (step, rest)

-- the only caller, at clock 0, closes the gate, installs the algorithm, opens the gate and comes in again
abbrev pub install_first : Alg → List (ℕ × CoreStep)
install_first alg =
    (0, announces) ∷ (0, aims) ∷ (0, takes_gate 0) ∷ (0, departs) ∷ (0, settles) ∷ (0, stores_base 0) ∷ (0, stores_done 0) ∷ (0, installs 0 alg) ∷ (0, reopens 0 alg) ∷ (0, announces) ∷ (0, loads_gate) ∷ []

abbrev pub alone : Config → ℕ → Config
alone c records = record c { callers = 1; records = records; clock = 0 }

pub may-install : (good : (ℕ → ℕ) → Type 0) (c : Config) (records : ℕ) (alg : Alg) (steps : List (ℕ × CoreStep))
    → Allowed core_kind (CoreMay good (alone c records)) steps (run core_kind (CoreMay good (alone c records)) (install_first alg) (opening_world (alone c records)))
    → Allowed core_kind (CoreMay good (alone c records)) (install_first alg ++ steps) (opening_world (alone c records))
may-install good c records alg steps rest =
    (omega arith, refl)
    ▸ (omega arith, refl)
    ▸ (omega arith, record { phase = refl; aimed = refl })
    ▸ (omega arith, record { phase = refl; reopened = λ e. absurd cc; unlocked = refl; disowned = refl; unwritten = refl; uncommitted = refl; unentered = λ e. refl })
    ▸ (omega arith, record { holds = refl; quiet = λ k l o. absurd (o (omega arith)) })
    ▸ (omega arith, record { closing = λ e. refl; quiescent = refl; time = refl })
    ▸ (omega arith, record { closing = λ e. refl; quiescent = refl; time = refl })
    ▸ (omega arith, record { phase = refl; guarded = refl; ungiven = refl; quiescent = refl; rebased = refl; completed = refl; even = λ e. refl })
    ▸ (omega arith, record { phase = refl; absent = refl; named = refl; guarded = refl; ungiven = refl; unentered = refl })
    ▸ (omega arith, refl)
    ▸ (omega arith, refl)
    ▸ rest
