-- The rule holds at the opening.
use Rattle.std.proofs.Common.{ℕ, ◌≤◌, refl, arith}
use Rattle.stm_model.specs.declared.config.Config.{Config}
use Rattle.rule_base.proofs.Lemmas.OpeningLemmas.{opening-history, opening-steps}
use Rattle.stm_model.specs.Configs.{IsConfig}
use Rattle.rule_seq.specs.CglRuns.{CglOpens}

pub cgl_world-opening : (good : (ℕ → ℕ) → Type 0) (c : Config) → IsConfig c → good (λ a. 0) → CglOpens good c
cgl_world-opening good c config start gates = record {
  history = opening-history good c config.clock start;
  steps = opening-steps c;
  lock = record { mine = λ n e. absurd cc; owner = λ n e. absurd (omega arith); inside = λ n e. absurd cc };
  records = record { free = λ r e. (let z : 0 ≤ c.clock = omega arith in z); owned = λ r e. absurd cc; inside = λ n r e. absurd cc };
  attempts = record { busy = λ n e. absurd cc; entered = λ n e. absurd cc };
  runs = record { free = λ e a. refl; holder = λ n e. absurd cc };
}
