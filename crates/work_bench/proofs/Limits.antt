-- A workload that opens at clock 0 never comes to the limit.
use Rattle.std.proofs.Common.{ℕ, ◌≡◌, ◌≤◌, ◌+◌, ◌*◌, ◌^◌, ◌==◌, Bool, true, false, length, if◌then◌else◌, arith}
use Rattle.work_profile.specs.declared.policy.Policy.{Policy}
use Rattle.stm_rule.specs.Closings.{Ended}
use Rattle.work_script.specs.declared.workload.Workload.{Workload}
use Rattle.work_driver.specs.Runs.{IsFull}

far : (alone : Bool) (clock items : ℕ) → clock ≡ 0 → items ≤ 65536 → 2 ^ 62 ≤ clock + (if alone then 4 else 20) * items + 1 → ⊥
far true clock items opens few bound = let b : 2 ^ 62 ≤ clock + 4 * items + 1 = bound in omega arith
far false clock items opens few bound = let b : 2 ^ 62 ≤ clock + 20 * items + 1 = bound in omega arith

pub never-full : (policy : Policy) (w : Workload) (clock : ℕ) (closed : Ended) → w.header.clock ≡ 0 → length w.items ≤ 65536 → IsFull policy w clock closed → ⊥
never-full policy w clock closed opens few full = far (w.header.callers == 1) w.header.clock (length w.items) opens few full.bound
