-- The ranges of a plan, as numerals: a constant that says another range is refused.
use Rattle.std.specs.Prelude.{ℕ, ◌≡◌, ◌≤◌}
use Rattle.stm_rule.specs.declared.refusal.NewError.{NewError}
use Rattle.stm_rule.specs.declared.refusal.NewError.TheVariants.{Memory}
use Rattle.perf_core.specs.declared.plan.Plan.{Plan}

pub record IsPlan (p : Plan) : Type 0 where
  pub threads : (1 ≤ p.threads) × (p.threads ≤ 254)
  pub words : (1040 ≤ p.words) × (p.words ≤ 4294967296)
  pub reads : (1 ≤ p.reads) × (p.reads ≤ 1048576)

-- memory was refused
abbrev pub IsOfMemory : NewError → Type 0
IsOfMemory e = e ≡ Memory
