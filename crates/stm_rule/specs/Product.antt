-- THE INVARIANT of the shared words, on which every promise rests: the clauses of each part, side by side. The head of
-- each part's file says what breaks without it, and docs/RULE.md goes through them. The core is said of the world under
-- without the fence, so no algorithm's clause knows of fences.
use Rattle.std.specs.Prelude.{ℕ, ◌≡◌, ◌≤◌, ◌%◌, false}
use Rattle.stm_model.specs.declared.alg.Alg.{Alg}
use Rattle.rule_base.specs.History.{word_now}
use Rattle.stm_model.specs.declared.alg.Alg.TheVariants.{Cgl, Tml, OrecLazy, OrecEager, RingSw, Serial}
use Rattle.stm_model.specs.declared.config.Config.{Config}
use Rattle.rule_base.specs.Fence.{without_fence, fence_projection, FenceRule}
use Rattle.rule_base.specs.GateRule.{gate_projection, GateRule}
use Rattle.rule_base.specs.HistoryRule.{history_projection, HistoryRule}
use Rattle.rule_base.specs.InstallRule.{install_projection, InstallRule}
use Rattle.rule_base.specs.RecordRule.{record_projection, RecordRule}
use Rattle.rule_base.specs.Regime.{Regime, regime}
use Rattle.rule_base.specs.Regime.Regime.{Running, Promoted, Giving}
use Rattle.rule_base.specs.RunProjection.{RunProjection, run_projection}
use Rattle.rule_base.specs.StepsRule.{steps_projection, StepsRule}
use Rattle.rule_base.specs.World.{World}
use Rattle.rule_ring.specs.RingRule.{RingRuns}
use Rattle.rule_ring.specs.SlotFilter.{slot_filter}
use Rattle.rule_seq.specs.AttemptRule.{attempt_projection, AttemptRule}
use Rattle.rule_seq.specs.CglRule.{CglRuns}
use Rattle.rule_seq.specs.LockRule.{lock_projection, LockRule}
use Rattle.rule_promoted.specs.PromotedRule.{DirectRuns}
use Rattle.rule_seq.specs.TmlRule.{TmlRuns}
use Rattle.rule_orec.specs.OrecRule.{OrecRuns}
use Rattle.stm_rule.specs.Alone.{Alone}
use Rattle.stm_rule.specs.Kinds.Raised.{Raised}

-- A GIVE-BACK between its entry and the gate without the fence: nobody is in an attempt, and the memory lies in the
-- heap; of records and slots nothing is said until BASE has the entry's time
pub record Gives (alg : Alg) (s : RunProjection) : Type 0 where
  pub heap : (a : ℕ) → s.heap a ≡ word_now s.history a
  pub even : alg ≡ Tml → s.clock % 2 ≡ 0
  -- who gives back has seen more than DONE until it stores it
  pub fresh : alg ≡ RingSw → (n : ℕ) → (s.views n).attempt.entered ≡ false → (s.views n).front ≤ s.done
  pub level : alg ≡ RingSw → ((n : ℕ) → (s.views n).attempt.entered ≡ false) → s.done ≡ s.clock

-- the clauses of what runs
abbrev pub Runs : Config → Regime → RunProjection → Type 0
Runs c (Running Cgl) = CglRuns c
Runs c (Running Tml) = TmlRuns c
Runs c (Running OrecLazy) = OrecRuns c
Runs c (Running OrecEager) = OrecRuns c
Runs c (Running RingSw) = RingRuns slot_filter c
Runs c (Running Serial) = CglRuns c
Runs c (Promoted alg n) = DirectRuns c alg n
Runs c (Giving alg) = Gives alg

-- THE CORE of the rule, where there is no fence. good is what the user keeps true of memory. What runs has its clauses
-- by the regime; all others stand always.
pub record Core (good : (ℕ → ℕ) → Type 0) (c : Config) (w : World) : Type 0 where
  pub history : HistoryRule good c (history_projection w)
  pub steps : StepsRule c (steps_projection w)
  pub gate : GateRule c.callers (gate_projection w)
  pub install : InstallRule c (install_projection w)
  pub records : RecordRule (record_projection w)
  pub lock : LockRule (lock_projection w)
  pub attempts : AttemptRule (attempt_projection w)
  pub running : Runs c (regime w) (run_projection w)
  -- what one caller alone knows of the records
  pub alone : Alone c w
  -- and what who raised the clock as the gate's holder knows of it
  pub raised : Raised w

-- THE ONE RULE: the core stands without the fence, in the world with the memory in place of the fenced range, and of
-- the range the fence's clauses say what lies there.
pub record Invariant (good : (ℕ → ℕ) → Type 0) (c : Config) (w : World) : Type 0 where
  pub core : Core good c (without_fence w)
  pub fence : FenceRule c (fence_projection w)
