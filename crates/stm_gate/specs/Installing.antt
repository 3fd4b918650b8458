-- How the clock is found and left before an install.
use Rattle.std.specs.Prelude.{ℕ, ◌≡◌, ◌≤◌, ◌+◌, ◌%◌, ◌++◌, Bool, true, false, List}
use Rattle.stm_model.specs.Algorithms.{begins_even, install_rise}
use Rattle.stm_model.specs.declared.alg.Alg.{Alg}
use Rattle.rule_base.specs.declared.views.TracedStep.{TracedStep}
use Rattle.rule_base.specs.declared.views.View.{View}

-- the clock is t, at which the algorithm may begin; the caller has loaded it, maybe raised it before, and nothing else
-- changed
pub record Settles (alg : Alg) (t : ℕ) (v w : View) : Type 0 where
  pub rises : ℕ
  pub least : v.steps.rises ≤ rises
  pub most : rises ≤ v.steps.rises + install_rise alg
  -- a clock that it raised is to be in BASE and DONE
  pub entered : Bool
  pub more : List TracedStep
  pub is : w ≡ record v { gate = record v.gate { quiescent = true; time = t; rebased = false; completed = false }; attempt = record v.attempt { entered = entered }; steps = record v.steps { rises = rises; step_trace = more ++ v.steps.step_trace } }
  pub even : begins_even alg ≡ true → t % 2 ≡ 0
