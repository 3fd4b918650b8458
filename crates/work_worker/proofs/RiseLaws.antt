-- By how much an answer can raise the clock, as the table of the algorithms says.
use Rattle.std.proofs.Common.{ℕ, ◌≡◌, ◌+◌, true, false, List, ap}
use Rattle.std.specs.Prelude.{if◌then◌else◌}
use Rattle.stm_model.specs.declared.config.Config.{Config}
use Rattle.stm_model.specs.declared.stop.Stop.{Stop}
use Rattle.stm_model.specs.declared.stop.Stop.TheVariants as stops
use Rattle.stm_answers.specs.Answers.{Quits, Stops}
use Rattle.stm_answers.specs.CallerState.{CallerState, owed}
use Rattle.work_worker.specs.RiseCovers.{raised}

pub raised-in : (v : CallerState) → v.running ≡ true → raised v ≡ v.base
raised-in v e = ap (λ b. if b then v.base else v.rises) e

pub raised-out : (v : CallerState) → v.running ≡ false → raised v ≡ v.rises
raised-out v e = ap (λ b. if b then v.base else v.rises) e

pub owed-in : (v : CallerState) → v.running ≡ true → owed v ≡ v.base + 2
owed-in v e = ap (λ b. if b then v.base + 2 else v.rises) e

pub owed-out : (v : CallerState) → v.running ≡ false → owed v ≡ v.rises
owed-out v e = ap (λ b. if b then v.base + 2 else v.rises) e

pub stops-quits : (good : List ℕ → Type 0) (c : Config) (n a : ℕ) (stop : Stop) (v w : CallerState) → Stops good c n a stop v w → Quits v w
stops-quits good c n a (stops.Conflict cause) v w t = t.0
stops-quits good c n a (stops.Full limit) v w t = t.0
stops-quits good c n a (stops.ClockFull clock) v w t = t.0
