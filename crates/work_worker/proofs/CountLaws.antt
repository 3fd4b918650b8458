-- Which attempts are counted: those of the transaction that comes next, and with one caller none.
use Rattle.std.proofs.Common.{ℕ, ◌≡◌, ◌<◌, Bool, true, false, List, [], ◌∷◌, refl, sym, arith, subst, inl, inr}
use Rattle.stm_model.specs.declared.alg.Alg.{Alg}
use Rattle.stm_model.specs.declared.config.Config.{Config}
use Rattle.stm_model.specs.declared.stop.Stop.{Stop}
use Rattle.stm_model.specs.declared.stop.Stop.TheVariants as stops
use Rattle.std.specs.Prelude.{Option, Some, None}
use Rattle.work_profile.specs.declared.outcome.Outcome.{Outcome}
use Rattle.work_profile.specs.declared.outcome.Outcome.TheVariants as outcomes
use Rattle.work_script.specs.declared.op.Op.{Op}
use Rattle.work_script.specs.declared.workload.Item.{Item}
use Rattle.work_script.specs.declared.workload.Item.TheVariants.{Tx, Switch, Reserve}
use Rattle.stm_answers.specs.Answers.{Stops}
use Rattle.stm_answers.specs.CallerState.{CallerState}
use Rattle.stm_answers.specs.declared.answers.Begin.TheVariants as begins
use Rattle.stm_answers.specs.declared.answers.Cancel.TheVariants as cancels
use Rattle.stm_answers.specs.declared.answers.CloseGate.TheVariants as closes
use Rattle.stm_answers.specs.declared.answers.Commit.TheVariants as commits
use Rattle.stm_answers.specs.declared.answers.Irrev.{Irrev}
use Rattle.stm_answers.specs.declared.answers.Irrev.TheVariants as irrevs
use Rattle.stm_answers.specs.declared.answers.Look.TheVariants as looks
use Rattle.work_trace.specs.declared.said.Phase.TheVariants.{Inside}
use Rattle.work_trace.specs.declared.said.Said.{Said}
use Rattle.work_trace.specs.declared.said.Said.TheVariants.{TryBegin, Reply, Stopped, TryCancel, TryIrrevocable, TryCommit, TryClose, Looked, Installed, Reserved, Idle, Dropped, Reopened}
use Rattle.work_trace.specs.Places.{CallerProgress, after, failed_next, granted_at, in_the_way, is_forced, must_next, rest_of, switched}
use Rattle.work_trace.specs.Turns.{BeforeTx, Lengthens, MaySay, MustSwitchTo, SwitchesTo}
use Rattle.work_worker.specs.RiseCovers.{IsCountedFor}
use Rattle.work_worker.specs.Tellings.{Tells}

-- with one caller nobody is in the way
not-alone : (c : Config) → c.callers ≡ 1 → 1 < c.callers → ⊥
not-alone c one more = omega arith

switched-failed : (c : Option Alg) (at : CallerProgress) → at.failed ≡ 0 → (switched c at).failed ≡ 0
switched-failed None at e = e
switched-failed (Some chosen) at e = e

granted-failed : (b : Bool) (at : CallerProgress) → at.failed ≡ 0 → (granted_at b at).failed ≡ 0
granted-failed true at e = e
granted-failed false at e = e

module _ (good : List ℕ → Type 0) (c : Config) (n : ℕ) (one : c.callers ≡ 1) where
  stopped-alone : (op : Op) (stop : Stop) (at : CallerProgress) (v w : CallerState) → at.failed ≡ 0 → (a : ℕ) → Stops good c n a stop v w → (after at (Stopped op stop)).failed ≡ 0
  stopped-alone op (stops.Conflict cause) at v w e a t = absurd (not-alone c one t.2)
  stopped-alone op (stops.Full limit) at v w e a t = e
  stopped-alone op (stops.ClockFull clock) at v w e a t = e

  -- and so none of its attempts is counted
  pub alone-failed : (said : Said) (at : CallerProgress) (v w : CallerState) → at.failed ≡ 0 → Tells good c n said v w → (after at said).failed ≡ 0
  alone-failed (TryBegin (begins.Begun alg)) at v w e t = e
  alone-failed (TryBegin (begins.Closed gate)) at v w e t = e
  alone-failed (TryBegin (begins.Held word)) at v w e t = e
  alone-failed (TryBegin (begins.ClockFull clock)) at v w e t = e
  alone-failed (Reply op reply) at v w e t = e
  alone-failed (Stopped op stop) at v w e t = stopped-alone op stop at t.before w e t.address t.stops
  alone-failed (TryCancel (cancels.Cancelled time)) at v w e t = refl
  alone-failed (TryCancel cancels.Irrevocable) at v w e t = e
  alone-failed (TryIrrevocable irrevs.Granted) at v w e t = granted-failed (is_forced at) at e
  alone-failed (TryIrrevocable (irrevs.Busy caller status)) at v w e t = e
  alone-failed (TryIrrevocable (irrevs.Taken gate)) at v w e t = absurd (not-alone c one t.1.5)
  alone-failed (TryIrrevocable (irrevs.Conflict cause)) at v w e t = absurd (not-alone c one t.2)
  alone-failed (TryIrrevocable (irrevs.ClockFull clock)) at v w e t = e
  alone-failed (TryCommit (commits.Committed time)) at v w e t = refl
  alone-failed (TryCommit (commits.ReadOnly time)) at v w e t = refl
  alone-failed (TryCommit (commits.Conflict cause)) at v w e t = absurd (not-alone c one t.2)
  alone-failed (TryCommit (commits.Again word had now)) at v w e t = e
  alone-failed (TryCommit (commits.ClockFull clock)) at v w e t = e
  alone-failed (TryClose closes.Closed) at v w e t = e
  alone-failed (TryClose (closes.Taken gate)) at v w e t = e
  alone-failed (Looked looks.Quiet) at v w e t = e
  alone-failed (Looked (looks.Busy caller status)) at v w e t = e
  alone-failed (Installed alg) at v w e t = switched-failed at.chosen at e
  alone-failed (Reserved reads writes) at v w e t = e
  alone-failed Idle at v w e t = e
  alone-failed Dropped at v w e t = e
  alone-failed Reopened at v w e t = e

-- a transaction comes next, or nothing was counted
counted-tx : (left : List Item) (failed : ℕ) (must : Bool) → BeforeTx left → IsCountedFor left failed must
counted-tx [] failed must b = absurd b
counted-tx (Tx caller script ∷ items) failed must b = tt
counted-tx (Switch caller alg ∷ items) failed must b = absurd b
counted-tx (Reserve caller reads writes ∷ items) failed must b = absurd b

pub counted-none : (left : List Item) → IsCountedFor left 0 false
counted-none [] = (refl, refl)
counted-none (Tx caller script ∷ items) = tt
counted-none (Switch caller alg ∷ items) = (refl, refl)
counted-none (Reserve caller reads writes ∷ items) = (refl, refl)

counted-switch : (alg : Alg) (left : List Item) (failed : ℕ) (must : Bool) → SwitchesTo alg left → IsCountedFor left failed must → IsCountedFor (rest_of left) failed must
counted-switch alg [] failed must to h = absurd to
counted-switch alg (Tx caller script ∷ items) failed must to h = absurd to
counted-switch alg (Switch caller is ∷ items) failed must to h =
    subst (λ m. IsCountedFor items failed m) (sym h.1) (subst (λ f. IsCountedFor items f false) (sym h.0) (counted-none items))
counted-switch alg (Reserve caller reads writes ∷ items) failed must to h = absurd to

counted-reserve : (reads writes : ℕ) (left : List Item) (failed : ℕ) (must : Bool) → Lengthens reads writes left → IsCountedFor left failed must → IsCountedFor (rest_of left) failed must
counted-reserve reads writes [] failed must to h = absurd to
counted-reserve reads writes (Tx caller script ∷ items) failed must to h = absurd to
counted-reserve reads writes (Switch caller alg ∷ items) failed must to h = absurd to
counted-reserve reads writes (Reserve caller r w ∷ items) failed must to h =
    subst (λ m. IsCountedFor items failed m) (sym h.1) (subst (λ f. IsCountedFor items f false) (sym h.0) (counted-none items))

abbrev pub CountsAt : CallerProgress → Type 0
CountsAt at = IsCountedFor at.left at.failed at.must

switched-counts : (alg : Alg) (c : Option Alg) (at : CallerProgress) → MustSwitchTo alg c at.left → CountsAt at → CountsAt (switched c at)
switched-counts alg None at to h = counted-switch alg at.left at.failed at.must to h
switched-counts alg (Some chosen) at to h = h

granted-counts : (b : Bool) (at : CallerProgress) → CountsAt at → CountsAt (granted_at b at)
granted-counts true at h = h
granted-counts false at h = h

stopped-counts : (op : Op) (stop : Stop) (at : CallerProgress) → BeforeTx at.left → CountsAt (after at (Stopped op stop))
stopped-counts op (stops.Conflict cause) at b = counted-tx at.left (failed_next at.must at.failed) (must_next at.must at.failed) b
stopped-counts op (stops.Full limit) at b = counted-tx at.left at.failed true b
stopped-counts op (stops.ClockFull clock) at b = counted-tx at.left at.failed at.must b

way-counts : (outcome : Outcome) (at : CallerProgress) → BeforeTx at.left → CountsAt (in_the_way outcome at)
way-counts outcome at b = counted-tx at.left (failed_next at.must at.failed) (must_next at.must at.failed) b

irrevocable-counts : (r : Irrev) (at : CallerProgress) → BeforeTx at.left → CountsAt at → CountsAt (after at (TryIrrevocable r))
irrevocable-counts irrevs.Granted at b h = granted-counts (is_forced at) at h
irrevocable-counts (irrevs.Busy caller status) at b h = h
irrevocable-counts (irrevs.Taken gate) at b h = way-counts outcomes.Cancelled at b
irrevocable-counts (irrevs.Conflict cause) at b h = way-counts outcomes.Conflict at b
irrevocable-counts (irrevs.ClockFull clock) at b h = h

-- what is counted is counted for the transaction that comes next, where one has begun or is open
pub said-counts : (said : Said) (at : CallerProgress) → (at.phase ≡ Inside → BeforeTx at.left) → MaySay at said → CountsAt at → CountsAt (after at said)
said-counts (TryBegin (begins.Begun alg)) at here may h = h
said-counts (TryBegin (begins.Closed gate)) at here may h = h
said-counts (TryBegin (begins.Held word)) at here may h = h
said-counts (TryBegin (begins.ClockFull clock)) at here may h = h
said-counts (Reply op reply) at here may h = h
said-counts (Stopped op stop) at here may h = stopped-counts op stop at (here may.0.0)
said-counts (TryCancel (cancels.Cancelled time)) at here may h = counted-none (rest_of at.left)
said-counts (TryCancel cancels.Irrevocable) at here may h = h
said-counts (TryIrrevocable r) at here (inl forced) h = irrevocable-counts r at (here forced.0) h
said-counts (TryIrrevocable r) at here (inr comes) h = irrevocable-counts r at (here comes.0) h
said-counts (TryCommit (commits.Committed time)) at here may h = counted-none (rest_of at.left)
said-counts (TryCommit (commits.ReadOnly time)) at here may h = counted-none (rest_of at.left)
said-counts (TryCommit (commits.Conflict cause)) at here may h = way-counts outcomes.Conflict at (here may.0)
said-counts (TryCommit (commits.Again word had now)) at here may h = h
said-counts (TryCommit (commits.ClockFull clock)) at here may h = h
said-counts (TryClose closes.Closed) at here may h = h
said-counts (TryClose (closes.Taken gate)) at here may h = h
said-counts (Looked looks.Quiet) at here may h = h
said-counts (Looked (looks.Busy caller status)) at here may h = h
said-counts (Installed alg) at here may h = switched-counts alg at.chosen at may.1 h
said-counts (Reserved reads writes) at here may h = counted-reserve reads writes at.left at.failed at.must may.1 h
said-counts Idle at here may h = h
said-counts Dropped at here may h = absurd may
said-counts Reopened at here may h = absurd may
