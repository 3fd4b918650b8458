-- A step inside an attempt that leaves all alone but what was read and stored, as its caller knows it.
use Rattle.std.proofs.Common.{ℕ, ◌≡◌, List, ◌++◌, Bool, true, false, refl, ap, ◌∙◌, arith, inl}
use Rattle.std.specs.Prelude.{not, reverse, length, ◌&&◌, ◌==◌}
use Rattle.stm_model.specs.Algorithms.{closes_gate, irrevocable_under, has_read_log, logs_writes}
use Rattle.stm_model.specs.declared.alg.Alg.{Alg}
use Rattle.stm_model.specs.declared.alg.Alg.TheVariants.{Cgl, Tml, OrecLazy, OrecEager, RingSw, Serial}
use Rattle.stm_model.specs.declared.config.Config.{Config}
use Rattle.rule_base.specs.declared.views.GateView.{GateView}
use Rattle.rule_base.specs.declared.views.LockView.{LockView}
use Rattle.rule_base.specs.declared.views.Phase.TheVariants.{In}
use Rattle.rule_base.specs.declared.views.SeenHistory.{SeenHistory}
use Rattle.rule_base.specs.declared.views.TracedStep.{TracedStep}
use Rattle.rule_base.specs.declared.views.View.{View}
use Rattle.rule_base.specs.Bridge.{items, public_history}
use Rattle.rule_base.specs.History.{member}
use Rattle.rule_base.specs.Own.{Own}
use Rattle.stm_answers.specs.Answers.{StartMoves, GoesOn}
use Rattle.stm_answers.specs.Evidence.{FindsStart}
use Rattle.stm_answers.specs.Causes.{Asked, has_item, reads_full, writes_full}
use Rattle.stm_answers.specs.CallerState.{CallerState, known_of, fenced_of, granted_under, locked_under, written_under, is_in, is_closing, is_irrevocable}
use Rattle.stm_answers.specs.CallerStateLaws.{grows-same}

pub record IsInner (v w : View) : Type 0 where
  pub history : w.history ≡ v.history
  pub gate : w.gate ≡ v.gate
  pub lock : w.lock ≡ v.lock
  pub writer : w.tml.writer ≡ v.tml.writer
  pub fence : w.fence ≡ v.fence
  pub start : w.attempt.start ≡ v.attempt.start
  pub rises : w.steps.rises ≡ v.steps.rises
  pub base : w.steps.rises_at_begin ≡ v.steps.rises_at_begin
  pub installs : w.steps.installs ≡ v.steps.installs
  pub step_trace : (more : List TracedStep) × (w.steps.step_trace ≡ more ++ v.steps.step_trace)

-- a start may stay, under RingSW where the clock found was it
pub start-stays : (c : Config) (asked : Asked) (a : Alg) (v w : CallerState) → (a ≡ RingSw → FindsStart v w) → w.start ≡ v.start → StartMoves c asked a v w
start-stays c asked Cgl v w f e = e
start-stays c asked Tml v w f e = e
start-stays c asked OrecLazy v w f e = inl e
start-stays c asked OrecEager v w f e = inl e
start-stays c asked RingSw v w f e = inl (e, f refl)
start-stays c asked Serial v w f e = e

pub goes-inner : {c : Config} {asked : Asked} → (v w : View) (o : Own) → v.gate.phase ≡ In → (v.gate.algorithm ≡ RingSw → FindsStart (known_of v o) (known_of w o)) → IsInner v w
    → GoesOn c asked (known_of v o) (known_of w o)
goes-inner {c} {asked} v w o inside finds i = record {
  continues = record {
    running = ap (λ (g : GateView). is_in g.phase) i.gate ∙ ap is_in inside;
    closing = ap (λ (g : GateView). is_closing g.phase) i.gate ∙ ap is_closing inside;
    made = ap (λ (h : SeenHistory). public_history h.made) i.history;
    grows = grows-same (known_of v o) (known_of w o) (ap (λ (h : SeenHistory). public_history h.seen) i.history) (ap (λ (h : SeenHistory). h.front) i.history) i.step_trace.0 i.step_trace.1 refl refl refl (ap fenced_of i.fence);
    alg = ap (λ (g : GateView). g.algorithm) i.gate;
    fence = ap (λ (g : GateView). g.fence) i.gate;
    base = i.base;
    rises = (let r = i.rises in (omega arith, omega arith));
    later = (let e = i.start in omega arith);
    installs = ap reverse i.installs;
    depth = refl;
    locked = inl (λ k. locked_under (i.gate k).algorithm (i.lock k).taken (i.writer k));
  };
  start = start-stays c asked v.gate.algorithm (known_of v o) (known_of w o) finds i.start;
  granted = λ k. granted_under (i.gate k).algorithm (i.gate k) (i.lock k);
  holds = ap (λ (g : GateView). g.holds) i.gate;
  checked = ap (λ (g : GateView). g.checked) i.gate;
  marks = refl;
}

-- the grant is the gate's flag, but under Serial
pub granted-same : (a : Alg) (g h : GateView) (l : LockView) → g.granted ≡ h.granted → granted_under a g l ≡ granted_under a h l
granted-same Cgl g h l e = e
granted-same Tml g h l e = e
granted-same OrecLazy g h l e = e
granted-same OrecEager g h l e = e
granted-same RingSw g h l e = e
granted-same Serial g h l e = refl

pub ungranted-of : (a : Alg) (g : GateView) (l : LockView) → g.granted ≡ false → l.irrevocable ≡ false → granted_under a g l ≡ false
ungranted-of Cgl g l e f = e
ungranted-of Tml g l e f = e
ungranted-of OrecLazy g l e f = e
ungranted-of OrecEager g l e f = e
ungranted-of RingSw g l e f = e
ungranted-of Serial g l e f = f

pub unlocked-of : (a : Alg) (taken writer : Bool) → taken ≡ false → writer ≡ false → locked_under a taken writer ≡ false
unlocked-of Cgl taken writer e f = e
unlocked-of Tml taken writer e f = f
unlocked-of OrecLazy taken writer e f = e
unlocked-of OrecEager taken writer e f = e
unlocked-of RingSw taken writer e f = e
unlocked-of Serial taken writer e f = e

-- a granted attempt's writes lie in the heap
pub written-granted : (a : Alg) (granted : Bool) (v : View) (o : Own) → granted ≡ true → written_under a granted v o ≡ items v.attempt.stores
written-granted Cgl granted v o e = refl
written-granted Tml granted v o e = refl
written-granted OrecLazy true v o e = refl
written-granted OrecLazy false v o e = absurd cc
written-granted OrecEager true v o e = refl
written-granted OrecEager false v o e = absurd cc
written-granted RingSw true v o e = refl
written-granted RingSw false v o e = absurd cc
written-granted Serial granted v o e = refl

pub irrevocable-granted : (a : Alg) (granted wrote : Bool) → closes_gate a ≡ true → granted ≡ true → irrevocable_under a granted wrote ≡ true
irrevocable-granted Cgl granted wrote c e = refl
irrevocable-granted Tml true wrote c e = refl
irrevocable-granted Tml false wrote c e = absurd cc
irrevocable-granted OrecLazy granted wrote c e = e
irrevocable-granted OrecEager granted wrote c e = e
irrevocable-granted RingSw granted wrote c e = e
irrevocable-granted Serial granted wrote c e = e

and-no : (b : Bool) → (b && false) ≡ false
and-no true = refl
and-no false = refl

-- an irrevocable attempt needs no item more
pub never-full : (a : ℕ) (v : CallerState) → is_irrevocable v ≡ true → (reads_full a v ≡ false) × (writes_full a v ≡ false)
never-full a v irrevocable = (
  ap (λ b. has_read_log v.alg && (not b && (not (has_item a v.log.writes) && (not (has_item a v.log.reads) && (length v.log.reads == v.reads_limit))))) irrevocable ∙ and-no (has_read_log v.alg),
  ap (λ b. logs_writes v.alg && (not b && (not (member v.kept a) && (length v.kept == v.writes_limit)))) irrevocable ∙ and-no (logs_writes v.alg),
)

-- nor does one of an algorithm without logs
pub no-log-full : (a : ℕ) (v : CallerState) → has_read_log v.alg ≡ false → logs_writes v.alg ≡ false → (reads_full a v ≡ false) × (writes_full a v ≡ false)
no-log-full a v r w = (
  ap (λ b. b && (not (is_irrevocable v) && (not (has_item a v.log.writes) && (not (has_item a v.log.reads) && (length v.log.reads == v.reads_limit))))) r,
  ap (λ b. b && (not (is_irrevocable v) && (not (member v.kept a) && (length v.kept == v.writes_limit)))) w,
)
