-- What a commit comes to that found another one faster.
use Rattle.std.proofs.Common.{ℕ, ◌≡◌, ◌≢◌, ◌≤◌, ◌+◌, List, [], ◌∷◌, Bool, true, refl, sym, ap, ◌∙◌, arith, subst, inl, inr}
use Rattle.std.specs.Prelude.{◌⊎◌, reverse, Some}
use Rattle.stm_model.specs.Algorithms.{has_records}
use Rattle.stm_model.specs.declared.alg.Alg.{Alg}
use Rattle.stm_model.specs.declared.config.Config.{Config}
use Rattle.rule_base.specs.declared.entries.Cell.{Cell}
use Rattle.rule_base.specs.declared.entries.Entry.{Entry}
use Rattle.rule_base.specs.declared.layout.At.TheVariants.{Clock}
use Rattle.rule_base.specs.declared.views.Act.TheVariants.{Exchange}
use Rattle.rule_base.specs.declared.views.Phase.TheVariants.{In}
use Rattle.rule_base.specs.declared.views.TracedStep.{TracedStep}
use Rattle.rule_base.specs.declared.views.Validation.{Validation}
use Rattle.rule_base.specs.declared.views.View.{View}
use Rattle.rule_base.specs.Bridge.{public_history}
use Rattle.rule_base.specs.Own.{Own}
use Rattle.stm_gate.specs.LeavingLaws.{found-later}
use Rattle.stm_answers.specs.Answers.{StartMoves, GoesOn}
use Rattle.stm_answers.specs.Causes.{IsAgain, OwesValidation}
use Rattle.stm_answers.specs.Causes.Asked.{ToCommit}
use Rattle.stm_answers.specs.Evidence.{Found}
use Rattle.stm_answers.specs.CallerState.{Grows, known_of, fenced_of, granted_under, is_in, is_closing, locked_under}
use Rattle.stm_answers.specs.CallerStateLaws.{grows-same, grows-trans}
use Rattle.alg_orec.proofs.Proving.{owes-later, with_commit}
use Rattle.alg_orec.specs.Committing.{readied}

-- the exchange of the clock, which found another number
abbrev pub tried : ℕ → ℕ → TracedStep
tried start now = record { place = Clock; act = Exchange start (start + 1); found = Some now }

-- A commit that answered Again: another commit was faster, and the attempt stands in the middle of its own.
module _ (v : View) (more : List TracedStep) {w u : View} {start : ℕ} {seen : List Entry} {held : List Cell}
    {loaded : Bool} {check : Validation} (is : w ≡ readied v seen start held loaded check more) (now : ℕ)
    (still : u ≡ record w { steps = record w.steps { step_trace = tried start now ∷ w.steps.step_trace } }) where
  pub path : u ≡ readied v seen start held loaded check (tried start now ∷ more)
  path = still ∙ ap (λ (y : View). record y { steps = record y.steps { step_trace = tried start now ∷ y.steps.step_trace } }) is

  start_is : u.attempt.start ≡ start
  start_is = ap (λ (y : View). y.attempt.start) path

  -- what was found before it was so still
  later : (o : Own) → Found Clock start (known_of v o) (known_of w o) → Found Clock start (known_of v o)
      (known_of u (with_commit true o))
  later o f = found-later Clock start (known_of v o) (known_of w o) (known_of u (with_commit true o)) f
      (tried start now ∷ []) (ap (λ (y : View). y.steps.step_trace) still)

  pub goes-on : (c : Config) (alg : Alg) (o : Own) → v.gate.algorithm ≡ alg → v.gate.phase ≡ In → v.attempt.start ≤ start → Grows
      (known_of v o) (known_of w o)
      → StartMoves c ToCommit alg (known_of v o) (known_of u (with_commit true o)) → GoesOn c ToCommit (known_of v o)
      (known_of u (with_commit true o))
  goes-on c alg o named inside rose grows moves = record {
    continues = record {
      running = ap is_in phase;
      closing = ap is_closing phase;
      made = ap (λ (y : View). public_history y.history.made) path;
      grows = grows-trans (known_of v o) (known_of w o) (known_of u p) grows
          (grows-same (known_of w o) (known_of u p) (ap (λ (y : View). public_history y.history.seen) still)
          (ap (λ (y : View). y.history.front) still) (tried start now ∷ []) (ap (λ (y : View). y.steps.step_trace) still)
          refl refl refl (ap (λ (y : View). fenced_of y.fence) still));
      alg = ap (λ (y : View). y.gate.algorithm) path;
      fence = ap (λ (y : View). y.gate.fence) path;
      base = ap (λ (y : View). y.steps.rises_at_begin) path;
      rises = (let a : u.steps.rises ≡ v.steps.rises = ap (λ (y : View). y.steps.rises) path in
          (omega arith, omega arith));
      later = (let b = start_is in omega arith);
      installs = ap (λ (y : View). reverse y.steps.installs) path;
      depth = refl;
      locked = inl (ap (λ (y : View). locked_under y.gate.algorithm y.lock.taken y.tml.writer) path);
    };
    start = subst (λ (a : Alg). StartMoves c ToCommit a (known_of v o) (known_of u p)) (sym named) moves;
    granted = ap (λ (y : View). granted_under y.gate.algorithm y.gate y.lock) path;
    holds = ap (λ (y : View). y.gate.holds) path;
    checked = ap (λ (y : View). y.gate.checked) path;
    marks = refl;
  }
    where
      p : Own
      p = with_commit true o

      phase : u.gate.phase ≡ In
      phase = ap (λ (y : View). y.gate.phase) path ∙ inside

  -- the start is as it was, or the clock that a validation found
  pub start-moves : (c : Config) (o : Own) (old : ℕ) → v.attempt.start ≡ old → (start ≡ old) ⊎
      (Found Clock start (known_of v o) (known_of w o) × OwesValidation c ToCommit (known_of v o) (known_of w o))
      → (u.attempt.start ≡ v.attempt.start) ⊎ (Found Clock u.attempt.start (known_of v o)
      (known_of u (with_commit true o)) × OwesValidation c ToCommit (known_of v o) (known_of u (with_commit true o)))
  start-moves c o old was (inl s) = inl (start_is ∙ (s ∙ sym was))
  start-moves c o old was (inr f) = inr (
    subst (λ (x : ℕ). Found Clock x (known_of v o) (known_of u (with_commit true o))) (sym start_is) (later o f.0),
    owes-later c ToCommit (known_of v o) (known_of w o) (known_of u (with_commit true o)) (tried start now ∷ [])
        (ap (λ (y : View). y.steps.step_trace) still) f.1,
  )

  pub is-again : (c : Config) (n : ℕ) (o : Own) → has_records v.gate.algorithm ≡ true → now ≢ start
      → (o.committing ≡ true → Found Clock start (known_of v o) (known_of w o))
      → IsAgain c n 0 start now (known_of v o) (known_of u (with_commit true o))
  is-again c n o records apart again = inl (
    refl,
    records,
    sym start_is,
    (
      (λ s. apart (sym s)),
      tried start now ∷ more,
      ap (λ (y : View). y.steps.step_trace) path,
      start + 1,
      (0, omega arith, refl),
    ),
    (λ g. later o (again g)),
  )
