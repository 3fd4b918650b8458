-- Serial: what the grant comes to.
use Rattle.std.proofs.Common.{ℕ, ◌≡◌, ◌<◌, ◌≤◌, List, [], ◌∷◌, Bool, true, false, refl, sym, ap, ◌∙◌, arith, subst, le_refl, inl}
use Rattle.std.specs.Prelude.{Some, ltb, if◌then◌else◌}
use Rattle.std.proofs.lemmas.Bool.Decides.{nat_tests}
use Rattle.stm_model.specs.Algorithms.{closes_gate, irrevocable_under, takes_lock}
use Rattle.stm_model.specs.declared.alg.Alg.TheVariants.{Serial}
use Rattle.stm_model.specs.declared.config.Config.{Config}
use Rattle.stm_model.specs.declared.config.TheConstants.{CLOCK_LIMIT}
use Rattle.rule_base.specs.declared.layout.At.TheVariants.{Clock}
use Rattle.rule_base.specs.declared.views.Act.TheVariants.{Load}
use Rattle.rule_base.specs.declared.views.View.{View}
use Rattle.rule_base.specs.Bridge.{items}
use Rattle.rule_base.specs.Own.{Own}
use Rattle.rule_base.specs.StepKinds.{Tells}
use Rattle.rule_seq.specs.CglSteps.{load_limit, LoadsLimit, fixed_lock}
use Rattle.stm_rule.specs.declared.local.Local.{Local}
use Rattle.stm_rule.specs.Attempts.{IsInside}
use Rattle.stm_answers.specs.Answers.{TriesIrrevocable}
use Rattle.stm_answers.specs.Evidence.{Found}
use Rattle.stm_answers.specs.CallerState.{known_of, kept_under, is_in, is_closing, granted_under, is_irrevocable, wrote}
use Rattle.stm_answers.specs.CallerStateLaws.{grows-same}
use Rattle.alg_seq.specs.Storing.{IsClocked}
use Rattle.alg_seq.proofs.Locked.{written-plain, still-opaque}
use Rattle.alg_seq.proofs.Keeping.{named, locks, irrevocable-by, revocable-by}

-- the view after the load, by whether the clock is below its limit
abbrev pub asked : View → ℕ → Bool → View
asked v clock below =
    record v {
      lock = if below then fixed_lock v.lock else record v.lock { clocked = true };
      steps = record v.steps { step_trace = record { place = Clock; act = Load; found = Some clock } ∷ v.steps.step_trace };
    }

pub clocked-full : (v u : View) (clock : ℕ) → CLOCK_LIMIT ≤ clock → Tells (load_limit true) LoadsLimit v clock u → IsClocked v u × ((o : Own) → Found Clock clock (known_of v o) (known_of u o))
clocked-full v u clock high t = let path : u ≡ asked v clock false = t.2 ∙ ap (asked v clock) no in (
  subst (λ (y : View). IsClocked v y) (sym path) (record { more = record { place = Clock; act = Load; found = Some clock } ∷ []; is = refl }),
  λ o. subst (λ (y : View). Found Clock clock (known_of v o) (known_of y o)) (sym path) (record { place = Clock; act = Load; found = Some clock } ∷ [], refl, Load, (0, omega arith, refl)),
)
  where
    no : ltb clock CLOCK_LIMIT ≡ false
    no = grind (arith, nat_tests)

pub tells-granted : (good : List ℕ → Type 0) (c : Config) (n : ℕ) (l : Local) (v : View) (i : IsInside good c n l v)
    (serial : l.algorithm ≡ Serial) (clock : ℕ) (u : View) (o : Own) → o.committing ≡ false → l.granted ≡ false → clock < CLOCK_LIMIT
    → Tells (load_limit true) LoadsLimit v clock u → TriesIrrevocable good c n (known_of v o) (known_of u o)
tells-granted good c n l v i serial clock u o settled revocable low t = subst (λ (y : View). TriesIrrevocable good c n (known_of v o) (known_of y o)) (sym path) (record {
  continues = record {
    running = ap is_in i.phase;
    closing = ap is_closing i.phase;
    made = refl;
    grows = grows-same (known_of v o) (known_of w o) refl refl (record { place = Clock; act = Load; found = Some clock } ∷ []) refl refl refl refl refl;
    alg = refl;
    fence = refl;
    base = refl;
    rises = (omega arith, omega arith);
    later = le_refl v.attempt.start;
    installs = refl;
    depth = refl;
    locked = inl refl;
  };
  still = refl;
  uncommitted = settled;
  log = ap (λ (ws : List (ℕ × ℕ)). record { reads = items v.attempt.reads; writes = ws }) (written-plain v.gate.algorithm v.gate.granted w o locks-by ∙ sym (written-plain v.gate.algorithm v.gate.granted v o locks-by));
  kept = λ e. ap (λ a. kept_under a w o) serial-by;
  irrevocable = ap (λ a. irrevocable_under a (granted_under a v.gate w.lock) (wrote (known_of w o))) serial-by;
  opaque = still-opaque good c n l v o i w refl refl refl;
  before = λ e. absurd (let no : true ≡ false = sym e ∙ not_yet in cc);
  now =
      λ e. (
        ap (λ a. granted_under a v.gate w.lock) serial-by,
        subst (λ k. Found Clock k (known_of v o) (known_of w o)) t.1
            (record { place = Clock; act = Load; found = Some clock } ∷ [], refl, Load, (0, omega arith, refl)),
      );
  alone = λ e closes. absurd (let no : false ≡ true = sym (ap closes_gate serial-by) ∙ closes in cc);
})
  where
    yes : ltb clock CLOCK_LIMIT ≡ true
    yes = grind (arith, nat_tests)

    w : View
    w = asked v clock true

    path : u ≡ asked v clock true
    path = t.2 ∙ ap (asked v clock) yes

    serial-by : v.gate.algorithm ≡ Serial
    serial-by = named good c n l v i serial

    locks-by : takes_lock v.gate.algorithm ≡ true
    locks-by = locks good c n l v i serial

    not_yet : is_irrevocable (known_of v o) ≡ false
    not_yet = revocable-by good c n l v i serial o ∙ (irrevocable-by good c n l v i serial ∙ revocable)
