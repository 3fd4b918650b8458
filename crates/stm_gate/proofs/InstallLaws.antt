-- What the steps of an install come to.
use Rattle.std.proofs.Common.{ℕ, ◌≡◌, ◌+◌, List, [], ◌∷◌, ◌++◌, Bool, true, false, refl, sym, ap, ◌∙◌, arith, subst, append_assoc}
use Rattle.std.proofs.lemmas.List.{reverse-append}
use Rattle.std.specs.Prelude.{◌%◌, None}
use Rattle.stm_model.specs.Algorithms.{begins_even}
use Rattle.stm_model.specs.AlgorithmLaws.{even-rises}
use Rattle.stm_model.specs.declared.alg.Alg.{Alg}
use Rattle.stm_model.specs.declared.config.Config.{Config}
use Rattle.rule_base.specs.declared.layout.At.TheVariants.{Base, Done, Gate}
use Rattle.rule_base.specs.declared.views.Act.TheVariants.{Store}
use Rattle.rule_base.specs.declared.views.TracedStep.{TracedStep}
use Rattle.rule_base.specs.declared.views.View.{View}
use Rattle.rule_base.specs.Encodings.{gate_word}
use Rattle.rule_base.specs.InstallSteps.{settle, even_clock, store_base, store_done, install}
use Rattle.rule_base.specs.Own.{Own}
use Rattle.rule_base.specs.StepKinds.{Nothing, Tells, view_after}
use Rattle.rule_base.specs.declared.views.Phase.TheVariants.{Idle, In, Closing}
use Rattle.stm_rule.specs.declared.local.Local.{Local}
use Rattle.stm_rule.specs.Attempts.{IsClear, IsClosing, HasRoom, StandsBy, Stands}
use Rattle.stm_rule.specs.Findings.{FindsWithin}
use Rattle.stm_answers.specs.Answers.{HoldsClosed, Installs, SeesQuiet}
use Rattle.stm_answers.specs.CallerState.{known_of}
use Rattle.stm_answers.specs.CallerStateLaws.{grows-same}
use Rattle.stm_gate.specs.InnerLaws.{ungranted-of, unlocked-of}
use Rattle.stm_gate.specs.Installing.{Settles}

pub settles-so : (alg : Alg) (t : ℕ) (v w : View) → (begins_even alg ≡ true → t % 2 ≡ 0) → Tells settle FindsWithin v t w → Settles alg t v w
settles-so alg t v w even a = record { rises = v.steps.rises; least = omega arith; most = omega arith; entered = v.attempt.entered; more = _ ∷ []; is = a.2; even = even }

pub settles-even : (alg : Alg) (t : ℕ) (v s w : View) → t % 2 ≡ 1 → begins_even alg ≡ true → Tells settle FindsWithin v t s → Tells (even_clock (t + 1)) Nothing s (t + 1) w → Settles alg (t + 1) v w
settles-even alg t v s w odd tml a b = record {
  rises = v.steps.rises + 1;
  least = omega arith;
  most = (let r = even-rises alg tml in omega arith);
  entered = true;
  more = _ ∷ _ ∷ [];
  is = b.2 ∙ ap (λ (y : View). view_after (even_clock (t + 1)) b.0 y (t + 1)) a.2;
  even = λ e. omega arith;
}

module _ (good : List ℕ → Type 0) (c : Config) (n : ℕ) where
  pub tells-installed : (fence : ℕ) (alg : Alg) (t : ℕ) (v s u y w : View) (o : Own) → HoldsClosed (known_of v o) → SeesQuiet good c n (known_of v o) → v.gate.granted ≡ false → IsClear v → Settles alg t v s
      → Tells (store_base t) Nothing s t u → Tells (store_done t) Nothing u t y → Tells (install n fence alg) Nothing y (gate_word fence (1 + n) alg) w → Installs good c n alg (known_of v o) (known_of w o)
  tells-installed fence alg t v s u y w o h quiet ungranted clear z a b d = subst (λ (x : View). Installs good c n alg (known_of v o) (known_of x o)) (sym path) (record {
    closed = record {
      holds =
          record {
            phase = h.phase;
            running = h.running;
            closing = h.closing;
            holds = h.holds;
            ungranted = ungranted-of alg last.gate v.lock ungranted clear.unfixed;
            unlocked = unlocked-of alg v.lock.taken v.tml.writer clear.unlocked clear.unwritten;
          };
      made = refl;
      grows = grows-same (known_of v o) (known_of last o) refl refl (three ++ z.more) (sym (append_assoc three z.more v.steps.step_trace)) refl refl refl refl;
      checked = λ k e. e;
    };
    quiet = quiet;
    settled = refl;
    named = refl;
    rises = (z.least, z.most);
    installs = reverse-append (alg ∷ []) v.steps.installs;
    fence = refl;
  })
    where
      at : View
      at = record v { gate = record v.gate { quiescent = true; time = t; rebased = false; completed = false }; attempt = record v.attempt { entered = z.entered }; steps = record v.steps { rises = z.rises; step_trace = z.more ++ v.steps.step_trace } }

      last : View
      last = view_after (install n fence alg) d.0 (view_after (store_done t) b.0 (view_after (store_base t) a.0 at t) t) (gate_word fence (1 + n) alg)

      three : List TracedStep
      three = record { place = Gate; act = Store (gate_word fence (1 + n) alg); found = None } ∷ record { place = Done; act = Store t; found = None } ∷ record { place = Base; act = Store t; found = None } ∷ []

      path : w ≡ last
      path = d.2 ∙ ap (λ x. view_after (install n fence alg) d.0 x (gate_word fence (1 + n) alg)) (b.2 ∙ ap (λ x. view_after (store_done t) b.0 x t) (a.2 ∙ ap (λ x. view_after (store_base t) a.0 x t) z.is))

-- who installed goes on closing, under the new algorithm
pub closing-installed : (callers n : ℕ) (fence : ℕ) (alg : Alg) (l : Local) (t : ℕ) (v s u y w : View) → IsClosing callers n l v → Settles alg t v s
    → Tells (store_base t) Nothing s t u → Tells (store_done t) Nothing u t y → Tells (install n fence alg) Nothing y (gate_word fence (1 + n) alg) w → IsClosing callers n (record l { algorithm = alg }) w
closing-installed callers n fence alg l t v s u y w k z a b d = subst (IsClosing callers n (record l { algorithm = alg })) (sym path) (record {
  phase = k.phase;
  absent = k.absent;
  holds = k.holds;
  named = refl;
  guarded = record { is = k.guarded.is; fits = k.guarded.fits };
  ungiven = k.ungiven;
  ungranted = k.ungranted;
  clear = record { unlocked = k.clear.unlocked; unfixed = k.clear.unfixed; disowned = k.clear.disowned; unwritten = k.clear.unwritten; uncommitted = k.clear.uncommitted; unentered = refl };
  unentered = k.unentered;
  looked = record { low = k.looked.low; seen = k.looked.seen; unseen = k.looked.unseen };
})
  where
    at : View
    at = record v { gate = record v.gate { quiescent = true; time = t; rebased = false; completed = false }; attempt = record v.attempt { entered = z.entered }; steps = record v.steps { rises = z.rises; step_trace = z.more ++ v.steps.step_trace } }

    path : w ≡ view_after (install n fence alg) d.0 (view_after (store_done t) b.0 (view_after (store_base t) a.0 at t) t) (gate_word fence (1 + n) alg)
    path = d.2 ∙ ap (λ x. view_after (install n fence alg) d.0 x (gate_word fence (1 + n) alg)) (b.2 ∙ ap (λ x. view_after (store_done t) b.0 x t) (a.2 ∙ ap (λ x. view_after (store_base t) a.0 x t) z.is))

-- the fields of who is closing say that no attempt runs and that it holds the gate
pub closing-flags : (good : List ℕ → Type 0) (c : Config) (n : ℕ) (l : Local) (v : View) → v.gate.phase ≡ Closing → Stands good c n l v → (l.running ≡ false) × (l.holds ≡ true)
closing-flags good c n l v closing s = go l.running l.holds refl refl s.by
  where
    go : (running holds : Bool) → l.running ≡ running → l.holds ≡ holds → StandsBy good c n l running holds v → (l.running ≡ false) × (l.holds ≡ true)
    go true holds a b k = absurd (let e : In ≡ Closing = sym k.phase ∙ closing in cc)
    go false true a b k = (a, b)
    go false false a b k = absurd (let e : Idle ≡ Closing = sym k.phase ∙ closing in cc)

pub stands-closing : (good : List ℕ → Type 0) (c : Config) (n : ℕ) (l : Local) (v : View) (running holds : Bool)
    → (running ≡ false) × (holds ≡ true) → HasRoom l → IsClosing c.callers n (record l { running = running; holds = holds }) v
    → Stands good c n (record l { running = running; holds = holds }) v
stands-closing good c n l v true holds flags lengths k = absurd (let e : true ≡ false = flags.0 in cc)
stands-closing good c n l v false false flags lengths k = absurd (let e : false ≡ true = flags.1 in cc)
stands-closing good c n l v false true flags lengths k = record { holds = sym k.holds; lengths = lengths; by = k }
