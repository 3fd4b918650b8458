-- What the commit of a promoted attempt of OrecEager comes to, which gives its records back.
use Rattle.std.proofs.Common.{ℕ, ◌≡◌, ◌<◌, ◌≤◌, ◌+◌, List, [], ◌∷◌, ◌++◌, length, Bool, true, false, refl, sym, ap, ◌∙◌, arith, subst, append_assoc}
use Rattle.std.specs.Prelude.{None, max, ltb, not, if◌then◌else◌}
use Rattle.stm_model.specs.Algorithms.{closes_gate, entry_rise, has_records}
use Rattle.stm_model.specs.AlgorithmLaws.{entry-some}
use Rattle.stm_model.specs.declared.alg.Alg.{Alg}
use Rattle.stm_model.specs.declared.alg.Alg.TheVariants.{OrecEager}
use Rattle.stm_model.specs.declared.config.Config.{Config}
use Rattle.stm_model.specs.declared.config.TheConstants.{CLOCK_LIMIT}
use Rattle.stm_model.specs.Memories.{is_empty}
use Rattle.rule_base.specs.declared.layout.At.{At}
use Rattle.rule_base.specs.declared.layout.At.TheVariants.{Clock, Base, Done}
use Rattle.rule_base.specs.declared.views.Act.TheVariants.{Store}
use Rattle.rule_base.specs.declared.views.Phase.TheVariants.{In}
use Rattle.rule_base.specs.declared.views.SeenHistory.{SeenHistory}
use Rattle.rule_base.specs.declared.views.TracedStep.{TracedStep}
use Rattle.rule_base.specs.declared.views.View.{View}
use Rattle.rule_base.specs.Bridge.{items, of_words}
use Rattle.rule_base.specs.History.{Inside}
use Rattle.rule_base.specs.InstallSteps.{store_base, store_done, CanMark}
use Rattle.rule_base.specs.Own.{Own}
use Rattle.rule_base.specs.StepKinds.{Nothing, Tells, view_after}
use Rattle.rule_base.specs.World.{World}
use Rattle.rule_orec.specs.OrecOwning.{clock_raised}
use Rattle.rule_seq.specs.CglSteps.{Commits, cgl_entry}
use Rattle.rule_promoted.specs.PromotedSteps.{direct_commit}
use Rattle.stm_gate.specs.InnerLaws.{written-granted}
use Rattle.stm_gate.specs.Leaving.{CanLeave, left}
use Rattle.stm_gate.specs.LeavingLaws.{Carried, IsRaised, commits-left, ended-raised}
use Rattle.stm_gate.specs.Logging.{wrote-some}
use Rattle.stm_gate.specs.Opacity.{opaque-inside}
use Rattle.stm_gate.proofs.Peeling.{no-items}
use Rattle.alg_orec.specs.RecordFindings.{FindsStill}
use Rattle.rule_promoted.specs.RaisingSteps.{direct_raise_clock, CanDirectRaiseClock}
use Rattle.stm_rule.specs.declared.local.Local.{Local}
use Rattle.stm_rule.specs.Attempts.{Keeps, IsInside}
use Rattle.stm_rule.specs.EagerKept.{IsEagerPromoted}
use Rattle.stm_answers.specs.declared.answers.Commit.TheVariants.{ReadOnly}
use Rattle.stm_answers.specs.Answers.{CommitsAt}
use Rattle.stm_answers.specs.Answers as answers
use Rattle.stm_answers.specs.CallerState.{known_of, granted_under, written_under, wrote, has_written}
use Rattle.alg_orec.proofs.CommitOpening.{Promoted}
use Rattle.alg_orec.proofs.Eager.EagerBackLaws.{length-none, raise_clock_item, newest-low, newest-most, newest-one}
use Rattle.alg_orec.proofs.Eager.EagerProving.{none-saved, rose-by}
use Rattle.alg_orec.specs.EagerCommitting.{CanGiveDirect, CanGiveAbove, GivesAbove}
use Rattle.alg_orec.specs.EagerEnding.{AllBelow, IsNewest}
use Rattle.alg_orec.specs.Locking.{holding_still, ReleasesAll}

abbrev stored : At → ℕ → TracedStep
stored place t = record { place = place; act = Store t; found = None }

module _ {good : List ℕ → Type 0} {c : Config} {n : ℕ} {l : Local} {v : View} (p : Promoted good c n l v) where
  i : IsInside good c n l v
  i = p.inside

  eager : v.gate.algorithm ≡ OrecEager
  eager = p.eager

  abbrev rule : (ℕ → ℕ) → Type 0
  rule = of_words good c.words

  pub k : IsEagerPromoted c l v
  k = subst (λ (b : Bool). Keeps c OrecEager b l v) p.granted (subst (λ (a : Alg). Keeps c a l.granted l v) (sym i.named ∙ eager) i.keeps)

  pub closes : closes_gate v.gate.algorithm ≡ true
  closes = ap closes_gate eager

  pub granted-here : granted_under v.gate.algorithm v.gate v.lock ≡ true
  granted-here = ap (λ (a : Alg). granted_under a v.gate v.lock) eager ∙ k.granted

  written-here : (o : Own) → written_under v.gate.algorithm v.gate.granted v o ≡ items v.attempt.stores
  written-here o = written-granted v.gate.algorithm v.gate.granted v o k.granted

  -- what contracts see of it tells whether it wrote
  pub wrote-known : (o : Own) → (b : Bool) → l.wrote ≡ b → wrote (known_of v o) ≡ b
  wrote-known o true q = ap (λ (ws : List (ℕ × ℕ)). not (is_empty ws)) (written-here o) ∙ ap not (wrote-some v.attempt.stores (k.dirty q))
  wrote-known o false q = ap (λ (ws : List (ℕ × ℕ)). not (is_empty ws)) (written-here o ∙ ap items (k.clean q))

  -- WHERE IT WROTE NOTHING it may hold records of writes that were taken back
  pub may-give-above : l.wrote ≡ false → CanGiveAbove c l v
  may-give-above clean = record {
    phase = i.phase;
    granted = k.granted;
    eager = eager;
    unwritten = k.clean clean;
    unentered = i.unentered;
    front = i.front ∙ sym i.start;
    locks = k.locks;
    places = k.places;
    below = k.below;
  }

  module _ (y : View) (q : GivesAbove v y) where
    pub may-leave : CanLeave y
    may-leave = record {
      phase = ap (λ (u : View). u.gate.phase) q.is ∙ i.phase;
      unlocked = ap (λ (u : View). u.lock.taken) q.is ∙ k.unlocked;
      unfixed = ap (λ (u : View). u.lock.irrevocable) q.is ∙ k.unfixed;
      disowned = q.handed;
      unwritten = ap (λ (u : View). u.tml.writer) q.is ∙ k.unwritten;
      uncommitted = ap (λ (u : View). u.ring_commit.committed) q.is ∙ k.uncommitted;
      ungranted = λ e. absurd (let f : true ≡ false = sym (ap (λ (u : View). u.gate.holds) q.is ∙ (sym p.holds ∙ k.holds)) ∙ e in cc);
      plain = λ e. q.unentered;
      unstored = λ e. q.unstored;
      marked = λ e r. absurd (let f : true ≡ false = sym r ∙ q.unentered in cc);
    }

    pub tells-read_only : l.wrote ≡ false → (w : View) (o : Own) → w ≡ left n y → answers.Commits good c n (ReadOnly l.start) (known_of v o) (known_of w o)
    tells-read_only clean w o is = subst (λ (u : View). answers.Commits good c n (ReadOnly l.start) (known_of v o) (known_of u o)) (sym is) (
      ended-raised n good c l.start y.history.front v y o raised_by q.later (sym i.start) (opaque-inside good c n l v o i),
      (
        let a = q.rose.0 in let r = k.rises in omega arith,
        rose-by v.gate.algorithm (has_written (known_of v o)) v.steps.rises_at_begin y.steps.rises eager
            (let a = q.rose.1 in let r = k.rises in omega arith)
            (λ e. q.level (k.disowned (none-saved v o eager e)) ∙ k.rises),
      ),
      wrote-known o false clean,
    )
      where
        raised_by : IsRaised y.history.front v y
        raised_by = record {
          carried = record {
            named = ap (λ (u : View). u.gate.algorithm) q.is;
            base = ap (λ (u : View). u.steps.rises_at_begin) q.is;
            installs = ap (λ (u : View). u.steps.installs) q.is;
            fence = ap (λ (u : View). u.fence) q.is;
            step_trace = (q.more, q.step_trace);
            unlocked = ap (λ (u : View). u.lock.taken) q.is ∙ k.unlocked;
            unwritten = ap (λ (u : View). u.tml.writer) q.is ∙ k.unwritten;
          };
          history = ap (λ (u : View). u.history) q.is;
        }

  -- WITH AN ENTRY: the clock was raised to t, its records are given back, and BASE and DONE have t
  abbrev pub raised : ℕ → SeenHistory → View
  raised t h = record v {
    history = h;
    steps = record v.steps { rises = v.steps.rises + entry_rise l.algorithm; step_trace = stored Clock t ∷ v.steps.step_trace };
    gate = record v.gate { time = t; rebased = false; completed = false };
    attempt = record { start = t; reads = []; stores = []; entered = true };
  }

  module _ (t : ℕ) (h : SeenHistory) (s : View) (is : s ≡ raised t h) where
    pub may-give : CanGiveDirect c t l s
    may-give = subst (CanGiveDirect c t l) (sym is)
        (record {
          granted = k.granted;
          algorithm = ap has_records eager;
          entered = refl;
          time = refl;
          locks = k.locks;
          places = k.places;
        })

    module _ (y : View) (q : ReleasesAll s y) where
      abbrev given : View
      given = holding_still (raised t h) [] q.more

      y_path : y ≡ given
      y_path = q.is ∙ ap (λ (x : View). holding_still x [] q.more) is

      pub may-base : CanMark t y
      may-base = subst (CanMark t) (sym y_path)
          (record {
            closing = λ e. absurd (let f : true ≡ false = sym k.granted ∙ e in cc);
            quiescent = k.quiescent;
            time = refl;
          })

      module _ (u : View) (b : Tells (store_base t) Nothing y t u) where
        pub may-done : CanMark t u
        may-done = let m = may-base in subst (CanMark t) (sym b.2)
            (record { closing = m.closing; quiescent = m.quiescent; time = m.time })

        module _ (x : View) (d : Tells (store_done t) Nothing u t x) where
          abbrev pub last : View
          last = view_after (store_done t) d.0 (view_after (store_base t) b.0 given t) t

          pub path : x ≡ last
          path = d.2 ∙ ap (λ (z : View). view_after (store_done t) d.0 z t)
              (b.2 ∙ ap (λ (z : View). view_after (store_base t) b.0 z t) y_path)

          pub may-end : CanLeave x
          may-end = subst CanLeave (sym path) (record {
            phase = i.phase;
            unlocked = k.unlocked;
            unfixed = k.unfixed;
            disowned = refl;
            unwritten = k.unwritten;
            uncommitted = k.uncommitted;
            ungranted = λ e. absurd (let f : true ≡ false = sym (sym p.holds ∙ k.holds) ∙ e in cc);
            plain = λ e. absurd (let f : true ≡ false = sym k.granted ∙ e in cc);
            unstored = λ e. refl;
            marked = λ e r. (refl, refl);
          })

          pub carried : Carried v last
          carried = record {
            named = refl;
            base = refl;
            installs = refl;
            fence = refl;
            step_trace = (
              stored Done t ∷ stored Base t ∷ (q.more ++ stored Clock t ∷ []),
              ap (λ (r : List TracedStep). stored Done t ∷ stored Base t ∷ r)
                  (sym (append_assoc q.more (stored Clock t ∷ []) v.steps.step_trace)),
            );
            unlocked = k.unlocked;
            unwritten = k.unwritten;
          }

  -- with an entry
  abbrev pub entered : World → ℕ → SeenHistory
  entered w t = record v.history {
    made = cgl_entry n t v ∷ v.history.made;
    seen = cgl_entry n t v ∷ w.history;
    front = t;
  }

  pub tells-commit : (t : ℕ) → l.wrote ≡ true → t ≡ l.start + entry_rise l.algorithm → (s : View)
      (a : Tells (direct_commit n l.algorithm t) (Commits rule c n t) v t s) (y : View) (q : ReleasesAll s y)
      → (u : View) (b : Tells (store_base t) Nothing y t u) (x : View) (d : Tells (store_done t) Nothing u t x)
      (w : View) (o : Own) → w ≡ left n x → CommitsAt good c n t (known_of v o) (known_of w o)
  tells-commit t dirty time s a y q u b x d w o is = let h = entered a.0 t in
      subst (λ (z : View). CommitsAt good c n t (known_of v o) (known_of z o))
      (sym (is ∙ ap (left n) (path t h s a.2 y q u b x d)))
      (commits-left n good c t a.0 v (last t h s a.2 y q u b x d) o a.1 (record {
        carried = carried t h s a.2 y q u b x d;
        history = refl;
        rises = (let r = k.rises in let e : entry_rise v.gate.algorithm ≡ entry_rise l.algorithm = ap entry_rise i.named
            in omega arith);
      }) (let m = entry-some l.algorithm in let b = i.start in omega arith)
      (let m = entry-some l.algorithm in let b = i.front in omega arith) (k.dirty dirty) (written-here o))

-- the clock is above the versions that its records had, and no entry was made
pub record IsClockRaised (c : Config) (l : Local) (v : View) : Type 0 where
  pub phase : v.gate.phase ≡ In
  pub granted : v.gate.granted ≡ true
  pub eager : v.gate.algorithm ≡ OrecEager
  pub unentered : v.attempt.entered ≡ false
  pub raised : v.owned.raised ≡ true
  pub locks : l.locks.items ≡ items v.owned.held
  pub places : Inside c.records v.owned.held
  pub below : AllBelow CLOCK_LIMIT v.owned.held

-- THE RECORDS of a promoted attempt that wrote nothing are given back without an entry
module _ (c : Config) (l : Local) (v : View) (k : CanGiveAbove c l v) where
  pub gives-none : length l.locks.items ≡ 0 → GivesAbove v v
  gives-none none = record {
    is = refl;
    more = [];
    step_trace = refl;
    handed = no-items v.owned.held (sym k.locks ∙ length-none l.locks.items none);
    unstored = k.unwritten;
    unentered = k.unentered;
    later = omega arith;
    rose = (omega arith, omega arith);
    level = λ e. refl;
  }

  module _ (some : 0 < length l.locks.items) (x : ℕ) (top : IsNewest x l.locks.items) where
    pub may-raise_clock : (least : ℕ) → least ≡ x + 1 → CanDirectRaiseClock least v
    may-raise_clock least is = let one = newest-one l.locks.items v.owned.held k.locks x top some in record {
      phase = k.phase;
      granted = k.granted;
      named = k.eager;
      unwritten = k.unwritten;
      unentered = k.unentered;
      limit = (let b = newest-low l.locks.items v.owned.held k.locks x top some k.below in omega arith);
      above = λ r t. (let m = newest-most l.locks.items v.owned.held k.locks x top r t in omega arith);
      greatest = (one.0, one.1, (let e = one.2 in omega arith));
    }

    module _ (least found : ℕ) (w : View) (t : Tells (direct_raise_clock least) (FindsStill c) v found w) where
      abbrev raised_to : Bool → ℕ
      raised_to b = if b then v.steps.rises + 1 else v.steps.rises

      abbrev pub risen : Bool → View
      risen b = record v {
        history = record v.history { front = max found least };
        gate = record v.gate { time = max found least; rebased = false; completed = false };
        attempt = record { start = max found least; reads = []; stores = []; entered = false };
        owned = clock_raised v.owned;
        steps = record v.steps { rises = raised_to b; step_trace = raise_clock_item least found ∷ v.steps.step_trace };
      }

      raise_clock_path : w ≡ risen (ltb found least)
      raise_clock_path = t.2 ∙ by (ltb found least)
        where
          by : (b : Bool) → record v {
            history = record v.history { front = max found least };
            gate = record v.gate { time = max found least; rebased = false; completed = false };
            attempt = record { start = max found least; reads = []; stores = []; entered = false };
            owned = clock_raised v.owned;
            steps =
                record (if b then record v.steps { rises = v.steps.rises + 1 } else v.steps) {
                  step_trace =
                      raise_clock_item least found ∷ (if b then record v.steps { rises = v.steps.rises + 1 } else v.steps).step_trace;
                };
          } ≡ risen b
          by true = refl
          by false = refl

      pub raise_clock-step_trace : w.steps.step_trace ≡ raise_clock_item least found ∷ v.steps.step_trace
      raise_clock-step_trace = ap (λ (y : View). y.steps.step_trace) raise_clock_path

      pub is-clock_raised : IsClockRaised c l w
      is-clock_raised =
          subst (IsClockRaised c l) (sym raise_clock_path)
          (record {
            phase = k.phase;
            granted = k.granted;
            eager = k.eager;
            unentered = refl;
            raised = refl;
            locks = k.locks;
            places = k.places;
            below = k.below;
          })

      pub gives-above : (z : View) → ReleasesAll w z → GivesAbove v z
      gives-above z q = subst (GivesAbove v) (sym (q.is ∙ ap (λ (y : View). holding_still y [] q.more) raise_clock_path)) (record {
        is = refl;
        more = q.more ++ raise_clock_item least found ∷ [];
        step_trace = sym (append_assoc q.more (raise_clock_item least found ∷ []) v.steps.step_trace);
        handed = refl;
        unstored = refl;
        unentered = refl;
        later = (let s = t.1.started in let f = k.front in omega arith);
        rose = by (ltb found least);
        level = λ e. absurd (let f : length l.locks.items ≡ 0 = ap length (k.locks ∙ ap items e) in omega arith);
      })
        where
          by : (b : Bool) → (v.steps.rises ≤ raised_to b) × (raised_to b ≤ v.steps.rises + 1)
          by true = (omega arith, omega arith)
          by false = (omega arith, omega arith)
