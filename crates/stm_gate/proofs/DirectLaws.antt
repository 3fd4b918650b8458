-- What the steps of a promoted attempt come to.
use Rattle.std.proofs.Common.{ℕ, ◌≡◌, ◌<◌, ◌≤◌, ◌+◌, List, [], ◌∷◌, true, false, refl, sym, ap, ◌∙◌, arith, subst}
use Rattle.std.specs.Prelude.{not}
use Rattle.stm_model.specs.Algorithms.{closes_gate, entry_rise}
use Rattle.stm_model.specs.AlgorithmLaws.{entry-some}
use Rattle.stm_model.specs.declared.alg.Alg.{Alg}
use Rattle.stm_model.specs.declared.config.Config.{Config}
use Rattle.stm_model.specs.declared.config.TheConstants.{CLOCK_LIMIT}
use Rattle.stm_model.specs.Logs.{Reads, Keeps}
use Rattle.stm_model.specs.Memories.{is_empty, item_at, put}
use Rattle.rule_base.specs.declared.layout.At.TheVariants.{Clock, Heap}
use Rattle.rule_base.specs.declared.views.View.{View}
use Rattle.rule_base.specs.Bridge.{items, of_words}
use Rattle.rule_base.specs.Lemmas.BridgeLemmas.{keeps-cells}
use Rattle.rule_base.specs.History.{word_now}
use Rattle.rule_base.specs.Own.{Own}
use Rattle.rule_base.specs.StepKinds.{Nothing, Tells, view_after}
use Rattle.rule_base.specs.InstallSteps.{store_base, store_done, CanMark}
use Rattle.rule_seq.specs.CglSteps.{Loads, logged}
use Rattle.rule_seq.specs.CglSteps as steps
use Rattle.rule_promoted.specs.PromotedSteps.{direct_load, direct_store, direct_commit, CanDirectCommit}
use Rattle.stm_rule.specs.declared.local.Local.{Local}
use Rattle.stm_rule.specs.Attempts.{IsInside}
use Rattle.stm_answers.specs.declared.answers.Commit.TheVariants.{ReadOnly}
use Rattle.stm_answers.specs.declared.answers.Read.TheVariants.{Value}
use Rattle.stm_answers.specs.declared.answers.Write.TheVariants.{Done}
use Rattle.stm_answers.specs.Answers.{HasRead, HasWritten, KeepsRule, Commits, CommitsAt}
use Rattle.stm_answers.specs.CallerState.{known_of, granted_under, written_under, is_irrevocable, wrote}
use Rattle.stm_gate.specs.InnerLaws.{goes-inner, written-granted, irrevocable-granted, never-full}
use Rattle.stm_gate.proofs.KeptLaws.{kept-same, kept-irrevocable}
use Rattle.stm_gate.specs.Leaving.{left}
use Rattle.stm_gate.specs.LeavingLaws.{unmade-refl, ended-left, commits-left}
use Rattle.stm_gate.specs.Logging.{reads-logged, inside-logged, wrote-some}
use Rattle.stm_gate.specs.Opacity.{opaque-at, opaque-inside}
use Rattle.stm_gate.proofs.Standing.{IsDirect, promoted-of}

module _ (good : List ℕ → Type 0) (c : Config) (n : ℕ) where
  abbrev pub rule : (ℕ → ℕ) → Type 0
  rule = of_words good c.words

  -- a promoted attempt is irrevocable
  irrevocable-known : (v : View) (o : Own) → closes_gate v.gate.algorithm ≡ true → granted_under v.gate.algorithm v.gate v.lock ≡ true → is_irrevocable (known_of v o) ≡ true
  irrevocable-known v o closes granted = irrevocable-granted v.gate.algorithm (granted_under v.gate.algorithm v.gate v.lock) (wrote (known_of v o)) closes granted

  pub tells-load : (a x : ℕ) (l : Local) (v w : View) (o : Own) → o.committing ≡ false → a < c.words → closes_gate v.gate.algorithm ≡ true → granted_under v.gate.algorithm v.gate v.lock ≡ true → IsInside good c n l v
      → Tells (direct_load a) (Loads rule c a) v x w → HasRead good c n a (Value x) (known_of v o) (known_of w o)
  tells-load a x l v w o quiet low closes granted i t = subst (λ (u : View). HasRead good c n a (Value x) (known_of v o) (known_of u o)) (sym t.2) (
    goes-inner v u o i.phase (λ e. (_ ∷ [], refl, ((λ p. absurd (let no : Heap a ≡ Clock = p in cc)), tt))) (record { history = refl; gate = refl; lock = refl; writer = refl; fence = refl; start = refl; rises = refl; base = refl; installs = refl; step_trace = (_ ∷ [], refl) }),
    quiet,
    subst (λ (ws : List (ℕ × ℕ)).
        Reads (record { reads = items v.attempt.reads; writes = ws }) a x
        (record { reads = items (logged v.attempt a x); writes = written_under v.gate.algorithm v.gate.granted u o })) (sym (written v))
        (subst (λ (ws : List (ℕ × ℕ)). Reads (record { reads = items v.attempt.reads; writes = items v.attempt.stores }) a x (record { reads = items (logged v.attempt a x); writes = ws })) (sym (written u))
        (reads-logged (word_now v.history.seen) v.attempt a x i.sees t.1.value)),
    t.1.small,
    opaque-at good c n u o l.start i.start i.front i.legal i.below t.1.sees (inside-logged c.words v.attempt a x low i.reads_inside),
    (never-full a (known_of v o) (irrevocable-known v o closes granted)).0,
    refl,
    kept-same v.gate.algorithm v u o o refl refl refl,
  )
    where
      u : View
      u = view_after (direct_load a) t.0 v x

      written : (y : View) → written_under v.gate.algorithm v.gate.granted y o ≡ items y.attempt.stores
      written y = written-granted v.gate.algorithm v.gate.granted y o (promoted-of good c n l v i closes granted).0

  pub tells-store : (a x : ℕ) (l : Local) (v w : View) (o : Own) → o.committing ≡ false → closes_gate v.gate.algorithm ≡ true → granted_under v.gate.algorithm v.gate v.lock ≡ true → IsInside good c n l v
      → Tells (direct_store a x) Nothing v x w → HasWritten good c n a x Done (known_of v o) (known_of w o)
  tells-store a x l v w o quiet closes granted i t = subst (λ (u : View). HasWritten good c n a x Done (known_of v o) (known_of u o)) (sym t.2) (
    goes-inner v u o i.phase (λ e. (_ ∷ [], refl, ((λ p. absurd (let no : Heap a ≡ Clock = p in cc)), tt))) (record { history = refl; gate = refl; lock = refl; writer = refl; fence = refl; start = refl; rises = refl; base = refl; installs = refl; step_trace = (_ ∷ [], refl) }),
    quiet,
    (refl, λ b. ap (item_at b) (written u ∙ ap (put a x) (sym (written v)))),
    opaque-at good c n u o l.start i.start i.front i.legal i.below i.sees i.reads_inside,
    (never-full a (known_of v o) (irrevocable-known v o closes granted)).1,
    kept-same v.gate.algorithm v u o o refl refl refl ∙ sym (kept-irrevocable a (known_of v o) (irrevocable-known v o closes granted)),
    λ tml free. absurd (let no : true ≡ false = sym granted ∙ free in cc),
  )
    where
      u : View
      u = view_after (direct_store a x) t.0 v x

      written : (y : View) → written_under v.gate.algorithm v.gate.granted y o ≡ items y.attempt.stores
      written y = written-granted v.gate.algorithm v.gate.granted y o (promoted-of good c n l v i closes granted).0

  -- what a promoted attempt wrote is what it stored
  written-here : (l : Local) (v : View) (o : Own) → closes_gate v.gate.algorithm ≡ true
      → granted_under v.gate.algorithm v.gate v.lock ≡ true → IsInside good c n l v
      → written_under v.gate.algorithm v.gate.granted v o ≡ items v.attempt.stores
  written-here l v o closes granted i = written-granted v.gate.algorithm v.gate.granted v o (promoted-of good c n l v i closes granted).0

  pub tells-read_only : (l : Local) (v w : View) (o : Own) → l.wrote ≡ false → closes_gate v.gate.algorithm ≡ true → granted_under v.gate.algorithm v.gate v.lock ≡ true → IsInside good c n l v → w ≡ left n v
      → Commits good c n (ReadOnly l.start) (known_of v o) (known_of w o)
  tells-read_only l v w o clean closes granted i is = subst (λ (u : View). Commits good c n (ReadOnly l.start) (known_of v o) (known_of u o)) (sym is) (
    ended-left n good c l.start v v o (unmade-refl v p.unlocked p.unwritten) (sym i.start) (opaque-inside good c n l v o i),
    (let r = p.rises in omega arith, let r = p.rises in omega arith),
    ap (λ (ws : List (ℕ × ℕ)). not (is_empty ws)) (written-here l v o closes granted i ∙ ap items (p.clean clean)),
  )
    where
      p : IsDirect l v
      p = (promoted-of good c n l v i closes granted).2

  due : (alg : Alg) (t : ℕ) (l : Local) (v : View) → t ≡ l.start + entry_rise alg → IsInside good c n l v → t ≡ v.attempt.start + entry_rise alg
  due alg t l v time i = time ∙ ap (λ (k : ℕ). k + entry_rise alg) (sym i.start)

  within : (alg : Alg) (t : ℕ) (l : Local) (v : View) → l.algorithm ≡ alg → t ≡ l.start + entry_rise alg → IsDirect l v → t ≤ CLOCK_LIMIT
  within alg t l v named time p = subst (λ (k : ℕ). k ≤ CLOCK_LIMIT) (sym time) (subst (λ (a : Alg). l.start + entry_rise a ≤ CLOCK_LIMIT) named p.limit)

  -- a promoted attempt that wrote may store the next time
  pub may-commit : (alg : Alg) (t : ℕ) (l : Local) (v : View) (o : Own) → l.algorithm ≡ alg → t ≡ l.start + entry_rise alg → l.wrote ≡ true
      → closes_gate v.gate.algorithm ≡ true → granted_under v.gate.algorithm v.gate v.lock ≡ true → IsInside good c n l v
      → KeepsRule good c n (known_of v o) → CanDirectCommit rule alg t v
  may-commit alg t l v o named time dirty closes granted i keeps = record {
    phase = i.phase;
    granted = p.granted;
    named = i.named ∙ named;
    time = due alg t l v time i;
    limit = within alg t l v named time p;
    wrote = p.dirty dirty;
    keeps = keeps-cells good c.words v.attempt.reads v.attempt.stores i.reads_inside
        (subst (λ (ws : List (ℕ × ℕ)). Keeps good c.words (record { reads = items v.attempt.reads; writes = ws })) written
        (keeps (ap (λ (ws : List (ℕ × ℕ)). not (is_empty ws)) written ∙ ap not (wrote-some v.attempt.stores (p.dirty dirty)))));
  }
    where
      p : IsDirect l v
      p = (promoted-of good c n l v i closes granted).2

      written : written_under v.gate.algorithm v.gate.granted v o ≡ items v.attempt.stores
      written = written-here l v o closes granted i

  pub tells-commit : (alg : Alg) (t : ℕ) (l : Local) (v s u y w : View) (o : Own) → l.algorithm ≡ alg → t ≡ l.start + entry_rise alg
      → l.wrote ≡ true → closes_gate v.gate.algorithm ≡ true → granted_under v.gate.algorithm v.gate v.lock ≡ true → IsInside good c n l v
      → Tells (direct_commit n alg t) (steps.Commits rule c n t) v t s → Tells (store_base t) Nothing s t u → Tells (store_done t) Nothing u t y → w ≡ left n y
      → CommitsAt good c n t (known_of v o) (known_of w o)
  tells-commit alg t l v s u y w o named time dirty closes granted i a b d is = subst (λ (x : View). CommitsAt good c n t (known_of v o) (known_of x o)) (sym path)
      (commits-left n good c t a.0 v last o a.1 (record {
        carried = record { named = refl; base = refl; installs = refl; fence = refl; step_trace = (_ ∷ _ ∷ _ ∷ [], refl); unlocked = p.unlocked; unwritten = p.unwritten };
        history = refl;
        rises = (let r = p.rises in let e : entry_rise v.gate.algorithm ≡ entry_rise alg = ap entry_rise (i.named ∙ named) in omega arith);
      }) (let m = entry-some alg in let k = i.start in omega arith) (let m = entry-some alg in let k = i.front in omega arith) (p.dirty dirty) (written-here l v o closes granted i))
    where
      p : IsDirect l v
      p = (promoted-of good c n l v i closes granted).2

      last : View
      last = view_after (store_done t) d.0 (view_after (store_base t) b.0 (view_after (direct_commit n alg t) a.0 v t) t) t

      path : w ≡ left n last
      path = is ∙ ap (left n) (d.2 ∙ ap (λ (x : View). view_after (store_done t) d.0 x t) (b.2 ∙ ap (λ (x : View). view_after (store_base t) b.0 x t) a.2))

  -- BASE and DONE may have the time of the entry
  pub may-base : (alg : Alg) (t : ℕ) (l : Local) (v s : View) → closes_gate v.gate.algorithm ≡ true → granted_under v.gate.algorithm v.gate v.lock ≡ true → IsInside good c n l v
      → Tells (direct_commit n alg t) (steps.Commits rule c n t) v t s → CanMark t s
  may-base alg t l v s closes granted i a = let p = (promoted-of good c n l v i closes granted).2 in
      subst (CanMark t) (sym a.2) (record { closing = λ e. absurd (let k : true ≡ false = sym p.granted ∙ e in cc); quiescent = p.quiescent; time = refl })

  pub may-done : (alg : Alg) (t : ℕ) (l : Local) (v s u : View) → closes_gate v.gate.algorithm ≡ true → granted_under v.gate.algorithm v.gate v.lock ≡ true → IsInside good c n l v
      → Tells (direct_commit n alg t) (steps.Commits rule c n t) v t s → Tells (store_base t) Nothing s t u → CanMark t u
  may-done alg t l v s u closes granted i a b = let m = may-base alg t l v s closes granted i a in
      subst (CanMark t) (sym b.2) (record { closing = m.closing; quiescent = m.quiescent; time = m.time })
