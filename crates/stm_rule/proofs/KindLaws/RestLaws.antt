-- Who has closed the gate and seen all other callers idle is alone with the memory.
use Rattle.std.proofs.Common.{◌≡◌, ◌≢◌, ℕ, zero, suc, ◌+◌, List, Bool, true, false, arith, refl, sym, subst, ap, ◌∙◌, le_refl}
use Rattle.std.specs.Prelude.{◌==◌, ◌%◌, if◌then◌else◌}
use Rattle.std.proofs.lemmas.Bool.Decides.{nat_tests}
use Rattle.stm_model.specs.declared.alg.Alg.{Alg}
use Rattle.stm_model.specs.declared.alg.Alg.TheVariants.{Tml, RingSw}
use Rattle.rule_base.specs.declared.entries.Cell.{Cell}
use Rattle.stm_model.specs.declared.config.Config.{Config}
use Rattle.rule_base.specs.declared.views.Phase.{Phase}
use Rattle.rule_base.specs.declared.views.Phase.TheVariants.{Idle, Announced, Turned, Aiming, In, Closing}
use Rattle.rule_base.specs.Encodings.{alg_of, is_owned, owner_of}
use Rattle.stm_model.specs.Algorithms.{has_records}
use Rattle.rule_base.specs.GateLaws.{others-rest}
use Rattle.rule_base.specs.GateRule.{rests, may_hold}
use Rattle.rule_base.specs.History.{over, touches, word_now}
use Rattle.rule_base.specs.Lemmas.HistoryLemmas.{word_at-all}
use Rattle.rule_base.specs.InstallSteps.{HasChecked}
use Rattle.rule_base.specs.Regime.{mode_of, Regime, regime}
use Rattle.rule_base.specs.Regime.Mode.{Plain}
use Rattle.rule_base.specs.Regime.Regime.{Running}
use Rattle.rule_base.specs.Lemmas.RegimeLemmas.{regime-running, regime-granted, plain-mode, regime-given}
use Rattle.rule_base.specs.Rest.{own_stores, in_place, in_place_at, BareRest, BareAtRest, IsQuiet, HasInstalled}
use Rattle.rule_base.specs.Ranks.{rec_of, home_of}
use Rattle.rule_base.specs.Ranks.Rec.{Taken}
use Rattle.rule_base.specs.RunProjection.{run_projection}
use Rattle.rule_base.specs.World.{World}
use Rattle.rule_seq.specs.AttemptLemmas.{busy-owned, busy-tml, busy-writer, busy-ring, busy-turn}
use Rattle.rule_promoted.specs.PromotedRule.{TmlSuits, Suits, DirectRuns, suit_projection}
use Rattle.stm_rule.specs.Kinds.Frames.{ungranted-out, owner-holds}
use Rattle.stm_rule.specs.Product.{Gives, Runs, Core}
use Rattle.stm_rule.specs.Quiescence.{IsInstalled}
use Rattle.stm_rule.specs.Kinds.Running.{Ease, at-rest}

module _ (good : (ℕ → ℕ) → Type 0) (c : Config) (n : ℕ) (w : World) (g : Core good c w) where
  -- who isn't promoted and holds the gate has the regime of its algorithm
  pub regime-held : (w.views n).gate.holds ≡ true → (w.views n).gate.granted ≡ false → (w.views n).gate.giving ≡ false → regime w ≡ Running (alg_of w.gate)
  regime-held holds plain kept = regime-running w (λ m h. subst (λ (k : ℕ). mode_of (w.views k).gate ≡ Plain) (let o = g.gate.mine n holds in let e : n ≡ m = omega arith in e) (plain-mode (w.views n).gate plain kept))

  module _ (checked : HasChecked c.callers n (w.views n)) where
    -- the others are in no attempt
    pub nobody-else : (m : ℕ) → m ≢ n → (w.views m).gate.phase ≡ In → ⊥
    nobody-else m other inside = let p : false ≡ true = sym (ap rests inside) ∙ others-rest c.callers w n checked g.gate m other in cc

    -- what is so of n, and of nobody who is in no attempt, is so of nobody
    pub nobody-by : (P : ℕ → Type 0) → (P n → ⊥) → ((m : ℕ) → P m → (w.views m).gate.phase ≡ In) → (m : ℕ) → P m → ⊥
    nobody-by P own inside m p = apart (m == n) refl
      where
        apart : (b : Bool) → (m == n) ≡ b → ⊥
        apart true e = own (subst P (let same : m ≡ n = grind (arith, nat_tests, e) in same) p)
        apart false e = nobody-else m (λ same. grind (arith, nat_tests, e, same)) (inside m p)

    module _ (unlocked : (w.views n).lock.taken ≡ false) where
      pub nobody-takes : (m : ℕ) → (w.views m).lock.taken ≡ true → ⊥
      nobody-takes = nobody-by (λ m. (w.views m).lock.taken ≡ true) (λ t. let f : true ≡ false = sym t ∙ unlocked in cc) g.lock.inside

      lock_free : (x : ℕ) → w.lock ≡ x → w.lock ≡ 0
      lock_free zero e = e
      lock_free (suc k) e = absurd (nobody-takes k (g.lock.owner k (let o : w.lock ≡ 1 + k = omega arith in o)))

      pub lock-rests : w.lock ≡ 0
      lock-rests = lock_free w.lock refl

    module _ (unlocked : (w.views n).lock.taken ≡ false) (unwritten : (w.views n).tml.writer ≡ false) (uncommitted : (w.views n).ring_commit.committed ≡ false) where
      pub nobody-writes : (m : ℕ) → (w.views m).tml.writer ≡ true → ⊥
      nobody-writes = nobody-by (λ m. (w.views m).tml.writer ≡ true) (λ t. let f : true ≡ false = sym t ∙ unwritten in cc) (λ m t. g.attempts.busy m (busy-writer (w.views m) t))

      pub nobody-commits : (m : ℕ) → (w.views m).ring_commit.committed ≡ true → ⊥
      nobody-commits = nobody-by (λ m. (w.views m).ring_commit.committed ≡ true) (λ t. let f : true ≡ false = sym t ∙ uncommitted in cc) (λ m t. g.attempts.busy m (busy-turn (w.views m) t))

      -- while its attempt isn't promoted the heap is the memory
      pub running-rests : (w.views n).gate.holds ≡ true → (w.views n).gate.granted ≡ false → (w.views n).gate.giving ≡ false
          → (has_records (alg_of w.gate) ≡ true → (r m : ℕ) → rec_of (w.records r) ≡ Taken m → ⊥)
          → ((a : ℕ) → w.heap a ≡ word_now w.history a) × (alg_of w.gate ≡ Tml → w.clock % 2 ≡ 0)
          × (alg_of w.gate ≡ RingSw → ((m : ℕ) → (w.views m).attempt.entered ≡ false) → w.done ≡ w.clock)
      running-rests holds plain kept freed =
          at-rest c (alg_of w.gate) (run_projection w)
          (subst (λ (r : Regime). Runs c r (run_projection w)) (regime-held holds plain kept) g.running) (lock-rests unlocked) nobody-writes
          nobody-commits freed

  record_free : (checked : HasChecked c.callers n (w.views n)) (r : ℕ) → touches (w.views n).owned.held r ≡ false → (b : Bool) → is_owned (w.records r) ≡ b → b ≡ false
  record_free checked r bare true e =
      absurd (nobody-by checked (λ m. touches (w.views m).owned.held r ≡ true) (λ t. let f : true ≡ false = sym t ∙ bare in cc)
      (λ m t. g.records.inside m r t) (owner_of (w.records r)) (g.records.owned r e))
  record_free checked r bare false e = refl

  -- who has seen all others idle alone may have raised the clock as the gate's holder
  pub else-unentered : HasChecked c.callers n (w.views n) → (m : ℕ) → m ≢ n → (w.views m).attempt.entered ≡ true → ⊥
  else-unentered checked m other e = resting (w.views m).gate.phase (others-rest c.callers w n checked g.gate m other) (g.attempts.entered m e)
    where
      resting : (p : Phase) → rests p ≡ true → may_hold p ≡ true → ⊥
      resting Idle r h = cc
      resting Announced r h = cc
      resting Turned r h = cc
      resting Aiming r h = cc
      resting In r h = cc
      resting Closing r h = cc

  pub nobody-enters : HasChecked c.callers n (w.views n) → (w.views n).attempt.entered ≡ false → (m : ℕ) → (w.views m).attempt.entered ≡ false
  nobody-enters checked own m = go (w.views m).attempt.entered refl
    where
      apart : (b : Bool) → (m == n) ≡ b → (w.views m).attempt.entered ≡ true → ⊥
      apart true q e = let same : m ≡ n = grind (arith, nat_tests, q) in let f : true ≡ false = sym (subst (λ (k : ℕ). (w.views k).attempt.entered ≡ true) same e) ∙ own in cc
      apart false q e = else-unentered checked m (λ same. grind (arith, nat_tests, q, same)) e

      go : (b : Bool) → (w.views m).attempt.entered ≡ b → b ≡ false
      go true e = absurd (apart (m == n) refl e)
      go false e = refl

  -- the parts of rest that are the same for who closes and who promotes
  rest_of : (checked : HasChecked c.callers n (w.views n)) → (w.views n).gate.holds ≡ true → w.lock ≡ 0
      → ((a : ℕ) → w.heap a ≡ over (in_place (w.views n)) a (word_now w.history a)) → (alg_of w.gate ≡ Tml → w.clock % 2 ≡ 0)
      → (alg_of w.gate ≡ RingSw → (w.views n).attempt.entered ≡ false → w.done ≡ w.clock) → BareRest n w
  rest_of checked holds lock heap even done = record {
    gate = g.gate.mine n holds;
    others = others-rest c.callers w n checked g.gate;
    heap = λ a. heap a ∙ ap (over (in_place (w.views n)) a) (sym (word_at-all w.history (w.clock + 1) w.clock a g.history.below (le_refl (w.clock + 1))));
    lock = lock;
    records = λ r t. (record_free checked r t (is_owned (w.records r)) refl, g.records.free r (record_free checked r t (is_owned (w.records r)) refl));
    even = even;
    done = done;
  }

  -- THE LAW OF QUIESCENCE OF A PROMOTED ATTEMPT: its own stores lie in the heap, and all else is at rest
  pub granted-rests : (w.views n).gate.granted ≡ true → BareRest n w
  granted-rests granted =
      rest_of checked holds (lock-rests checked d.direct.unlocked)
      (λ a. d.direct.stored a ∙ ap (λ (l : List Cell). over l a (word_now w.history a)) (sym own)) (λ q. even (sym named ∙ q)) (λ q.
      (d.ring (sym named ∙ q)).level)
    where
      promoted : ((w.views n).gate.quiescent ≡ true) × ((w.views n).gate.phase ≡ In)
      promoted = g.install.promoted n granted

      holds : (w.views n).gate.holds ≡ true
      holds = g.install.holding n promoted.0

      checked : HasChecked c.callers n (w.views n)
      checked k low other = g.install.alone n k promoted.0 low other

      d : DirectRuns c (w.views n).gate.algorithm n (run_projection w)
      d = subst (λ (r : Regime). Runs c r (run_projection w)) (regime-granted c w n g.gate g.install granted) g.running

      named : alg_of w.gate ≡ (w.views n).gate.algorithm
      named = g.gate.held n holds

      even : (w.views n).gate.algorithm ≡ Tml → w.clock % 2 ≡ 0
      even q = let s : TmlSuits (suit_projection n w) = subst (λ (a : Alg). Suits (home_of c) a (suit_projection n w)) q d.suits in s.even

      direct : (b : Bool) → (if b then (if (w.views n).gate.granted then (w.views n).attempt.stores else (w.views n).owned.in_place) else (w.views n).attempt.stores) ≡ (w.views n).attempt.stores
      direct true = ap (λ (t : Bool). if t then (w.views n).attempt.stores else (w.views n).owned.in_place) granted
      direct false = refl

      own : in_place (w.views n) ≡ (w.views n).attempt.stores
      own = ap (λ q. in_place_at q (own_stores (w.views n))) promoted.1 ∙ direct (w.views n).owned.inside

  module _ (quiet : IsQuiet c n w) where
    out_of : (w.views n).gate.phase ≡ In → ⊥
    out_of e = let k : In ≡ Closing = sym e ∙ quiet.closing in cc

    nobody_in : (m : ℕ) → (w.views m).gate.phase ≡ In → ⊥
    nobody_in = nobody-by quiet.checked (λ m. (w.views m).gate.phase ≡ In) out_of (λ m e. e)

    free : (b : Bool) → (w.views n).lock.taken ≡ b → b ≡ false
    free true t = absurd (nobody_in n (g.lock.inside n t))
    free false t = refl

    reads : (b : Bool) → (w.views n).tml.writer ≡ b → b ≡ false
    reads true t = absurd (nobody_in n (g.attempts.busy n (busy-writer (w.views n) t)))
    reads false t = refl

    early : (b : Bool) → (w.views n).ring_commit.committed ≡ b → b ≡ false
    early true t = absurd (nobody_in n (g.attempts.busy n (busy-turn (w.views n) t)))
    early false t = refl

    bare : (r : ℕ) (b : Bool) → touches (w.views n).owned.held r ≡ b → b ≡ false
    bare r true t = absurd (nobody_in n (g.records.inside n r t))
    bare r false t = refl

    plain : (w.views n).gate.granted ≡ false
    plain = ungranted-out good c w n g out_of

    pub quiet-regime : (w.views n).gate.giving ≡ false → regime w ≡ Running (alg_of w.gate)
    quiet-regime kept = regime-held (g.gate.closing n quiet.closing) plain kept

    -- no record is owned
    pub quiet-freed : (r m : ℕ) → rec_of (w.records r) ≡ Taken m → ⊥
    quiet-freed r m e = nobody_in m (g.records.inside m r (owner-holds good c w g r m e))

    pub heap-rests : ((a : ℕ) → w.heap a ≡ word_now w.history a) × (alg_of w.gate ≡ Tml → w.clock % 2 ≡ 0) × (alg_of w.gate ≡ RingSw → ((m : ℕ) → (w.views m).attempt.entered ≡ false) → w.done ≡ w.clock)
    heap-rests = by (w.views n).gate.giving refl
      where
        by : (b : Bool) → (w.views n).gate.giving ≡ b
            → ((a : ℕ) → w.heap a ≡ word_now w.history a) × (alg_of w.gate ≡ Tml → w.clock % 2 ≡ 0)
            × (alg_of w.gate ≡ RingSw → ((m : ℕ) → (w.views m).attempt.entered ≡ false) → w.done ≡ w.clock)
        by true e =
            let named = g.gate.held n (g.gate.closing n quiet.closing) in
            let k : Gives (w.views n).gate.algorithm (run_projection w) = subst (λ (r : Regime). Runs c r (run_projection w)) (regime-given c w n g.gate g.install e) g.running in
            (k.heap, λ q. k.even (sym named ∙ q), λ q. k.level (sym named ∙ q))
        by false e =
            running-rests quiet.checked (free (w.views n).lock.taken refl) (reads (w.views n).tml.writer refl)
            (early (w.views n).ring_commit.committed refl) (g.gate.closing n quiet.closing) plain e (λ has. quiet-freed)

    -- nobody is in an attempt
    pub quiet-ease : Ease (run_projection w)
    quiet-ease =
        record {
          heap = heap-rests.0;
          unlocked = λ m t. nobody_in m (g.lock.inside m t);
          outside = λ m t. nobody_in m (g.attempts.busy m (busy-tml (w.views m) t));
          unwritten = λ m t. nobody_in m (g.attempts.busy m (busy-writer (w.views m) t));
          unread = λ m t. nobody_in m (g.attempts.busy m (busy-ring (w.views m) t));
          uncommitted = λ m t. nobody_in m (g.attempts.busy m (busy-turn (w.views m) t));
          inside = λ m t. nobody_in m (g.attempts.busy m (busy-owned (w.views m) t));
          unheld = λ m r t. nobody_in m (g.records.inside m r t);
          freed = quiet-freed;
          below = g.history.below;
        }

    -- THE LAW OF QUIESCENCE
    pub quiet-rests : BareAtRest n w
    quiet-rests = record {
      rest = rest_of quiet.checked (g.gate.closing n quiet.closing) (lock-rests quiet.checked (free (w.views n).lock.taken refl))
          (λ a. heap-rests.0 a ∙ ap (λ p. over (in_place_at p (own_stores (w.views n))) a (word_now w.history a)) (sym quiet.closing)) heap-rests.1 (λ e own. heap-rests.2 e (nobody-enters quiet.checked own));
      outside = quiet.closing;
    }

    -- THE LAW OF INSTALLING: the next algorithm starts from rest, with BASE and DONE at the clock
    pub installed-rests : HasInstalled n w → BareAtRest n w × IsInstalled n w
    installed-rests i = (
      quiet-rests,
      record {
        base = (let t = g.install.time n i.quiescent in let b = (g.install.rebased n i.rebased).1 in omega arith);
        done = (let t = g.install.time n i.quiescent in let d = (g.install.completed n i.completed).1 in omega arith);
        named = g.gate.held n (g.gate.closing n quiet.closing);
      },
    )
