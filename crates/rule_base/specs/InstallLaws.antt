-- The clauses of BASE, of DONE and of who installs, after a step.
use Rattle.std.proofs.Common.{◌≡◌, ◌≢◌, ℕ, ◌<◌, ◌≤◌, List, Bool, true, false, arith, refl, sym, subst, ap, ◌∙◌}
use Rattle.std.specs.Prelude.{◌+◌, ◌==◌}
use Rattle.std.proofs.lemmas.Bool.Decides.{nat_tests}
use Rattle.stm_model.specs.declared.alg.Alg.{Alg}
use Rattle.stm_model.specs.declared.config.Config.{Config}
use Rattle.rule_base.specs.declared.views.GateView.{GateView}
use Rattle.rule_base.specs.declared.views.Phase.TheVariants.{In, Closing}
use Rattle.rule_base.specs.declared.views.View.{View}
use Rattle.rule_base.specs.Encodings.{gate_word}
use Rattle.rule_base.specs.GateRule.{rests, GateRule, gate_projection}
use Rattle.rule_base.specs.GateLaws.{others-rest}
use Rattle.rule_base.specs.GateSteps.{depart, departed, CanDepart, granted_at}
use Rattle.rule_base.specs.History.{member}
use Rattle.rule_base.specs.InstallRule.{InstallProjection, install_projection, InstallRule}
use Rattle.rule_base.specs.InstallSteps.{HasChecked, settle, CanSettle, even_clock, CanEvenClock, store_base, store_done, CanMark, install}
use Rattle.rule_base.specs.Lemmas.PutLemmas.{parts-put, parts-kept}
use Rattle.rule_base.specs.StepKinds.{view_after, world_after}
use Rattle.rule_base.specs.World.{World, put, parts}

pub install_projection-put : (w x : World) (n : ℕ) (v : View) → x.views ≡ put w.views n v
    → install_projection x ≡ record { clock = x.clock; base = x.base; done = x.done; views = put (install_projection w).views n v.gate }
install_projection-put w x n v is = λ i. record { clock = x.clock; base = x.base; done = x.done; views = (ap (parts (λ (u : View). u.gate)) is ∙ parts-put (λ (u : View). u.gate) w.views n v) i }

pub install_projection-kept : (w x : World) (n : ℕ) (v : View) → x.views ≡ put w.views n v → x.clock ≡ w.clock → x.base ≡ w.base → x.done ≡ w.done → v.gate ≡ (w.views n).gate → install_projection x ≡ install_projection w
install_projection-kept w x n v is clock base done own = λ i. record { clock = clock i; base = base i; done = done i; views = (ap (parts (λ (u : View). u.gate)) is ∙ parts-kept (λ (u : View). u.gate) w.views n v own) i }

module _ (c : Config) where
  -- who doesn't hold the gate hasn't loaded the clock since, nor stored it, and isn't promoted
  pub not-quiescent : (s : InstallProjection) (n : ℕ) → InstallRule c s → (s.views n).holds ≡ false
      → ((s.views n).quiescent ≡ false) × ((s.views n).rebased ≡ false) × ((s.views n).completed ≡ false) × ((s.views n).granted ≡ false)
      × ((s.views n).giving ≡ false)
  not-quiescent s n r free = (quiescent (s.views n).quiescent refl, rebased (s.views n).rebased refl, completed (s.views n).completed refl, granted (s.views n).granted refl, giving (s.views n).giving refl)
    where
      out : (s.views n).quiescent ≡ true → ⊥
      out e = let p : true ≡ false = sym (r.holding n e) ∙ free in cc

      quiescent : (b : Bool) → (s.views n).quiescent ≡ b → b ≡ false
      quiescent true e = absurd (out e)
      quiescent false e = refl

      rebased : (b : Bool) → (s.views n).rebased ≡ b → b ≡ false
      rebased true e = absurd (out (r.rebased n e).0)
      rebased false e = refl

      completed : (b : Bool) → (s.views n).completed ≡ b → b ≡ false
      completed true e = absurd (out (r.completed n e).0)
      completed false e = refl

      granted : (b : Bool) → (s.views n).granted ≡ b → b ≡ false
      granted true e = absurd (out (r.promoted n e).0)
      granted false e = refl

      giving : (b : Bool) → (s.views n).giving ≡ b → b ≡ false
      giving true e = absurd (out (r.giving n e).0)
      giving false e = refl

  -- a step after which the caller has not loaded the clock as the gate's holder
  pub install-view : (w x : World) (n : ℕ) (g : GateView) (v : View) → x.views ≡ put w.views n v → x.clock ≡ w.clock → x.base ≡ w.base
      → x.done ≡ w.done → v.gate ≡ g → g.quiescent ≡ false → g.rebased ≡ false → g.completed ≡ false → g.granted ≡ false → g.giving ≡ false
      → InstallRule c (install_projection w) → InstallRule c (install_projection x)
  install-view w x n g v is clock base done own quiescent rebased completed granted giving r = subst (InstallRule c) (sym path) (record {
    base = r.base;
    done = r.done;
    opened = r.opened;
    holding = λ m e. grind (arith, r.holding m, e, quiescent);
    promoted = λ m e. grind (arith, r.promoted m, e, granted);
    giving = λ m e. grind (arith, r.giving m, e, giving);
    alone = λ m k e. grind (arith, r.alone m k, e, quiescent);
    time = λ m e. grind (arith, r.time m, e, quiescent);
    rebased = λ m e. grind (arith, r.rebased m, e, rebased);
    completed = λ m e. grind (arith, r.completed m, e, completed);
  })
    where
      path : install_projection x ≡ record (install_projection w) { views = put (install_projection w).views n g }
      path = λ i. record { clock = clock i; base = base i; done = done i; views = (ap (parts (λ (u : View). u.gate)) is ∙ (parts-put (λ (u : View). u.gate) w.views n v ∙ ap (put (install_projection w).views n) own)) i }

  -- a step of a caller that doesn't hold the gate, which leaves what it knows as a holder alone
  pub install-apart : (w x : World) (n : ℕ) (v : View) → x.views ≡ put w.views n v → x.clock ≡ w.clock → x.base ≡ w.base → x.done ≡ w.done → (w.views n).gate.holds ≡ false
      → v.gate.quiescent ≡ (w.views n).gate.quiescent → v.gate.rebased ≡ (w.views n).gate.rebased
      → v.gate.completed ≡ (w.views n).gate.completed → v.gate.granted ≡ (w.views n).gate.granted → v.gate.giving ≡ (w.views n).gate.giving
      → InstallRule c (install_projection w) → InstallRule c (install_projection x)
  install-apart w x n v is clock base done out quiescent rebased completed granted giving r =
      let o = not-quiescent (install_projection w) n r out in
      install-view w x n v.gate v is clock base done refl (quiescent ∙ o.0) (rebased ∙ o.1) (completed ∙ o.2) (granted ∙ o.3) (giving ∙ o.4) r

  -- while a caller is in an attempt and hasn't loaded the clock as the gate's holder, nobody has
  pub nobody-quiescent : (w : World) (n : ℕ) → (w.views n).gate.phase ≡ In → (w.views n).gate.quiescent ≡ false
      → GateRule c.callers (gate_projection w) → InstallRule c (install_projection w) → n < c.callers → (m : ℕ)
      → (w.views m).gate.quiescent ≡ true → ⊥
  nobody-quiescent w n inside plain g r low m quiescent = apart (m == n) refl
    where
      apart : (b : Bool) → (m == n) ≡ b → ⊥
      apart true e =
          let same : m ≡ n = grind (arith, nat_tests, e) in
          let p : true ≡ false = sym (subst (λ (k : ℕ). (w.views k).gate.quiescent ≡ true) same quiescent) ∙ plain in cc
      apart false e =
          let other : n ≢ m = λ same. grind (arith, nat_tests, e, same) in
          let rest : rests (w.views n).gate.phase ≡ true = g.seen m n (r.alone m n quiescent low other) in
          let p : false ≡ true = sym (ap rests inside) ∙ rest in cc

  -- who is promoted is the only one in an attempt, and nobody else is promoted
  pub others-out : (w : World) (n : ℕ) → (w.views n).gate.quiescent ≡ true → GateRule c.callers (gate_projection w) → InstallRule c (install_projection w) → (m : ℕ) → m ≢ n → rests (w.views m).gate.phase ≡ true
  others-out w n quiescent g r = others-rest c.callers w n (λ k low other. r.alone n k quiescent low other) g

  -- an attempt raised the clock
  pub install-raised : (w x : World) (n : ℕ) (v : View) → x.views ≡ put w.views n v → w.clock ≤ x.clock → x.base ≡ w.base → x.done ≡ w.done → v.gate ≡ (w.views n).gate → ((m : ℕ) → (w.views m).gate.quiescent ≡ true → ⊥)
      → InstallRule c (install_projection w) → InstallRule c (install_projection x)
  install-raised w x n v is up base done own nobody r = subst (InstallRule c) (sym path) (record {
    base = (let b = r.base in omega arith);
    done = (let d = r.done in omega arith);
    opened = r.opened;
    holding = λ m e. absurd (nobody m e);
    promoted = λ m e. absurd (nobody m (r.promoted m e).0);
    giving = λ m e. absurd (nobody m (r.giving m e).0);
    alone = λ m k e. absurd (nobody m e);
    time = λ m e. absurd (nobody m e);
    rebased = λ m e. absurd (nobody m (r.rebased m e).0);
    completed = λ m e. absurd (nobody m (r.completed m e).0);
  })
    where
      path : install_projection x ≡ record (install_projection w) { clock = x.clock }
      path = λ i. record { clock = x.clock; base = base i; done = done i; views = (ap (parts (λ (u : View). u.gate)) is ∙ parts-kept (λ (u : View). u.gate) w.views n v own) i }

  -- an attempt raised DONE, or the clock
  pub install-done : (w x : World) (n : ℕ) (v : View) → x.views ≡ put w.views n v → w.clock ≤ x.clock → x.base ≡ w.base → x.done ≤ x.clock
      → w.done ≤ x.done → v.gate ≡ (w.views n).gate → ((m : ℕ) → (w.views m).gate.quiescent ≡ true → ⊥)
      → InstallRule c (install_projection w) → InstallRule c (install_projection x)
  install-done w x n v is up base done more own nobody r = subst (InstallRule c) (sym path) (record {
    base = (let b = r.base in omega arith);
    done = done;
    opened = (r.opened.0, (let o = r.opened.1 in omega arith));
    holding = λ m e. absurd (nobody m e);
    promoted = λ m e. absurd (nobody m (r.promoted m e).0);
    giving = λ m e. absurd (nobody m (r.giving m e).0);
    alone = λ m k e. absurd (nobody m e);
    time = λ m e. absurd (nobody m e);
    rebased = λ m e. absurd (nobody m (r.rebased m e).0);
    completed = λ m e. absurd (nobody m (r.completed m e).0);
  })
    where
      path : install_projection x ≡ record (install_projection w) { clock = x.clock; done = x.done }
      path = λ i. record { clock = x.clock; base = base i; done = x.done; views = (ap (parts (λ (u : View). u.gate)) is ∙ parts-kept (λ (u : View). u.gate) w.views n v own) i }

  -- the holder looks at the others: who was seen stays seen
  pub install-looked : (w x : World) (n : ℕ) (v : View) (seen : List ℕ) → x.views ≡ put w.views n v → x.clock ≡ w.clock → x.base ≡ w.base → x.done ≡ w.done → v.gate ≡ record (w.views n).gate { checked = seen }
      → ((k : ℕ) → member (w.views n).gate.checked k ≡ true → member seen k ≡ true) → InstallRule c (install_projection w) → InstallRule c (install_projection x)
  install-looked w x n v seen is clock base done own more r = subst (InstallRule c) (sym path) (law (install_projection w) r more)
    where
      path : install_projection x ≡ record (install_projection w) { views = put (install_projection w).views n (record (w.views n).gate { checked = seen }) }
      path = λ i. record { clock = clock i; base = base i; done = done i; views = (ap (parts (λ (u : View). u.gate)) is ∙ (parts-put (λ (u : View). u.gate) w.views n v ∙ ap (put (install_projection w).views n) own)) i }

      law : (s : InstallProjection) → InstallRule c s → ((k : ℕ) → member (s.views n).checked k ≡ true → member seen k ≡ true) → InstallRule c (record s { views = put s.views n (record (s.views n) { checked = seen }) })
      law s r more = record {
        base = r.base;
        done = r.done;
        opened = r.opened;
        holding = λ m e. grind (arith, r.holding m, e);
        promoted = λ m e. grind (arith, r.promoted m, e);
        giving = λ m e. grind (arith, r.giving m, e);
        alone = λ m k e low other. grind (arith, r.alone m k, e, low, other, more k);
        time = λ m e. grind (arith, r.time m, e);
        rebased = λ m e. grind (arith, r.rebased m, e);
        completed = λ m e. grind (arith, r.completed m, e);
      }

  -- the holder changes the fence
  pub install-stood : (w x : World) (n number : ℕ) (v : View) → x.views ≡ put w.views n v → x.clock ≡ w.clock → x.base ≡ w.base
      → x.done ≡ w.done → v.gate ≡ record (w.views n).gate { fence = number } → InstallRule c (install_projection w)
      → InstallRule c (install_projection x)
  install-stood w x n number v is clock base done own r = subst (InstallRule c) (sym path) (law (install_projection w) r)
    where
      path : install_projection x ≡ record (install_projection w) { views = put (install_projection w).views n (record (w.views n).gate { fence = number }) }
      path = λ i. record { clock = clock i; base = base i; done = done i; views = (ap (parts (λ (u : View). u.gate)) is ∙ (parts-put (λ (u : View). u.gate) w.views n v ∙ ap (put (install_projection w).views n) own)) i }

      law : (s : InstallProjection) → InstallRule c s → InstallRule c (record s { views = put s.views n (record (s.views n) { fence = number }) })
      law s r = record {
        base = r.base;
        done = r.done;
        opened = r.opened;
        holding = λ m e. grind (arith, r.holding m, e);
        promoted = λ m e. grind (arith, r.promoted m, e);
        giving = λ m e. grind (arith, r.giving m, e);
        alone = λ m k e low other. grind (arith, r.alone m k, e, low, other);
        time = λ m e. grind (arith, r.time m, e);
        rebased = λ m e. grind (arith, r.rebased m, e);
        completed = λ m e. grind (arith, r.completed m, e);
      }

  -- the holder, which had loaded the clock, gave a fence back by an entry at t: BASE and DONE are to be stored again
  pub given-install : (w x : World) (n t : ℕ) (v : View) → x.views ≡ put w.views n v → x.clock ≡ t → x.base ≡ w.base → x.done ≡ w.done
      → v.gate ≡ record (w.views n).gate { time = t; rebased = false; completed = false; giving = true } → w.clock ≤ t
      → (w.views n).gate.quiescent ≡ true → (w.views n).gate.phase ≡ Closing
      → GateRule c.callers (gate_projection w) → InstallRule c (install_projection w) → InstallRule c (install_projection x)
  given-install w x n t v is clock base done own up quiescent closing g r = subst (InstallRule c) (sym path) (law (install_projection w) r up quiescent closing (λ m e. sole w n m quiescent e g r))
    where
      sole : (w : World) (n m : ℕ) → (w.views n).gate.quiescent ≡ true → (w.views m).gate.quiescent ≡ true → GateRule c.callers (gate_projection w) → InstallRule c (install_projection w) → m ≡ n
      sole w n m quiescent other g r =
          let a = g.mine n (r.holding n quiescent) in
          let b = g.mine m (r.holding m other) in omega arith

      path : install_projection x ≡ record (install_projection w) { clock = t; views = put (install_projection w).views n (record (w.views n).gate { time = t; rebased = false; completed = false; giving = true }) }
      path = λ i. record { clock = clock i; base = base i; done = done i; views = (ap (parts (λ (u : View). u.gate)) is ∙ (parts-put (λ (u : View). u.gate) w.views n v ∙ ap (put (install_projection w).views n) own)) i }

      law : (s : InstallProjection) → InstallRule c s → s.clock ≤ t → (s.views n).quiescent ≡ true → (s.views n).phase ≡ Closing → ((m : ℕ) → (s.views m).quiescent ≡ true → m ≡ n)
          → InstallRule c (record s { clock = t; views = put s.views n (record (s.views n) { time = t; rebased = false; completed = false; giving = true }) })
      law s r up quiescent closing sole = record {
        base = (let b = r.base in omega arith);
        done = (let d = r.done in omega arith);
        opened = r.opened;
        holding = λ m e. grind (arith, r.holding m, e);
        promoted = λ m e. grind (arith, r.promoted m, e);
        giving = λ m e. grind (arith, r.giving m, e, quiescent, closing);
        alone = λ m k e low other. grind (arith, r.alone m k, e, low, other);
        time = λ m e. grind (arith, sole m, e);
        rebased = λ m e. grind (arith, sole m, r.rebased m, e);
        completed = λ m e. grind (arith, sole m, r.completed m, e);
      }

  -- the holder gave the fence back
  pub install-given : (w x : World) (n number : ℕ) (v : View) → x.views ≡ put w.views n v → x.clock ≡ w.clock → x.base ≡ w.base
      → x.done ≡ w.done → v.gate ≡ record (w.views n).gate { fence = number; giving = false } → InstallRule c (install_projection w)
      → InstallRule c (install_projection x)
  install-given w x n number v is clock base done own r = subst (InstallRule c) (sym path) (law (install_projection w) r)
    where
      path : install_projection x ≡ record (install_projection w) { views = put (install_projection w).views n (record (w.views n).gate { fence = number; giving = false }) }
      path = λ i. record { clock = clock i; base = base i; done = done i; views = (ap (parts (λ (u : View). u.gate)) is ∙ (parts-put (λ (u : View). u.gate) w.views n v ∙ ap (put (install_projection w).views n) own)) i }

      law : (s : InstallProjection) → InstallRule c s → InstallRule c (record s { views = put s.views n (record (s.views n) { fence = number; giving = false }) })
      law s r = record {
        base = r.base;
        done = r.done;
        opened = r.opened;
        holding = λ m e. grind (arith, r.holding m, e);
        promoted = λ m e. grind (arith, r.promoted m, e);
        giving = λ m e. grind (arith, r.giving m, e);
        alone = λ m k e low other. grind (arith, r.alone m k, e, low, other);
        time = λ m e. grind (arith, r.time m, e);
        rebased = λ m e. grind (arith, r.rebased m, e);
        completed = λ m e. grind (arith, r.completed m, e);
      }

  -- who has loaded the clock to install is the only one
  pub sole-quiescent : (w : World) (n m : ℕ) → (w.views n).gate.quiescent ≡ true → (w.views m).gate.quiescent ≡ true → GateRule c.callers (gate_projection w) → InstallRule c (install_projection w) → m ≡ n
  sole-quiescent w n m quiescent other g r =
      let a = g.mine n (r.holding n quiescent) in
      let b = g.mine m (r.holding m other) in omega arith

  pub settle-install : (w : World) (n : ℕ) → CanSettle c.callers n (w.views n) → InstallRule c (install_projection w) → InstallRule c (install_projection (world_after settle n w))
  settle-install w n may r = subst (InstallRule c) (sym (install_projection-put w (world_after settle n w) n (view_after settle w (w.views n) w.clock) refl)) (law (install_projection w) r may.holds may.quiet)
    where
      law : (s : InstallProjection) → InstallRule c s → (s.views n).holds ≡ true → ((k : ℕ) → k < c.callers → k ≢ n → member (s.views n).checked k ≡ true)
          → InstallRule c (record s { views = put s.views n (record (s.views n) { quiescent = true; time = s.clock; rebased = false; completed = false }) })
      law s r holds quiet = record {
        base = r.base;
        done = r.done;
        opened = r.opened;
        holding = λ m e. grind (arith, r.holding m, e, holds);
        promoted = λ m e. grind (arith, r.promoted m, e);
        giving = λ m e. grind (arith, r.giving m, e);
        alone = λ m k e low other. grind (arith, r.alone m k, e, low, other, quiet k);
        time = λ m e. grind (arith, r.time m, e);
        rebased = λ m e. grind (arith, r.rebased m, e);
        completed = λ m e. grind (arith, r.completed m, e);
      }

  pub even_clock-install : (t : ℕ) (w : World) (n : ℕ) → CanEvenClock t (w.views n) → GateRule c.callers (gate_projection w)
      → InstallRule c (install_projection w) → InstallRule c (install_projection (world_after (even_clock t) n w))
  even_clock-install t w n may g r = subst (InstallRule c) (sym (install_projection-put w (world_after (even_clock t) n w) n (view_after (even_clock t) w (w.views n) t) refl))
      (law (install_projection w) r may.quiescent may.next may.unbased may.uncompleted (λ m e. sole-quiescent w n m may.quiescent e g r))
    where
      law : (s : InstallProjection) → InstallRule c s → (s.views n).quiescent ≡ true → t ≡ (s.views n).time + 1
          → (s.views n).rebased ≡ false → (s.views n).completed ≡ false → ((m : ℕ) → (s.views m).quiescent ≡ true → m ≡ n)
          → InstallRule c (record s { clock = t; views = put s.views n (record (s.views n) { time = t }) })
      law s r quiescent next unbased uncompleted sole =
          let clock : s.clock ≡ (s.views n).time = r.time n quiescent in
          record {
            base = (let b = r.base in omega arith);
            done = (let d = r.done in omega arith);
            opened = r.opened;
            holding = λ m e. grind (arith, r.holding m, e);
            promoted = λ m e. grind (arith, r.promoted m, e);
            giving = λ m e. grind (arith, r.giving m, e);
            alone = λ m k e low other. grind (arith, r.alone m k, e, low, other);
            time = λ m e. grind (arith, sole m, e);
            rebased = λ m e. grind (arith, sole m, r.rebased m, e, unbased);
            completed = λ m e. grind (arith, sole m, r.completed m, e, uncompleted);
          }

  pub store_base-install : (t : ℕ) (w : World) (n : ℕ) → CanMark t (w.views n) → GateRule c.callers (gate_projection w)
      → InstallRule c (install_projection w) → InstallRule c (install_projection (world_after (store_base t) n w))
  store_base-install t w n may g r = subst (InstallRule c) (sym (install_projection-put w (world_after (store_base t) n w) n (view_after (store_base t) w (w.views n) t) refl))
      (law (install_projection w) r may.quiescent may.time (λ m e. sole-quiescent w n m may.quiescent e g r))
    where
      law : (s : InstallProjection) → InstallRule c s → (s.views n).quiescent ≡ true → t ≡ (s.views n).time → ((m : ℕ) → (s.views m).quiescent ≡ true → m ≡ n)
          → InstallRule c (record s { base = t; views = put s.views n (record (s.views n) { rebased = true }) })
      law s r quiescent is sole =
          let clock : s.clock ≡ (s.views n).time = r.time n quiescent in
          record {
            base = omega arith;
            done = r.done;
            opened = ((let b = r.base in let o = r.opened.0 in omega arith), r.opened.1);
            holding = λ m e. grind (arith, r.holding m, e);
            promoted = λ m e. grind (arith, r.promoted m, e);
            giving = λ m e. grind (arith, r.giving m, e);
            alone = λ m k e low other. grind (arith, r.alone m k, e, low, other);
            time = λ m e. grind (arith, r.time m, e);
            rebased = λ m e. grind (arith, sole m, r.rebased m, e, quiescent, is);
            completed = λ m e. grind (arith, r.completed m, e);
          }

  pub store_done-install : (t : ℕ) (w : World) (n : ℕ) → CanMark t (w.views n) → GateRule c.callers (gate_projection w)
      → InstallRule c (install_projection w) → InstallRule c (install_projection (world_after (store_done t) n w))
  store_done-install t w n may g r = subst (InstallRule c) (sym (install_projection-put w (world_after (store_done t) n w) n (view_after (store_done t) w (w.views n) t) refl))
      (law (install_projection w) r may.quiescent may.time (λ m e. sole-quiescent w n m may.quiescent e g r))
    where
      law : (s : InstallProjection) → InstallRule c s → (s.views n).quiescent ≡ true → t ≡ (s.views n).time → ((m : ℕ) → (s.views m).quiescent ≡ true → m ≡ n)
          → InstallRule c (record s { done = t; views = put s.views n (record (s.views n) { completed = true }) })
      law s r quiescent is sole =
          let clock : s.clock ≡ (s.views n).time = r.time n quiescent in
          record {
            base = r.base;
            done = omega arith;
            opened = (r.opened.0, (let b = r.base in let o = r.opened.0 in omega arith));
            holding = λ m e. grind (arith, r.holding m, e);
            promoted = λ m e. grind (arith, r.promoted m, e);
            giving = λ m e. grind (arith, r.giving m, e);
            alone = λ m k e low other. grind (arith, r.alone m k, e, low, other);
            time = λ m e. grind (arith, r.time m, e);
            rebased = λ m e. grind (arith, r.rebased m, e);
            completed = λ m e. grind (arith, sole m, r.completed m, e, quiescent, is);
          }

  pub install-install : (fence : ℕ) (alg : Alg) (w : World) (n : ℕ) → InstallRule c (install_projection w) → InstallRule c (install_projection (world_after (install n fence alg) n w))
  install-install fence alg w n r =
      subst (InstallRule c) (sym (install_projection-put w (world_after (install n fence alg) n w) n
      (view_after (install n fence alg) w (w.views n) (gate_word fence (1 + n) alg)) refl)) (law (install_projection w) r)
    where
      law : (s : InstallProjection) → InstallRule c s → InstallRule c (record s { views = put s.views n (record (s.views n) { algorithm = alg }) })
      law s r = record {
        base = r.base;
        done = r.done;
        opened = r.opened;
        holding = λ m e. grind (arith, r.holding m, e);
        promoted = λ m e. grind (arith, r.promoted m, e);
        giving = λ m e. grind (arith, r.giving m, e);
        alone = λ m k e low other. grind (arith, r.alone m k, e, low, other);
        time = λ m e. grind (arith, r.time m, e);
        rebased = λ m e. grind (arith, r.rebased m, e);
        completed = λ m e. grind (arith, r.completed m, e);
      }

  pub depart-install : (w : World) (n : ℕ) → CanDepart (w.views n) → InstallRule c (install_projection w) → InstallRule c (install_projection (world_after (depart n) n w))
  depart-install w n may r = subst (InstallRule c) (sym (install_projection-put w (world_after (depart n) n w) n (view_after (depart n) w (w.views n) 0) refl)) (law (install_projection w) r may.reopened)
    where
      ungranted : (s : InstallProjection) → InstallRule c s → ((s.views n).phase ≡ In → (s.views n).holds ≡ false) → (s.views n).granted ≡ true → ⊥
      ungranted s r reopened e = let p = r.promoted n e in let f : true ≡ false = sym (r.holding n p.0) ∙ reopened p.1 in cc

      law : (s : InstallProjection) → InstallRule c s → ((s.views n).phase ≡ In → (s.views n).holds ≡ false)
          → InstallRule c (record s { views = put s.views n (record (s.views n) { phase = departed (s.views n).phase; present = false }) })
      law s r reopened = record {
        base = r.base;
        done = r.done;
        opened = r.opened;
        holding = λ m e. grind (arith, r.holding m, e);
        promoted = λ m e. grind (arith, r.promoted m, e, ungranted s r reopened);
        giving = λ m e. grind (arith, r.giving m, e);
        alone = λ m k e low other. grind (arith, r.alone m k, e, low, other);
        time = λ m e. grind (arith, r.time m, e);
        rebased = λ m e. grind (arith, r.rebased m, e);
        completed = λ m e. grind (arith, r.completed m, e);
      }

  -- the attempt of who holds the gate and has seen all others idle is promoted, at the clock
  pub grant-install : (w x : World) (n : ℕ) (v : View) → x.views ≡ put w.views n v → x.clock ≡ w.clock → x.base ≡ w.base → x.done ≡ w.done
      → v.gate ≡ granted_at w.clock (w.views n).gate → (w.views n).gate.phase ≡ In → (w.views n).gate.holds ≡ true
      → HasChecked c.callers n (w.views n)
      → InstallRule c (install_projection w) → InstallRule c (install_projection x)
  grant-install w x n v is clock base done own inside holds quiet r = subst (InstallRule c) (sym path) (law (install_projection w) r inside holds quiet)
    where
      path : install_projection x ≡ record (install_projection w) { views = put (install_projection w).views n (granted_at w.clock (w.views n).gate) }
      path = λ i. record { clock = clock i; base = base i; done = done i; views = (ap (parts (λ (u : View). u.gate)) is ∙ (parts-put (λ (u : View). u.gate) w.views n v ∙ ap (put (install_projection w).views n) own)) i }

      law : (s : InstallProjection) → InstallRule c s → (s.views n).phase ≡ In → (s.views n).holds ≡ true → ((k : ℕ) → k < c.callers → k ≢ n → member (s.views n).checked k ≡ true)
          → InstallRule c (record s { views = put s.views n (granted_at s.clock (s.views n)) })
      law s r inside holds quiet = record {
        base = r.base;
        done = r.done;
        opened = r.opened;
        holding = λ m e. grind (arith, r.holding m, e, holds);
        promoted = λ m e. grind (arith, r.promoted m, e, inside);
        giving = λ m e. grind (arith, r.giving m, e, inside);
        alone = λ m k e low other. grind (arith, r.alone m k, e, low, other, quiet k);
        time = λ m e. grind (arith, r.time m, e);
        rebased = λ m e. grind (arith, r.rebased m, e);
        completed = λ m e. grind (arith, r.completed m, e);
      }

  -- the gate's holder, which had loaded the clock, raised it to t: BASE and DONE are to be stored again
  pub ticked-install : (w x : World) (n t : ℕ) (v : View) → x.views ≡ put w.views n v → x.clock ≡ t → x.base ≡ w.base → x.done ≡ w.done
      → v.gate ≡ record (w.views n).gate { time = t; rebased = false; completed = false } → w.clock ≤ t → (w.views n).gate.quiescent ≡ true
      → GateRule c.callers (gate_projection w) → InstallRule c (install_projection w) → InstallRule c (install_projection x)
  ticked-install w x n t v is clock base done own up quiescent g r = subst (InstallRule c) (sym path) (law (install_projection w) r up (λ m e. sole-quiescent w n m quiescent e g r))
    where
      path : install_projection x ≡ record (install_projection w) { clock = t; views = put (install_projection w).views n (record (w.views n).gate { time = t; rebased = false; completed = false }) }
      path = λ i. record { clock = clock i; base = base i; done = done i; views = (ap (parts (λ (u : View). u.gate)) is ∙ (parts-put (λ (u : View). u.gate) w.views n v ∙ ap (put (install_projection w).views n) own)) i }

      law : (s : InstallProjection) → InstallRule c s → s.clock ≤ t → ((m : ℕ) → (s.views m).quiescent ≡ true → m ≡ n)
          → InstallRule c (record s { clock = t; views = put s.views n (record (s.views n) { time = t; rebased = false; completed = false }) })
      law s r up sole = record {
        base = (let b = r.base in omega arith);
        done = (let d = r.done in omega arith);
        opened = r.opened;
        holding = λ m e. grind (arith, r.holding m, e);
        promoted = λ m e. grind (arith, r.promoted m, e);
        giving = λ m e. grind (arith, r.giving m, e);
        alone = λ m k e low other. grind (arith, r.alone m k, e, low, other);
        time = λ m e. grind (arith, sole m, e);
        rebased = λ m e. grind (arith, sole m, r.rebased m, e);
        completed = λ m e. grind (arith, sole m, r.completed m, e);
      }
