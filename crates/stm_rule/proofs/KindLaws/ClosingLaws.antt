-- Each kind of step of who closes the gate, looks at the others and reopens keeps the one rule.
use Rattle.std.proofs.Common.{◌≡◌, ◌≢◌, ℕ, ◌+◌, ◌<◌, List, ◌∷◌, Bool, true, false, arith, refl, sym, subst, ap, ◌∙◌}
use Rattle.std.specs.Prelude.{if◌then◌else◌, ◌==◌}
use Rattle.stm_model.specs.declared.alg.Alg.{Alg}
use Rattle.stm_model.specs.declared.config.Config.{Config}
use Rattle.rule_base.specs.declared.views.Phase.TheVariants.{Announced, Turned, Aiming, In, Closing}
use Rattle.rule_base.specs.declared.views.View.{View}
use Rattle.std.proofs.lemmas.Bool.{eqb-true}
use Rattle.rule_base.specs.Lemmas.EncodingLemmas.{alg_of-gate, holder_of-open}
use Rattle.rule_base.specs.Lemmas.PutLemmas.{put-here}
use Rattle.rule_base.specs.Regime.{mode_of, regime}
use Rattle.rule_base.specs.Regime.Mode.{Plain}
use Rattle.rule_base.specs.Regime.Regime.{Running}
use Rattle.rule_base.specs.Lemmas.RegimeLemmas.{plain-mode, regime-running, regime-kept}
use Rattle.rule_base.specs.Encodings.{alg_of, holder_of, fence_of, gate_word}
use Rattle.rule_base.specs.GateLaws.{aim-gate, take_gate-gate, check-gate, reopen-gate, holder-closed}
use Rattle.rule_base.specs.GateRule.{gate_projection, may_hold}
use Rattle.rule_base.specs.GateSteps.{aim, CanAim, closed_at, take_gate, CanTakeGate, check, CanCheck, opened, reopen, CanReopen}
use Rattle.rule_base.specs.History.{member}
use Rattle.rule_base.specs.InstallLaws.{install-apart, install-view, install-looked}
use Rattle.rule_base.specs.InstallRule.{install_projection, InstallRule}
use Rattle.rule_base.specs.StepKinds.{view_after, world_after, Nothing, StepLaw}
use Rattle.rule_base.specs.World.{World, put}
use Rattle.stm_rule.specs.Findings.{NamesOther, FindsHolder, FindsTaken}
use Rattle.stm_rule.specs.Kinds.Frames.{by-gate, unentered, unheld, ungranted, ungranted-out}
use Rattle.stm_rule.specs.Kinds.Laws.{closer}
use Rattle.stm_rule.specs.Product.{Core}

module _ (good : (ℕ → ℕ) → Type 0) (c : Config) (n : ℕ) where
  pub aims : StepLaw (Core good c) aim (FindsHolder c n) n CanAim
  aims w g may =
      let o = by-gate good c aim n w (record {
        common = record {
          words = λ w. (refl, refl, refl);
          history = λ w. (refl, refl);
          steps = λ w. (refl, refl);
          held = λ w. (refl, refl);
          busy = λ w. refl;
        };
        marks = λ w. (refl, refl);
        memory = λ w. (refl, refl);
        view = λ w. refl;
      }) g (λ e. absurd (out e)) (λ e. absurd (unentered good c w n g (ap may_hold may) e)) (λ k e. k)
      (aim-gate c.callers w n may g.gate)
      (install-apart c w (world_after aim n w) n (view_after aim w (w.views n) w.gate) refl refl refl refl
      (unheld good c w n g (ap may_hold may)) refl refl refl refl refl g.install)
      (regime-kept w (world_after aim n w) n (view_after aim w (w.views n) w.gate) refl refl refl) in
      record { rule = o.0; advances = o.1; shown = λ free other. closer good c n w g w.gate refl other free }
    where
      out : (w.views n).gate.phase ≡ In → ⊥
      out e = let k : Announced ≡ In = sym may ∙ e in cc

  -- a gate that changes hands with its algorithm leaves what runs, where neither holder is promoted
  pub regime-handed : (w x : World) (v : View) → x.views ≡ put w.views n v → alg_of x.gate ≡ alg_of w.gate
      → ((m : ℕ) → holder_of w.gate ≡ 1 + m → mode_of (w.views m).gate ≡ Plain) → ((m : ℕ) → holder_of x.gate ≡ 1 + m → m ≡ n)
      → mode_of v.gate ≡ Plain → regime x ≡ regime w
  regime-handed w x v is alg before after plain = regime-running x (λ m h. subst (λ (f : ℕ → View). mode_of (f m).gate ≡ Plain) (sym is) (own m (after m h))) ∙ (ap Running alg ∙ sym (regime-running w before))
    where
      own : (m : ℕ) → m ≡ n → mode_of (put w.views n v m).gate ≡ Plain
      own m e = ap (λ (k : ℕ). mode_of (put w.views n v k).gate) e ∙ (ap (λ (u : View). mode_of u.gate) (put-here w.views n v) ∙ plain)

  pub takes_gate : (word : ℕ) → n < c.callers → StepLaw (Core good c) (take_gate n word) (FindsTaken c n word) n (CanTakeGate word)
  takes_gate word low w g may =
      let o = by-gate good c (take_gate n word) n w (record {
        common = record {
          words = λ w. (refl, refl, refl);
          history = λ w. (refl, refl);
          steps = λ w. (refl, refl);
          held = λ w. (refl, refl);
          busy = λ w. refl;
        };
        marks = λ w. (refl, refl);
        memory = λ w. (refl, refl);
        view = λ w. refl;
      }) g (λ e. absurd (out e)) (λ e. absurd (unentered good c w n g (ap may_hold may.phase) e))
      (λ k e. absurd (unentered good c w n g (ap may_hold may.phase) e)) (take_gate-gate c.callers word w n low may g.gate) install
      (runs (w.gate == word) (λ e. eqb-true w.gate word e)) in
      record { rule = o.0; advances = o.1; shown = other }
    where
      out : (w.views n).gate.phase ≡ In → ⊥
      out e = let k : Aiming ≡ In = sym may.phase ∙ e in cc

      -- the word aimed at is the open gate under its algorithm
      aimed : word ≡ gate_word (fence_of w.gate) 0 (alg_of w.gate)
      aimed = sym may.aimed ∙ g.gate.aimed n may.phase

      same : alg_of word ≡ alg_of w.gate
      same = ap alg_of aimed ∙ alg_of-gate (fence_of w.gate) 0 (alg_of w.gate)

      next : Bool → View
      next b = record (view_after (take_gate n word) w (w.views n) w.gate) { gate = if b then closed_at word (w.views n).gate else record (w.views n).gate { phase = Turned } }

      at : Bool → World
      at b = record w { gate = if b then gate_word (fence_of word) (1 + n) (alg_of word) else w.gate; views = put w.views n (next b) }

      free : (w.views n).gate.holds ≡ false
      free = unheld good c w n g (ap may_hold may.phase)

      plain : (w.views n).gate.granted ≡ false
      plain = ungranted good c w n g free

      settled : (b : Bool) → InstallRule c (install_projection (at b))
      settled true = install-view c w (at true) n (closed_at word (w.views n).gate) (next true) refl refl refl refl refl refl refl refl plain refl g.install
      settled false = install-apart c w (at false) n (next false) refl refl refl refl free refl refl refl refl refl g.install

      runs : (b : Bool) → (b ≡ true → w.gate ≡ word) → regime (at b) ≡ regime w
      runs true e =
          let none : holder_of w.gate ≡ 0 = ap holder_of (e refl ∙ aimed) ∙ holder_of-open (fence_of w.gate) (alg_of w.gate) in
          regime-handed w (at true) (next true) refl (alg_of-gate (fence_of word) (1 + n) (alg_of word) ∙ same)
          (λ m h. absurd (omega arith))
          (λ m h. let k = holder-closed c.callers (gate_projection w) g.gate n low (fence_of word) (alg_of word) in omega arith)
          (plain-mode (next true).gate plain refl)
      runs false e = regime-kept w (at false) n (next false) refl refl refl

      install : InstallRule c (install_projection (world_after (take_gate n word) n w))
      install = settled (w.gate == word)

      closed : w.gate ≢ word → holder_of w.gate ≢ 0
      closed differs none = differs (g.gate.formed ∙ (ap (λ h. gate_word (fence_of w.gate) h (alg_of w.gate)) none ∙ sym aimed))

      other : w.gate ≢ word → NamesOther c n (holder_of w.gate)
      other differs = closer good c n w g w.gate refl (closed differs) free

  pub checks : (k : ℕ) → StepLaw (Core good c) (check k) Nothing n (CanCheck n k)
  checks k w g may =
      let o = by-gate good c (check k) n w (record {
        common = record {
          words = λ w. (refl, refl, refl);
          history = λ w. (refl, refl);
          steps = λ w. (refl, refl);
          held = λ w. (refl, refl);
          busy = λ w. refl;
        };
        marks = λ w. (refl, refl);
        memory = λ w. (refl, refl);
        view = λ w. refl;
      }) g (λ e. e) (λ e. g.attempts.entered n e) (λ k e. k) (check-gate c.callers k w n may g.gate)
      (install-looked c w x n v (seen (w.status k == 0)) refl refl refl refl refl (more (w.status k == 0)) g.install) (regime-kept w x n v refl refl refl) in
      record { rule = o.0; advances = o.1; shown = tt }
    where
      x : World
      x = world_after (check k) n w

      v : View
      v = view_after (check k) w (w.views n) (w.status k)

      seen : Bool → List ℕ
      seen b = if b then k ∷ (w.views n).gate.checked else (w.views n).gate.checked

      more : (b : Bool) (j : ℕ) → member (w.views n).gate.checked j ≡ true → member (seen b) j ≡ true
      more true j e = grind (arith, e)
      more false j e = e

  pub reopens : (fence : ℕ) (alg : Alg) → StepLaw (Core good c) (reopen fence alg) Nothing n (CanReopen fence alg)
  reopens fence alg w g may =
      let o = by-gate good c (reopen fence alg) n w (record {
        common = record {
          words = λ w. (refl, refl, refl);
          history = λ w. (refl, refl);
          steps = λ w. (refl, refl);
          held = λ w. (refl, refl);
          busy = λ w. refl;
        };
        marks = λ w. (refl, refl);
        memory = λ w. (refl, refl);
        view = λ w. refl;
      }) g (λ e. absurd (out e)) (λ e. absurd (let f : true ≡ false = sym e ∙ may.unentered in cc))
      (λ k e. absurd (let f : true ≡ false = sym e ∙ may.unentered in cc)) (reopen-gate c.callers fence alg w n may g.gate)
      (install-view c w (world_after (reopen fence alg) n w) n (opened (w.views n).gate) (view_after (reopen fence alg) w (w.views n) (gate_word fence 0 alg)) refl refl refl refl refl refl refl refl plain refl g.install)
      (regime-handed w (world_after (reopen fence alg) n w) (view_after (reopen fence alg) w (w.views n) (gate_word fence 0 alg)) refl is
      (λ m h.
      subst (λ (k : ℕ). mode_of (w.views k).gate ≡ Plain) (let o = g.gate.mine n holds in let e : n ≡ m = omega arith in e)
      (plain-mode (w.views n).gate plain may.ungiven)) (λ m h. absurd (let k = holder_of-open fence alg in omega arith))
      (plain-mode (opened (w.views n).gate) plain refl)) in
      record { rule = o.0; advances = o.1; shown = tt }
    where
      out : (w.views n).gate.phase ≡ In → ⊥
      out e = let k : Closing ≡ In = sym may.phase ∙ e in cc

      holds : (w.views n).gate.holds ≡ true
      holds = g.gate.closing n may.phase

      plain : (w.views n).gate.granted ≡ false
      plain = ungranted-out good c w n g out

      is : alg_of (gate_word fence 0 alg) ≡ alg_of w.gate
      is = alg_of-gate fence 0 alg ∙ sym (g.gate.held n holds ∙ may.named)
