-- Which regime stands, by the gate and the views.
use Rattle.std.proofs.Common.{◌≡◌, ◌≢◌, ℕ, zero, suc, ◌+◌, Bool, true, false, arith, refl, sym, subst, ap, ◌∙◌}
use Rattle.std.specs.Prelude.{if◌then◌else◌, ◌==◌}
use Rattle.std.proofs.lemmas.Bool.Decides.{nat_tests}
use Rattle.stm_model.specs.declared.alg.Alg.{Alg}
use Rattle.stm_model.specs.declared.config.Config.{Config}
use Rattle.rule_base.specs.declared.views.Phase.TheVariants.{In, Closing}
use Rattle.rule_base.specs.declared.views.View.{View}
use Rattle.rule_base.specs.Encodings.{alg_of, holder_of}
use Rattle.rule_base.specs.GateRule.{rests, gate_projection, GateRule}
use Rattle.rule_base.specs.InstallLaws.{others-out}
use Rattle.rule_base.specs.InstallRule.{install_projection, InstallRule}
use Rattle.rule_base.specs.Lemmas.PutLemmas.{parts-kept}
use Rattle.rule_base.specs.Regime.{mode_of, regime_by, regime_at, regime_of, regime, named_in}
use Rattle.rule_base.specs.Regime.Regime.{Running, Promoted, Giving}
use Rattle.rule_base.specs.Regime.{Mode}
use Rattle.rule_base.specs.Regime.Mode.{Plain, Grants, Gives}
use Rattle.rule_base.specs.declared.views.GateView.{GateView}
use Rattle.rule_base.specs.World.{World, put, parts}

-- the regime has the gate's algorithm
pub named-regime : (w : World) → named_in (regime w) ≡ alg_of w.gate
named-regime w = go (alg_of w.gate) (parts (λ (v : View). mode_of v.gate) w.views) (holder_of w.gate)
  where
    by : (a : Alg) (n : ℕ) (m : Mode) → named_in (regime_by a n m) ≡ a
    by a n Plain = refl
    by a n Grants = refl
    by a n Gives = refl

    go : (a : Alg) (mode : ℕ → Mode) (h : ℕ) → named_in (regime_at a mode h) ≡ a
    go a mode zero = refl
    go a mode (suc n) = by a n (mode n)

-- a step that leaves the gate and what its holder does alone
pub regime-kept : (w x : World) (n : ℕ) (v : View) → x.views ≡ put w.views n v → x.gate ≡ w.gate → mode_of v.gate ≡ mode_of (w.views n).gate → regime x ≡ regime w
regime-kept w x n v is gate own = λ i. regime_of (gate i) ((ap (parts (λ (u : View). mode_of u.gate)) is ∙ parts-kept (λ (u : View). mode_of u.gate) w.views n v own) i)

-- who isn't promoted and gives nothing back
pub plain-mode : (g : GateView) → g.granted ≡ false → g.giving ≡ false → mode_of g ≡ Plain
plain-mode g a b = ap (λ (k : Bool). if k then Grants else (if g.giving then Gives else Plain)) a ∙ ap (λ (k : Bool). if k then Gives else Plain) b

-- no holder is promoted or gives back
pub regime-running : (w : World) → ((n : ℕ) → holder_of w.gate ≡ 1 + n → mode_of (w.views n).gate ≡ Plain) → regime w ≡ Running (alg_of w.gate)
regime-running w out = go (holder_of w.gate) refl
  where
    go : (h : ℕ) → holder_of w.gate ≡ h → regime_at (alg_of w.gate) (parts (λ (v : View). mode_of v.gate) w.views) h ≡ Running (alg_of w.gate)
    go zero e = refl
    go (suc n) e = ap (regime_by (alg_of w.gate) n) (out n (omega arith))

regime-holder : (w : World) (n : ℕ) (m : Mode) → holder_of w.gate ≡ 1 + n → mode_of (w.views n).gate ≡ m → regime w ≡ regime_by (alg_of w.gate) n m
regime-holder w n m h is =
    let s : holder_of w.gate ≡ suc n = omega arith in
    ap (regime_at (alg_of w.gate) (parts (λ (v : View). mode_of v.gate) w.views)) s ∙ ap (regime_by (alg_of w.gate) n) is

pub regime-promoted : (w : World) (n : ℕ) → holder_of w.gate ≡ 1 + n → (w.views n).gate.granted ≡ true → regime w ≡ Promoted (alg_of w.gate) n
regime-promoted w n h granted = regime-holder w n Grants h (ap (λ (b : Bool). if b then Grants else (if (w.views n).gate.giving then Gives else Plain)) granted)

pub regime-giving : (w : World) (n : ℕ) → holder_of w.gate ≡ 1 + n → (w.views n).gate.granted ≡ false → (w.views n).gate.giving ≡ true → regime w ≡ Giving (alg_of w.gate)
regime-giving w n h plain giving = regime-holder w n Gives h (ap (λ (b : Bool). if b then Grants else (if (w.views n).gate.giving then Gives else Plain)) plain ∙ ap (λ (b : Bool). if b then Gives else Plain) giving)

module _ (c : Config) (w : World) (n : ℕ) (g : GateRule c.callers (gate_projection w)) (r : InstallRule c (install_projection w)) where
  -- while a caller is in an attempt that isn't promoted, the algorithm that it loaded runs
  pub regime-inside : (w.views n).gate.phase ≡ In → (w.views n).gate.granted ≡ false → regime w ≡ Running (w.views n).gate.algorithm
  regime-inside inside plain = regime-running w (λ m h. plain-mode (w.views m).gate (ungranted m (w.views m).gate.granted refl) (ungiven m (w.views m).gate.giving refl)) ∙ ap Running (g.named n inside)
    where
      busy : (m : ℕ) → (w.views m).gate.quiescent ≡ true → m ≢ n → ⊥
      busy m quiescent other = let o = others-out c w m quiescent g r n (λ same. other (sym same)) in let f : false ≡ true = sym (ap rests inside) ∙ o in cc

      ungranted : (m : ℕ) (b : Bool) → (w.views m).gate.granted ≡ b → (w.views m).gate.granted ≡ false
      ungranted m true e = absurd (apart (m == n) refl)
        where
          apart : (b : Bool) → (m == n) ≡ b → ⊥
          apart true q = let same : m ≡ n = grind (arith, nat_tests, q) in let f : true ≡ false = sym (subst (λ (k : ℕ). (w.views k).gate.granted ≡ true) same e) ∙ plain in cc
          apart false q = busy m (r.promoted m e).0 (λ same. grind (arith, nat_tests, q, same))
      ungranted m false e = e

      ungiven : (m : ℕ) (b : Bool) → (w.views m).gate.giving ≡ b → (w.views m).gate.giving ≡ false
      ungiven m true e = absurd (apart (m == n) refl)
        where
          apart : (b : Bool) → (m == n) ≡ b → ⊥
          apart true q = let same : m ≡ n = grind (arith, nat_tests, q) in let f : In ≡ Closing = sym (subst (λ (k : ℕ). (w.views k).gate.phase ≡ In) (sym same) inside) ∙ (r.giving m e).1 in cc
          apart false q = busy m (r.giving m e).0 (λ same. grind (arith, nat_tests, q, same))
      ungiven m false e = e

  -- who is promoted has the regime
  pub regime-granted : (w.views n).gate.granted ≡ true → regime w ≡ Promoted (w.views n).gate.algorithm n
  regime-granted e = let holds = r.holding n (r.promoted n e).0 in regime-promoted w n (g.mine n holds) e ∙ ap (λ (a : Alg). Promoted a n) (g.held n holds)

  -- and who gives back
  pub regime-given : (w.views n).gate.giving ≡ true → regime w ≡ Giving (w.views n).gate.algorithm
  regime-given e = let holds = r.holding n (r.giving n e).0 in regime-giving w n (g.mine n holds) (plain (w.views n).gate.granted refl) e ∙ ap Giving (g.held n holds)
    where
      plain : (b : Bool) → (w.views n).gate.granted ≡ b → (w.views n).gate.granted ≡ false
      plain true k = absurd (let f : In ≡ Closing = sym (r.promoted n k).1 ∙ (r.giving n e).1 in cc)
      plain false k = k

  -- whoever has it is promoted
  pub granted-regime : (a : Alg) → regime w ≡ Promoted a n → (w.views n).gate.granted ≡ true
  granted-regime a e = go (holder_of w.gate) e
    where
      by : (m : ℕ) (b d : Bool) → (w.views m).gate.granted ≡ b → regime_by (alg_of w.gate) m (if b then Grants else (if d then Gives else Plain)) ≡ Promoted a n → (w.views n).gate.granted ≡ true
      by m true d h q = let same : m ≡ n = cc in subst (λ (k : ℕ). (w.views k).gate.granted ≡ true) same h
      by m false true h q = absurd cc
      by m false false h q = absurd cc

      go : (h : ℕ) → regime_at (alg_of w.gate) (parts (λ (v : View). mode_of v.gate) w.views) h ≡ Promoted a n → (w.views n).gate.granted ≡ true
      go zero q = absurd cc
      go (suc m) q = by m (w.views m).gate.granted (w.views m).gate.giving refl q
