-- At most one attempt is irrevocable: a promoted one is alone, the lock names one caller, TML has one writer, and all
-- attempts are of the algorithm that the gate names. Without it two attempts that must both commit could conflict.
use Rattle.std.proofs.Common.{◌≡◌, ℕ, Bool, true, false, eqb, refl, sym, subst, ap, ◌∙◌, ⊎_elim}
use Rattle.std.specs.Prelude.{◌⊎◌}
use Rattle.std.proofs.lemmas.Bool.{eqb-true, eqb-false}
use Rattle.stm_model.specs.declared.alg.Alg.{Alg}
use Rattle.stm_model.specs.declared.alg.Alg.TheVariants.{Tml}
use Rattle.stm_model.specs.declared.config.Config.{Config}
use Rattle.rule_base.specs.declared.views.Phase.TheVariants.{In}
use Rattle.rule_base.specs.declared.views.View.{View}
use Rattle.rule_base.specs.GateRule.{rests}
use Rattle.rule_base.specs.InstallLaws.{others-out}
use Rattle.rule_base.specs.Regime.{Regime}
use Rattle.rule_base.specs.Regime.Regime.{Running}
use Rattle.rule_base.specs.Lemmas.RegimeLemmas.{regime-inside}
use Rattle.rule_base.specs.RunProjection.{run_projection}
use Rattle.rule_base.specs.Fence.{without_fence}
use Rattle.rule_base.specs.World.{World}
use Rattle.stm_model.specs.Algorithms.{takes_lock}
use Rattle.rule_seq.specs.LockLemmas.{one-taker}
use Rattle.rule_seq.specs.LockRule.{lock_projection}
use Rattle.rule_seq.specs.TmlRule.{tml_part, TmlRule}
use Rattle.stm_rule.specs.Product.{Runs, Invariant}

-- promoted; or under CGL and Serial the lock's holder, with no store that may be taken back; or TML's writer
pub record IsIrrevocable (v : View) : Type 0 where
  pub phase : v.gate.phase ≡ In
  pub fixed : (v.gate.granted ≡ true) ⊎ (((takes_lock v.gate.algorithm ≡ true) × (v.lock.taken ≡ true) × (v.lock.irrevocable ≡ true)) ⊎ ((v.gate.algorithm ≡ Tml) × (v.tml.writer ≡ true)))

abbrev pub OneIrrevocable : ((ℕ → ℕ) → Type 0) → Config → Type 0
OneIrrevocable good c = (m n : ℕ) (w : World) → Invariant good c w → IsIrrevocable (w.views m) → IsIrrevocable (w.views n) → m ≡ n

module _ (good : (ℕ → ℕ) → Type 0) (c : Config) (w : World) (g : Invariant good c w) where
  -- nobody else is in an attempt
  with_promoted : (m n : ℕ) → (w.views m).gate.granted ≡ true → (w.views n).gate.phase ≡ In → n ≡ m
  with_promoted m n e inside = by (eqb n m) refl
    where
      by : (b : Bool) → eqb n m ≡ b → n ≡ m
      by true q = eqb-true n m q
      by false q = absurd (let p : false ≡ true = sym (ap rests inside) ∙ others-out c (without_fence w) m (g.core.install.promoted m e).0 g.core.gate g.core.install n (eqb-false n m q) in cc)

  -- two attempts are of one algorithm
  one_alg : (m n : ℕ) → (w.views m).gate.phase ≡ In → (w.views n).gate.phase ≡ In → (w.views m).gate.algorithm ≡ (w.views n).gate.algorithm
  one_alg m n p q = sym (g.core.gate.named m p) ∙ g.core.gate.named n q

  apart : (a b : Alg) → a ≡ b → takes_lock a ≡ true → b ≡ Tml → ⊥
  apart a b same l t = let f : takes_lock Tml ≡ true = ap takes_lock (sym (same ∙ t)) ∙ l in cc

  writers : (m n : ℕ) → (w.views m).gate.phase ≡ In → (w.views m).gate.algorithm ≡ Tml → (w.views m).tml.writer ≡ true → (w.views n).gate.phase ≡ In → (w.views n).tml.writer ≡ true → m ≡ n
  writers m n inside tml wm other wn = by (w.views m).gate.granted refl
    where
      by : (b : Bool) → (w.views m).gate.granted ≡ b → m ≡ n
      by true e = sym (with_promoted m n e other)
      by false e =
          let r : TmlRule c.words (tml_part (run_projection (without_fence w))) = subst
          (λ (q : Regime). Runs c q (run_projection (without_fence w)))
          (regime-inside c (without_fence w) m g.core.gate g.core.install inside e ∙ ap Running tml) g.core.running in
          r.one m n wm wn

  pub one-irrevocable : (m n : ℕ) → IsIrrevocable (w.views m) → IsIrrevocable (w.views n) → m ≡ n
  one-irrevocable m n i j = ⊎_elim (λ e. sym (with_promoted m n e j.phase)) (λ k. ⊎_elim (λ e. with_promoted n m e i.phase) (λ l. ⊎_elim
      (λ a. ⊎_elim (λ b. one-taker (lock_projection w) m n g.core.lock a.1 b.1) (λ b. absurd (apart (w.views m).gate.algorithm (w.views n).gate.algorithm (one_alg m n i.phase j.phase) a.0 b.0)) l)
      (λ a. ⊎_elim (λ b. absurd (apart (w.views n).gate.algorithm (w.views m).gate.algorithm (one_alg n m j.phase i.phase) b.0 a.0)) (λ b. writers m n i.phase a.0 a.1 j.phase b.1) l)
      k) j.fixed) i.fixed
