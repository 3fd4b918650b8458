-- At most one attempt is irrevocable, by what callers know.
use Rattle.std.proofs.Common.{ℕ, ◌≡◌, Bool, true, false, refl, sym, ap, ◌∙◌, inl, inr}
use Rattle.std.specs.Prelude.{◌⊎◌, ◌&&◌}
use Rattle.stm_model.specs.Algorithms.{closes_gate, takes_lock, irrevocable_under}
use Rattle.stm_model.specs.declared.alg.Alg.{Alg}
use Rattle.stm_model.specs.declared.alg.Alg.TheVariants.{Cgl, Tml, OrecLazy, OrecEager, RingSw, Serial}
use Rattle.stm_model.specs.declared.config.Config.{Config}
use Rattle.rule_base.specs.declared.views.Phase.TheVariants.{In}
use Rattle.rule_base.specs.declared.views.View.{View}
use Rattle.rule_base.specs.Own.{Own}
use Rattle.rule_base.specs.World.{World}
use Rattle.rule_seq.specs.LockLemmas.{one-taker}
use Rattle.rule_seq.specs.LockRule.{lock_projection}
use Rattle.stm_rule.specs.Irrevocable.{one-irrevocable}
use Rattle.stm_rule.specs.Product.{Invariant}
use Rattle.stm_gate.proofs.Standing.{in-of}
use Rattle.stm_answers.specs.CallerState.{known_of, granted_under, locked_under, wrote}
use Rattle.stm_tx.specs.Resting.{IsFixed}

-- by what an attempt is irrevocable: it closed the gate and was granted, it has the lock, or it is TML's writer
abbrev Holds : Alg → View → Type 0
Holds a v = ((closes_gate a ≡ true) × (v.gate.granted ≡ true)) ⊎ (((takes_lock a ≡ true) × (v.lock.taken ≡ true)) ⊎ ((a ≡ Tml) × (v.tml.writer ≡ true)))

holds-by : (a : Alg) (v : View) (some : Bool) → irrevocable_under a (granted_under a v.gate v.lock) some ≡ true
    → ((b : Bool) → granted_under a v.gate v.lock ≡ b → closes_gate a ≡ true → b ≡ false → locked_under a v.lock.taken v.tml.writer ≡ true)
    → (closes_gate a ≡ false → locked_under a v.lock.taken v.tml.writer ≡ true) → Holds a v
holds-by Cgl v some i plain closed = inr (inl (refl, closed refl))
holds-by Serial v some i plain closed = inr (inl (refl, closed refl))
holds-by OrecLazy v some i plain closed = inl (refl, i)
holds-by OrecEager v some i plain closed = inl (refl, i)
holds-by RingSw v some i plain closed = inl (refl, i)
holds-by Tml v some i plain closed = by v.gate.granted refl
  where
    by : (b : Bool) → v.gate.granted ≡ b → Holds Tml v
    by true e = inl (refl, e)
    by false e = inr (inr (refl, plain false e refl refl))

-- no algorithm closes the gate for its attempts and has a lock
apart : (a : Alg) → closes_gate a ≡ true → takes_lock a ≡ true → ⊥
apart Cgl e f = cc
apart Tml e f = cc
apart OrecLazy e f = cc
apart OrecEager e f = cc
apart RingSw e f = cc
apart Serial e f = cc

module _ (rule : (ℕ → ℕ) → Type 0) (c : Config) (w : World) (g : Invariant rule c w) where
  holds : (n : ℕ) (own : Own) → IsFixed (known_of (w.views n) own) → Holds (w.views n).gate.algorithm (w.views n)
  holds n own i = holds-by (w.views n).gate.algorithm (w.views n) (wrote (known_of (w.views n) own)) i.irrevocable
      (λ b e closes off. i.locked (λ j. (closes j) && ((e ∙ off) j)))
      (λ closes. i.locked (ap (λ (b : Bool). b && (known_of (w.views n) own).granted) closes))

  pub one-is-fixed : (m n : ℕ) (own other : Own) → IsFixed (known_of (w.views m) own) → IsFixed (known_of (w.views n) other) → m ≡ n
  one-is-fixed m n own other i j = by (holds m own i) (holds n other j)
    where
      first : (w.views m).gate.phase ≡ In
      first = in-of (w.views m).gate.phase i.running

      second : (w.views n).gate.phase ≡ In
      second = in-of (w.views n).gate.phase j.running

      one_alg : (w.views m).gate.algorithm ≡ (w.views n).gate.algorithm
      one_alg = sym (g.core.gate.named m first) ∙ g.core.gate.named n second

      -- promoted, or TML's writer
      by-rule : ((w.views m).gate.granted ≡ true) ⊎ (((w.views m).gate.algorithm ≡ Tml) × ((w.views m).tml.writer ≡ true))
          → ((w.views n).gate.granted ≡ true) ⊎ (((w.views n).gate.algorithm ≡ Tml) × ((w.views n).tml.writer ≡ true)) → m ≡ n
      by-rule a b = one-irrevocable rule c w g m n (record { phase = first; fixed = wider a }) (record { phase = second; fixed = wider b })
        where
          wider : {P Q R : Type 0} → P ⊎ R → P ⊎ (Q ⊎ R)
          wider (inl p) = inl p
          wider (inr r) = inr (inr r)

      by : Holds (w.views m).gate.algorithm (w.views m) → Holds (w.views n).gate.algorithm (w.views n) → m ≡ n
      by (inl a) (inl b) = by-rule (inl a.1) (inl b.1)
      by (inl a) (inr (inr b)) = by-rule (inl a.1) (inr b)
      by (inr (inr a)) (inl b) = by-rule (inr a) (inl b.1)
      by (inr (inr a)) (inr (inr b)) = by-rule (inr a) (inr b)
      by (inr (inl a)) (inr (inl b)) = one-taker (lock_projection w) m n g.core.lock a.1 b.1
      by (inl a) (inr (inl b)) = absurd (apart (w.views n).gate.algorithm (ap closes_gate (sym one_alg) ∙ a.0) b.0)
      by (inr (inl a)) (inl b) = absurd (apart (w.views m).gate.algorithm (ap closes_gate one_alg ∙ b.0) a.0)
      by (inr (inl a)) (inr (inr b)) = absurd (apart Tml refl (ap takes_lock (sym (one_alg ∙ b.0)) ∙ a.0))
      by (inr (inr a)) (inr (inl b)) = absurd (apart Tml refl (ap takes_lock (sym (sym one_alg ∙ a.0)) ∙ b.0))
