-- What the call that ends an attempt knows of it.
use Rattle.std.proofs.Common.{ℕ, ◌≡◌, List, true, false, sym, ap, ◌∙◌}
use Rattle.stm_model.specs.declared.alg.Alg.{Alg}
use Rattle.stm_model.specs.declared.alg.Alg.TheVariants.{OrecEager}
use Rattle.stm_model.specs.declared.config.Config.{Config}
use Rattle.rule_base.specs.declared.seats.Who.{Who}
use Rattle.rule_base.specs.declared.views.View.{View}
use Rattle.stm_rule.specs.declared.local.Local.{Local}
use Rattle.stm_rule.specs.declared.stm.Stm.{Stm}
use Rattle.stm_rule.specs.Attempts.{IsInside, own_of}
use Rattle.stm_rule.specs.Callers.{Handle}
use Rattle.stm_rule.proofs.StandLemmas.{inside-of}
use Rattle.stm_answers.specs.CallerState.{CallerState, is_irrevocable}
use Rattle.stm_gate.specs.Knowing.{known}
use Rattle.stm_gate.proofs.Opening.{Opened}
use Rattle.stm_gate.proofs.Standing.{in-of}
use Rattle.alg_orec.proofs.Eager.EagerProving as proving

-- a promoted attempt of OrecEager
pub record Promoted (good : List ℕ → Type 0) (c : Config) (n : ℕ) (l : Local) (v : View) : Type 0 where
  pub inside : IsInside good c n l v
  pub eager : v.gate.algorithm ≡ OrecEager
  pub granted : l.granted ≡ true
  pub holds : l.holds ≡ v.gate.holds

-- and one that was not promoted
pub record Unpromoted (good : List ℕ → Type 0) (c : Config) (n : ℕ) (l : Local) (v : View) : Type 0 where
  pub inside : IsInside good c n l v
  pub eager : v.gate.algorithm ≡ OrecEager
  pub plain : l.granted ≡ false

module _ {K : Type 0} (good : K → List ℕ → Type 0) (stm : Stm K) {e : Handle K} {who : Who K} {v : View} {n : ℕ}
    {l : Local} (a : Opened good stm e who v n l) where
  pub inside : (known e).running ≡ true → IsInside (good stm.rule) stm.config n l v
  inside runs = inside-of (good stm.rule) stm.config n l v
      (in-of v.gate.phase (ap (λ (k : CallerState). k.running) (sym a.knows) ∙ runs)) a.stands

  pub named : (alg : Alg) → (known e).alg ≡ alg → v.gate.algorithm ≡ alg
  named alg is = ap (λ (k : CallerState). k.alg) (sym a.knows) ∙ is

  module _ (runs : (known e).running ≡ true) (eager : (known e).alg ≡ OrecEager) where
    pub promoted : (known e).granted ≡ true → Promoted (good stm.rule) stm.config n l v
    promoted granted = record {
      inside = inside runs;
      eager = named OrecEager eager;
      granted = proving.was-granted (good stm.rule) stm.config n l v (inside runs) (named OrecEager eager) (own_of l)
          (ap (λ (k : CallerState). k.granted) (sym a.knows) ∙ granted);
      holds = a.stands.holds;
    }

    pub unpromoted : l.granted ≡ false → Unpromoted (good stm.rule) stm.config n l v
    unpromoted plain = record { inside = inside runs; eager = named OrecEager eager; plain = plain }

    pub granted-known : l.granted ≡ true → (known e).granted ≡ true
    granted-known granted = ap (λ (k : CallerState). k.granted) a.knows ∙ proving.granted-of (good stm.rule) stm.config n l v
        (inside runs) (named OrecEager eager) (own_of l) true granted

    pub irrevocable-known : l.granted ≡ true → is_irrevocable (known e) ≡ true
    irrevocable-known granted = ap is_irrevocable a.knows ∙ proving.irrevocable-granted (good stm.rule) stm.config n l v
        (inside runs) (named OrecEager eager) (own_of l) granted
