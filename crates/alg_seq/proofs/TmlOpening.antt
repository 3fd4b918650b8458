-- What a call of TML knows of its attempt.
use Rattle.std.proofs.Common.{ℕ, ◌≡◌, List, true, false, sym, ap, ◌∙◌}
use Rattle.std.specs.Prelude.{not, ◌||◌, ◌&&◌}
use Rattle.stm_model.specs.Algorithms.{asks_at_commit, closes_gate}
use Rattle.stm_model.specs.declared.alg.Alg.{Alg}
use Rattle.stm_model.specs.declared.alg.Alg.TheVariants.{Tml}
use Rattle.stm_model.specs.declared.config.Config.{Config}
use Rattle.rule_base.specs.declared.seats.Who.{Who}
use Rattle.rule_base.specs.declared.views.View.{View}
use Rattle.stm_rule.specs.declared.local.Local.{Local}
use Rattle.stm_rule.specs.declared.stm.Stm.{Stm}
use Rattle.stm_rule.specs.Attempts.{IsInside, own_of}
use Rattle.stm_rule.specs.Callers.{Handle}
use Rattle.stm_rule.proofs.StandLemmas.{inside-of}
use Rattle.stm_answers.specs.CallerState.{CallerState, granted_under, is_irrevocable}
use Rattle.stm_gate.specs.Knowing.{known}
use Rattle.stm_gate.proofs.Opening.{Opened}
use Rattle.stm_gate.proofs.PromotingLaws.{revocable-tml}
use Rattle.stm_gate.proofs.Standing.{in-of, tml-of}
use Rattle.alg_seq.proofs.TmlLaws.{InTml}

-- an attempt that can be cancelled
pub record Revocable (good : List ℕ → Type 0) (c : Config) (n : ℕ) (l : Local) (v : View) : Type 0 where
  pub attempt : InTml good c n l v (own_of l)
  pub free : v.gate.granted ≡ false
  pub plain : l.granted ≡ false
  pub clean : l.wrote ≡ false

module _ {K : Type 0} (good : K → List ℕ → Type 0) (stm : Stm K) {e : Handle K} {who : Who K} {v : View} {n : ℕ} {l : Local}
    (a : Opened good stm e who v n l) (runs : (known e).running ≡ true) (tml : (known e).alg ≡ Tml) where
  pub inside : IsInside (good stm.rule) stm.config n l v
  inside = inside-of (good stm.rule) stm.config n l v (in-of v.gate.phase (ap (λ (k : CallerState). k.running) (sym a.knows) ∙ runs)) a.stands

  pub named : v.gate.algorithm ≡ Tml
  named = ap (λ (k : CallerState). k.alg) (sym a.knows) ∙ tml

  -- it was not promoted
  pub plain : l.granted ≡ false → InTml (good stm.rule) stm.config n l v (own_of l)
  plain ungranted = record {
    quiet = inside.steady (ap (λ (b : Alg). not (asks_at_commit b) || l.granted) (sym inside.named ∙ named));
    inside = inside;
    named = named;
    keeps = tml-of (good stm.rule) stm.config n l v inside named ungranted;
  }

  pub plain-of : (known e).granted ≡ false → InTml (good stm.rule) stm.config n l v (own_of l)
  plain-of h = plain ((λ j. closes_gate ((sym named ∙ inside.named) j) && l.granted) ∙ (sym inside.granted ∙ ((λ j. granted_under (sym named j) v.gate v.lock) ∙ (ap (λ (k : CallerState). k.granted) (sym a.knows) ∙ h))))

  -- it can be cancelled
  pub revocable : is_irrevocable (known e) ≡ false → Revocable (good stm.rule) stm.config n l v
  revocable h =
      let free = revocable-tml stm.config n (good stm.rule) l v (own_of l) inside named (ap is_irrevocable (sym a.knows) ∙ h) in
      record { attempt = plain free.1; free = free.0; plain = free.1; clean = free.2 }
