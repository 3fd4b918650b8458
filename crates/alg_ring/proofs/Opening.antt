-- What a call knows of the descriptor that it is given, and what it tells of it.
use Rattle.std.proofs.Common.{ℕ, ◌≡◌, List, true, sym, ap, ◌∙◌}
use Rattle.stm_model.specs.declared.alg.Alg.TheVariants.{RingSw}
use Rattle.rule_base.specs.declared.seats.Who.{Who}
use Rattle.rule_base.specs.declared.views.View.{View}
use Rattle.stm_rule.specs.declared.local.Local.{Local}
use Rattle.stm_rule.specs.declared.stm.Stm.{Stm}
use Rattle.stm_rule.specs.Callers.{Handle}
use Rattle.stm_answers.specs.CallerState.{CallerState}
use Rattle.stm_gate.specs.Knowing.{known}
use Rattle.alg_ring.specs.Calls.{HasAttempt}
pub use Rattle.stm_gate.proofs.Opening.{Opened, opened, of-view, tells-of, stands-after}

module _ {K : Type 0} (good : K → List ℕ → Type 0) (stm : Stm K) {e : Handle K} {who : Who K} {v : View} {n : ℕ} {l : Local} (a : Opened good stm e who v n l) where
  pub has-attempt : (known e).running ≡ true → (known e).alg ≡ RingSw → HasAttempt (good stm.rule) stm.config n l v
  has-attempt running alg = record {
    stands = a.stands;
    running = ap (λ (k : CallerState). k.running) (sym a.knows) ∙ running;
    named = ap (λ (k : CallerState). k.alg) (sym a.knows) ∙ alg;
  }
