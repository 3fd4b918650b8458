-- What stands where a call of an attempt of OrecEager begins, by what each of these calls asks.
use Rattle.std.proofs.Common.{ℕ, ◌≡◌, List, false, sym, ap, ◌∙◌, subst}
use Rattle.std.specs.Prelude.{Some}
use Rattle.stm_model.specs.declared.alg.Alg.TheVariants.{OrecEager}
use Rattle.stm_model.specs.declared.config.Config.{Config}
use Rattle.rule_base.specs.declared.views.View.{View}
use Rattle.rule_base.specs.Own.{Own}
use Rattle.stm_rule.specs.declared.local.Local.{Local}
use Rattle.stm_rule.specs.Attempts.{Stands, good_by, own_of, IsInside}
use Rattle.stm_rule.specs.Callers.{Handle}
use Rattle.stm_rule.specs.EagerKept.{IsEager}
use Rattle.stm_answers.specs.CallerState.{IsRunning}
use Rattle.stm_gate.specs.Knowing.{known}
use Rattle.stm_gate.proofs.Standing.{runs-of}
use Rattle.alg_orec.proofs.Eager.EagerProving.{eager-of, plain-of}

-- an attempt that was not promoted, between two of its calls
pub record RunsEager (good : List ℕ → Type 0) (c : Config) (n : ℕ) (l : Local) (v : View) : Type 0 where
  pub inside : IsInside good c n l v
  pub eager : v.gate.algorithm ≡ OrecEager
  pub plain : l.granted ≡ false
  pub quiet : l.committing ≡ false
  pub kept : IsEager c l v

module _ {K : Type 0} (good : K → List ℕ → Type 0) (c : Config) (rule : K) (n : ℕ) (l : Local) where
  -- d is what the descriptor stands for, and e what the call's clauses see of it
  module _ (d e : Handle K) (own : d.own ≡ own_of l) (same : d ≡ e) (config : e.who.config ≡ c) (value : e.who.rule ≡ Some rule) where
    module _ (running : IsRunning (known e)) (algorithm : (known e).alg ≡ OrecEager) where
      inside : Stands (good_by good d.who.rule) d.who.config n l d.view → IsInside (good rule) c n l d.view
      inside = runs-of good c rule d e n l same config value running.0

      eager : d.view.gate.algorithm ≡ OrecEager
      eager = subst (λ (p : Handle K). (known p).alg ≡ OrecEager) (sym same) algorithm

      runs-plain : l.granted ≡ false → Stands (good_by good d.who.rule) d.who.config n l d.view → RunsEager (good rule) c n l d.view
      runs-plain plain stands = let i = inside stands in record {
        inside = i;
        eager = eager;
        plain = plain;
        quiet = ap (λ (o : Own). o.committing) (sym own) ∙ (ap (λ (p : Handle K). (known p).committing) same ∙ running.1);
        kept = eager-of (good rule) c n l d.view i (sym i.named ∙ eager) plain;
      }

      pub runs-eager : (known e).granted ≡ false → Stands (good_by good d.who.rule) d.who.config n l d.view → RunsEager (good rule) c n l d.view
      runs-eager revocable stands = runs-plain (plain-of (good rule) c n l d.view (inside stands) eager d.own (subst (λ (p : Handle K). (known p).granted ≡ false) (sym same) revocable)) stands
