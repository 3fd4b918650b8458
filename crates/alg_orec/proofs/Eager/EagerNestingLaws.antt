-- What the marks of an attempt of OrecEager come to.
use Rattle.std.proofs.Common.{ℕ, ◌≡◌, List, false, sym, ap, ◌∙◌}
use Rattle.stm_model.specs.declared.alg.Alg.TheVariants.{OrecEager}
use Rattle.stm_model.specs.declared.config.Config.{Config}
use Rattle.rule_base.specs.declared.views.View.{View}
use Rattle.stm_rule.specs.declared.local.Local.{Local}
use Rattle.stm_rule.specs.EagerKept.{IsEager}
use Rattle.stm_answers.specs.CallerState.{CallerState}
use Rattle.alg_orec.proofs.Eager.EagerProving.{eager-of}
use Rattle.alg_orec.proofs.NestingOpening.{GoesOn}

-- an attempt that was not promoted
module _ {good : List ℕ → Type 0} {c : Config} {n : ℕ} {l : Local} {v : View} {q : CallerState} (a : GoesOn good c n l v q) (named : q.alg ≡ OrecEager) (plain : l.granted ≡ false) where
  pub eager : v.gate.algorithm ≡ OrecEager
  eager = ap (λ (p : CallerState). p.alg) (sym a.knows) ∙ named

  pub kept : IsEager c l v
  kept = eager-of good c n l v a.inside (sym a.inside.named ∙ eager) plain

  abbrev k : IsEager c l v
  k = kept
