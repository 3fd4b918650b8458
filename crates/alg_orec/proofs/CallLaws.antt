-- The call of a commit, in the terms of the descriptor's memory.
use Rattle.std.proofs.Common.{ℕ, ◌≡◌, List, true, false, sym, ◌∙◌}
use Rattle.std.specs.Prelude.{not, ◌&&◌, ◌||◌}
use Rattle.stm_model.specs.Algorithms.{asks_at_commit, closes_gate}
use Rattle.stm_model.specs.declared.alg.Alg.TheVariants.{OrecLazy}
use Rattle.stm_model.specs.declared.config.Config.{Config}
use Rattle.rule_base.specs.declared.views.View.{View}
use Rattle.rule_base.specs.Own.{Own}
use Rattle.stm_rule.specs.declared.local.Local.{Local}
use Rattle.stm_rule.specs.Attempts.{IsInside, Stands}
use Rattle.stm_answers.specs.CallerState.{known_of, granted_under}
use Rattle.stm_gate.proofs.Told.{running-by}
use Rattle.alg_orec.specs.Committing.{CanCommit}

module _ (good : List ℕ → Type 0) (c : Config) (n : ℕ) (l : Local) (v : View) (i : IsInside good c n l v) (lazy : v.gate.algorithm ≡ OrecLazy) where
  named : l.algorithm ≡ OrecLazy
  named = sym i.named ∙ lazy

  -- a promoted attempt is never in the middle of its commit
  pub direct-whole : l.granted ≡ true → l.committing ≡ false
  direct-whole granted = i.steady (λ j. not (asks_at_commit (named j)) || granted j)

  pub direct-granted : (o : Own) → l.granted ≡ true → (known_of v o).granted ≡ true
  direct-granted o granted = (λ j. granted_under (lazy j) v.gate v.lock) ∙ (i.granted ∙ (λ j. closes_gate (named j) && granted j))

  -- one that wrote, and was not promoted, commits its writes
  pub may-commit : l.granted ≡ false → l.wrote ≡ true → Stands good c n l v → CanCommit good c n l v
  may-commit plain wrote s = record { inside = i; lazy = named; plain = plain; wrote = wrote; running = running-by good c n l v i.phase s; holds = s.holds; lengths = s.lengths }
