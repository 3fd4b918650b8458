-- What a read or a write leaves of a descriptor in an attempt of OrecLazy.
use Rattle.std.proofs.Common.{ℕ, ◌≡◌, List, [], ◌∷◌, ◌++◌, Bool, true, false, refl, sym, ap, ◌∙◌}
use Rattle.std.specs.Prelude.{◌&&◌}
use Rattle.stm_model.specs.Algorithms.{closes_gate}
use Rattle.stm_model.specs.declared.alg.Alg.TheVariants.{OrecLazy}
use Rattle.stm_model.specs.declared.config.Config.{Config}
use Rattle.rule_base.specs.declared.views.View.{View}
use Rattle.rule_base.specs.Own.{Own}
use Rattle.stm_rule.specs.declared.local.Local.{Local}
use Rattle.stm_rule.specs.Attempts.{IsInside, own_of, ended}
use Rattle.stm_answers.specs.CallerState.{known_of, granted_under}
use Rattle.stm_logs.specs.LogStates.{LogState}

-- by what contracts see of it, an attempt was promoted or not
module _ (good : List ℕ → Type 0) (c : Config) (n : ℕ) (l : Local) (v : View) (i : IsInside good c n l v) (lazy : v.gate.algorithm ≡ OrecLazy) (o : Own) where
  pub granted-of : (b : Bool) → l.granted ≡ b → (known_of v o).granted ≡ b
  granted-of b e = (λ j. granted_under (lazy j) v.gate v.lock) ∙ (i.granted ∙ (λ j. closes_gate ((sym i.named ∙ lazy) j) && e j))

  pub plain-of : (known_of v o).granted ≡ false → l.granted ≡ false
  plain-of e = by l.granted refl
    where
      by : (b : Bool) → l.granted ≡ b → b ≡ false
      by true q = absurd (let f : true ≡ false = sym (granted-of true q) ∙ e in cc)
      by false q = refl

-- an attempt that wasn't in the middle of its commit ended
pub ended-own : (l m : Local) → l.committing ≡ false → m ≡ ended (record l { committing = false }) → own_of m ≡ own_of l
ended-own l m quiet is = ap own_of is ∙ ap (λ (b : Bool). record (own_of l) { committing = b }) (sym quiet)

-- its start moved before
pub ended-moved : (l m w : Local) → l.committing ≡ false → m ≡ record l { start = m.start } → w ≡ ended (record m { committing = false }) → own_of w ≡ own_of l
ended-moved l m w quiet moved is = ended-own m w (ap (λ (q : Local). q.committing) moved ∙ quiet) is ∙ ap own_of moved

-- a read that was logged
pub own-read : (l m : Local) (a x : ℕ) (log : LogState) → m ≡ record l { start = m.start } → log ≡ record l.reads { items = l.reads.items ++ (a, x) ∷ [] } → own_of (record m { reads = log }) ≡ own_of l
own-read l m a x log moved is = ap (λ (q : Local). own_of (record q { reads = log })) moved ∙ ap (λ (q : LogState). record (own_of l) { reads_limit = q.len }) is

-- a write that the log had no room for left it
pub ended-full : (l m : Local) (log : LogState) → l.committing ≡ false → log ≡ l.writes → m ≡ ended (record l { writes = log; committing = false }) → own_of m ≡ own_of l
ended-full l m log quiet same is = ended-own l m quiet (is ∙ ap (λ (q : LogState). ended (record l { writes = q; committing = false })) same)
