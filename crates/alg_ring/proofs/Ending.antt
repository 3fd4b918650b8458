-- What stands of an attempt of RingSW that isn't promoted, and how it ends without its entry.
use Rattle.std.proofs.Common.{ℕ, ◌≡◌, List, Bool, true, false, sym, ap, ◌∙◌, arith, subst}
use Rattle.std.specs.Prelude.{not, ◌&&◌}
use Rattle.stm_model.specs.Algorithms.{closes_gate, has_records, irrevocable_under}
use Rattle.stm_model.specs.Memories.{is_empty}
use Rattle.stm_model.specs.declared.alg.Alg.{Alg}
use Rattle.stm_model.specs.declared.alg.Alg.TheVariants.{Cgl, Tml, OrecLazy, OrecEager, RingSw, Serial}
use Rattle.stm_model.specs.declared.config.Config.{Config}
use Rattle.rule_base.specs.declared.views.View.{View}
use Rattle.rule_base.specs.Own.{Own}
use Rattle.stm_rule.specs.declared.local.Local.{Local}
use Rattle.stm_rule.specs.Attempts.{Keeps, IsInside}
use Rattle.stm_rule.specs.RingKept.{IsRing}
use Rattle.stm_answers.specs.declared.answers.Cancel.TheVariants.{Cancelled}
use Rattle.stm_answers.specs.Answers.{Cancels}
use Rattle.stm_answers.specs.CallerState.{known_of, granted_under, written_under, is_irrevocable}
use Rattle.stm_gate.specs.Leaving.{CanLeave, left}
use Rattle.stm_gate.specs.LeavingLaws.{unmade-refl, ended-left}
use Rattle.stm_gate.specs.Opacity.{opaque-inside}

module _ (good : List ℕ → Type 0) (c : Config) (n : ℕ) (l : Local) (v : View) (i : IsInside good c n l v) (named : v.gate.algorithm ≡ RingSw) where
  ring-by : (a : Alg) (granted : Bool) → a ≡ RingSw → granted ≡ false → Keeps c a granted l v → IsRing c l v
  ring-by Cgl granted e g k = absurd cc
  ring-by Tml granted e g k = absurd cc
  ring-by OrecLazy granted e g k = absurd cc
  ring-by OrecEager granted e g k = absurd cc
  ring-by RingSw true e g k = absurd cc
  ring-by RingSw false e g k = k
  ring-by Serial granted e g k = absurd cc

  pub ring-of : l.granted ≡ false → IsRing c l v
  ring-of plain = ring-by l.algorithm l.granted (sym i.named ∙ named) plain i.keeps

  -- by what contracts see of it
  pub plain-of : (o : Own) → (known_of v o).granted ≡ false → l.granted ≡ false
  plain-of o e = (λ j. closes_gate ((sym named ∙ i.named) j) && l.granted) ∙ (sym i.granted ∙ ((λ j. granted_under (sym named j) v.gate v.lock) ∙ e))

  module _ (k : IsRing c l v) where
    pub revocable : (o : Own) → is_irrevocable (known_of v o) ≡ false
    revocable o = ap (λ (a : Alg). irrevocable_under a (granted_under a v.gate v.lock) (not (is_empty (written_under a v.gate.granted v o)))) named ∙ k.optimistic.ungranted

    pub may-leave : CanLeave v
    may-leave = record {
      phase = i.phase;
      unlocked = k.optimistic.unlocked;
      unfixed = k.optimistic.unfixed;
      disowned = i.disowned (ap has_records (sym i.named ∙ named));
      unwritten = k.optimistic.unwritten;
      uncommitted = k.optimistic.uncommitted;
      ungranted = λ e. k.optimistic.ungranted;
      plain = λ e. i.unentered;
      unstored = λ e. k.optimistic.unstored;
      marked = λ e q. absurd (let f : true ≡ false = sym q ∙ i.unentered in cc);
    }

    pub tells-cancelled : (o : Own) (w : View) → w ≡ left n v → Cancels good c n (Cancelled l.start) (known_of v o) (known_of w o)
    tells-cancelled o w is = subst (λ (y : View). Cancels good c n (Cancelled l.start) (known_of v o) (known_of y o)) (sym is) (
      ended-left n good c l.start v v o (unmade-refl v k.optimistic.unlocked k.optimistic.unwritten) (sym i.start) (opaque-inside good c n l v o i),
      (let r = k.optimistic.rises in omega arith),
      (let r = k.optimistic.rises in omega arith),
      revocable o,
    )
