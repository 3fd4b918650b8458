-- What a descriptor's fields tell of whether its attempt can be cancelled.
use Rattle.std.proofs.Common.{ℕ, ◌≡◌, ◌≢◌, ◌∙◌, List, [], Bool, true, false, refl, ap}
use Rattle.std.specs.Prelude.{not, ◌&&◌, ◌||◌}
use Rattle.stm_model.specs.Algorithms.{irrevocable_under, closes_gate}
use Rattle.stm_model.specs.Memories.{is_empty}
use Rattle.stm_model.specs.declared.alg.Alg.{Alg}
use Rattle.stm_model.specs.declared.alg.Alg.TheVariants.{Cgl, Tml, OrecLazy, OrecEager, RingSw, Serial}
use Rattle.stm_model.specs.declared.config.Config.{Config}
use Rattle.rule_base.specs.declared.entries.Cell.{Cell}
use Rattle.rule_base.specs.declared.views.View.{View}
use Rattle.rule_base.specs.Bridge.{items}
use Rattle.rule_base.specs.Own.{Own}
use Rattle.stm_rule.specs.declared.local.Local.{Local}
use Rattle.stm_rule.specs.Attempts.{IsInside, Keeps}
use Rattle.stm_answers.specs.CallerState.{known_of, granted_under, written_under, is_irrevocable}
use Rattle.stm_gate.specs.Logging.{wrote-some}

wrote-by : (wrote : Bool) (cs : List Cell) → (wrote ≡ false → cs ≡ []) → (wrote ≡ true → cs ≢ []) → not (is_empty (items cs)) ≡ wrote
wrote-by true cs clean dirty = ap not (wrote-some cs (dirty refl))
wrote-by false cs clean dirty = ap (λ (k : List Cell). not (is_empty (items k))) (clean refl)

module _ (good : List ℕ → Type 0) (c : Config) (n : ℕ) (l : Local) (v : View) (o : Own) (i : IsInside good c n l v) where
  abbrev irrevocable_at : Alg → Bool
  irrevocable_at a = irrevocable_under a (granted_under a v.gate v.lock) (not (is_empty (written_under a v.gate.granted v o)))

  tml-wrote : (granted : Bool) → Keeps c Tml granted l v → not (is_empty (items v.attempt.stores)) ≡ l.wrote
  tml-wrote true k = wrote-by l.wrote v.attempt.stores k.clean k.dirty
  tml-wrote false k = wrote-by l.wrote v.attempt.stores k.clean k.dirty

  go : (a : Alg) → l.algorithm ≡ a → Keeps c a l.granted l v → irrevocable_at a ≡ irrevocable_under a l.granted l.wrote
  go Cgl e k = refl
  go Tml e k = ap (λ g. g || not (is_empty (items v.attempt.stores))) (i.granted ∙ ap (λ a. closes_gate a && l.granted) e) ∙ ap (λ x. l.granted || x) (tml-wrote l.granted k)
  go OrecLazy e k = i.granted ∙ ap (λ a. closes_gate a && l.granted) e
  go OrecEager e k = i.granted ∙ ap (λ a. closes_gate a && l.granted) e
  go RingSw e k = i.granted ∙ ap (λ a. closes_gate a && l.granted) e
  go Serial e k = k.irrevocable ∙ ap (λ a. irrevocable_under a l.granted l.wrote) e

  pub irrevocable-of : is_irrevocable (known_of v o) ≡ irrevocable_under l.algorithm l.granted l.wrote
  irrevocable-of = ap irrevocable_at i.named ∙ go l.algorithm refl i.keeps
