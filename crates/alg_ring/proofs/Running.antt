-- What stands of an attempt of RingSW between two calls.
use Rattle.std.proofs.Common.{ℕ, ◌≡◌, List, true, false, sym, ap, ◌∙◌}
use Rattle.std.specs.Prelude.{not, ◌&&◌, ◌||◌}
use Rattle.stm_model.specs.Algorithms.{asks_at_commit, closes_gate, irrevocable_under}
use Rattle.stm_model.specs.declared.alg.Alg.{Alg}
use Rattle.stm_model.specs.declared.alg.Alg.TheVariants.{RingSw}
use Rattle.stm_model.specs.declared.config.Config.{Config}
use Rattle.stm_model.specs.Memories.{is_empty}
use Rattle.rule_base.specs.declared.views.View.{View}
use Rattle.rule_base.specs.Bridge.{items}
use Rattle.stm_rule.specs.declared.local.Local.{Local}
use Rattle.stm_rule.specs.Attempts.{IsInside, own_of}
use Rattle.stm_rule.specs.RecordsKept.{cells_of}
use Rattle.stm_rule.specs.RingKept.{IsRing}
use Rattle.stm_rule.proofs.StandLemmas.{inside-of}
use Rattle.stm_answers.specs.CallerState.{known_of, granted_under, written_under, is_irrevocable, wrote}
use Rattle.stm_gate.proofs.Standing.{in-of}
use Rattle.alg_ring.specs.Calls.{HasAttempt}
use Rattle.stm_gate.proofs.Cells.{items-cells}
use Rattle.alg_ring.proofs.Ending as ending

module _ (good : List ℕ → Type 0) (c : Config) (n : ℕ) (l : Local) (v : View) (a : HasAttempt good c n l v) where
  pub inside : IsInside good c n l v
  inside = inside-of good c n l v (in-of v.gate.phase a.running) a.stands

  pub ring : l.algorithm ≡ RingSw
  ring = sym inside.named ∙ a.named

  -- it is irrevocable once it was promoted
  pub granted-is : granted_under v.gate.algorithm v.gate v.lock ≡ l.granted
  granted-is = ap (λ (b : Alg). granted_under b v.gate v.lock) a.named ∙ (inside.granted ∙ (λ j. closes_gate (ring j) && l.granted))

  pub irrevocable-is : is_irrevocable (known_of v (own_of l)) ≡ l.granted
  irrevocable-is = ap (λ (b : Alg). irrevocable_under b (granted_under v.gate.algorithm v.gate v.lock) (wrote (known_of v (own_of l)))) a.named ∙ granted-is

  -- and then in the middle of no commit
  pub steady : l.granted ≡ true → l.committing ≡ false
  steady granted = inside.steady (λ j. not (asks_at_commit (ring j)) || granted j)

  -- UNTIL THEN
  module _ (plain : l.granted ≡ false) where
    pub kept : IsRing c l v
    kept = ending.ring-of good c n l v inside a.named plain

    -- what was written lies with the descriptor
    pub written-is : written_under v.gate.algorithm v.gate.granted v (own_of l) ≡ items (cells_of l.writes.items)
    written-is = λ j. written_under (a.named j) (kept.optimistic.ungranted j) v (own_of l)

    pub wrote-is : wrote (known_of v (own_of l)) ≡ l.wrote
    wrote-is = ap (λ (xs : List (ℕ × ℕ)). not (is_empty xs)) (written-is ∙ items-cells l.writes.items kept.buffers.once) ∙ sym kept.buffers.wrote
