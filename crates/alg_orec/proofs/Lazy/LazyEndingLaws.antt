-- The ends of an attempt of OrecLazy that makes no entry.
use Rattle.std.proofs.Common.{ℕ, ◌≡◌, List, Bool, true, false, refl, sym, ap, ◌∙◌, arith, subst}
use Rattle.std.specs.Prelude.{not, ◌&&◌}
use Rattle.stm_model.specs.Algorithms.{has_records, closes_gate, irrevocable_under}
use Rattle.stm_model.specs.declared.alg.Alg.TheVariants.{OrecLazy}
use Rattle.stm_model.specs.declared.config.Config.{Config}
use Rattle.stm_model.specs.Memories.{item_at, is_empty}
use Rattle.rule_base.specs.declared.views.View.{View}
use Rattle.rule_base.specs.Bridge.{items}
use Rattle.rule_base.specs.Lemmas.BridgeLemmas.{item-some}
use Rattle.rule_base.specs.Own.{Own}
use Rattle.stm_rule.specs.declared.local.Local.{Local}
use Rattle.stm_rule.specs.Attempts.{IsInside}
use Rattle.stm_rule.specs.RecordsKept.{cells_of, IsLazy}
use Rattle.stm_answers.specs.declared.answers.Cancel.TheVariants.{Cancelled}
use Rattle.stm_answers.specs.declared.answers.Commit.TheVariants.{ReadOnly}
use Rattle.stm_answers.specs.Answers.{Commits, Cancels, EndsAt}
use Rattle.stm_answers.specs.CallerState.{known_of, granted_under, written_under, is_irrevocable, wrote}
use Rattle.stm_gate.specs.Leaving.{CanLeave, left}
use Rattle.stm_gate.specs.LeavingLaws.{unmade-refl, ended-left}
use Rattle.stm_gate.specs.Opacity.{opaque-inside}
use Rattle.alg_orec.specs.Ending.{CanAbortLazy, GivesUp}
use Rattle.stm_gate.proofs.Cells.{items-cells}
use Rattle.alg_orec.proofs.Proving.{lazy-of, with_commit, ends-own}

module _ (good : List ℕ → Type 0) (c : Config) (n : ℕ) (l : Local) (v : View) (i : IsInside good c n l v) (lazy : v.gate.algorithm ≡ OrecLazy) where
  -- a promoted attempt is irrevocable
  pub irrevocable-granted : (o : Own) → l.granted ≡ true → is_irrevocable (known_of v o) ≡ true
  irrevocable-granted o granted = let here : v.gate.granted ≡ true = i.granted ∙ (λ j. closes_gate ((sym i.named ∙ lazy) j) && granted j) in
      (λ j. irrevocable_under (lazy j) (granted_under (lazy j) v.gate v.lock) (wrote (known_of v o))) ∙ here

  module _ (plain : l.granted ≡ false) where
    k : IsLazy c l v
    k = lazy-of good c n l v i (sym i.named ∙ lazy) plain

    pub may-abort : CanAbortLazy c l v
    may-abort = record {
      opens = record { has = record { runs = record { phase = i.phase; algorithm = ap has_records lazy; plain = k.optimistic.ungranted }; inside = k.inside }; open_yet = k.open_yet };
      lazy = k.lazy;
      unplaced = k.unplaced;
      undone = k.undone;
      repaid = k.repaid;
      locks = k.locks;
      places = k.places;
      versions = λ r version e. let p = item-some v.owned.held r version (sym (ap (item_at r) k.locks) ∙ e) in let b = k.versions r p.0 in let q = p.1 in omega arith;
      unlocked = k.optimistic.unlocked;
      unfixed = k.optimistic.unfixed;
      unwritten = k.optimistic.unwritten;
      uncommitted = k.optimistic.uncommitted;
      unstored = k.optimistic.unstored;
      unentered = i.unentered;
    }

    revocable : (o : Own) → is_irrevocable (known_of v o) ≡ false
    revocable o = (λ j. irrevocable_under (lazy j) (granted_under (lazy j) v.gate v.lock) (wrote (known_of v o))) ∙ k.optimistic.ungranted

    pub tells-cancelled : (z : View) (o : Own) → GivesUp n v z → Cancels good c n (Cancelled l.start) (known_of v o) (known_of z (with_commit false o))
    tells-cancelled z o g = (
      record { ends = ends-own v z o (with_commit false o) refl refl refl q.ends; made = q.made; is_start = q.is_start; seen = q.seen; kept = q.kept; sees = q.sees },
      (let a = level in omega arith),
      (let a = level in omega arith),
      revocable o,
    )
      where
        q : EndsAt good c n l.start (known_of v o) (known_of z o)
        q = subst (λ (y : View). EndsAt good c n l.start (known_of v o) (known_of y o)) (sym g.is) (ended-left n good c l.start v g.before o g.unmade (sym i.start) (opaque-inside good c n l v o i))

        level : z.steps.rises ≡ v.steps.rises_at_begin
        level = ap (λ (y : View). y.steps.rises) g.is ∙ (g.rises ∙ k.optimistic.rises)

    -- one that wrote nothing
    module _ (clean : l.wrote ≡ false) where
      pub idle-commit : l.committing ≡ false
      idle-commit = by l.committing refl
        where
          by : (b : Bool) → l.committing ≡ b → b ≡ false
          by true e = absurd (let f : true ≡ false = sym (k.committing e) ∙ clean in cc)
          by false e = refl

      pub may-leave : CanLeave v
      may-leave = record {
        phase = i.phase;
        unlocked = k.optimistic.unlocked;
        unfixed = k.optimistic.unfixed;
        disowned = k.open_handed idle-commit;
        unwritten = k.optimistic.unwritten;
        uncommitted = k.optimistic.uncommitted;
        ungranted = λ e. k.optimistic.ungranted;
        plain = λ e. i.unentered;
        unstored = λ e. k.optimistic.unstored;
        marked = λ e q. absurd (let f : true ≡ false = sym q ∙ i.unentered in cc);
      }

      pub tells-read_only : (z : View) (o : Own) → o.buffered ≡ cells_of l.writes.items → z ≡ left n v → Commits good c n (ReadOnly l.start) (known_of v o) (known_of z o)
      tells-read_only z o e is = subst (λ (y : View). Commits good c n (ReadOnly l.start) (known_of v o) (known_of y o)) (sym is) (
        ended-left n good c l.start v v o (unmade-refl v k.optimistic.unlocked k.optimistic.unwritten) (sym i.start) (opaque-inside good c n l v o i),
        (let r = k.optimistic.rises in omega arith, let r = k.optimistic.rises in omega arith),
        (λ j. not (is_empty (written_under (lazy j) (k.optimistic.ungranted j) v o)))
            ∙ (ap (λ (ws : List (ℕ × ℕ)). not (is_empty ws)) (ap items e ∙ items-cells l.writes.items k.buffers.once)
            ∙ (sym k.buffers.wrote ∙ clean)),
      )
