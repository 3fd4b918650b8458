-- What stands of an attempt of OrecEager, and what its end comes to as seen from before.
use Rattle.std.proofs.Common.{ℕ, ◌≡◌, ◌≤◌, ◌+◌, List, [], ◌∷◌, ◌++◌, length, Bool, true, false, refl, sym, ap, ◌∙◌, arith, subst}
use Rattle.std.specs.Prelude.{not, ◌&&◌, ◌||◌}
use Rattle.stm_model.specs.Algorithms.{has_records, closes_gate, irrevocable_under, quit_rise}
use Rattle.stm_model.specs.declared.alg.Alg.{Alg}
use Rattle.stm_model.specs.declared.alg.Alg.TheVariants.{OrecEager}
use Rattle.stm_model.specs.declared.config.Config.{Config}
use Rattle.stm_model.specs.declared.stop.Cause.TheVariants as causes
use Rattle.stm_model.specs.Memories.{is_empty}
use Rattle.rule_base.specs.declared.entries.Cell.{Cell}
use Rattle.rule_base.specs.declared.views.GateView.{GateView}
use Rattle.rule_base.specs.declared.views.TracedStep.{TracedStep}
use Rattle.rule_base.specs.declared.views.View.{View}
use Rattle.rule_base.specs.Bridge.{addresses, items}
use Rattle.rule_base.specs.Own.{Own}
use Rattle.stm_gate.specs.LeavingLaws.{IsUnmade, quits-left, step_trace-left}
use Rattle.stm_gate.proofs.Peeling.{no-items}
use Rattle.stm_rule.specs.declared.local.Local.{Local}
use Rattle.stm_rule.specs.Attempts.{Keeps, IsInside}
use Rattle.stm_rule.specs.EagerKept.{IsEager}
use Rattle.stm_answers.specs.Answers.{Quits}
use Rattle.stm_answers.specs.Causes.{Asked, Conflicts}
use Rattle.stm_answers.specs.CallerState.{CallerState, known_of, granted_under, kept_under, written_under, is_irrevocable, is_none, wrote, has_written}
use Rattle.alg_orec.proofs.Proving.{conflicts-by-records, quits-own, unmade-trans, with_commit}
use Rattle.alg_orec.specs.EagerEnding.{AbortsEager}

-- an attempt of OrecEager that was not promoted
pub eager-of : (good : List ℕ → Type 0) (c : Config) (n : ℕ) (l : Local) (v : View) → IsInside good c n l v → l.algorithm ≡ OrecEager → l.granted ≡ false → IsEager c l v
eager-of good c n l v i eager plain = subst (λ (b : Bool). Keeps c OrecEager b l v) plain (subst (λ (a : Alg). Keeps c a l.granted l v) eager i.keeps)

no-not : (b : Bool) → not b ≡ false → b ≡ true
no-not true e = refl
no-not false e = absurd cc

is-none : (ws : List (ℕ × ℕ)) → is_empty ws ≡ true → length ws ≡ 0
is-none [] e = refl
is-none (w ∷ ws) e = absurd cc

no-or : (a b : Bool) → a || b ≡ false → (a ≡ false) × (b ≡ false)
no-or false b e = (refl, e)
no-or true b e = absurd cc

none-kept : (ks : List ℕ) → is_none ks ≡ true → ks ≡ []
none-kept [] e = refl
none-kept (k ∷ ks) e = absurd cc

no-addresses : (ws : List (ℕ × ℕ)) → addresses ws ≡ [] → ws ≡ []
no-addresses [] e = refl
no-addresses (w ∷ ws) e = absurd cc

pub length-none : (ws : List (ℕ × ℕ)) → length ws ≤ 0 → ws ≡ []
length-none [] l = refl
length-none (w ∷ ws) l = absurd (omega arith)

-- who, as contracts see it, never wrote has no old value
pub none-saved : (w : View) (p : Own) → w.gate.algorithm ≡ OrecEager → has_written (known_of w p) ≡ false → w.owned.undo ≡ []
none-saved w p eager e =
    no-items w.owned.undo
    (no-addresses (items w.owned.undo)
    (ap (λ (a : Alg). kept_under a w p) (sym eager)
    ∙ none-kept (known_of w p).kept
    (no-not (is_none (known_of w p).kept) (no-or (wrote (known_of w p)) (not (is_none (known_of w p).kept)) e).1)))

module _ (c : Config) (l : Local) (v : View) (k : IsEager c l v) where
  -- who wrote nothing has nothing in place, and holds nothing unless it was rolled back
  pub no-writes : l.wrote ≡ false → length l.writes.items ≡ 0
  no-writes clean = is-none l.writes.items (no-not (is_empty l.writes.items) (sym k.wrote ∙ clean))

  pub none-held : v.owned.undo ≡ [] → v.owned.held ≡ []
  none-held none = no-items v.owned.held (sym k.locks ∙ length-none l.locks.items (let e : length l.undo.items ≡ 0 = ap length (k.undo ∙ ap items none) in let f = k.few in omega arith))

  -- it holds no more records than its undo log may have items
  pub held-within : length l.locks.items ≤ l.undo.len
  held-within = let f = k.few in let m = k.most in omega arith

  module _ (eager : v.gate.algorithm ≡ OrecEager) where
    -- what has an item in the undo log
    pub kept-here : (w : View) (p : Own) → w.gate ≡ v.gate → w.owned.undo ≡ v.owned.undo → (known_of w p).kept ≡ addresses (items v.owned.undo)
    kept-here w p gate same = (λ j. kept_under (gate j).algorithm w p) ∙ ((λ j. kept_under (eager j) w p) ∙ ap (λ (cs : List Cell). addresses (items cs)) same)

    -- and who never wrote holds nothing
    pub never-held : (w : View) (p : Own) → w.gate ≡ v.gate → w.owned.undo ≡ v.owned.undo → has_written (known_of w p) ≡ false → v.owned.held ≡ []
    never-held w p gate same e = none-held (sym same ∙ none-saved w p (ap (λ (g : GateView). g.algorithm) gate ∙ eager) e)

    -- what was written lies in place
    pub written : (w : View) (p : Own) → w.gate ≡ v.gate → w.owned.in_place ≡ v.owned.in_place → written_under w.gate.algorithm w.gate.granted w p ≡ l.writes.items
    written w p gate same = (λ j. written_under (gate j).algorithm (gate j).granted w p) ∙ ((λ j. written_under (eager j) (k.optimistic.ungranted j) w p) ∙ (ap items same ∙ sym k.writes))

    pub wrote-known : (w : View) (p : Own) → w.gate ≡ v.gate → w.owned.in_place ≡ v.owned.in_place → wrote (known_of w p) ≡ l.wrote
    wrote-known w p gate same = ap (λ (ws : List (ℕ × ℕ)). not (is_empty ws)) (written w p gate same) ∙ sym k.wrote

    pub revocable : (w : View) (p : Own) → w.gate ≡ v.gate → is_irrevocable (known_of w p) ≡ false
    revocable w p gate = (λ j. irrevocable_under (gate j).algorithm (granted_under (gate j).algorithm (gate j) w.lock) (wrote (known_of w p)))
        ∙ ((λ j. irrevocable_under (eager j) (granted_under (eager j) v.gate w.lock) (wrote (known_of w p))) ∙ k.optimistic.ungranted)

-- by what contracts see of it, an attempt was promoted or not
module _ (good : List ℕ → Type 0) (c : Config) (n : ℕ) (l : Local) (v : View) (i : IsInside good c n l v) (eager : v.gate.algorithm ≡ OrecEager) (o : Own) where
  pub granted-of : (b : Bool) → l.granted ≡ b → (known_of v o).granted ≡ b
  granted-of b e = (λ j. granted_under (eager j) v.gate v.lock) ∙ (i.granted ∙ (λ j. closes_gate ((sym i.named ∙ eager) j) && e j))

  pub plain-of : (known_of v o).granted ≡ false → l.granted ≡ false
  plain-of e = by l.granted refl
    where
      by : (b : Bool) → l.granted ≡ b → b ≡ false
      by true q = absurd (let f : true ≡ false = sym (granted-of true q) ∙ e in cc)
      by false q = refl

  pub was-granted : (known_of v o).granted ≡ true → l.granted ≡ true
  was-granted e = by l.granted refl
    where
      by : (b : Bool) → l.granted ≡ b → b ≡ true
      by true q = refl
      by false q = absurd (let f : false ≡ true = sym (granted-of false q) ∙ e in cc)

  pub irrevocable-granted : l.granted ≡ true → is_irrevocable (known_of v o) ≡ true
  irrevocable-granted granted = let here : v.gate.granted ≡ true = i.granted ∙ (λ j. closes_gate ((sym i.named ∙ eager) j) && granted j) in
      (λ j. irrevocable_under (eager j) (granted_under (eager j) v.gate v.lock) (wrote (known_of v o))) ∙ here

-- more steps were taken
pub conflicts-later : (c : Config) (n : ℕ) (asked : Asked) (cause : causes.the_data) (v u w : CallerState) → has_records v.alg ≡ true
    → (more : List TracedStep) → w.step_trace ≡ more ++ u.step_trace → Conflicts c n asked cause v u → Conflicts c n asked cause v w
conflicts-later = conflicts-by-records

-- until it ended
pub ended-by : (n : ℕ) (u z : View) → AbortsEager n u z → (more : List TracedStep) × (z.steps.step_trace ≡ more ++ u.steps.step_trace)
ended-by n u z g = let t = step_trace-left n u g.before g.unmade.carried in (t.0, ap (λ (y : View). y.steps.step_trace) g.is ∙ t.1)

-- by how much the clock was raised
pub rose-by : (a : Alg) (b : Bool) (base rises : ℕ) → a ≡ OrecEager → rises ≤ base + 1 → (b ≡ false → rises ≡ base) → rises ≤ base + quit_rise a b
rose-by a true base rises e one none = let q : quit_rise a true ≡ 1 = ap (λ (k : Alg). quit_rise k true) e in omega arith
rose-by a false base rises e one none = let z = none refl in omega arith

-- an attempt of OrecEager that was taken back
module _ (n : ℕ) (v u z : View) (o : Own) (eager : v.gate.algorithm ≡ OrecEager) (plain : v.gate.granted ≡ false)
    (level : v.steps.rises ≡ v.steps.rises_at_begin) (rises : u.steps.rises ≡ v.steps.rises)
    (clean : has_written (known_of v o) ≡ false → u.owned.held ≡ []) (g : AbortsEager n u z) where
  pub rose : (v.steps.rises_at_begin ≤ g.before.steps.rises) × (g.before.steps.rises ≤ v.steps.rises_at_begin + quit_rise v.gate.algorithm (has_written (known_of v o)))
  rose = (
    (let a = g.rose.0 in omega arith),
    rose-by v.gate.algorithm (has_written (known_of v o)) v.steps.rises_at_begin g.before.steps.rises eager
        (let a = g.rose.1 in omega arith) (λ e. let q = g.level (clean e) in omega arith),
  )

  pub quits-back : IsUnmade v u → Quits (known_of v o) (known_of z (with_commit false o))
  quits-back m = quits-own v z o (with_commit false o) refl refl refl (subst (λ (y : View). Quits (known_of v o) (known_of y o)) (sym g.is)
      (quits-left n v g.before o (unmade-trans v u g.before m g.unmade) rose ((λ j. irrevocable_under (eager j) (granted_under (eager j) v.gate v.lock) (wrote (known_of v o))) ∙ plain)))
