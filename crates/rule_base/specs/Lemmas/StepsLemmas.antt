-- A step adds its item to the step trace, and its rise to the rises.
use Rattle.std.proofs.Common.{◌≡◌, ℕ, zero, suc, ◌+◌, ◌<◌, ◌≤◌, List, [], ◌∷◌, Bool, true, false, eqb, refl, sym, ap, subst, ◌∙◌, le_refl, arith}
use Rattle.std.specs.Prelude.{Some}
use Rattle.stm_model.specs.declared.config.Config.{Config}
use Rattle.rule_base.specs.declared.layout.At.TheVariants.{Clock}
use Rattle.rule_base.specs.declared.views.Steps.{Steps}
use Rattle.rule_base.specs.declared.views.TracedStep.{TracedStep}
use Rattle.rule_base.specs.declared.views.View.{View}
use Rattle.rule_base.specs.Notes.{after_seat_load}
use Rattle.rule_base.specs.World.{World, put, parts, fetch}
use Rattle.rule_base.specs.StepKinds.{StepKind, answer_of, found_in, answer, view_after, world_after}
use Rattle.rule_base.specs.declared.views.Act.{Act}
use Rattle.rule_base.specs.declared.views.Act.TheVariants.{Load, Store, Exchange, Raise}
use Rattle.rule_base.specs.StepsRule.{steps_projection, ClocksWithin, all_rises, StepsRule}
use Rattle.rule_base.specs.Lemmas.PutLemmas.{put-all, parts-put}

pub clocks-later : (t u : ℕ) (is : List TracedStep) → t ≤ u → ClocksWithin t is → ClocksWithin u is
clocks-later t u [] l w = tt
clocks-later t u (i ∷ is) l w = (λ at x f. let h = w.0 at x f in omega arith, clocks-later t u is l w.1)

rises-beyond : (m n : ℕ) (vs : ℕ → Steps) (v : Steps) → m ≤ n → all_rises m (put vs n v) ≡ all_rises m vs
rises-beyond zero n vs v l = refl
rises-beyond (suc m) n vs v l = grind (arith, rises-beyond m n vs v, l)

rises-same : (m n : ℕ) (vs : ℕ → Steps) (v : Steps) → v.rises ≡ (vs n).rises → all_rises m (put vs n v) ≡ all_rises m vs
rises-same zero n vs v e = refl
rises-same (suc m) n vs v e = grind (arith, rises-same m n vs v e, e)

rises-more : (m n k : ℕ) (vs : ℕ → Steps) (v : Steps) → n < m → v.rises ≡ (vs n).rises + k → all_rises m (put vs n v) ≡ all_rises m vs + k
rises-more zero n k vs v l e = absurd (omega arith)
rises-more (suc m) n k vs v l e = go (eqb m n) refl (λ h. rises-more m n k vs v h e)
  where
    go : (b : Bool) → eqb m n ≡ b → (n < m → all_rises m (put vs n v) ≡ all_rises m vs + k) → all_rises m (put vs n v) + (put vs n v m).rises ≡ (all_rises m vs + (vs m).rises) + k
    go true q rec = grind (arith, q, e, rises-beyond m n vs v)
    go false q rec = let d : n < m = grind (arith, q, l) in let r = rec d in grind (arith, q, r)

-- what a step finds is what it answers
found_is : (a : Act) (f x : ℕ) → found_in a (answer_of a f) ≡ Some x → f ≡ x
found_is Load f x e = cc
found_is (Store value) f x e = absurd cc
found_is (Exchange old new) f x e = cc
found_is (Raise least) f x e = cc

-- the load of a split or a join names no clock
pub steps-seated : (c : Config) (w : World) (n : ℕ) (v : View) → v.steps ≡ (after_seat_load (w.views n)).steps → StepsRule c (steps_projection w) → StepsRule c (steps_projection (record w { views = put w.views n v }))
steps-seated c w n v own s = subst (StepsRule c) (λ i. record { clock = w.clock; views = sym path i }) (record {
  step_trace = put-all old n after (λ m u. ClocksWithin w.clock u.step_trace) (λ at x f. absurd cc, s.step_trace n) (λ m d. s.step_trace m);
  risen = s.risen ∙ ap (λ k. c.clock + k) (sym (rises-same c.callers n old after refl));
})
  where
    old : ℕ → Steps
    old = (steps_projection w).views

    after : Steps
    after = (after_seat_load (w.views n)).steps

    path : parts (λ (u : View). u.steps) (put w.views n v) ≡ put old n after
    path = parts-put (λ (u : View). u.steps) w.views n v ∙ ap (put old n) own

module _ (c : Config) (kind : StepKind) (n : ℕ) (w : World) where
  item_within : (t : ℕ) → w.clock ≤ t → kind.place ≡ Clock → (x : ℕ) → found_in kind.act (answer kind w) ≡ Some x → x ≤ t
  item_within t l at x f = let e : fetch w kind.place ≡ x = found_is kind.act (fetch w kind.place) x f in let k : fetch w kind.place ≡ w.clock = ap (fetch w) at in omega arith

  projection_after : steps_projection (world_after kind n w) ≡ record { clock = (world_after kind n w).clock; views = put (steps_projection w).views n (view_after kind w (w.views n) (answer kind w)).steps }
  projection_after = λ i. record { clock = (world_after kind n w).clock; views = parts-put (λ (v : View). v.steps) w.views n (view_after kind w (w.views n) (answer kind w)) i }

  step_traces : (t : ℕ) → w.clock ≤ t → (kind.after w (w.views n) (answer kind w)).steps.step_trace ≡ (w.views n).steps.step_trace → StepsRule c (steps_projection w)
      → (m : ℕ) → ClocksWithin t (put (steps_projection w).views n (view_after kind w (w.views n) (answer kind w)).steps m).step_trace
  step_traces t l own s = put-all (steps_projection w).views n (view_after kind w (w.views n) (answer kind w)).steps (λ m v. ClocksWithin t v.step_trace)
      (item_within t l, subst (ClocksWithin t) (sym own) (clocks-later w.clock t (w.views n).steps.step_trace l (s.step_trace n)))
      (λ m d. clocks-later w.clock t (w.views m).steps.step_trace l (s.step_trace m))

  -- the clock stands, and so do the rises
  pub steps-kept : (world_after kind n w).clock ≡ w.clock → (kind.after w (w.views n) (answer kind w)).steps.step_trace ≡ (w.views n).steps.step_trace → (kind.after w (w.views n) (answer kind w)).steps.rises ≡ (w.views n).steps.rises
      → StepsRule c (steps_projection w) → StepsRule c (steps_projection (world_after kind n w))
  steps-kept clock own same s = subst (StepsRule c) (sym projection_after) (record {
    step_trace = step_traces (world_after kind n w).clock (subst (λ (k : ℕ). w.clock ≤ k) (sym clock) (le_refl w.clock)) own s;
    risen = clock ∙ s.risen ∙ ap (λ k. c.clock + k) (sym (rises-same c.callers n (steps_projection w).views (view_after kind w (w.views n) (answer kind w)).steps same));
  })

  -- the step raised the clock by k
  pub steps-raised : (k : ℕ) → n < c.callers → (world_after kind n w).clock ≡ w.clock + k
      → (kind.after w (w.views n) (answer kind w)).steps.step_trace ≡ (w.views n).steps.step_trace
      → (kind.after w (w.views n) (answer kind w)).steps.rises ≡ (w.views n).steps.rises + k
      → StepsRule c (steps_projection w) → StepsRule c (steps_projection (world_after kind n w))
  steps-raised k low clock own more s = subst (StepsRule c) (sym projection_after) (record {
    step_trace = step_traces (world_after kind n w).clock (omega arith) own s;
    risen = let r = rises-more c.callers n k (steps_projection w).views (view_after kind w (w.views n) (answer kind w)).steps low more in let o = s.risen in omega arith;
  })
