-- What had been committed as a range was taken begins the one history.
use Rattle.std.proofs.Common.{◌≡◌, ℕ, ◌+◌, ◌≤◌, List, [], ◌∷◌, ◌++◌, refl, sym, ap, ◌∙◌, arith}
use Rattle.stm_model.specs.declared.config.Config.{Config}
use Rattle.rule_base.specs.declared.entries.Entry.{Entry}
use Rattle.rule_base.specs.Bridge.{public_history}
use Rattle.rule_base.specs.Lemmas.BridgeLemmas.{public_history-append}
use Rattle.rule_base.specs.History.{upto, Below}
use Rattle.rule_base.proofs.Lemmas.SeenLemmas.{upto-rest}
use Rattle.stm_rule.specs.Runs.NoteRuns.{Shared, Deed, after_deed, after_deeds, SharedRule, MayDo, AllMay}
use Rattle.stm_rule.specs.Runs.NoteRuns.Deed.{steps, tells, learns, gathers}
use Rattle.stm_rule.specs.Callers.{BeginsHistory}
use Rattle.stm_rule.specs.Privatization.{RangeIsHistory}
use Rattle.stm_rule.proofs.CoreLaws.{one_step}
use Rattle.stm_rule.proofs.NoteLaws.{one_deed}

-- a prefix up to a front begins the history
pub begins-history : (h seen : List Entry) (t front : ℕ) → Below h t → seen ≡ upto h front → BeginsHistory (public_history seen) front (public_history h)
begins-history h seen t front below is =
    let rest = upto-rest h t front below in
    (public_history rest.0, ap public_history (rest.1.0 ∙ ap (λ (l : List Entry). rest.0 ++ l) (sym is)) ∙ public_history-append rest.0 seen, rest.1.1)

module _ (good : (ℕ → ℕ) → Type 0) (c : Config) where
  -- a deed adds none but later entries
  kept : (n : ℕ) (d : Deed) (x : Shared) → SharedRule good c x → MayDo good c n d x → (f : ℕ) → f ≤ x.world.clock
      → (upto (after_deed n d x).world.history f ≡ upto x.world.history f) × (f ≤ (after_deed n d x).world.clock)
  kept n (steps s) x r may f low = let a = (one_step good c n s x.world r.rule may).1 in (a.seen f low, (let k = a.clock in omega arith))
  kept n tells x r may f low = (refl, low)
  kept n (learns i) x r may f low = (refl, low)
  kept n gathers x r may f low = (refl, low)

  -- nor do many
  all-kept : (ds : List (ℕ × Deed)) (x : Shared) → SharedRule good c x → AllMay good c ds x → (f : ℕ) → f ≤ x.world.clock
      → (upto (after_deeds good c ds x).world.history f ≡ upto x.world.history f) × SharedRule good c (after_deeds good c ds x)
  all-kept [] x r a f low = (refl, r)
  all-kept (d ∷ ds) x r a f low =
      let k = kept d.0 d.1 x r a.0 f low in
      let q = all-kept ds (after_deed d.0 d.1 x) (one_deed good c d.0 d.1 x r a.0) a.1 f k.1 in
      (q.0 ∙ k.0, q.1)

  pub range_is_history_lem : RangeIsHistory good c
  range_is_history_lem n ds x r a has =
      let p = r.rule.fence.past n in
      let f = (x.world.views n).fence.past.front in
      let q = all-kept ds x r a f p.front in
      let w = (after_deeds good c ds x).world in
      begins-history w.history (x.world.views n).fence.past.seen (w.clock + 1) f q.1.rule.core.history.below (p.seen ∙ sym q.0)
