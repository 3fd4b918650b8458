-- The clauses of the history after a step that adds no entry, and after one that does.
use Rattle.std.proofs.Common.{◌≡◌, ℕ, ◌+◌, ◌<◌, ◌≤◌, List, ◌∷◌, Bool, true, false, arith, refl, sym, subst, ap, ◌∙◌, le_refl, le_trans}
use Rattle.std.specs.Prelude.{nat_le, if◌then◌else◌}
use Rattle.rule_base.specs.declared.entries.Entry.{Entry}
use Rattle.rule_base.specs.declared.entries.Prefix.{Prefix}
use Rattle.stm_model.specs.declared.config.Config.{Config}
use Rattle.stm_model.specs.declared.config.TheConstants.{CLOCK_LIMIT}
use Rattle.rule_base.specs.declared.views.SeenHistory.{SeenHistory}
use Rattle.rule_base.specs.declared.views.View.{View}
use Rattle.rule_base.specs.Encodings.{alg_of}
use Rattle.stm_model.specs.Algorithms.{has_ring}
use Rattle.rule_base.specs.History.{Follows, upto}
use Rattle.rule_base.specs.World.{World, put, parts, horizon}
use Rattle.rule_base.specs.StepKinds.{Advances}
use Rattle.rule_base.specs.HistoryRule.{HistoryProjection, history_projection, KnowsHistory, HistoryRule}
use Rattle.rule_base.specs.Lemmas.HistoryLemmas.{upto-all, below-more}
use Rattle.rule_base.specs.Notes.{learned_history}
use Rattle.rule_base.specs.Lemmas.PutLemmas.{put-all, parts-put, parts-kept}

pub choice-grows : (b : Bool) (d k e l : ℕ) → d ≤ e → k ≤ l → (if b then d else k) ≤ (if b then e else l)
choice-grows true d k e l p q = p
choice-grows false d k e l p q = q

pub horizon-grows : (w x : World) → x.gate ≡ w.gate → w.clock ≤ x.clock → w.done ≤ x.done → horizon w ≤ horizon x
horizon-grows w x gate clock done = subst (λ (g : ℕ). horizon w ≤ (if has_ring (alg_of g) then x.done else x.clock)) (sym gate) (choice-grows (has_ring (alg_of w.gate)) w.done w.clock x.done x.clock done clock)

-- no entry
pub advances-same : (w x : World) → x.gate ≡ w.gate → w.clock ≤ x.clock → w.done ≤ x.done → x.history ≡ w.history → Advances w x
advances-same w x gate clock done is = record { clock = clock; horizon = horizon-grows w x gate clock done; seen = λ f l. ap (λ h. upto h f) is }

pub advances-entry : (w x : World) (e : Entry) → x.gate ≡ w.gate → w.clock < e.time → e.time ≤ x.clock → w.done ≤ x.done → x.history ≡ e ∷ w.history → Advances w x
advances-entry w x e gate later clock done is = record {
  clock = omega arith;
  horizon = horizon-grows w x gate (omega arith) done;
  seen = λ f l. grind (arith, is, later, l);
}

module _ (good : (ℕ → ℕ) → Type 0) (c : Config) where
  -- the caller's part of the history was left alone, and the clock stands
  pub history-kept : (w x : World) (n : ℕ) (v : View) → x.views ≡ put w.views n v → x.clock ≡ w.clock → x.history ≡ w.history
      → v.history ≡ (w.views n).history → HistoryRule good c (history_projection w) → HistoryRule good c (history_projection x)
  history-kept w x n v views clock history own r = subst (HistoryRule good c) (sym path) r
    where
      path : history_projection x ≡ history_projection w
      path = λ i. record {
        clock = clock i;
        history = history i;
        views = (ap (λ f. parts (λ (u : View). u.history) f) views ∙ parts-kept (λ (u : View). u.history) w.views n v own) i;
      }

  -- the clock rose with no entry
  pub history-raised : (s : HistoryProjection) (t : ℕ) → s.clock ≤ t → t ≤ CLOCK_LIMIT → HistoryRule good c s → HistoryRule good c (record s { clock = t })
  history-raised s t up limit r = record {
    legal = r.legal;
    below = below-more s.history (s.clock + 1) (t + 1) r.below (omega arith);
    opened = le_trans r.opened up;
    limit = limit;
    known = λ n. let k = r.known n in record { made = k.made; seen = k.seen; front = le_trans k.front up; opened = k.opened; told = k.told; told_front = k.told_front };
  }

  -- the caller has seen all
  pub history-seen : (w x : World) (n : ℕ) (v : View) → x.views ≡ put w.views n v → x.clock ≡ w.clock → x.history ≡ w.history → v.history ≡ record (w.views n).history { seen = w.history; front = w.clock }
      → HistoryRule good c (history_projection w) → HistoryRule good c (history_projection x)
  history-seen w x n v views clock history own r = subst (HistoryRule good c) (sym path) (record {
    legal = r.legal;
    below = r.below;
    opened = r.opened;
    limit = r.limit;
    known = put-all (history_projection w).views n (record (w.views n).history { seen = w.history; front = w.clock }) (KnowsHistory c w.clock w.history)
        (let k = r.known n in record {
          made = k.made;
          seen = sym (upto-all w.history (w.clock + 1) w.clock r.below (le_refl (w.clock + 1)));
          front = le_refl w.clock;
          opened = r.opened;
          told = k.told;
          told_front = le_trans k.told_front k.front;
        })
        (λ m d. r.known m);
  })
    where
      path : history_projection x ≡ record { clock = w.clock; history = w.history; views = put (history_projection w).views n (record (w.views n).history { seen = w.history; front = w.clock }) }
      path = λ i. record {
        clock = clock i;
        history = history i;
        views = (ap (λ f. parts (λ (u : View). u.history) f) views ∙ parts-put (λ (u : View). u.history) w.views n v ∙ ap (put (history_projection w).views n) own) i;
      }

  -- the caller keeps all that there is apart
  pub history-ended : (w x : World) (n : ℕ) (v : View) (p : Prefix) → x.views ≡ put w.views n v → x.clock ≡ w.clock → x.history ≡ w.history
      → v.history ≡ record (w.views n).history { whole = p } → HistoryRule good c (history_projection w)
      → HistoryRule good c (history_projection x)
  history-ended w x n v p views clock history own r = subst (HistoryRule good c) (sym path) (record {
    legal = r.legal;
    below = r.below;
    opened = r.opened;
    limit = r.limit;
    known = put-all (history_projection w).views n (record (w.views n).history { whole = p }) (KnowsHistory c w.clock w.history)
        (let k = r.known n in record { made = k.made; seen = k.seen; front = k.front; opened = k.opened; told = k.told; told_front = k.told_front })
        (λ m d. r.known m);
  })
    where
      path : history_projection x ≡ record { clock = w.clock; history = w.history; views = put (history_projection w).views n (record (w.views n).history { whole = p }) }
      path = λ i. record {
        clock = clock i;
        history = history i;
        views = (ap (λ f. parts (λ (u : View). u.history) f) views ∙ parts-put (λ (u : View). u.history) w.views n v ∙ ap (put (history_projection w).views n) own) i;
      }

  -- the caller has seen all up to f
  pub history-upto : (w x : World) (n f : ℕ) (v : View) → x.views ≡ put w.views n v → x.clock ≡ w.clock → x.history ≡ w.history
      → v.history ≡ record (w.views n).history { seen = upto w.history f; front = f } → (w.views n).history.front ≤ f → f ≤ w.clock
      → HistoryRule good c (history_projection w) → HistoryRule good c (history_projection x)
  history-upto w x n f v views clock history own up low r = subst (HistoryRule good c) (sym path) (record {
    legal = r.legal;
    below = r.below;
    opened = r.opened;
    limit = r.limit;
    known = put-all (history_projection w).views n (record (w.views n).history { seen = upto w.history f; front = f }) (KnowsHistory c w.clock w.history)
        (let k = r.known n in record {
          made = k.made;
          seen = refl;
          front = low;
          opened = le_trans k.opened up;
          told = k.told;
          told_front = le_trans k.told_front up;
        })
        (λ m d. r.known m);
  })
    where
      path : history_projection x ≡ record { clock = w.clock; history = w.history; views = put (history_projection w).views n (record (w.views n).history { seen = upto w.history f; front = f }) }
      path = λ i. record {
        clock = clock i;
        history = history i;
        views = (ap (λ f. parts (λ (u : View). u.history) f) views ∙ parts-put (λ (u : View). u.history) w.views n v ∙ ap (put (history_projection w).views n) own) i;
      }

  -- the caller added the entry e at the time that the clock now has
  entry_known : (s : HistoryProjection) (n : ℕ) (e : Entry) → e.caller ≡ n → s.clock < e.time → HistoryRule good c s
      → (m : ℕ) → KnowsHistory c e.time (e ∷ s.history) m (put s.views n (record (s.views n) { made = e ∷ (s.views n).made; seen = e ∷ s.history; front = e.time }) m)
  entry_known s n e mine later r = put-all s.views n (record (s.views n) { made = e ∷ (s.views n).made; seen = e ∷ s.history; front = e.time }) (KnowsHistory c e.time (e ∷ s.history))
      (let k = r.known n in record {
        made = grind (arith, k.made, mine);
        seen = grind (arith, upto-all s.history (s.clock + 1) e.time r.below, later);
        front = le_refl e.time;
        opened = let o = r.opened in omega arith;
        told = grind (arith, k.told, k.told_front, k.front, later);
        told_front = let o = k.told_front in let p = k.front in omega arith;
      })
      (λ m d. let k = r.known m in record {
        made = grind (arith, k.made, mine, d);
        seen = grind (arith, k.seen, k.front, later);
        front = let o = k.front in omega arith;
        opened = k.opened;
        told = grind (arith, k.told, k.told_front, k.front, later);
        told_front = k.told_front;
      })

  pub history-entry : (w x : World) (n : ℕ) (e : Entry) (v : View) → x.views ≡ put w.views n v → x.clock ≡ e.time
      → x.history ≡ e ∷ w.history
      → v.history ≡ record (w.views n).history { made = e ∷ (w.views n).history.made; seen = e ∷ w.history; front = e.time }
      → e.caller ≡ n → w.clock < e.time → e.time ≤ CLOCK_LIMIT → Follows good c e w.history → HistoryRule good c (history_projection w) → HistoryRule good c (history_projection x)
  history-entry w x n e v views clock history own mine later limit follows r = subst (HistoryRule good c) (sym path) (record {
    legal = (follows, r.legal);
    below = (omega arith, below-more w.history (w.clock + 1) e.time r.below (omega arith));
    opened = let o = r.opened in omega arith;
    limit = limit;
    known = entry_known (history_projection w) n e mine later r;
  })
    where
      path : history_projection x
          ≡ record {
            clock = e.time;
            history = e ∷ w.history;
            views = put (history_projection w).views n
                (record (w.views n).history { made = e ∷ (w.views n).history.made; seen = e ∷ w.history; front = e.time });
          }
      path = λ i. record {
        clock = clock i;
        history = history i;
        views = (ap (λ f. parts (λ (u : View). u.history) f) views ∙ parts-put (λ (u : View). u.history) w.views n v ∙ ap (put (history_projection w).views n) own) i;
      }

  -- what a caller knows after it learnt a note
  learned_knows : (clock : ℕ) (history : List Entry) (n : ℕ) (h k : SeenHistory) → KnowsHistory c clock history n h → k.seen ≡ upto history k.front → k.front ≤ clock → KnowsHistory c clock history n (learned_history h k)
  learned_knows clock history n h k o seen front = go (nat_le k.front h.front) refl
    where
      go : (b : Bool) → nat_le k.front h.front ≡ b → KnowsHistory c clock history n (if b
          then record { made = h.made; seen = h.seen; front = h.front; told = record { seen = k.seen; front = k.front }; whole = h.whole }
          else record { made = h.made; seen = k.seen; front = k.front; told = record { seen = h.seen; front = h.front }; whole = h.whole })
      go true q = record { made = o.made; seen = o.seen; front = o.front; opened = o.opened; told = seen; told_front = grind (arith, q) }
      go false q = record { made = o.made; seen = seen; front = front; opened = let a = o.opened in let l : h.front ≤ k.front = grind (arith, q) in omega arith; told = o.seen; told_front = grind (arith, q) }

  -- the caller learnt a note
  pub history-learned : (w x : World) (n : ℕ) (v : View) (k : SeenHistory) → x.views ≡ put w.views n v → x.clock ≡ w.clock
      → x.history ≡ w.history → v.history ≡ learned_history (w.views n).history k → k.seen ≡ upto w.history k.front → k.front ≤ w.clock
      → HistoryRule good c (history_projection w) → HistoryRule good c (history_projection x)
  history-learned w x n v k views clock history own seen front r = subst (HistoryRule good c) (sym path) (record {
    legal = r.legal;
    below = r.below;
    opened = r.opened;
    limit = r.limit;
    known =
        put-all (history_projection w).views n (learned_history (w.views n).history k) (KnowsHistory c w.clock w.history)
        (learned_knows w.clock w.history n (w.views n).history k (r.known n) seen front) (λ m d. r.known m);
  })
    where
      path : history_projection x ≡ record { clock = w.clock; history = w.history; views = put (history_projection w).views n (learned_history (w.views n).history k) }
      path = λ i. record {
        clock = clock i;
        history = history i;
        views = (ap (λ f. parts (λ (u : View). u.history) f) views ∙ parts-put (λ (u : View). u.history) w.views n v ∙ ap (put (history_projection w).views n) own) i;
      }
