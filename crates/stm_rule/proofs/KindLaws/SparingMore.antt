-- Each kind of step of RingSW, of the record algorithms and of a promoted attempt leaves the fenced range alone.
use Rattle.std.proofs.Common.{◌≡◌, ℕ, ◌+◌, List, [], ◌∷◌, Bool, true, false, refl, subst, ap, ◌∙◌, arith}
use Rattle.std.specs.Prelude.{if◌then◌else◌, ◌==◌, ltb}
use Rattle.stm_model.specs.declared.alg.Alg.{Alg}
use Rattle.stm_model.specs.declared.alg.Alg.TheVariants.{RingSw}
use Rattle.stm_model.specs.declared.config.Config.{Config}
use Rattle.stm_model.specs.declared.config.TheConstants.{CLOCK_LIMIT}
use Rattle.rule_base.specs.declared.entries.Cell.{Cell}
use Rattle.rule_base.specs.declared.entries.Entry.{Entry}
use Rattle.rule_base.specs.declared.views.Phase.TheVariants.{In}
use Rattle.rule_base.specs.declared.views.View.{View}
use Rattle.rule_base.specs.Encodings.{fence_of, fenced, free_record}
use Rattle.rule_base.specs.Fence.{without_fence, owes}
use Rattle.rule_base.specs.FenceLaws.{entry-apart}
use Rattle.rule_base.specs.GateSteps.{granted_at}
use Rattle.rule_base.specs.History.{touches, word_now}
use Rattle.rule_base.specs.Lemmas.HistoryLemmas.{touches-without}
use Rattle.rule_base.specs.Ranks.{home_of}
use Rattle.rule_base.specs.Regime.{Regime}
use Rattle.rule_base.specs.Regime.Regime.{Running}
use Rattle.rule_base.specs.Lemmas.RegimeLemmas.{regime-inside}
use Rattle.rule_base.specs.RunProjection.{run_projection}
use Rattle.rule_base.specs.StepKinds.{view_after}
use Rattle.rule_base.specs.World.{World, put}
use Rattle.rule_seq.specs.CglSteps.{fresh_lock, cgl_entry}
use Rattle.rule_seq.specs.TmlRule.{tml_part, TmlRule}
use Rattle.rule_orec.specs.OrecOwning.{holding, entered_at}
use Rattle.rule_orec.specs.OrecSteps.{orec_begin, CanOrecBegin, orec_sample, CanOrecSample, orec_load, CanOrecLoad, orec_confirm, CanOrecConfirm, orec_clock, CanOrecClock, orec_clock_all, passes, orec_pass, CanOrecPass, orec_last, CanOrecLast, HasOrec, orec_look, orec_limit, orec_lock, CanOrecLock, orec_entry, orec_commit, CanOrecCommit, orec_write_back, CanOrecWriteBack, orec_release, CanOrecTime, CanOrecOld, CanOrecUp, orec_own_load, CanOrecOwnLoad, orec_save, CanOrecSave, orec_place, CanOrecPlace, orec_restore, CanOrecRestore, orec_raise_clock, CanOrecRaiseClock, direct_attempt, direct_owned, orec_grant, CanOrecGrant, orec_grant_all, CanOrecGrantAll}
use Rattle.rule_promoted.specs.PromotedSteps.{tml_grants, tml_grant, CanTmlGrant, ring_look_grant, CanRingGrant, ring_move_grant, CanRingMoveGrant, direct_load, CanDirectLoad, direct_store, CanDirectStore, direct_commit, CanDirectCommit, direct_release, CanDirectRelease}
use Rattle.rule_promoted.specs.RaisingSteps.{direct_raise_clock, CanDirectRaiseClock, direct_up, CanDirectUp}
use Rattle.rule_ring.specs.RingRule.{ring_part, RingRule}
use Rattle.rule_ring.specs.RingSteps.{RunsRing, no_turn, ring_begin, CanRingBegin, ring_load, CanRingLoad, read_in, ring_look, CanRingLook, ring_word, CanRingWord, ring_again, CanRingAgain, moved, ring_move, CanRingMove, ring_lock, CanRingLock, HasTurn, ring_tick, ring_slot, CanRingSlot, ring_entry, ring_enter, CanRingEnter, ring_write, CanRingWrite, ring_done, CanRingDone, ring_free, CanRingFree}
use Rattle.rule_ring.specs.SlotFilter.{slot_filter}
use Rattle.stm_rule.specs.Kinds.Lifting.{IsSpared, AreSpared, Spares, spared-load, spared-store, spared-heap, spared-entry}
use Rattle.stm_rule.specs.Product.{Runs, Invariant}
use Rattle.stm_rule.proofs.KindLaws.Sparing.{spared}

module _ (good : (ℕ → ℕ) → Type 0) (c : Config) (n : ℕ) where
  ring-rule : (w : World) → Invariant good c w → RunsRing (w.views n) → RingRule slot_filter c.ring c.words (ring_part (run_projection (without_fence w)))
  ring-rule w g runs = subst (λ (q : Regime). Runs c q (run_projection (without_fence w))) (regime-inside c (without_fence w) n g.core.gate g.core.install runs.phase runs.plain ∙ ap Running runs.algorithm) g.core.running

  pub ring_begins : (w : World) → Invariant good c w → CanRingBegin (w.views n) → Spares ring_begin n w
  ring_begins w g may = record { world = refl; fence = refl; heap = λ b e. refl; word = λ b e. refl; own = refl; apart = λ a p o. grind (arith, g.fence.apart n a p, o) }

  pub ring_loads : (a : ℕ) → (w : World) → Invariant good c w → CanRingLoad c.words a (w.views n) × IsSpared a (w.views n) → Spares (ring_load a) n w
  ring_loads a w g may =
      let out = spared good c n w a g may.0.has.runs.phase may.1 in
      record {
        world = spared-load w n a (view_after (ring_load a) w (w.views n)) out;
        fence = refl;
        heap = λ b e. refl;
        word = λ b e. refl;
        own = refl;
        apart = λ b p o. g.fence.apart n b p o;
      }

  pub ring_looks : (w : World) → Invariant good c w → CanRingLook (w.views n) → Spares ring_look n w
  ring_looks w g may = record { world = refl; fence = refl; heap = λ b e. refl; word = λ b e. refl; own = refl; apart = λ a p o. go w g (w.clock == (w.views n).attempt.start) a p o }
    where
      go : (w : World) → Invariant good c w → (b : Bool) (a : ℕ) → (w.views n).gate.phase ≡ In
          → owes
          (record (w.views n) { attempt = if b then record (w.views n).attempt { reads = read_in (w.views n) } else (w.views n).attempt }) a
          ≡ true → fenced (fence_of w.gate) a ≡ false
      go w g true a p o = g.fence.apart n a p o
      go w g false a p o = g.fence.apart n a p o

  pub ring_words : (e i : ℕ) → (w : World) → Invariant good c w → CanRingWord c.ring e i (w.views n) → Spares (ring_word c.ring e i) n w
  ring_words e i w g may = record { world = refl; fence = refl; heap = λ b e. refl; word = λ b e. refl; own = refl; apart = λ a p o. g.fence.apart n a p o }

  pub ring_agains : (w : World) → Invariant good c w → CanRingAgain (w.views n) → Spares (ring_again c.ring) n w
  ring_agains w g may = record { world = refl; fence = refl; heap = λ b e. refl; word = λ b e. refl; own = refl; apart = λ a p o. g.fence.apart n a p o }

  pub ring_moves : (w : World) → Invariant good c w → CanRingMove slot_filter (w.views n) → Spares ring_move n w
  ring_moves w g may = record { world = refl; fence = refl; heap = λ b e. refl; word = λ b e. refl; own = refl; apart = λ a p o. g.fence.apart n a p o }

  pub ring_locks : (w : World) → Invariant good c w → CanRingLock (w.views n) → Spares (ring_lock n) n w
  ring_locks w g may = record { world = refl; fence = refl; heap = λ b e. refl; word = λ b e. refl; own = refl; apart = λ a p o. go (w.lock == 0) a p o }
    where
      rule : RingRule slot_filter c.ring c.words (ring_part (run_projection (without_fence w)))
      rule = ring-rule w g may.has.runs

      none : (w.views n).attempt.stores ≡ []
      none = (rule.reader n may.has.inside).unstored

      go : (b : Bool) (a : ℕ) → (w.views n).gate.phase ≡ In
          → owes (record (w.views n)
          { lock = if b then fresh_lock RingSw else (w.views n).lock; ring_commit = if b then no_turn else (w.views n).ring_commit }) a
          ≡ true → fenced (fence_of w.gate) a ≡ false
      go true a p o = grind (arith, g.fence.apart n a p, o, ap (λ (l : List Cell). touches l a) none)
      go false a p o = g.fence.apart n a p o

  pub ring_ticks : (w : World) → Invariant good c w → HasTurn (w.views n) → Spares ring_tick n w
  ring_ticks w g may = record { world = refl; fence = refl; heap = λ b e. refl; word = λ b e. refl; own = refl; apart = λ a p o. g.fence.apart n a p o }

  pub ring_slots : (e i : ℕ) (ws : List Cell) → (w : World) → Invariant good c w → CanRingSlot e i ws (w.views n) → Spares (ring_slot slot_filter c.ring e i ws) n w
  ring_slots e i ws w g may = record { world = refl; fence = refl; heap = λ b e. refl; word = λ b e. refl; own = refl; apart = λ a p o. g.fence.apart n a p o }

  pub ring_enters : (t : ℕ) → (w : World) → Invariant good c w → CanRingEnter good c.words t (w.views n) × AreSpared (w.views n).ring_commit.writes (w.views n) → Spares (ring_enter n t) n w
  ring_enters t w g may =
      record {
        world = spared-entry w n t (ring_entry n t (w.views n)) (view_after (ring_enter n t) w (w.views n) t) wrote;
        fence = refl;
        heap = λ b e. refl;
        word = λ b e. entry-apart (fence_of w.gate) w.history (ring_entry n t (w.views n)) wrote b e;
        own = refl;
        apart = λ a p o. grind (arith, g.fence.apart n a p, o, wrote a);
      }
    where
      wrote : (a : ℕ) → touches (w.views n).ring_commit.writes a ≡ true → fenced (fence_of w.gate) a ≡ false
      wrote a e = spared good c n w a g may.0.turn.has.runs.phase (may.1 a e)

  pub ring_writes : (a x : ℕ) → (w : World) → Invariant good c w → CanRingWrite a x (w.views n) → Spares (ring_write a x) n w
  ring_writes a x w g may =
      let out = g.fence.apart n a may.entered.runs.phase (grind (arith, may.owed, may.entered.committed)) in
      record {
        world = spared-store w n a x (view_after (ring_write a x) w (w.views n) x) out;
        fence = refl;
        heap = λ b e. spared-heap (fence_of w.gate) a x w.heap out b e;
        word = λ b e. refl;
        own = refl;
        apart = λ b p o. grind (arith, g.fence.apart n b p, o, touches-without (w.views n).ring_commit.back a b);
      }

  pub ring_dones : (t : ℕ) → (w : World) → Invariant good c w → CanRingDone t (w.views n) → Spares (ring_done t) n w
  ring_dones t w g may = record { world = refl; fence = refl; heap = λ b e. refl; word = λ b e. refl; own = refl; apart = λ a p o. g.fence.apart n a p o }

  pub ring_frees : (w : World) → Invariant good c w → CanRingFree (w.views n) → Spares ring_free n w
  ring_frees w g may = record { world = refl; fence = refl; heap = λ b e. refl; word = λ b e. refl; own = refl; apart = λ a p o. grind (arith, g.fence.apart n a p, o) }

  pub orec_begins : (w : World) → Invariant good c w → CanOrecBegin (w.views n) → Spares orec_begin n w
  orec_begins w g may = record { world = refl; fence = refl; heap = λ b e. refl; word = λ b e. refl; own = refl; apart = λ a p o. grind (arith, g.fence.apart n a p, o) }

  pub orec_samples : (r a : ℕ) → (w : World) → Invariant good c w → CanOrecSample (home_of c) r a (w.views n) → Spares (orec_sample r a) n w
  orec_samples r a w g may = record { world = refl; fence = refl; heap = λ b e. refl; word = λ b e. refl; own = refl; apart = λ a p o. g.fence.apart n a p o }

  pub orec_loads : (a : ℕ) → (w : World) → Invariant good c w → CanOrecLoad a (w.views n) × IsSpared a (w.views n) → Spares (orec_load a) n w
  orec_loads a w g may =
      let out = spared good c n w a g may.0.has.runs.phase may.1 in
      record {
        world = spared-load w n a (view_after (orec_load a) w (w.views n)) out;
        fence = refl;
        heap = λ b e. refl;
        word = λ b e. refl;
        own = refl;
        apart = λ b p o. g.fence.apart n b p o;
      }

  pub orec_confirms : (r : ℕ) → (w : World) → Invariant good c w → CanOrecConfirm (home_of c) c.words r (w.views n) → Spares (orec_confirm r) n w
  orec_confirms r w g may = record { world = refl; fence = refl; heap = λ b e. refl; word = λ b e. refl; own = refl; apart = λ a p o. g.fence.apart n a p o }

  pub orec_clocks : (todo : List Cell) → (w : World) → Invariant good c w → CanOrecClock (home_of c) todo (w.views n) → Spares (orec_clock todo) n w
  orec_clocks todo w g may = record { world = refl; fence = refl; heap = λ b e. refl; word = λ b e. refl; own = refl; apart = λ a p o. g.fence.apart n a p o }

  pub orec_clocks_all : (w : World) → Invariant good c w → CanOrecClock (home_of c) [] (w.views n) → Spares orec_clock_all n w
  orec_clocks_all w g may = record { world = refl; fence = refl; heap = λ b e. refl; word = λ b e. refl; own = refl; apart = λ a p o. g.fence.apart n a p o }

  pub orec_passes : (r b : ℕ) → (w : World) → Invariant good c w → CanOrecPass (home_of c) r b (w.views n) → Spares (orec_pass r b) n w
  orec_passes r b w g may = record { world = refl; fence = refl; heap = λ b e. refl; word = λ b e. refl; own = refl; apart = λ a p o. g.fence.apart n a p o }

  pub orec_lasts : (r b : ℕ) → (w : World) → Invariant good c w → CanOrecLast (home_of c) r b (w.views n) → Spares (orec_last r b) n w
  orec_lasts r b w g may = record { world = refl; fence = refl; heap = λ b e. refl; word = λ b e. refl; own = refl; apart = λ a p o. go w g (passes (w.records r) (w.views n)) a p o }
    where
      go : (w : World) → Invariant good c w → (k : Bool) (a : ℕ) → (w.views n).gate.phase ≡ In
          → owes (record (w.views n)
          { attempt = if k then record (w.views n).attempt { start = (w.views n).check.upto } else (w.views n).attempt }) a ≡ true
          → fenced (fence_of w.gate) a ≡ false
      go w g true a p o = g.fence.apart n a p o
      go w g false a p o = g.fence.apart n a p o

  pub orec_looks : (r : ℕ) → (w : World) → Invariant good c w → HasOrec (w.views n) → Spares (orec_look r) n w
  orec_looks r w g may = record { world = refl; fence = refl; heap = λ b e. refl; word = λ b e. refl; own = refl; apart = λ a p o. g.fence.apart n a p o }

  pub orec_limits : (w : World) → Invariant good c w → HasOrec (w.views n) → Spares orec_limit n w
  orec_limits w g may = record { world = refl; fence = refl; heap = λ b e. refl; word = λ b e. refl; own = refl; apart = λ a p o. g.fence.apart n a p o }

  pub orec_locks : (r version : ℕ) → (w : World) → Invariant good c w → CanOrecLock version (w.views n) → Spares (orec_lock n r version) n w
  orec_locks r version w g may = record { world = refl; fence = refl; heap = λ b e. refl; word = λ b e. refl; own = refl; apart = λ a p o. go w g (w.records r == free_record version) a p o }
    where
      go : (w : World) → Invariant good c w → (k : Bool) (a : ℕ) → (w.views n).gate.phase ≡ In
          → owes (record (w.views n) { owned = if k then holding r version (w.views n).owned else (w.views n).owned }) a ≡ true
          → fenced (fence_of w.gate) a ≡ false
      go w g true a p o = g.fence.apart n a p o
      go w g false a p o = g.fence.apart n a p o

  pub orec_commits : (start : ℕ) (writes back : List Cell) → (w : World) → Invariant good c w
      → CanOrecCommit (home_of c) good c.words start writes back (w.views n) × AreSpared writes (w.views n)
      → Spares (orec_commit n start writes back) n w
  orec_commits start writes back w g may = record { world = same (w.clock == start); fence = refl; heap = λ b e. refl; word = word (w.clock == start); own = refl; apart = λ a p o. go (w.clock == start) a p o }
    where
      entry : Entry
      entry = orec_entry n (start + 1) writes (w.views n)

      wrote : (a : ℕ) → touches writes a ≡ true → fenced (fence_of w.gate) a ≡ false
      wrote a e = spared good c n w a g may.0.has.runs.phase (may.1 a e)

      next : Bool → View
      next b = record (view_after (orec_commit n start writes back) w (w.views n) w.clock) {
        history = if b then record (w.views n).history { made = entry ∷ (w.views n).history.made; seen = entry ∷ w.history; front = start + 1 } else (w.views n).history;
        steps =
            record (if b then record (w.views n).steps { rises = (w.views n).steps.rises + 1 } else (w.views n).steps)
            { step_trace = (view_after (orec_commit n start writes back) w (w.views n) w.clock).steps.step_trace };
        owned = if b then entered_at (start + 1) back (w.views n).owned else (w.views n).owned;
      }

      same : (b : Bool)
          → record (without_fence w) {
            clock = if b then start + 1 else w.clock;
            history = if b then entry ∷ w.history else w.history;
            views = put w.views n (view_after (orec_commit n start writes back) w (w.views n) w.clock);
          }
          ≡ without_fence (record w {
            clock = if b then start + 1 else w.clock;
            history = if b then entry ∷ w.history else w.history;
            views = put w.views n (view_after (orec_commit n start writes back) w (w.views n) w.clock);
          })
      same true = spared-entry w n (start + 1) entry (view_after (orec_commit n start writes back) w (w.views n) w.clock) wrote
      same false = refl

      word : (b : Bool) (a : ℕ) → fenced (fence_of w.gate) a ≡ true → word_now (if b then entry ∷ w.history else w.history) a ≡ word_now w.history a
      word true a e = entry-apart (fence_of w.gate) w.history entry wrote a e
      word false a e = refl

      go : (k : Bool) (a : ℕ) → (w.views n).gate.phase ≡ In
          → owes (record (w.views n) { owned = if k then entered_at (start + 1) back (w.views n).owned else (w.views n).owned }) a ≡ true
          → fenced (fence_of w.gate) a ≡ false
      go true a p o = grind (arith, g.fence.apart n a p, o, may.0.ready.backed a, wrote a)
      go false a p o = g.fence.apart n a p o

  pub orec_writes_back : (a x : ℕ) → (w : World) → Invariant good c w → CanOrecWriteBack a x (w.views n) → Spares (orec_write_back a x) n w
  orec_writes_back a x w g may =
      let out = g.fence.apart n a may.has.runs.phase (grind (arith, may.owed, may.has.inside)) in
      record {
        world = spared-store w n a x (view_after (orec_write_back a x) w (w.views n) x) out;
        fence = refl;
        heap = λ b e. spared-heap (fence_of w.gate) a x w.heap out b e;
        word = λ b e. refl;
        own = refl;
        apart = λ b p o. grind (arith, g.fence.apart n b p, o, touches-without (w.views n).owned.back a b);
      }

  pub orec_times : (r version : ℕ) → (w : World) → Invariant good c w → CanOrecTime (home_of c) r version (w.views n) → Spares (orec_release r version) n w
  orec_times r version w g may = record { world = refl; fence = refl; heap = λ b e. refl; word = λ b e. refl; own = refl; apart = λ a p o. g.fence.apart n a p o }

  pub orec_olds : (r version : ℕ) → (w : World) → Invariant good c w → CanOrecOld (home_of c) r version (w.views n) → Spares (orec_release r version) n w
  orec_olds r version w g may = record { world = refl; fence = refl; heap = λ b e. refl; word = λ b e. refl; own = refl; apart = λ a p o. g.fence.apart n a p o }

  pub orec_ups : (r version : ℕ) → (w : World) → Invariant good c w → CanOrecUp (home_of c) r version (w.views n) → Spares (orec_release r version) n w
  orec_ups r version w g may = record { world = refl; fence = refl; heap = λ b e. refl; word = λ b e. refl; own = refl; apart = λ a p o. g.fence.apart n a p o }

  pub orec_own_loads : (a : ℕ) → (w : World) → Invariant good c w → CanOrecOwnLoad (home_of c) c.words a (w.views n) × IsSpared a (w.views n) → Spares (orec_own_load a) n w
  orec_own_loads a w g may =
      let out = spared good c n w a g may.0.opens.has.runs.phase may.1 in
      record {
        world = spared-load w n a (view_after (orec_own_load a) w (w.views n)) out;
        fence = refl;
        heap = λ b e. refl;
        word = λ b e. refl;
        own = refl;
        apart = λ b p o. g.fence.apart n b p o;
      }

  pub orec_saves : (a : ℕ) → (w : World) → Invariant good c w → CanOrecSave (home_of c) a (w.views n) × IsSpared a (w.views n) → Spares (orec_save a) n w
  orec_saves a w g may =
      let out = spared good c n w a g may.0.opens.has.runs.phase may.1 in
      record {
        world = spared-load w n a (view_after (orec_save a) w (w.views n)) out;
        fence = refl;
        heap = λ b e. refl;
        word = λ b e. refl;
        own = refl;
        apart = λ b p o. grind (arith, g.fence.apart n b p, o, out);
      }

  pub orec_places : (a x : ℕ) → (w : World) → Invariant good c w → CanOrecPlace a (w.views n) → Spares (orec_place a x) n w
  orec_places a x w g may =
      let out = g.fence.apart n a may.opens.has.runs.phase (grind (arith, may.undoable, may.opens.has.inside)) in
      record {
        world = spared-store w n a x (view_after (orec_place a x) w (w.views n) x) out;
        fence = refl;
        heap = λ b e. spared-heap (fence_of w.gate) a x w.heap out b e;
        word = λ b e. refl;
        own = refl;
        apart = λ b p o. grind (arith, g.fence.apart n b p, o, out);
      }

  pub orec_restores : (a x : ℕ) → (w : World) → Invariant good c w → CanOrecRestore a x (w.views n) → Spares (orec_restore a x) n w
  orec_restores a x w g may =
      let out = g.fence.apart n a may.has.runs.phase (grind (arith, may.logged, may.has.inside)) in
      record {
        world = spared-store w n a x (view_after (orec_restore a x) w (w.views n) x) out;
        fence = refl;
        heap = λ b e. spared-heap (fence_of w.gate) a x w.heap out b e;
        word = λ b e. refl;
        own = refl;
        apart = λ b p o.
            grind (arith, g.fence.apart n b p, o, touches-without (w.views n).owned.in_place a b, touches-without (w.views n).owned.undo a b);
      }

  pub orec_raises_clock : (least : ℕ) → (w : World) → Invariant good c w → CanOrecRaiseClock least (w.views n) → Spares (orec_raise_clock least) n w
  orec_raises_clock least w g may = record { world = refl; fence = refl; heap = λ b e. refl; word = λ b e. refl; own = refl; apart = λ a p o. grind (arith, g.fence.apart n a p, o) }

  pub grants : (w : World) → Invariant good c w → CanTmlGrant c.callers n (w.views n) → Spares tml_grant n w
  grants w g may = record { world = refl; fence = refl; heap = λ b e. refl; word = λ b e. refl; own = refl; apart = λ a p o. go (tml_grants w.clock (w.views n)) a p o }
    where
      rule : TmlRule c.words (tml_part (run_projection (without_fence w)))
      rule =
          subst (λ (q : Regime). Runs c q (run_projection (without_fence w)))
          (regime-inside c (without_fence w) n g.core.gate g.core.install may.has.runs.phase may.has.runs.plain
          ∙ ap Running may.has.runs.algorithm) g.core.running

      none : (w.views n).attempt.stores ≡ []
      none = (rule.reader n may.has.inside).unstored may.reads

      go : (b : Bool) (a : ℕ) → (if b then granted_at w.clock (w.views n).gate else (w.views n).gate).phase ≡ In
          → owes (record (w.views n) { gate = if b then granted_at w.clock (w.views n).gate else (w.views n).gate }) a ≡ true
          → fenced (fence_of w.gate) a ≡ false
      go true a p o = grind (arith, g.fence.apart n a p, o, ap (λ (l : List Cell). touches l a) none)
      go false a p o = g.fence.apart n a p o

  pub look_grants : (w : World) → Invariant good c w → CanRingGrant (w.views n) → Spares ring_look_grant n w
  look_grants w g may = record { world = refl; fence = refl; heap = λ b e. refl; word = λ b e. refl; own = refl; apart = λ a p o. go (w.clock == (w.views n).attempt.start) a p o }
    where
      none : (w.views n).attempt.stores ≡ []
      none = ((ring-rule w g may.has.runs).reader n may.has.inside).unstored

      go : (b : Bool) (a : ℕ) → (if b then granted_at w.clock (w.views n).gate else (w.views n).gate).phase ≡ In
          → owes (record (w.views n) {
            gate = if b then granted_at w.clock (w.views n).gate else (w.views n).gate;
            attempt = if b then record (w.views n).attempt { reads = read_in (w.views n) } else (w.views n).attempt;
          }) a ≡ true
          → fenced (fence_of w.gate) a ≡ false
      go true a p o = grind (arith, g.fence.apart n a p, o, ap (λ (l : List Cell). touches l a) none)
      go false a p o = g.fence.apart n a p o

  pub move_grants : (w : World) → Invariant good c w → CanRingMoveGrant slot_filter (w.views n) → Spares ring_move_grant n w
  move_grants w g may = record { world = refl; fence = refl; heap = λ b e. refl; word = λ b e. refl; own = refl; apart = λ a p o. go (moved (w.views n) w.done == (w.views n).gate.time) a p o }
    where
      none : (w.views n).attempt.stores ≡ []
      none = ((ring-rule w g may.grant.has.runs).reader n may.grant.has.inside).unstored

      go : (b : Bool) (a : ℕ) → (if b then granted_at (w.views n).gate.time (w.views n).gate else (w.views n).gate).phase ≡ In
          → owes (record (w.views n) { gate = if b then granted_at (w.views n).gate.time (w.views n).gate else (w.views n).gate }) a ≡ true
          → fenced (fence_of w.gate) a ≡ false
      go true a p o = grind (arith, g.fence.apart n a p, o, ap (λ (l : List Cell). touches l a) none)
      go false a p o = g.fence.apart n a p o

  pub orec_grants : (r b : ℕ) → (w : World) → Invariant good c w → CanOrecGrant (home_of c) c.words r b (w.views n) → Spares (orec_grant r b) n w
  orec_grants r b w g may = record { world = refl; fence = refl; heap = λ b e. refl; word = λ b e. refl; own = refl; apart = λ a p o. go (passes (w.records r) (w.views n)) a p o }
    where
      go : (b : Bool) (a : ℕ) → (if b then granted_at (w.views n).gate.time (w.views n).gate else (w.views n).gate).phase ≡ In
          → owes (record (w.views n) {
            attempt = if b then direct_attempt (w.views n).gate.time (w.views n) else (w.views n).attempt;
            owned = if b then direct_owned (w.views n).owned else (w.views n).owned;
            gate = if b then granted_at (w.views n).gate.time (w.views n).gate else (w.views n).gate;
          }) a ≡ true
          → fenced (fence_of w.gate) a ≡ false
      go true a p o = grind (arith, g.fence.apart n a p, o, may.last.opens.has.inside, may.stores.unlocked)
      go false a p o = g.fence.apart n a p o

  pub orec_grants_all : (w : World) → Invariant good c w → CanOrecGrantAll (home_of c) c.words c.callers n (w.views n) → Spares orec_grant_all n w
  orec_grants_all w g may = record { world = refl; fence = refl; heap = λ b e. refl; word = λ b e. refl; own = refl; apart = λ a p o. go (ltb w.clock CLOCK_LIMIT) a p o }
    where
      go : (b : Bool) (a : ℕ) → (if b then granted_at w.clock (w.views n).gate else (w.views n).gate).phase ≡ In
          → owes (record (w.views n) {
            attempt = if b then direct_attempt w.clock (w.views n) else (w.views n).attempt;
            owned = if b then direct_owned (w.views n).owned else (w.views n).owned;
            gate = if b then granted_at w.clock (w.views n).gate else (w.views n).gate;
          }) a ≡ true → fenced (fence_of w.gate) a ≡ false
      go true a p o = grind (arith, g.fence.apart n a p, o, may.all.opens.has.inside, may.stores.unlocked)
      go false a p o = g.fence.apart n a p o

  pub direct_releases : (r t : ℕ) → (w : World) → Invariant good c w → CanDirectRelease r t (w.views n) → Spares (direct_release r t) n w
  direct_releases r t w g may = record { world = refl; fence = refl; heap = λ b e. refl; word = λ b e. refl; own = refl; apart = λ a p o. g.fence.apart n a p o }

  pub granted-in : (w : World) → Invariant good c w → (w.views n).gate.granted ≡ true → (w.views n).gate.phase ≡ In
  granted-in w g e = (g.core.install.promoted n e).1

  pub direct_loads : (a : ℕ) → (w : World) → Invariant good c w → CanDirectLoad c.words a (w.views n) × IsSpared a (w.views n) → Spares (direct_load a) n w
  direct_loads a w g may =
      let out = spared good c n w a g (granted-in w g may.0.granted) may.1 in
      record {
        world = spared-load w n a (view_after (direct_load a) w (w.views n)) out;
        fence = refl;
        heap = λ b e. refl;
        word = λ b e. refl;
        own = refl;
        apart = λ b p o. g.fence.apart n b p o;
      }

  pub direct_stores : (a x : ℕ) → (w : World) → Invariant good c w → CanDirectStore c.words a x (w.views n) × IsSpared a (w.views n) → Spares (direct_store a x) n w
  direct_stores a x w g may =
      let out = spared good c n w a g (granted-in w g may.0.granted) may.1 in
      record {
        world = spared-store w n a x (view_after (direct_store a x) w (w.views n) x) out;
        fence = refl;
        heap = λ b e. spared-heap (fence_of w.gate) a x w.heap out b e;
        word = λ b e. refl;
        own = refl;
        apart = λ b p o. grind (arith, g.fence.apart n b p, o, out);
      }

  pub direct_commits : (alg : Alg) (t : ℕ) → (w : World) → Invariant good c w → CanDirectCommit good alg t (w.views n) → Spares (direct_commit n alg t) n w
  direct_commits alg t w g may =
      record {
        world = spared-entry w n t (cgl_entry n t (w.views n)) (view_after (direct_commit n alg t) w (w.views n) t) wrote;
        fence = refl;
        heap = λ b e. refl;
        word = λ b e. entry-apart (fence_of w.gate) w.history (cgl_entry n t (w.views n)) wrote b e;
        own = refl;
        apart = λ a p o. grind (arith, g.fence.apart n a p, o);
      }
    where
      wrote : (a : ℕ) → touches (w.views n).attempt.stores a ≡ true → fenced (fence_of w.gate) a ≡ false
      wrote a e = g.fence.apart n a may.phase (grind (arith, e, may.granted))

  pub direct_raises_clock : (least : ℕ) → (w : World) → Invariant good c w → CanDirectRaiseClock least (w.views n) → Spares (direct_raise_clock least) n w
  direct_raises_clock least w g may = record { world = refl; fence = refl; heap = λ b e. refl; word = λ b e. refl; own = refl; apart = λ a p o. grind (arith, g.fence.apart n a p, o) }

  pub direct_ups : (r version : ℕ) → (w : World) → Invariant good c w → CanDirectUp r version (w.views n) → Spares (direct_up r version) n w
  direct_ups r version w g may = record { world = refl; fence = refl; heap = λ b e. refl; word = λ b e. refl; own = refl; apart = λ a p o. g.fence.apart n a p o }
