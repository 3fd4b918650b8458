-- Each kind of step by which RingSW reads keeps the rule.
use Rattle.std.proofs.Common.{◌≡◌, ℕ, zero, suc, ◌+◌, ◌-◌, ◌<◌, ◌≤◌, [], ◌∷◌, Bool, true, false, arith, refl, sym, subst, ap, ◌∙◌, le_refl, le_trans}
use Rattle.std.specs.Prelude.{if◌then◌else◌, ◌==◌, not}
use Rattle.std.proofs.lemmas.Bool.{eqb-true}
use Rattle.std.proofs.lemmas.Bool.Decides.{nat_tests}
use Rattle.stm_model.specs.declared.config.Config.{Config}
use Rattle.rule_base.specs.declared.views.View.{View}
use Rattle.rule_base.specs.History.{over, touches, word_at, Inside, Explains}
use Rattle.rule_base.specs.Lemmas.HistoryLemmas.{over-miss, word_at-all, word_now-upto, below-upto, legal-upto, inside-more}
use Rattle.rule_base.specs.Lemmas.HistoryRuleLemmas.{advances-same, history-kept, history-upto}
use Rattle.rule_base.specs.Lemmas.RecordLemmas.{records-stay}
use Rattle.rule_base.specs.StepKinds.{view_after, world_after, Nothing, StepLaw}
use Rattle.rule_base.specs.Lemmas.StepsLemmas.{steps-kept}
use Rattle.rule_base.specs.World.{World, put}
use Rattle.rule_ring.specs.Filters.{Filters}
use Rattle.rule_ring.specs.Slots.{slot_place, writes_of, has_entry, untouched, clear}
use Rattle.rule_ring.specs.RingRule.{RingPart, ring_view, ring_projection, late, RingReader, RingTurn, RingRule, RingWorld}
use Rattle.rule_ring.specs.RingLemmas.{ring_projection-put, ring-own}
use Rattle.rule_ring.specs.RingSteps.{ring_begin, CanRingBegin, RingBegins, time_by, ring_load, CanRingLoad, read_in, passed, ring_look, CanRingLook, RingSees, RingLooks, ring_word, CanRingWord, ring_again, CanRingAgain, moved, ring_move, AllClear, CanRingMove, RingMoves}
use Rattle.rule_seq.specs.AttemptLemmas.{attempts-in}
use Rattle.rule_seq.specs.LockRule.{LockRule, lock_projection}
use Rattle.rule_seq.specs.LockLemmas.{one-taker, lock_projection-kept}

-- who isn't late shares that with who has the same turn
pub not_late : (v : RingPart) → v.turn.committed ≡ false → late v ≡ false
not_late v e = ap (λ (b : Bool). if b then not v.turn.finished else false) e

module _ (F : Filters) (good : (ℕ → ℕ) → Type 0) (c : Config) (n : ℕ) where
  abbrev Ruled : World → Type 0
  Ruled w = RingWorld F good c w

  -- who doesn't have the lock isn't late
  pub unlate : (w : World) → RingRule F c.ring c.words (ring_projection w) → (w.views n).lock.taken ≡ false → late (ring_view (w.views n)) ≡ false
  unlate w r free = go (w.views n).ring_commit.committed refl
    where
      go : (b : Bool) → (w.views n).ring_commit.committed ≡ b → late (ring_view (w.views n)) ≡ false
      go true e = absurd (let f : true ≡ false = sym (r.locked n e) ∙ free in cc)
      go false e = not_late (ring_view (w.views n)) e

  -- only who has the lock could be late
  pub unlate-but : (w : World) → Ruled w → (w.views n).lock.taken ≡ true → (w.views n).ring_commit.committed ≡ false → (j : ℕ) → late (ring_view (w.views j)) ≡ false
  unlate-but w r taken early j = go (w.views j).ring_commit.committed refl
    where
      go : (b : Bool) → (w.views j).ring_commit.committed ≡ b → late (ring_view (w.views j)) ≡ false
      go true e = absurd (let p : j ≡ n = one-taker (lock_projection w) j n r.lock (r.runs.locked j e) taken in let f : true ≡ false = sym (subst (λ (i : ℕ). (w.views i).ring_commit.committed ≡ true) p e) ∙ early in cc)
      go false e = not_late (ring_view (w.views j)) e

  begins_at : (w : World) (t : ℕ) → Ruled w → (w.views n).history.front ≤ t → t ≤ w.clock → RingBegins good c w (w.views n) t
  begins_at w t r up low = record {
    legal = legal-upto good c w.history (w.clock + 1) t r.history.below r.history.legal;
    below = below-upto w.history (w.clock + 1) t r.history.below;
    seen = (r.history.known n).seen;
    front = up;
    limit = le_trans low r.history.limit;
  }

  pub ring_begins : StepLaw (RingWorld F good c) ring_begin (RingBegins good c) n CanRingBegin
  ring_begins w r may = record {
    rule = record {
      history = history-upto good c w x n w.done v refl refl refl refl up r.runs.done r.history;
      steps = steps-kept c ring_begin n w refl refl refl r.steps;
      records = records-stay w x n v refl (le_refl w.clock) refl refl refl r.records;
      lock = subst LockRule (sym (lock_projection-kept w x n v refl refl refl refl)) r.lock;
      attempts = attempts-in w x n v refl may.runs.phase r.attempts;
      runs = subst (RingRule F c.ring c.words) (sym (ring_projection-put w x n v refl)) (ring-own F c.ring c.words n (ring_projection w) (ring_view v) refl refl refl refl (λ e. le_refl w.done)
          (λ t. record {
            start = le_refl w.done;
            vouched = r.runs.since;
            front = refl;
            sees = λ a. refl;
            reads_inside = λ a e. absurd cc;
            unstored = refl;
            watched = λ a e. absurd cc;
            aim = λ l. absurd cc;
            from = λ l. absurd cc;
            after = λ l. absurd cc;
            before = λ l. absurd cc;
            found = λ l. absurd cc;
            looked = λ k. absurd cc;
            onward = λ k. absurd cc;
            covers = λ k. absurd cc;
            timely = λ e i k. absurd cc;
            clear = λ e i k. absurd cc;
            sure = λ e i k. absurd cc;
          })
          (r.runs.turn n) r.runs);
    };
    advances = advances-same w x refl (le_refl w.clock) (le_refl w.done) refl;
    shown = begins_at w w.done r up r.runs.done;
  }
    where
      x : World
      x = world_after ring_begin n w

      v : View
      v = view_after ring_begin w (w.views n) w.done

      up : (w.views n).history.front ≤ w.done
      up = r.runs.fresh n (unlate w r.runs may.unlocked)

  -- what a load finds is the memory at its time
  between : (w : World) (a k : ℕ) → w.done ≤ w.clock → (w.done ≤ time_by w a k) × (time_by w a k ≤ w.clock)
  between w a zero low = (low, le_refl w.clock)
  between w a (suc m) low = go (touches (w.views m).ring_commit.back a)
    where
      go : (b : Bool) → (w.done ≤ (if b then w.done else w.clock)) × ((if b then w.done else w.clock) ≤ w.clock)
      go true = (le_refl w.done, low)
      go false = (low, le_refl w.clock)

  found_at : (w : World) (a k : ℕ) → Ruled w → w.lock ≡ k → w.heap a ≡ word_at w.history (time_by w a k) a
  found_at w a zero r e = r.runs.free e a ∙ sym (word_at-all w.history (w.clock + 1) w.clock a r.history.below (le_refl (w.clock + 1)))
  found_at w a (suc m) r e = go (touches (w.views m).ring_commit.back a) refl
    where
      k : RingTurn F c.ring w.clock w.done w.slots w.heap w.history (w.views m).ring_commit
      k = r.runs.turn m (r.lock.owner m (omega arith))

      go : (b : Bool) → touches (w.views m).ring_commit.back a ≡ b → w.heap a ≡ word_at w.history (if b then w.done else w.clock) a
      go true t = k.behind a t
      go false t = k.clean a t ∙ sym (word_at-all w.history (w.clock + 1) w.clock a r.history.below (le_refl (w.clock + 1)))

  pub ring_loads : (a : ℕ) → StepLaw (RingWorld F good c) (ring_load a) Nothing n (CanRingLoad c.words a)
  ring_loads a w r may = record {
    rule = record {
      history = history-kept good c w x n v refl refl refl refl r.history;
      steps = steps-kept c (ring_load a) n w refl refl refl r.steps;
      records = records-stay w x n v refl (le_refl w.clock) refl refl refl r.records;
      lock = subst LockRule (sym (lock_projection-kept w x n v refl refl refl refl)) r.lock;
      attempts = attempts-in w x n v refl may.has.runs.phase r.attempts;
      runs = subst (RingRule F c.ring c.words) (sym (ring_projection-put w x n v refl)) (ring-own F c.ring c.words n (ring_projection w) (ring_view v) refl refl refl refl (r.runs.fresh n)
          (λ t. record {
            start = k.start;
            vouched = k.vouched;
            front = k.front;
            sees = k.sees;
            reads_inside = k.reads_inside;
            unstored = k.unstored;
            watched = λ b e. grind (arith, k.watched b e);
            aim = λ l. grind arith;
            from = λ l. may.inside;
            after = λ l. le_trans k.start (between w a w.lock r.runs.done).0;
            before = λ l. (between w a w.lock r.runs.done).1;
            found = λ l. found_at w a w.lock r refl;
            looked = λ e. absurd cc;
            onward = λ e. absurd cc;
            covers = λ e. absurd cc;
            timely = λ e i q. absurd cc;
            clear = λ e i q. absurd cc;
            sure = λ e i q. absurd cc;
          })
          (r.runs.turn n) r.runs);
    };
    advances = advances-same w x refl (le_refl w.clock) (le_refl w.done) refl;
    shown = tt;
  }
    where
      x : World
      x = world_after (ring_load a) n w

      v : View
      v = view_after (ring_load a) w (w.views n) (w.heap a)

      k : RingReader F c.ring c.words w.clock w.done w.base w.history (ring_view (w.views n))
      k = r.runs.reader n may.has.inside

  -- the word under way joins the reads of a memory that has it
  read_sees : (w : World) (v : View) (m : ℕ → ℕ) → (v.ring_read.loaded ≡ true → v.ring_read.value ≡ m v.ring_read.from) → Explains m v.attempt.reads → Explains m (read_in v)
  read_sees w v m value sees = go v.ring_read.loaded refl
    where
      go : (b : Bool) → v.ring_read.loaded ≡ b → Explains m (if b then record { at = v.ring_read.from; value = v.ring_read.value } ∷ v.attempt.reads else v.attempt.reads)
      go true l = λ a. grind (arith, value l, sees a)
      go false l = sees

  read_inside : (v : View) → (v.ring_read.loaded ≡ true → v.ring_read.from < c.words) → Inside c.words v.attempt.reads → Inside c.words (read_in v)
  read_inside v from inside = go v.ring_read.loaded refl
    where
      go : (b : Bool) → v.ring_read.loaded ≡ b → Inside c.words (if b then record { at = v.ring_read.from; value = v.ring_read.value } ∷ v.attempt.reads else v.attempt.reads)
      go true l = inside-more c.words (record { at = v.ring_read.from; value = v.ring_read.value }) v.attempt.reads (from l) inside
      go false l = inside

  read_watched : (v : View) → (v.ring_read.loaded ≡ true → touches v.ring_read.watched v.ring_read.from ≡ true)
      → ((a : ℕ) → touches v.attempt.reads a ≡ true → touches v.ring_read.watched a ≡ true) → (a : ℕ) → touches (read_in v) a ≡ true
      → touches v.ring_read.watched a ≡ true
  read_watched v aim watched = go v.ring_read.loaded refl
    where
      go : (b : Bool) → v.ring_read.loaded ≡ b → (a : ℕ)
          → touches (if b then record { at = v.ring_read.from; value = v.ring_read.value } ∷ v.attempt.reads else v.attempt.reads) a ≡ true
          → touches v.ring_read.watched a ≡ true
      go true l a t = grind (arith, aim l, watched a, t)
      go false l a t = watched a t

  -- a check that passed, with what is watched the same at all times from the start to t and to that of the word under
  -- way
  ended : (w : World) (t : ℕ) (u : RingPart) → (w.views n).ring_read.inside ≡ true → Ruled w → t ≤ w.done → (w.views n).attempt.start ≤ t
      → ((a : ℕ) → touches (w.views n).ring_read.watched a ≡ true → word_at w.history t a ≡ word_at w.history (w.views n).attempt.start a)
      → ((w.views n).ring_read.loaded ≡ true → word_at w.history (w.views n).ring_read.at (w.views n).ring_read.from ≡ word_at w.history (w.views n).attempt.start (w.views n).ring_read.from)
      → u
      ≡ record {
        attempt =
            record { start = t; reads = read_in (w.views n); stores = (w.views n).attempt.stores; entered = (w.views n).attempt.entered };
        lock = (w.views n).lock;
        read = passed (w.views n).ring_read;
        turn = (w.views n).ring_commit;
        front = t;
      }
      → RingReader F c.ring c.words w.clock w.done w.base w.history u
  ended w t u inside r low up same under is = subst (λ (q : RingPart). RingReader F c.ring c.words w.clock w.done w.base w.history q) (sym is) (record {
    start = low;
    vouched = λ e l m. k.vouched e (omega arith) m;
    front = refl;
    sees = read_sees w (w.views n) (word_at w.history t) (λ l. k.found l ∙ under l ∙ sym (same (w.views n).ring_read.from (k.aim l))) sees;
    reads_inside = read_inside (w.views n) k.from k.reads_inside;
    unstored = k.unstored;
    watched = read_watched (w.views n) k.aim k.watched;
    aim = λ l. absurd cc;
    from = λ l. absurd cc;
    after = λ l. absurd cc;
    before = λ l. absurd cc;
    found = λ l. absurd cc;
    looked = λ e. absurd cc;
    onward = λ e. absurd cc;
    covers = λ e. absurd cc;
    timely = λ e i q. absurd cc;
    clear = λ e i q. absurd cc;
    sure = λ e i q. absurd cc;
  })
    where
      k : RingReader F c.ring c.words w.clock w.done w.base w.history (ring_view (w.views n))
      k = r.runs.reader n inside

      sees : Explains (word_at w.history t) (w.views n).attempt.reads
      sees a = go (touches (w.views n).attempt.reads a) refl
        where
          go : (b : Bool) → touches (w.views n).attempt.reads a ≡ b → over (w.views n).attempt.reads a (word_at w.history t a) ≡ word_at w.history t a
          go true e = subst (λ (x : ℕ). over (w.views n).attempt.reads a x ≡ x) (sym (same a (k.watched a e))) (k.sees a)
          go false e = over-miss (w.views n).attempt.reads a (word_at w.history t a) e

  -- and what it shows
  sees_by : (w : World) (t : ℕ) → (w.views n).ring_read.inside ≡ true → Ruled w → t ≤ w.clock → (w.views n).attempt.start ≤ t
      → ((w.views n).ring_read.loaded ≡ true → (w.views n).ring_read.value ≡ word_at w.history t (w.views n).ring_read.from) → Explains (word_at w.history t) (read_in (w.views n)) → RingSees good c w (w.views n) t
  sees_by w t inside r low up value sees = record {
    value = λ l. value l ∙ sym (word_now-upto w.history t (w.views n).ring_read.from);
    sees = λ a. subst (λ (k : ℕ). over (read_in (w.views n)) a k ≡ k) (sym (word_now-upto w.history t a)) (sees a);
    begins = begins_at w t r (subst (λ (k : ℕ). k ≤ t) (sym (r.runs.reader n inside).front) up) low;
  }

  pub ring_looks : StepLaw (RingWorld F good c) ring_look (RingLooks good c) n CanRingLook
  ring_looks w r may = record {
    rule = record {
      history = history-kept good c w x n v refl refl refl refl r.history;
      steps = steps-kept c ring_look n w refl refl refl r.steps;
      records = records-stay w x n v refl (le_refl w.clock) refl refl refl r.records;
      lock = subst LockRule (sym (lock_projection-kept w x n v refl refl refl refl)) r.lock;
      attempts = attempts-in w x n v refl may.has.runs.phase r.attempts;
      runs = subst (RingRule F c.ring c.words) (sym (ring_projection-put w x n v refl)) (go (w.clock == (w.views n).attempt.start) (λ e. eqb-true w.clock (w.views n).attempt.start e));
    };
    advances = advances-same w x refl (le_refl w.clock) (le_refl w.done) refl;
    shown = record {
      passes = λ e. let q = pass e in sees_by w (w.views n).attempt.start may.has.inside r (le_trans k.start r.runs.done) (le_refl (w.views n).attempt.start)
          (λ l. k.found l ∙ under e l) q.sees;
      later = le_trans k.start r.runs.done;
    };
  }
    where
      x : World
      x = world_after ring_look n w

      v : View
      v = view_after ring_look w (w.views n) w.clock

      k : RingReader F c.ring c.words w.clock w.done w.base w.history (ring_view (w.views n))
      k = r.runs.reader n may.has.inside

      part : Bool → RingPart
      part b = record {
        attempt = if b then record (w.views n).attempt { reads = read_in (w.views n) } else (w.views n).attempt;
        lock = (w.views n).lock;
        read = if b then passed (w.views n).ring_read else record (w.views n).ring_read { checking = true; clock = w.clock; words = []; sure = false };
        turn = (w.views n).ring_commit;
        front = (w.views n).history.front;
      }

      -- with the clock at the start, the word under way is that at the start
      under : w.clock ≡ (w.views n).attempt.start → (w.views n).ring_read.loaded ≡ true
          → word_at w.history (w.views n).ring_read.at (w.views n).ring_read.from
          ≡ word_at w.history (w.views n).attempt.start (w.views n).ring_read.from
      under e l = ap (λ (s : ℕ). word_at w.history s (w.views n).ring_read.from) (let a = k.after l in let b = k.before l in let o : (w.views n).ring_read.at ≡ (w.views n).attempt.start = omega arith in o)

      pass : w.clock ≡ (w.views n).attempt.start → RingReader F c.ring c.words w.clock w.done w.base w.history (part true)
      pass e = ended w (w.views n).attempt.start (part true) may.has.inside r k.start (le_refl (w.views n).attempt.start) (λ a t. refl) (under e)
          (λ i. record { attempt = record (w.views n).attempt { reads = read_in (w.views n) }; lock = (w.views n).lock; read = passed (w.views n).ring_read; turn = (w.views n).ring_commit; front = k.front i })

      looking : RingReader F c.ring c.words w.clock w.done w.base w.history (part false)
      looking = record {
        start = k.start;
        vouched = k.vouched;
        front = k.front;
        sees = k.sees;
        reads_inside = k.reads_inside;
        unstored = k.unstored;
        watched = k.watched;
        aim = k.aim;
        from = k.from;
        after = k.after;
        before = k.before;
        found = k.found;
        looked = λ e. le_refl w.clock;
        onward = λ e. le_trans k.start r.runs.done;
        covers = λ e l. k.before l;
        timely = λ e i q h. absurd cc;
        clear = λ e i q near l h. absurd cc;
        sure = λ e i q s. absurd cc;
      }

      go : (b : Bool) → (b ≡ true → w.clock ≡ (w.views n).attempt.start) → RingRule F c.ring c.words (record (ring_projection w) { views = put (ring_projection w).views n (part b) })
      go true e = ring-own F c.ring c.words n (ring_projection w) (part true) refl refl refl refl (r.runs.fresh n) (λ t. pass (e refl)) (r.runs.turn n) r.runs
      go false e = ring-own F c.ring c.words n (ring_projection w) (part false) refl refl refl refl (r.runs.fresh n) (λ t. looking) (r.runs.turn n) r.runs

  pub ring_words : (e i : ℕ) → StepLaw (RingWorld F good c) (ring_word c.ring e i) Nothing n (CanRingWord c.ring e i)
  ring_words e i w r may = record {
    rule = record {
      history = history-kept good c w x n v refl refl refl refl r.history;
      steps = steps-kept c (ring_word c.ring e i) n w refl refl refl r.steps;
      records = records-stay w x n v refl (le_refl w.clock) refl refl refl r.records;
      lock = subst LockRule (sym (lock_projection-kept w x n v refl refl refl refl)) r.lock;
      attempts = attempts-in w x n v refl may.has.runs.phase r.attempts;
      runs = subst (RingRule F c.ring c.words) (sym (ring_projection-put w x n v refl)) (ring-own F c.ring c.words n (ring_projection w) (ring_view v) refl refl refl refl (r.runs.fresh n)
          (λ t. record {
            start = k.start;
            vouched = k.vouched;
            front = k.front;
            sees = k.sees;
            reads_inside = k.reads_inside;
            unstored = k.unstored;
            watched = k.watched;
            aim = k.aim;
            from = k.from;
            after = k.after;
            before = k.before;
            found = k.found;
            looked = k.looked;
            onward = k.onward;
            covers = k.covers;
            timely = λ f j q h. grind (arith, k.timely f j q, h, may.upto);
            clear = λ f j q near l h m. grind (arith, k.clear f j q near l, h, m, here f j near l m);
            sure = λ f j q s. absurd (let o : true ≡ false = sym s ∙ may.unsure in cc);
          })
          (r.runs.turn n) r.runs);
    };
    advances = advances-same w x refl (le_refl w.clock) (le_refl w.done) refl;
    shown = tt;
  }
    where
      x : World
      x = world_after (ring_word c.ring e i) n w

      v : View
      v = view_after (ring_word c.ring e i) w (w.views n) (w.slots (slot_place c.ring e i))

      k : RingReader F c.ring c.words w.clock w.done w.base w.history (ring_view (w.views n))
      k = r.runs.reader n may.has.inside

      here : (f j : ℕ) → w.clock < (w.views n).attempt.start + c.ring → (w.views n).attempt.start < f → has_entry w.history f ≡ true → e ≡ f → i ≡ j → w.slots (slot_place c.ring e i) ≡ F.word (writes_of w.history f) j
      here f j near l m p q =
          let m2 : has_entry w.history e ≡ true = subst (λ (t : ℕ). has_entry w.history t ≡ true) (sym p) m in
          r.runs.slots e i (k.vouched e may.since m2) (let s = may.since in omega arith) m2 may.index ∙ (ap (λ (t : ℕ). F.word (writes_of w.history t) i) p ∙ ap (λ (t : ℕ). F.word (writes_of w.history f) t) q)

  pub ring_agains : StepLaw (RingWorld F good c) (ring_again c.ring) Nothing n CanRingAgain
  ring_agains w r may = record {
    rule = record {
      history = history-kept good c w x n v refl refl refl refl r.history;
      steps = steps-kept c (ring_again c.ring) n w refl refl refl r.steps;
      records = records-stay w x n v refl (le_refl w.clock) refl refl refl r.records;
      lock = subst LockRule (sym (lock_projection-kept w x n v refl refl refl refl)) r.lock;
      attempts = attempts-in w x n v refl may.has.runs.phase r.attempts;
      runs = subst (RingRule F c.ring c.words) (sym (ring_projection-put w x n v refl)) (ring-own F c.ring c.words n (ring_projection w) (ring_view v) refl refl refl refl (r.runs.fresh n)
          (λ t. record {
            start = k.start;
            vouched = k.vouched;
            front = k.front;
            sees = k.sees;
            reads_inside = k.reads_inside;
            unstored = k.unstored;
            watched = k.watched;
            aim = k.aim;
            from = k.from;
            after = k.after;
            before = k.before;
            found = k.found;
            looked = k.looked;
            onward = k.onward;
            covers = k.covers;
            timely = k.timely;
            clear = k.clear;
            sure = λ e i q s. k.clear e i q (let low : w.clock < (w.views n).attempt.start + c.ring = grind (arith, nat_tests, s) in low);
          })
          (r.runs.turn n) r.runs);
    };
    advances = advances-same w x refl (le_refl w.clock) (le_refl w.done) refl;
    shown = tt;
  }
    where
      x : World
      x = world_after (ring_again c.ring) n w

      v : View
      v = view_after (ring_again c.ring) w (w.views n) w.clock

      k : RingReader F c.ring c.words w.clock w.done w.base w.history (ring_view (w.views n))
      k = r.runs.reader n may.has.inside

  -- what is watched is the same at all times from the start to the clock loaded
  still : (w : World) → Ruled w → (w.views n).ring_read.inside ≡ true → (w.views n).ring_read.checking ≡ true → (w.views n).ring_read.sure ≡ true → AllClear F (w.views n)
      → (t a : ℕ) → (w.views n).attempt.start ≤ t → t ≤ (w.views n).ring_read.clock → touches (w.views n).ring_read.watched a ≡ true → word_at w.history t a ≡ word_at w.history (w.views n).attempt.start a
  still w r inside checking sure all t a low up watched =
      let sum : t ≡ (w.views n).attempt.start + (t - (w.views n).attempt.start) = omega arith in
      ap (λ (s : ℕ). word_at w.history s a) sum ∙ clear F w.history (w.clock + 1) (w.views n).attempt.start a r.history.below (t - (w.views n).attempt.start)
      (λ e l m. untouched F w.history e a (w.views n).ring_read.watched (λ h. all e l (omega arith) (F.word (writes_of w.history e)) (λ i low has. k.sure e i checking sure l has h)) watched)
    where
      k : RingReader F c.ring c.words w.clock w.done w.base w.history (ring_view (w.views n))
      k = r.runs.reader n inside

  -- the new start lies between the old one and both numbers loaded
  moved-between : (v : View) (done : ℕ) → v.attempt.start ≤ done → v.attempt.start ≤ v.ring_read.clock → (v.attempt.start ≤ moved v done) × ((moved v done ≤ done) × (moved v done ≤ v.ring_read.clock))
  moved-between v done p q = (grind (arith, nat_tests, p, q), (grind (arith, nat_tests, p, q), grind (arith, nat_tests, p, q)))

  pub ring_moves : StepLaw (RingWorld F good c) ring_move (RingMoves good c) n (CanRingMove F)
  ring_moves w r may = record {
    rule = record {
      history = history-upto good c w x n t v refl refl refl refl (subst (λ (s : ℕ). s ≤ t) (sym k.front) m.0) (le_trans m.1.0 r.runs.done) r.history;
      steps = steps-kept c ring_move n w refl refl refl r.steps;
      records = records-stay w x n v refl (le_refl w.clock) refl refl refl r.records;
      lock = subst LockRule (sym (lock_projection-kept w x n v refl refl refl refl)) r.lock;
      attempts = attempts-in w x n v refl may.has.runs.phase r.attempts;
      runs =
          subst (RingRule F c.ring c.words) (sym (ring_projection-put w x n v refl))
          (ring-own F c.ring c.words n (ring_projection w) (ring_view v) refl refl refl refl (λ e. m.1.0) (λ e. reads) (r.runs.turn n)
          r.runs);
    };
    advances = advances-same w x refl (le_refl w.clock) (le_refl w.done) refl;
    shown = record {
      sees = sees_by w t may.has.inside r (le_trans m.1.0 r.runs.done) m.0
          (λ l. k.found l ∙ (under l ∙ sym (same (w.views n).ring_read.from (k.aim l)))) reads.sees;
      level = λ taken early ticked settled. r.runs.level (λ j. unlate-but w r taken early j) settled ∙ sym ((r.runs.turn n taken).tick ticked);
    };
  }
    where
      t : ℕ
      t = moved (w.views n) w.done

      x : World
      x = world_after ring_move n w

      v : View
      v = view_after ring_move w (w.views n) w.done

      k : RingReader F c.ring c.words w.clock w.done w.base w.history (ring_view (w.views n))
      k = r.runs.reader n may.has.inside

      m : ((w.views n).attempt.start ≤ t) × ((t ≤ w.done) × (t ≤ (w.views n).ring_read.clock))
      m = moved-between (w.views n) w.done k.start (k.onward may.checking)

      same : (a : ℕ) → touches (w.views n).ring_read.watched a ≡ true → word_at w.history t a ≡ word_at w.history (w.views n).attempt.start a
      same a e = still w r may.has.inside may.checking may.sure may.clear t a m.0 m.1.1 e

      under : (w.views n).ring_read.loaded ≡ true → word_at w.history (w.views n).ring_read.at (w.views n).ring_read.from ≡ word_at w.history (w.views n).attempt.start (w.views n).ring_read.from
      under l = still w r may.has.inside may.checking may.sure may.clear (w.views n).ring_read.at (w.views n).ring_read.from (k.after l) (k.covers may.checking l) (k.aim l)

      reads : RingReader F c.ring c.words w.clock w.done w.base w.history (ring_view v)
      reads = ended w t (ring_view v) may.has.inside r m.1.0 m.0 same under refl
