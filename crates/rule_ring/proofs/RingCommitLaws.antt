-- Each kind of step by which RingSW commits keeps the rule.
use Rattle.std.proofs.Common.{◌≡◌, ℕ, ◌+◌, ◌<◌, ◌≤◌, List, ◌∷◌, Bool, true, false, eqb, arith, refl, sym, subst, ap, ◌∙◌, le_refl, le_trans}
use Rattle.std.specs.Prelude.{if◌then◌else◌, ◌==◌, not, length}
use Rattle.std.proofs.lemmas.Bool.{eqb-true, eqb-false}
use Rattle.rule_base.specs.declared.entries.Cell.{Cell}
use Rattle.rule_base.specs.declared.entries.Entry.{Entry}
use Rattle.stm_model.specs.declared.config.Config.{Config}
use Rattle.rule_base.specs.declared.layout.TheConstants.{SLOT_WORDS}
use Rattle.rule_base.specs.declared.views.View.{View}
use Rattle.rule_base.specs.History.{over, touches, without, word_now, Explains, Below, upto, Follows}
use Rattle.rule_base.specs.Lemmas.HistoryLemmas.{over-miss, over-hit, touches-without, over-without, word_at-all, upto-all, below-more, legal-good, legal-small}
use Rattle.rule_base.specs.Lemmas.HistoryRuleLemmas.{advances-same, advances-entry, history-kept, history-entry}
use Rattle.rule_base.specs.Lemmas.PutLemmas.{put-all, put-here, put-else}
use Rattle.rule_base.specs.Lemmas.RecordLemmas.{records-stay}
use Rattle.rule_base.specs.StepKinds.{view_after, world_after, Nothing, StepLaw}
use Rattle.rule_base.specs.Lemmas.StepsLemmas.{steps-kept, steps-raised}
use Rattle.rule_base.specs.World.{World, put}
use Rattle.rule_ring.specs.Filters.{Filters}
use Rattle.rule_ring.specs.Slots.{slot_place, slot_place-apart, slots-apart, writes_of, has_entry, entry-before, word_at-later}
use Rattle.rule_ring.specs.RingRule.{RingPart, ring_view, ring_projection, late, RingReader, RingTurn, RingRule, RingWorld}
use Rattle.rule_ring.specs.RingLemmas.{ring_projection-put, ring_projection-kept, ring-own, late-before, entered-before, reader-done, reader-entry}
use Rattle.rule_ring.specs.RingReadLaws.{not_late, unlate, unlate-but}
use Rattle.rule_ring.specs.RingSteps.{no_turn, ring_lock, CanRingLock, ring_tick, HasTurn, ring_slot, CanRingSlot, ring_entry, ring_enter, CanRingEnter, RingEnters, ring_write, CanRingWrite, ring_done, CanRingDone, ring_free, CanRingFree}
use Rattle.rule_seq.specs.AttemptLemmas.{attempts-in}
use Rattle.rule_seq.specs.LockRule.{LockRule, lock_projection}
use Rattle.rule_seq.specs.LockLemmas.{one-taker, lock_projection-put, lock_projection-kept}
use Rattle.rule_seq.specs.CglSteps.{fresh_lock}
use Rattle.stm_model.specs.declared.alg.Alg.TheVariants.{RingSw}

over_twice : (ws : List Cell) (a d : ℕ) → over ws a (over ws a d) ≡ over ws a d
over_twice ws a d = grind (arith, over-miss ws a d, over-hit ws a (over ws a d) d)

-- what is still to be written back without an address
kept_back : (cs : List Cell) (a b : ℕ) → touches (without cs a) b ≡ true → (touches cs b ≡ true) × (b ≡ a → ⊥)
kept_back cs a b t = (grind (arith, touches-without cs a b, t), λ e. grind (arith, touches-without cs a b, t, e))

no_more : (cs : List Cell) (a b : ℕ) → touches (without cs a) b ≡ false → (b ≡ a → ⊥) → touches cs b ≡ false
no_more cs a b t d = grind (arith, touches-without cs a b, t, d)

same_back : (cs : List Cell) (a b d : ℕ) → over cs b d ≡ d → over (without cs a) b d ≡ d
same_back cs a b d e = grind (arith, over-without cs a b d, e)

module _ (F : Filters) (good : (ℕ → ℕ) → Type 0) (c : Config) (n : ℕ) where
  -- the turn is made anew, and nobody else has the lock
  turns : (w : World) (u : RingPart) (clock done : ℕ) (slots heap : ℕ → ℕ) (history : List Entry) → LockRule (lock_projection w)
      → (w.views n).lock.taken ≡ true → (u.lock.taken ≡ true → RingTurn F c.ring clock done slots heap history u.turn)
      → (m : ℕ) → (put (ring_projection w).views n u m).lock.taken ≡ true → RingTurn F c.ring clock done slots heap history (put (ring_projection w).views n u m).turn
  turns w u clock done slots heap history l has mine =
      put-all (ring_projection w).views n u (λ m k. k.lock.taken ≡ true → RingTurn F c.ring clock done slots heap history k.turn) mine
      (λ m d t. absurd (d (one-taker (lock_projection w) m n l t has)))

  not_free : (w : World) → LockRule (lock_projection w) → (w.views n).lock.taken ≡ true → w.lock ≡ 0 → ⊥
  not_free w l t z = let e = l.mine n t in omega arith

  pub ring_locks : StepLaw (RingWorld F good c) (ring_lock n) Nothing n CanRingLock
  ring_locks w r may = record {
    rule = record {
      history = history-kept good c w x n v refl refl refl refl r.history;
      steps = steps-kept c (ring_lock n) n w refl refl refl r.steps;
      attempts = attempts-in w x n v refl may.has.runs.phase r.attempts;
      records = records-stay w x n v refl (le_refl w.clock) refl refl refl r.records;
      lock = (go (eqb w.lock 0) (λ e. eqb-true w.lock 0 e)).0;
      runs = (go (eqb w.lock 0) (λ e. eqb-true w.lock 0 e)).1;
    };
    advances = advances-same w x refl (le_refl w.clock) (le_refl w.done) refl;
    shown = tt;
  }
    where
      x : World
      x = world_after (ring_lock n) n w

      v : View
      v = view_after (ring_lock n) w (w.views n) w.lock

      next : Bool → View
      next b = record (view_after (ring_lock n) w (w.views n) w.lock) { lock = if b then fresh_lock RingSw else (w.views n).lock; ring_commit = if b then no_turn else (w.views n).ring_commit }

      at : Bool → World
      at b = record w { lock = if b then 1 + n else w.lock; views = put w.views n (next b) }

      k : RingReader F c.ring c.words w.clock w.done w.base w.history (ring_view (w.views n))
      k = r.runs.reader n may.has.inside

      free : late (ring_view (w.views n)) ≡ false
      free = unlate F good c n w r.runs may.free

      go : (b : Bool) → (b ≡ true → w.lock ≡ 0) → LockRule (lock_projection (at b)) × RingRule F c.ring c.words (ring_projection (at b))
      go true e = (
        subst LockRule (sym (lock_projection-put w (at true) n (next true) refl refl)) (record {
          mine = λ m q. grind (arith, q, r.lock.mine m, e refl);
          owner = λ m q. grind (arith, q);
          inside = λ m q. grind (arith, q, r.lock.inside m, may.has.runs.phase);
        }),
        subst (RingRule F c.ring c.words) (sym (ring_projection-put w (at true) n (next true) refl)) (record {
          base = r.runs.base;
          done = r.runs.done;
          since = r.runs.since;
          slots = r.runs.slots;
          free = λ z. absurd (omega arith);
          fresh = put-all (ring_projection w).views n (ring_view (next true)) (λ m q. late q ≡ false → q.front ≤ w.done) (λ l. r.runs.fresh n free) (λ m d. r.runs.fresh m);
          covered = λ l. r.runs.covered (late-before (ring_projection w).views n (ring_view (next true)) (λ q. free) l);
          level = λ l q. r.runs.level (late-before (ring_projection w).views n (ring_view (next true)) (λ q. free) l) (entered-before (ring_projection w).views n (ring_view (next true)) refl q);
          reader = put-all (ring_projection w).views n (ring_view (next true)) (λ m q. q.read.inside ≡ true → RingReader F c.ring c.words w.clock w.done w.base w.history q)
              (λ t.
              record {
                start = k.start;
                vouched = k.vouched;
                front = k.front;
                sees = k.sees;
                reads_inside = k.reads_inside;
                unstored = k.unstored;
                watched = k.watched;
                aim = k.aim;
                from = k.from;
                after = k.after;
                before = k.before;
                found = k.found;
                looked = k.looked;
                onward = k.onward;
                covers = k.covers;
                timely = k.timely;
                clear = k.clear;
                sure = k.sure;
              })
              (λ m d. r.runs.reader m);
          turn = put-all (ring_projection w).views n (ring_view (next true)) (λ m q. q.lock.taken ≡ true → RingTurn F c.ring w.clock w.done w.slots w.heap w.history q.turn)
              (λ t. record {
                tick = λ q. absurd cc;
                entered = λ q. absurd cc;
                slotted = λ q i l. absurd (omega arith);
                back = λ a q. absurd cc;
                clean = λ a q. r.runs.free (e refl) a;
                behind = λ a q. absurd cc;
                backs = λ a. refl;
              })
              (λ m d t. absurd (let p = r.lock.mine m t in let z = e refl in omega arith));
          locked = put-all (ring_projection w).views n (ring_view (next true)) (λ m q. q.turn.committed ≡ true → q.lock.taken ≡ true) (λ t. refl) (λ m d. r.runs.locked m);
        }),
      )
      go false e = (
        subst LockRule (sym (lock_projection-kept w (at false) n (next false) refl refl refl refl)) r.lock,
        subst (RingRule F c.ring c.words) (sym (ring_projection-kept w (at false) n (next false) refl refl refl refl refl refl refl refl refl)) r.runs,
      )

  pub ring_ticks : StepLaw (RingWorld F good c) ring_tick Nothing n HasTurn
  ring_ticks w r may = record {
    rule = record {
      history = history-kept good c w x n v refl refl refl refl r.history;
      steps = steps-kept c ring_tick n w refl refl refl r.steps;
      records = records-stay w x n v refl (le_refl w.clock) refl refl refl r.records;
      lock = subst LockRule (sym (lock_projection-kept w x n v refl refl refl refl)) r.lock;
      attempts = attempts-in w x n v refl may.has.runs.phase r.attempts;
      runs = subst (RingRule F c.ring c.words) (sym (ring_projection-put w x n v refl)) (ring-own F c.ring c.words n (ring_projection w) (ring_view v) refl refl refl refl (r.runs.fresh n)
          (λ t.
          record {
            start = k.start;
            vouched = k.vouched;
            front = k.front;
            sees = k.sees;
            reads_inside = k.reads_inside;
            unstored = k.unstored;
            watched = k.watched;
            aim = k.aim;
            from = k.from;
            after = k.after;
            before = k.before;
            found = k.found;
            looked = k.looked;
            onward = k.onward;
            covers = k.covers;
            timely = k.timely;
            clear = k.clear;
            sure = k.sure;
          })
          (λ t. record { tick = λ q. refl; entered = λ q. refl; slotted = o.slotted; back = o.back; clean = o.clean; behind = o.behind; backs = o.backs }) r.runs);
    };
    advances = advances-same w x refl (le_refl w.clock) (le_refl w.done) refl;
    shown = tt;
  }
    where
      x : World
      x = world_after ring_tick n w

      v : View
      v = view_after ring_tick w (w.views n) w.clock

      k : RingReader F c.ring c.words w.clock w.done w.base w.history (ring_view (w.views n))
      k = r.runs.reader n may.has.inside

      o : RingTurn F c.ring w.clock w.done w.slots w.heap w.history (w.views n).ring_commit
      o = r.runs.turn n may.taken

  pub ring_slots : (e i : ℕ) (ws : List Cell) → StepLaw (RingWorld F good c) (ring_slot F c.ring e i ws) Nothing n (CanRingSlot e i ws)
  ring_slots e i ws w r may = record {
    rule = record {
      history = history-kept good c w x n v refl refl refl refl r.history;
      steps = steps-kept c (ring_slot F c.ring e i ws) n w refl refl refl r.steps;
      records = records-stay w x n v refl (le_refl w.clock) refl refl refl r.records;
      lock = subst LockRule (sym (lock_projection-kept w x n v refl refl refl refl)) r.lock;
      attempts = attempts-in w x n v refl may.turn.has.runs.phase r.attempts;
      runs = subst (RingRule F c.ring c.words) (sym (ring_projection-put w x n v refl)) (record {
        base = r.runs.base;
        done = r.runs.done;
        since = r.runs.since;
        slots = λ f j b near m low. put-else w.slots (slot_place c.ring e i) (slot_place c.ring f j) (F.word ws i) (λ q. apart f j near m low q) ∙ r.runs.slots f j b near m low;
        free = r.runs.free;
        fresh = put-all (ring_projection w).views n (ring_view v) (λ m q. late q ≡ false → q.front ≤ w.done) (r.runs.fresh n) (λ m d. r.runs.fresh m);
        covered = λ l. r.runs.covered (late-before (ring_projection w).views n (ring_view v) (λ q. q) l);
        level = λ l q. r.runs.level (late-before (ring_projection w).views n (ring_view v) (λ q. q) l) (entered-before (ring_projection w).views n (ring_view v) refl q);
        reader = put-all (ring_projection w).views n (ring_view v) (λ m q. q.read.inside ≡ true → RingReader F c.ring c.words w.clock w.done w.base w.history q)
            (λ t.
            record {
              start = k.start;
              vouched = k.vouched;
              front = k.front;
              sees = k.sees;
              reads_inside = k.reads_inside;
              unstored = k.unstored;
              watched = k.watched;
              aim = k.aim;
              from = k.from;
              after = k.after;
              before = k.before;
              found = k.found;
              looked = k.looked;
              onward = k.onward;
              covers = k.covers;
              timely = k.timely;
              clear = k.clear;
              sure = k.sure;
            })
            (λ m d. r.runs.reader m);
        turn = turns w (ring_view v) w.clock w.done (put w.slots (slot_place c.ring e i) (F.word ws i)) w.heap w.history r.lock may.turn.taken
            (λ t. record { tick = o.tick; entered = o.entered; slotted = λ q j l. stored j l; back = o.back; clean = o.clean; behind = o.behind; backs = o.backs });
        locked = put-all (ring_projection w).views n (ring_view v) (λ m q. q.turn.committed ≡ true → q.lock.taken ≡ true) (r.runs.locked n) (λ m d. r.runs.locked m);
      });
    };
    advances = advances-same w x refl (le_refl w.clock) (le_refl w.done) refl;
    shown = tt;
  }
    where
      x : World
      x = world_after (ring_slot F c.ring e i ws) n w

      v : View
      v = view_after (ring_slot F c.ring e i ws) w (w.views n) (F.word ws i)

      k : RingReader F c.ring c.words w.clock w.done w.base w.history (ring_view (w.views n))
      k = r.runs.reader n may.turn.has.inside

      o : RingTurn F c.ring w.clock w.done w.slots w.heap w.history (w.views n).ring_commit
      o = r.runs.turn n may.turn.taken

      next : e ≡ w.clock + 1
      next = may.next ∙ ap (λ k. k + 1) (o.tick may.ticked)

      -- the slots of the entries are others
      apart : (f j : ℕ) → w.clock + 1 < f + c.ring → has_entry w.history f ≡ true → j < SLOT_WORDS → slot_place c.ring f j ≡ slot_place c.ring e i → ⊥
      apart f j near m low q =
          slots-apart c.ring f e (let l = entry-before w.history (w.clock + 1) f r.history.below m in let s = next in omega arith)
          (let s = next in omega arith) (slot_place-apart c.ring f e j i low may.low q).0

      -- the words stored so far are of one filter
      stored : (j : ℕ) → j < i + 1 → put w.slots (slot_place c.ring e i) (F.word ws i) (slot_place c.ring (w.clock + 1) j) ≡ F.word ws j
      stored j l = go (eqb j i) refl
        where
          at : slot_place c.ring (w.clock + 1) j ≡ slot_place c.ring e j
          at = ap (λ t. slot_place c.ring t j) (sym next)

          go : (b : Bool) → eqb j i ≡ b → put w.slots (slot_place c.ring e i) (F.word ws i) (slot_place c.ring (w.clock + 1) j) ≡ F.word ws j
          go true q =
              let same : j ≡ i = eqb-true j i q in
              ap (put w.slots (slot_place c.ring e i) (F.word ws i)) (at ∙ ap (slot_place c.ring e) same)
              ∙ (put-here w.slots (slot_place c.ring e i) (F.word ws i) ∙ ap (F.word ws) (sym same))
          go false q =
              let other : (j ≡ i → ⊥) = eqb-false j i q in
              let before : j < i = (let s = other in grind (arith, l, s)) in
              put-else w.slots (slot_place c.ring e i) (slot_place c.ring (w.clock + 1) j) (F.word ws i) (λ p. other (slot_place-apart c.ring e e j i (let m = may.low in omega arith) may.low (sym at ∙ p)).1)
              ∙ (o.slotted may.turn.unentered j (let m = may.index in omega arith) ∙ ap (λ (cs : List Cell). F.word cs j) (sym (may.same (omega arith))))

  pub ring_enters : (t : ℕ) → n < c.callers → StepLaw (RingWorld F good c) (ring_enter n t) (RingEnters good c n t) n (CanRingEnter good c.words t)
  ring_enters t low w r may = record {
    rule = record {
      history = history-entry good c w x n e v refl refl refl refl refl later may.limit follows r.history;
      steps = steps-raised c (ring_enter n t) n w 1 low next refl refl r.steps;
      lock = subst LockRule (sym (lock_projection-kept w x n v refl refl refl refl)) r.lock;
      attempts = attempts-in w x n v refl may.turn.has.runs.phase r.attempts;
      records = records-stay w x n v refl (let k = later in omega arith) refl refl refl r.records;
      runs = subst (RingRule F c.ring c.words) (sym (ring_projection-put w x n v refl)) (record {
        base = le_trans r.runs.base (let k = later in omega arith);
        done = le_trans r.runs.done (let k = later in omega arith);
        since = λ f l m. since f l m (t == f) refl;
        slots = λ f j b near m below. slots f j b near m below (t == f) refl;
        free = λ z. absurd (not_free w r.lock may.turn.taken z);
        fresh = put-all (ring_projection w).views n (ring_view v) (λ m q. late q ≡ false → q.front ≤ w.done) (λ l. absurd cc) (λ m d. r.runs.fresh m);
        covered = λ l. absurd (behind l);
        level = λ l q. absurd (behind l);
        reader = put-all (ring_projection w).views n (ring_view v) (λ m q. q.read.inside ≡ true → RingReader F c.ring c.words t w.done w.base (e ∷ w.history) q)
            (λ q. absurd cc)
            (λ m d q. reader-entry F c.ring c.words w.clock w.done w.base w.history e (ring_view (w.views m)) later r.runs.done r.runs.base (r.runs.reader m q));
        turn = turns w (ring_view v) t w.done w.slots w.heap (e ∷ w.history) r.lock may.turn.taken
            (λ q. record {
              tick = λ q. refl;
              entered = λ q. refl;
              slotted = λ q. absurd cc;
              back = λ a q. (refl, refl);
              clean = λ a q. now a ∙ sym (over-miss (w.views n).ring_commit.writes a (word_now w.history a) q);
              behind = λ a q. now a ∙ (sym (word_at-all w.history (w.done + 1) w.done a covered (le_refl (w.done + 1))) ∙ sym (word_at-later w.history e w.done a (let k = later in let d = r.runs.done in omega arith)));
              backs = λ a. over_twice (w.views n).ring_commit.writes a (word_now w.history a);
            });
        locked = put-all (ring_projection w).views n (ring_view v) (λ m q. q.turn.committed ≡ true → q.lock.taken ≡ true) (λ q. may.turn.taken) (λ m d. r.runs.locked m);
      });
    };
    advances = advances-entry w x e refl later (le_refl t) (le_refl w.done) refl;
    shown = record {
      legal = (follows, r.history.legal);
      below = (omega arith, below-more w.history (w.clock + 1) t r.history.below (let k = later in omega arith));
      seen = (r.history.known n).seen ∙ ap (upto w.history) (k.front ∙ start) ∙ upto-all w.history (w.clock + 1) w.clock r.history.below (le_refl (w.clock + 1));
    };
  }
    where
      x : World
      x = world_after (ring_enter n t) n w

      v : View
      v = view_after (ring_enter n t) w (w.views n) t

      e : Entry
      e = ring_entry n t (w.views n)

      k : RingReader F c.ring c.words w.clock w.done w.base w.history (ring_view (w.views n))
      k = r.runs.reader n may.turn.has.inside

      o : RingTurn F c.ring w.clock w.done w.slots w.heap w.history (w.views n).ring_commit
      o = r.runs.turn n may.turn.taken

      start : (w.views n).attempt.start ≡ w.clock
      start = may.checked ∙ o.tick may.ticked

      next : t ≡ w.clock + 1
      next = may.time ∙ ap (λ k. k + 1) (o.tick may.ticked)

      later : w.clock < t
      later = let k = next in omega arith

      -- nothing is still to be written back of an earlier entry
      covered : Below w.history (w.done + 1)
      covered = r.runs.covered (unlate-but F good c n w r may.turn.taken may.turn.unentered)

      now : (a : ℕ) → w.heap a ≡ word_now w.history a
      now a = o.clean a (go (touches (w.views n).ring_commit.back a) refl)
        where
          go : (b : Bool) → touches (w.views n).ring_commit.back a ≡ b → touches (w.views n).ring_commit.back a ≡ false
          go true q = absurd (let f : true ≡ false = sym (o.back a q).0 ∙ may.turn.unentered in cc)
          go false q = q

      behind : ((m : ℕ) → late (put (ring_projection w).views n (ring_view v) m) ≡ false) → ⊥
      behind l = let f : true ≡ false = sym (ap late (put-here (ring_projection w).views n (ring_view v))) ∙ l n in cc

      since : (f : ℕ) → w.done < f → has_entry (e ∷ w.history) f ≡ true → (b : Bool) → (t == f) ≡ b → w.base < f
      since f l m true q = let same : t ≡ f = eqb-true t f q in let u = r.runs.base in let a = later in omega arith
      since f l m false q = r.runs.since f l (sym (ap (λ (b : Bool). if b then true else has_entry w.history f) q) ∙ m)

      slots : (f j : ℕ) → w.base < f → t + 1 < f + c.ring → has_entry (e ∷ w.history) f ≡ true → j < SLOT_WORDS → (b : Bool) → (t == f) ≡ b → w.slots (slot_place c.ring f j) ≡ F.word (writes_of (e ∷ w.history) f) j
      slots f j b near m below true q =
          let same : w.clock + 1 ≡ f = (let s : t ≡ f = eqb-true t f q in sym next ∙ s) in
          ap (λ s. w.slots (slot_place c.ring s j)) (sym same)
          ∙ (o.slotted may.turn.unentered j (subst (λ (s : ℕ). j < s) (sym may.full) below)
          ∙ ap (λ (b : Bool). F.word (if b then (w.views n).ring_commit.writes else writes_of w.history f) j) (sym q))
      slots f j b near m below false q =
          r.runs.slots f j b (let s = next in omega arith) (sym (ap (λ (b : Bool). if b then true else has_entry w.history f) q) ∙ m) below
          ∙ ap (λ (b : Bool). F.word (if b then (w.views n).ring_commit.writes else writes_of w.history f) j) (sym q)

      sees : Explains (word_now w.history) (w.views n).attempt.reads
      sees a = subst (λ (k : ℕ). over (w.views n).attempt.reads a k ≡ k) (word_at-all w.history (w.clock + 1) (w.views n).attempt.start a r.history.below (let s = start in omega arith)) (k.sees a)

      follows : Follows good c (ring_entry n t (w.views n)) w.history
      follows = record {
        caller = low;
        number = ap length (r.history.known n).made;
        later = let k = next in let o = r.history.opened in omega arith;
        reads = sees;
        reads_inside = k.reads_inside;
        writes_inside = may.writes_inside;
        writes_small = may.writes_small;
        writes_some = may.wrote;
        leaves = may.keeps (word_now w.history) (legal-good good c w.history r.history.legal) sees (λ a. legal-small good c w.history a r.history.legal);
      }

  pub ring_writes : (a z : ℕ) → StepLaw (RingWorld F good c) (ring_write a z) Nothing n (CanRingWrite a z)
  ring_writes a z w r may = record {
    rule = record {
      history = history-kept good c w x n v refl refl refl refl r.history;
      steps = steps-kept c (ring_write a z) n w refl refl refl r.steps;
      records = records-stay w x n v refl (le_refl w.clock) refl refl refl r.records;
      lock = subst LockRule (sym (lock_projection-kept w x n v refl refl refl refl)) r.lock;
      attempts = attempts-in w x n v refl may.entered.runs.phase r.attempts;
      runs = subst (RingRule F c.ring c.words) (sym (ring_projection-put w x n v refl)) (record {
        base = r.runs.base;
        done = r.runs.done;
        since = r.runs.since;
        slots = r.runs.slots;
        free = λ e. absurd (not_free w r.lock taken e);
        fresh = put-all (ring_projection w).views n (ring_view v) (λ m q. late q ≡ false → q.front ≤ w.done) (r.runs.fresh n) (λ m d. r.runs.fresh m);
        covered = λ l. r.runs.covered (late-before (ring_projection w).views n (ring_view v) (λ q. q) l);
        level = λ l q. r.runs.level (late-before (ring_projection w).views n (ring_view v) (λ q. q) l) (entered-before (ring_projection w).views n (ring_view v) refl q);
        reader = put-all (ring_projection w).views n (ring_view v) (λ m q. q.read.inside ≡ true → RingReader F c.ring c.words w.clock w.done w.base w.history q)
            (λ t.
            let k = r.runs.reader n t in
            record {
              start = k.start;
              vouched = k.vouched;
              front = k.front;
              sees = k.sees;
              reads_inside = k.reads_inside;
              unstored = k.unstored;
              watched = k.watched;
              aim = k.aim;
              from = k.from;
              after = k.after;
              before = k.before;
              found = k.found;
              looked = k.looked;
              onward = k.onward;
              covers = k.covers;
              timely = k.timely;
              clear = k.clear;
              sure = k.sure;
            })
            (λ m d. r.runs.reader m);
        turn = turns w (ring_view v) w.clock w.done w.slots (put w.heap a z) w.history r.lock taken
            (λ t. record {
              tick = o.tick;
              entered = o.entered;
              slotted = o.slotted;
              back = λ b q. o.back b (kept_back (w.views n).ring_commit.back a b q).0;
              clean = λ b q. clean b q (eqb b a) refl;
              behind = λ b q. let k = kept_back (w.views n).ring_commit.back a b q in put-else w.heap a b z k.1 ∙ o.behind b k.0;
              backs = λ b. same_back (w.views n).ring_commit.back a b (word_now w.history b) (o.backs b);
            });
        locked = put-all (ring_projection w).views n (ring_view v) (λ m q. q.turn.committed ≡ true → q.lock.taken ≡ true) (r.runs.locked n) (λ m d. r.runs.locked m);
      });
    };
    advances = advances-same w x refl (le_refl w.clock) (le_refl w.done) refl;
    shown = tt;
  }
    where
      x : World
      x = world_after (ring_write a z) n w

      v : View
      v = view_after (ring_write a z) w (w.views n) z

      taken : (w.views n).lock.taken ≡ true
      taken = r.runs.locked n may.entered.committed

      o : RingTurn F c.ring w.clock w.done w.slots w.heap w.history (w.views n).ring_commit
      o = r.runs.turn n taken

      value : z ≡ word_now w.history a
      value = may.value ∙ (over-hit (w.views n).ring_commit.back a 0 (word_now w.history a) may.owed ∙ o.backs a)

      clean : (b : ℕ) → touches (without (w.views n).ring_commit.back a) b ≡ false → (t : Bool) → eqb b a ≡ t → put w.heap a z b ≡ word_now w.history b
      clean b q true e = let same : b ≡ a = eqb-true b a e in ap (put w.heap a z) same ∙ (put-here w.heap a z ∙ (value ∙ ap (word_now w.history) (sym same)))
      clean b q false e = let d : (b ≡ a → ⊥) = eqb-false b a e in put-else w.heap a b z d ∙ o.clean b (no_more (w.views n).ring_commit.back a b q d)

  pub ring_dones : (t : ℕ) → StepLaw (RingWorld F good c) (ring_done t) Nothing n (CanRingDone t)
  ring_dones t w r may = record {
    rule = record {
      history = history-kept good c w x n v refl refl refl refl r.history;
      steps = steps-kept c (ring_done t) n w refl refl refl r.steps;
      records = records-stay w x n v refl (le_refl w.clock) refl refl refl r.records;
      lock = subst LockRule (sym (lock_projection-kept w x n v refl refl refl refl)) r.lock;
      attempts = attempts-in w x n v refl may.entered.runs.phase r.attempts;
      runs = subst (RingRule F c.ring c.words) (sym (ring_projection-put w x n v refl)) (record {
        base = r.runs.base;
        done = low;
        since = λ f l m. absurd (let b = entry-before w.history (w.clock + 1) f r.history.below m in let k = now in omega arith);
        slots = r.runs.slots;
        free = r.runs.free;
        fresh =
            put-all (ring_projection w).views n (ring_view v) (λ m q. late q ≡ false → q.front ≤ t)
            (λ l. subst (λ (k : ℕ). (w.views n).history.front ≤ k) (sym now) (r.history.known n).front) (λ m d l.
            le_trans (r.runs.fresh m l) up);
        covered = λ l. subst (λ (k : ℕ). Below w.history (k + 1)) (sym now) r.history.below;
        level = λ l q. now;
        reader = put-all (ring_projection w).views n (ring_view v) (λ m q. q.read.inside ≡ true → RingReader F c.ring c.words w.clock t w.base w.history q)
            (λ e.
            let k = r.runs.reader n e in
            let d = reader-done F c.ring c.words w.clock w.done t w.base w.history (ring_view (w.views n)) up k in
            record {
              start = d.start;
              vouched = k.vouched;
              front = k.front;
              sees = k.sees;
              reads_inside = k.reads_inside;
              unstored = k.unstored;
              watched = k.watched;
              aim = k.aim;
              from = k.from;
              after = k.after;
              before = k.before;
              found = k.found;
              looked = k.looked;
              onward = k.onward;
              covers = k.covers;
              timely = k.timely;
              clear = k.clear;
              sure = k.sure;
            })
            (λ m d e. reader-done F c.ring c.words w.clock w.done t w.base w.history (ring_view (w.views m)) up (r.runs.reader m e));
        turn = turns w (ring_view v) w.clock t w.slots w.heap w.history r.lock taken
            (λ e. record {
              tick = o.tick;
              entered = o.entered;
              slotted = o.slotted;
              back = λ a q. absurd (let f : true ≡ false = sym q ∙ may.written a in cc);
              clean = o.clean;
              behind = λ a q. absurd (let f : true ≡ false = sym q ∙ may.written a in cc);
              backs = o.backs;
            });
        locked = put-all (ring_projection w).views n (ring_view v) (λ m q. q.turn.committed ≡ true → q.lock.taken ≡ true) (r.runs.locked n) (λ m d. r.runs.locked m);
      });
    };
    advances = advances-same w x refl (le_refl w.clock) up refl;
    shown = tt;
  }
    where
      x : World
      x = world_after (ring_done t) n w

      v : View
      v = view_after (ring_done t) w (w.views n) t

      taken : (w.views n).lock.taken ≡ true
      taken = r.runs.locked n may.entered.committed

      o : RingTurn F c.ring w.clock w.done w.slots w.heap w.history (w.views n).ring_commit
      o = r.runs.turn n taken

      now : t ≡ w.clock
      now = may.time ∙ o.tick (o.entered may.entered.committed)

      low : t ≤ w.clock
      low = let k = now in omega arith

      up : w.done ≤ t
      up = subst (λ (k : ℕ). w.done ≤ k) (sym now) r.runs.done

  pub ring_frees : StepLaw (RingWorld F good c) ring_free Nothing n CanRingFree
  ring_frees w r may = record {
    rule = record {
      history = history-kept good c w x n v refl refl refl refl r.history;
      steps = steps-kept c ring_free n w refl refl refl r.steps;
      records = records-stay w x n v refl (le_refl w.clock) refl refl refl r.records;
      lock = subst LockRule (sym (lock_projection-put w x n v refl refl)) (record {
        mine = λ m k. grind (arith, k, r.lock.mine m, r.lock.mine n may.taken);
        owner = λ m k. grind (arith, k);
        inside = λ m k. grind (arith, k, r.lock.inside m);
      });
      attempts = attempts-in w x n v refl may.runs.phase r.attempts;
      runs = subst (RingRule F c.ring c.words) (sym (ring_projection-put w x n v refl)) (record {
        base = r.runs.base;
        done = r.runs.done;
        since = r.runs.since;
        slots = r.runs.slots;
        free = λ z a. o.clean a (empty a (touches (w.views n).ring_commit.back a) refl);
        fresh = put-all (ring_projection w).views n (ring_view v) (λ m q. late q ≡ false → q.front ≤ w.done) (λ l. r.runs.fresh n (before (w.views n).ring_commit.committed refl)) (λ m d. r.runs.fresh m);
        covered = λ l. r.runs.covered (late-before (ring_projection w).views n (ring_view v) (λ q. before (w.views n).ring_commit.committed refl) l);
        level = λ l q. r.runs.level (late-before (ring_projection w).views n (ring_view v) (λ q. before (w.views n).ring_commit.committed refl) l) (entered-before (ring_projection w).views n (ring_view v) refl q);
        reader = put-all (ring_projection w).views n (ring_view v) (λ m q. q.read.inside ≡ true → RingReader F c.ring c.words w.clock w.done w.base w.history q)
            (λ t.
            let k = r.runs.reader n t in
            record {
              start = k.start;
              vouched = k.vouched;
              front = k.front;
              sees = k.sees;
              reads_inside = k.reads_inside;
              unstored = k.unstored;
              watched = k.watched;
              aim = k.aim;
              from = k.from;
              after = k.after;
              before = k.before;
              found = k.found;
              looked = k.looked;
              onward = k.onward;
              covers = k.covers;
              timely = k.timely;
              clear = k.clear;
              sure = k.sure;
            })
            (λ m d. r.runs.reader m);
        turn = turns w (ring_view v) w.clock w.done w.slots w.heap w.history r.lock may.taken (λ t. absurd cc);
        locked = put-all (ring_projection w).views n (ring_view v) (λ m q. q.turn.committed ≡ true → q.lock.taken ≡ true) (λ t. absurd cc) (λ m d. r.runs.locked m);
      });
    };
    advances = advances-same w x refl (le_refl w.clock) (le_refl w.done) refl;
    shown = tt;
  }
    where
      x : World
      x = world_after ring_free n w

      v : View
      v = view_after ring_free w (w.views n) 0

      o : RingTurn F c.ring w.clock w.done w.slots w.heap w.history (w.views n).ring_commit
      o = r.runs.turn n may.taken

      empty : (a : ℕ) (b : Bool) → touches (w.views n).ring_commit.back a ≡ b → touches (w.views n).ring_commit.back a ≡ false
      empty a true q = absurd (let p = o.back a q in let f : true ≡ false = sym (may.finished p.0) ∙ p.1 in cc)
      empty a false q = q

      before : (b : Bool) → (w.views n).ring_commit.committed ≡ b → late (ring_view (w.views n)) ≡ false
      before true q = ap (λ (b : Bool). if b then not (w.views n).ring_commit.finished else false) q ∙ ap not (may.finished q)
      before false q = not_late (ring_view (w.views n)) q
