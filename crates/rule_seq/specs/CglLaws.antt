-- Each kind of step of CGL keeps the rule.
use Rattle.std.proofs.Common.{◌≡◌, ℕ, ◌+◌, ◌<◌, List, ◌∷◌, Bool, true, false, eqb, arith, refl, sym, subst, ap, ◌∙◌, le_refl}
use Rattle.std.specs.Prelude.{if◌then◌else◌, ◌^◌, length, ltb}
use Rattle.std.proofs.lemmas.Bool.{eqb-true}
use Rattle.stm_model.specs.declared.alg.Alg.{Alg}
use Rattle.rule_base.specs.declared.entries.Cell.{Cell}
use Rattle.rule_base.specs.declared.entries.Entry.{Entry}
use Rattle.stm_model.specs.declared.config.Config.{Config}
use Rattle.stm_model.specs.declared.config.TheConstants.{CLOCK_LIMIT}
use Rattle.rule_base.specs.declared.views.Attempt.{Attempt}
use Rattle.rule_base.specs.declared.views.LockView.{LockView}
use Rattle.rule_base.specs.declared.views.View.{View}
use Rattle.rule_base.specs.History.{over, touches, word_now, Inside, Explains, Below, upto, Follows, Legal}
use Rattle.rule_base.specs.HistoryRule.{HistoryRule, history_projection}
use Rattle.rule_base.specs.StepKinds.{view_after, world_after, Nothing, StepLaw}
use Rattle.rule_base.specs.World.{World, put, parts}
use Rattle.rule_base.specs.Lemmas.HistoryLemmas.{over-miss, touches-without, over-without, inside-more, small-more, upto-all, legal-good, legal-small}
use Rattle.rule_base.specs.Lemmas.HistoryRuleLemmas.{advances-same, advances-entry, history-kept, history-seen, history-entry}
use Rattle.rule_base.specs.Lemmas.PutLemmas.{put-all, parts-put, parts-kept}
use Rattle.rule_base.specs.Lemmas.RecordLemmas.{records-stay}
use Rattle.rule_base.specs.Lemmas.StepsLemmas.{steps-kept, steps-raised}
use Rattle.rule_seq.specs.AttemptLemmas.{attempts-in}
use Rattle.rule_seq.specs.LockRule.{lock_projection, LockRule}
use Rattle.rule_seq.specs.CglRule.{CglView, cgl_view, CglProjection, cgl_projection, CglHolder, CglRule, CglWorld}
use Rattle.rule_seq.specs.CglSteps.{no_attempt, fresh_lock, take_lock, CanTakeLock, load_start, CanLoadStart, Begins, logged, load_heap, CanLoadHeap, Loads, store_heap, CanStoreHeap, cgl_entry, store_clock, CanStoreClock, Commits, free_lock, CanFreeLock, load_undo, CanLoadUndo, fixed_lock, load_limit, LoadsLimit, CanLoadLimit, store_back, CanStoreBack}
use Rattle.rule_seq.specs.LockLemmas.{one-taker, lock_projection-put, lock_projection-kept}

pub cgl_projection-put : (w x : World) (n : ℕ) (v : View) → x.views ≡ put w.views n v
    → cgl_projection x
    ≡ record { clock = x.clock; lock = x.lock; heap = x.heap; history = x.history; views = put (cgl_projection w).views n (cgl_view v) }
cgl_projection-put w x n v is = λ i. record { clock = x.clock; lock = x.lock; heap = x.heap; history = x.history; views = (ap (parts cgl_view) is ∙ parts-put cgl_view w.views n v) i }

pub cgl_projection-kept : (w x : World) (n : ℕ) (v : View) → x.views ≡ put w.views n v → x.clock ≡ w.clock → x.lock ≡ w.lock
    → x.heap ≡ w.heap → x.history ≡ w.history → cgl_view v ≡ cgl_view (w.views n) → cgl_projection x ≡ cgl_projection w
cgl_projection-kept w x n v is clock lock heap history own = λ i. record { clock = clock i; lock = lock i; heap = heap i; history = history i; views = (ap (parts cgl_view) is ∙ parts-kept cgl_view w.views n v own) i }

pub logged_sees : (m : ℕ → ℕ) (t : Attempt) (a x : ℕ) → x ≡ over t.stores a (m a) → Explains m t.reads → Explains m (logged t a x)
logged_sees m t a x value sees b = go (touches t.stores a) refl
  where
    go : (k : Bool) → touches t.stores a ≡ k → over (if k then t.reads else record { at = a; value = x } ∷ t.reads) b (m b) ≡ m b
    go true q = sees b
    go false q = grind (arith, q, value, over-miss t.stores a (m a), sees b)

pub logged_inside : (words : ℕ) (t : Attempt) (a x : ℕ) → a < words → Inside words t.reads → Inside words (logged t a x)
logged_inside words t a x low inside = go (touches t.stores a)
  where
    go : (k : Bool) → Inside words (if k then t.reads else record { at = a; value = x } ∷ t.reads)
    go true = inside
    go false = inside-more words (record { at = a; value = x }) t.reads low inside

module _ (good : (ℕ → ℕ) → Type 0) (c : Config) (n : ℕ) where
  -- the holder's clauses are made anew, and nobody else has the lock
  holders : (w : World) (y : CglProjection) (u : CglView) → LockRule (lock_projection w) → (w.views n).lock.taken ≡ true → (u.lock.taken ≡ true → CglHolder c.words y u)
      → (m : ℕ) → (put (cgl_projection w).views n u m).lock.taken ≡ true → CglHolder c.words y (put (cgl_projection w).views n u m)
  holders w y u l has mine = put-all (cgl_projection w).views n u (λ m k. k.lock.taken ≡ true → CglHolder c.words y k) mine (λ m d t. absurd (d (one-taker (lock_projection w) m n l t has)))

  -- a holder that has just taken the free lock
  fresh_rule : (alg : Alg) (s : CglProjection) → s.lock ≡ 0 → ((m : ℕ) → (s.views m).lock.taken ≡ true → s.lock ≡ 1 + m) → (s.lock ≡ 0 → (a : ℕ) → s.heap a ≡ word_now s.history a)
      → CglRule c.words (record s { lock = 1 + n; views = put s.views n (record { attempt = no_attempt; lock = fresh_lock alg; front = (s.views n).front }) })
  fresh_rule alg s z mine free = record {
    free = λ e. absurd (grind (arith, e));
    holder = put-all s.views n u (λ m k. k.lock.taken ≡ true → CglHolder c.words y k)
        (λ t. record {
          stored = free z;
          unstored = λ e. refl;
          start = λ e. absurd cc;
          front = λ e. absurd cc;
          sees = λ a. refl;
          reads_inside = λ a e. absurd cc;
          stores_inside = λ a e. absurd cc;
          stores_small = λ a d l. l;
          undone = λ a e. absurd cc;
          covered = λ e a f. absurd cc;
        })
        (λ m d t. absurd (let e = mine m t in omega arith));
  }
    where
      u : CglView
      u = record { attempt = no_attempt; lock = fresh_lock alg; front = (s.views n).front }

      y : CglProjection
      y = record s { lock = 1 + n; views = put s.views n (record { attempt = no_attempt; lock = fresh_lock alg; front = (s.views n).front }) }

  pub acquires_lock : StepLaw (CglWorld good c) (take_lock n) Nothing n CanTakeLock
  acquires_lock w r may = record {
    rule = record {
      history = history-kept good c w x n v refl refl refl refl r.history;
      steps = steps-kept c (take_lock n) n w refl refl refl r.steps;
      attempts = attempts-in w x n v refl may.phase r.attempts;
      records = records-stay w x n v refl (le_refl w.clock) refl refl refl r.records;
      lock = (go (eqb w.lock 0) (λ e. eqb-true w.lock 0 e)).0;
      runs = (go (eqb w.lock 0) (λ e. eqb-true w.lock 0 e)).1;
    };
    advances = advances-same w x refl (le_refl w.clock) (le_refl w.done) refl;
    shown = tt;
  }
    where
      x : World
      x = world_after (take_lock n) n w

      v : View
      v = view_after (take_lock n) w (w.views n) w.lock

      next : Bool → View
      next b = record (view_after (take_lock n) w (w.views n) w.lock) { lock = if b then fresh_lock (w.views n).gate.algorithm else (w.views n).lock; attempt = if b then no_attempt else (w.views n).attempt }

      at : Bool → World
      at b = record w { lock = if b then 1 + n else w.lock; views = put w.views n (next b) }

      go : (b : Bool) → (b ≡ true → w.lock ≡ 0) → LockRule (lock_projection (at b)) × CglRule c.words (cgl_projection (at b))
      go true e = (
        subst LockRule (sym (lock_projection-put w (at true) n (next true) refl refl)) (record {
          mine = λ m k. grind (arith, k, r.lock.mine m, e refl);
          owner = λ m k. grind (arith, k);
          inside = λ m k. grind (arith, k, r.lock.inside m, may.phase);
        }),
        subst (CglRule c.words) (sym (cgl_projection-put w (at true) n (next true) refl)) (fresh_rule (w.views n).gate.algorithm (cgl_projection w) (e refl) r.lock.mine r.runs.free),
      )
      go false e = (
        subst LockRule (sym (lock_projection-kept w (at false) n (next false) refl refl refl refl)) r.lock,
        subst (CglRule c.words) (sym (cgl_projection-kept w (at false) n (next false) refl refl refl refl refl refl)) r.runs,
      )

  pub loads_start : StepLaw (CglWorld good c) load_start (Begins good c) n CanLoadStart
  loads_start w r may = record {
    rule = record {
      history = history-seen good c w x n v refl refl refl refl r.history;
      steps = steps-kept c load_start n w refl refl refl r.steps;
      attempts = attempts-in w x n v refl may.has.phase r.attempts;
      records = records-stay w x n v refl (le_refl w.clock) refl refl refl r.records;
      lock = subst LockRule (sym (lock_projection-kept w x n v refl refl refl refl)) r.lock;
      runs = subst (CglRule c.words) (sym (cgl_projection-put w x n v refl)) (record {
        free = r.runs.free;
        holder = holders w y u r.lock may.has.taken (λ t. record {
          stored = h.stored;
          unstored = λ e. absurd cc;
          start = λ e. refl;
          front = λ e. refl;
          sees = h.sees;
          reads_inside = h.reads_inside;
          stores_inside = h.stores_inside;
          stores_small = h.stores_small;
          undone = h.undone;
          covered = h.covered;
        });
      });
    };
    advances = advances-same w x refl (le_refl w.clock) (le_refl w.done) refl;
    shown = record { legal = r.history.legal; below = r.history.below; seen = (r.history.known n).seen; front = (r.history.known n).front; limit = r.history.limit };
  }
    where
      x : World
      x = world_after load_start n w

      v : View
      v = view_after load_start w (w.views n) w.clock

      u : CglView
      u = cgl_view (view_after load_start w (w.views n) w.clock)

      y : CglProjection
      y = record (cgl_projection w) { views = put (cgl_projection w).views n (cgl_view (view_after load_start w (w.views n) w.clock)) }

      h : CglHolder c.words (cgl_projection w) (cgl_view (w.views n))
      h = r.runs.holder n may.has.taken

  -- while the lock is taken it isn't free
  not_free : (w : World) → LockRule (lock_projection w) → (w.views n).lock.taken ≡ true → w.lock ≡ 0 → ⊥
  not_free w l t z = let e = l.mine n t in omega arith

  -- a holder that has started has seen all
  seen_all : (w : World) → CglWorld good c w → (w.views n).lock.taken ≡ true → (w.views n).lock.started ≡ true → (w.views n).history.seen ≡ w.history
  seen_all w r t s =
      let h = r.runs.holder n t in
      let front : (w.views n).history.front ≡ w.clock = h.front s in
      (r.history.known n).seen ∙ ap (upto w.history) front ∙ upto-all w.history (w.clock + 1) w.clock r.history.below (le_refl (w.clock + 1))

  -- what a load shows to a seat that has seen all
  pub loads_of : (a : ℕ) (w : World) (v : View) (x : ℕ) → v.history.seen ≡ w.history → v.attempt.start ≡ w.clock → HistoryRule good c (history_projection w)
      → x ≡ over v.attempt.stores a (word_now w.history a) → over v.attempt.stores a (word_now w.history a) < 2 ^ 64 → Explains (word_now w.history) v.attempt.reads → Loads good c a w v x
  loads_of a w v x seen start h value small sees = record {
    value = subst (λ (k : List Entry). x ≡ over v.attempt.stores a (word_now k a)) (sym seen) value;
    small = subst (λ (k : ℕ). k < 2 ^ 64) (sym value) small;
    sees = subst (λ (k : List Entry). Explains (word_now k) (logged v.attempt a x)) (sym seen) (logged_sees (word_now w.history) v.attempt a x value sees);
    legal = subst (Legal good c) (sym seen) h.legal;
    below = subst (λ (k : List Entry). Below k (v.attempt.start + 1)) (sym seen) (subst (λ (k : ℕ). Below w.history (k + 1)) (sym start) h.below);
  }

  pub loads_heap : (a : ℕ) → StepLaw (CglWorld good c) (load_heap a) (Loads good c a) n (CanLoadHeap c.words a)
  loads_heap a w r may = record {
    rule = record {
      history = history-kept good c w x n v refl refl refl refl r.history;
      steps = steps-kept c (load_heap a) n w refl refl refl r.steps;
      attempts = attempts-in w x n v refl may.has.phase r.attempts;
      records = records-stay w x n v refl (le_refl w.clock) refl refl refl r.records;
      lock = subst LockRule (sym (lock_projection-kept w x n v refl refl refl refl)) r.lock;
      runs = subst (CglRule c.words) (sym (cgl_projection-put w x n v refl)) (record {
        free = r.runs.free;
        holder = holders w (record (cgl_projection w) { views = put (cgl_projection w).views n (cgl_view v) }) (cgl_view v) r.lock may.has.taken (λ t. record {
          stored = h.stored;
          unstored = h.unstored;
          start = h.start;
          front = h.front;
          sees = logged_sees (word_now w.history) (w.views n).attempt a (w.heap a) (h.stored a) h.sees;
          reads_inside = logged_inside c.words (w.views n).attempt a (w.heap a) may.inside h.reads_inside;
          stores_inside = h.stores_inside;
          stores_small = h.stores_small;
          undone = h.undone;
          covered = h.covered;
        });
      });
    };
    advances = advances-same w x refl (le_refl w.clock) (le_refl w.done) refl;
    shown = loads_of a w (w.views n) (w.heap a) (seen_all w r may.has.taken may.started) (h.start may.started) r.history
        (h.stored a) (h.stores_small a (word_now w.history a) (legal-small good c w.history a r.history.legal)) h.sees;
  }
    where
      x : World
      x = world_after (load_heap a) n w

      v : View
      v = view_after (load_heap a) w (w.views n) (w.heap a)

      h : CglHolder c.words (cgl_projection w) (cgl_view (w.views n))
      h = r.runs.holder n may.has.taken

  pub stores_heap : (a k : ℕ) → StepLaw (CglWorld good c) (store_heap a k) Nothing n (CanStoreHeap c.words a k)
  stores_heap a k w r may = record {
    rule = record {
      history = history-kept good c w x n v refl refl refl refl r.history;
      steps = steps-kept c (store_heap a k) n w refl refl refl r.steps;
      attempts = attempts-in w x n v refl may.has.phase r.attempts;
      records = records-stay w x n v refl (le_refl w.clock) refl refl refl r.records;
      lock = subst LockRule (sym (lock_projection-kept w x n v refl refl refl refl)) r.lock;
      runs = subst (CglRule c.words) (sym (cgl_projection-put w x n v refl)) (record {
        free = λ z. absurd (not_free w r.lock may.has.taken z);
        holder = holders w (record (cgl_projection w) { heap = put w.heap a k; views = put (cgl_projection w).views n (cgl_view v) }) (cgl_view v) r.lock may.has.taken (λ t. record {
          stored = λ b. grind (arith, h.stored b);
          unstored = λ e. absurd (let f = may.started in cc);
          start = h.start;
          front = h.front;
          sees = h.sees;
          reads_inside = h.reads_inside;
          stores_inside = inside-more c.words (record { at = a; value = k }) (w.views n).attempt.stores may.inside h.stores_inside;
          stores_small = small-more (record { at = a; value = k }) (w.views n).attempt.stores may.small h.stores_small;
          undone = h.undone;
          covered = λ e b f. grind (arith, h.covered e b, f, may.undoable e);
        });
      });
    };
    advances = advances-same w x refl (le_refl w.clock) (le_refl w.done) refl;
    shown = tt;
  }
    where
      x : World
      x = world_after (store_heap a k) n w

      v : View
      v = view_after (store_heap a k) w (w.views n) k

      h : CglHolder c.words (cgl_projection w) (cgl_view (w.views n))
      h = r.runs.holder n may.has.taken

  -- the entry follows the history, and leaves the heap as the memory after it
  pub stores_clock : (t : ℕ) → n < c.callers → StepLaw (CglWorld good c) (store_clock n t) (Commits good c n t) n (CanStoreClock good t)
  stores_clock t low w r may = record {
    rule = record {
      history = history-entry good c w x n e v refl refl refl refl refl later may.limit follows r.history;
      steps = steps-raised c (store_clock n t) n w 1 low next refl refl r.steps;
      attempts = attempts-in w x n v refl may.has.phase r.attempts;
      records = records-stay w x n v refl (let k = later in omega arith) refl refl refl r.records;
      lock = subst LockRule (sym (lock_projection-kept w x n v refl refl refl refl)) r.lock;
      runs = subst (CglRule c.words) (sym (cgl_projection-put w x n v refl)) (record {
        free = λ z. absurd (not_free w r.lock may.has.taken z);
        holder = holders w (record (cgl_projection w) { clock = t; history = e ∷ w.history; views = put (cgl_projection w).views n (cgl_view v) }) (cgl_view v) r.lock may.has.taken (λ has. record {
          stored = h.stored;
          unstored = λ f. refl;
          start = λ f. absurd cc;
          front = λ f. absurd cc;
          sees = λ a. refl;
          reads_inside = λ a f. absurd cc;
          stores_inside = λ a f. absurd cc;
          stores_small = λ a d l. l;
          undone = λ a f. absurd cc;
          covered = λ f a k. absurd cc;
        });
      });
    };
    advances = advances-entry w x e refl later (le_refl t) (le_refl w.done) refl;
    shown = record {
      legal = (follows, r.history.legal);
      below = (omega arith, subst (Below w.history) (sym next) r.history.below);
      seen = seen_all w r may.has.taken may.started;
    };
  }
    where
      x : World
      x = world_after (store_clock n t) n w

      v : View
      v = view_after (store_clock n t) w (w.views n) t

      e : Entry
      e = cgl_entry n t (w.views n)

      h : CglHolder c.words (cgl_projection w) (cgl_view (w.views n))
      h = r.runs.holder n may.has.taken

      next : t ≡ w.clock + 1
      next = may.time ∙ ap (λ k. k + 1) (h.start may.started)

      later : w.clock < t
      later = let k = next in omega arith

      follows : Follows good c (cgl_entry n t (w.views n)) w.history
      follows = record {
        caller = low;
        number = ap length (r.history.known n).made;
        later = let k = next in let o = r.history.opened in omega arith;
        reads = h.sees;
        reads_inside = h.reads_inside;
        writes_inside = h.stores_inside;
        writes_small = h.stores_small;
        writes_some = may.wrote;
        leaves = may.keeps (word_now w.history) (legal-good good c w.history r.history.legal) h.sees (λ a. legal-small good c w.history a r.history.legal);
      }

  pub frees_lock : StepLaw (CglWorld good c) free_lock Nothing n CanFreeLock
  frees_lock w r may = record {
    rule = record {
      history = history-kept good c w x n v refl refl refl refl r.history;
      steps = steps-kept c free_lock n w refl refl refl r.steps;
      attempts = attempts-in w x n v refl may.has.phase r.attempts;
      records = records-stay w x n v refl (le_refl w.clock) refl refl refl r.records;
      lock = subst LockRule (sym (lock_projection-put w x n v refl refl)) (record {
        mine = λ m k. grind (arith, k, r.lock.mine m, r.lock.mine n may.has.taken);
        owner = λ m k. grind (arith, k);
        inside = λ m k. grind (arith, k, r.lock.inside m);
      });
      runs = subst (CglRule c.words) (sym (cgl_projection-put w x n v refl)) (record {
        free = λ z a. h.stored a ∙ ap (λ (k : List Cell). over k a (word_now w.history a)) may.unstored;
        holder = holders w (record (cgl_projection w) { lock = 0; views = put (cgl_projection w).views n (cgl_view v) }) (cgl_view v) r.lock may.has.taken (λ t. absurd cc);
      });
    };
    advances = advances-same w x refl (le_refl w.clock) (le_refl w.done) refl;
    shown = tt;
  }
    where
      x : World
      x = world_after free_lock n w

      v : View
      v = view_after free_lock w (w.views n) 0

      h : CglHolder c.words (cgl_projection w) (cgl_view (w.views n))
      h = r.runs.holder n may.has.taken

  pub loads_undo : (a : ℕ) → StepLaw (CglWorld good c) (load_undo a) Nothing n (CanLoadUndo a)
  loads_undo a w r may = record {
    rule = record {
      history = history-kept good c w x n v refl refl refl refl r.history;
      steps = steps-kept c (load_undo a) n w refl refl refl r.steps;
      attempts = attempts-in w x n v refl may.has.phase r.attempts;
      records = records-stay w x n v refl (le_refl w.clock) refl refl refl r.records;
      lock = subst LockRule (sym (lock_projection-kept w x n v refl refl refl refl)) r.lock;
      runs = subst (CglRule c.words) (sym (cgl_projection-put w x n v refl)) (record {
        free = r.runs.free;
        holder = holders w (record (cgl_projection w) { views = put (cgl_projection w).views n (cgl_view v) }) (cgl_view v) r.lock may.has.taken (λ t. record {
          stored = h.stored;
          unstored = h.unstored;
          start = h.start;
          front = h.front;
          sees = h.sees;
          reads_inside = h.reads_inside;
          stores_inside = h.stores_inside;
          stores_small = h.stores_small;
          undone = λ b e d. grind (arith, e, h.undone b, there);
          covered = λ e b f. grind (arith, h.covered e b, f);
        });
      });
    };
    advances = advances-same w x refl (le_refl w.clock) (le_refl w.done) refl;
    shown = tt;
  }
    where
      x : World
      x = world_after (load_undo a) n w

      v : View
      v = view_after (load_undo a) w (w.views n) (w.heap a)

      h : CglHolder c.words (cgl_projection w) (cgl_view (w.views n))
      h = r.runs.holder n may.has.taken

      clear : (b : Bool) → touches (w.views n).attempt.stores a ≡ b → b ≡ false
      clear true e = absurd (let f : true ≡ false = sym (h.covered may.revocable a e) ∙ may.fresh in cc)
      clear false e = refl

      -- nothing was stored there, so the word is the memory's
      there : w.heap a ≡ word_now w.history a
      there = h.stored a ∙ over-miss (w.views n).attempt.stores a (word_now w.history a) (clear (touches (w.views n).attempt.stores a) refl)

  pub loads_limit : (grants : Bool) → StepLaw (CglWorld good c) (load_limit grants) LoadsLimit n CanLoadLimit
  loads_limit grants w r may = record {
    rule = record {
      history = history-kept good c w x n v refl refl refl refl r.history;
      steps = steps-kept c (load_limit grants) n w refl refl refl r.steps;
      attempts = attempts-in w x n v refl may.has.phase r.attempts;
      records = records-stay w x n v refl (le_refl w.clock) refl refl refl r.records;
      lock = subst LockRule (sym (lock_projection-kept w x n v refl refl (same (if grants then ltb w.clock CLOCK_LIMIT else false)) refl)) r.lock;
      runs = subst (CglRule c.words) (sym (cgl_projection-put w x n v refl)) (go (if grants then ltb w.clock CLOCK_LIMIT else false));
    };
    advances = advances-same w x refl (le_refl w.clock) (le_refl w.done) refl;
    shown = sym ((r.runs.holder n may.has.taken).start may.started);
  }
    where
      x : World
      x = world_after (load_limit grants) n w

      v : View
      v = view_after (load_limit grants) w (w.views n) w.clock

      h : CglHolder c.words (cgl_projection w) (cgl_view (w.views n))
      h = r.runs.holder n may.has.taken

      lock_by : Bool → LockView
      lock_by b = if b then fixed_lock (w.views n).lock else record (w.views n).lock { clocked = true }

      same : (b : Bool) → (if b then fixed_lock (w.views n).lock else record (w.views n).lock { clocked = true }).taken ≡ (w.views n).lock.taken
      same true = refl
      same false = refl

      u : Bool → CglView
      u b = record { attempt = (w.views n).attempt; lock = if b then fixed_lock (w.views n).lock else record (w.views n).lock { clocked = true }; front = (w.views n).history.front }

      go : (b : Bool) → CglRule c.words (record (cgl_projection w) { views = put (cgl_projection w).views n (u b) })
      go true = record {
        free = r.runs.free;
        holder = holders w (record (cgl_projection w) { views = put (cgl_projection w).views n (u true) }) (u true) r.lock may.has.taken (λ t. record {
          stored = h.stored;
          unstored = h.unstored;
          start = h.start;
          front = h.front;
          sees = h.sees;
          reads_inside = h.reads_inside;
          stores_inside = h.stores_inside;
          stores_small = h.stores_small;
          undone = λ b e. absurd cc;
          covered = λ e. absurd cc;
        });
      }
      go false = record {
        free = r.runs.free;
        holder = holders w (record (cgl_projection w) { views = put (cgl_projection w).views n (u false) }) (u false) r.lock may.has.taken (λ t. record {
          stored = h.stored;
          unstored = h.unstored;
          start = h.start;
          front = h.front;
          sees = h.sees;
          reads_inside = h.reads_inside;
          stores_inside = h.stores_inside;
          stores_small = h.stores_small;
          undone = h.undone;
          covered = h.covered;
        });
      }

  pub stores_back : (a k : ℕ) → StepLaw (CglWorld good c) (store_back a k) Nothing n (CanStoreBack a k)
  stores_back a k w r may = record {
    rule = record {
      history = history-kept good c w x n v refl refl refl refl r.history;
      steps = steps-kept c (store_back a k) n w refl refl refl r.steps;
      attempts = attempts-in w x n v refl may.has.phase r.attempts;
      records = records-stay w x n v refl (le_refl w.clock) refl refl refl r.records;
      lock = subst LockRule (sym (lock_projection-kept w x n v refl refl refl refl)) r.lock;
      runs = subst (CglRule c.words) (sym (cgl_projection-put w x n v refl)) (record {
        free = λ z. absurd (not_free w r.lock may.has.taken z);
        holder = holders w (record (cgl_projection w) { heap = put w.heap a k; views = put (cgl_projection w).views n (cgl_view v) }) (cgl_view v) r.lock may.has.taken (λ t. record {
          stored = λ b. grind (arith, h.stored b, over-without (w.views n).attempt.stores a b (word_now w.history b), may.value, h.undone a may.logged 0);
          unstored = λ e. absurd (let f = may.started in cc);
          start = h.start;
          front = h.front;
          sees = h.sees;
          reads_inside = h.reads_inside;
          stores_inside = λ b e. grind (arith, h.stores_inside b, touches-without (w.views n).attempt.stores a b, e);
          stores_small = λ b d l. grind (arith, h.stores_small b d, over-without (w.views n).attempt.stores a b d, l);
          undone = λ b e d. grind (arith, h.undone b, touches-without (w.views n).lock.undo a b, over-without (w.views n).lock.undo a b d, e);
          covered = λ e b f. grind (arith, h.covered e b, touches-without (w.views n).attempt.stores a b, touches-without (w.views n).lock.undo a b, f);
        });
      });
    };
    advances = advances-same w x refl (le_refl w.clock) (le_refl w.done) refl;
    shown = tt;
  }
    where
      x : World
      x = world_after (store_back a k) n w

      v : View
      v = view_after (store_back a k) w (w.views n) k

      h : CglHolder c.words (cgl_projection w) (cgl_view (w.views n))
      h = r.runs.holder n may.has.taken
