-- Each kind of step of TML keeps the rule.
use Rattle.std.proofs.Common.{◌≡◌, ℕ, ◌+◌, ◌<◌, ◌≤◌, List, [], ◌∷◌, Bool, true, false, arith, refl, sym, subst, ap, ◌∙◌, le_refl}
use Rattle.std.specs.Prelude.{if◌then◌else◌, ◌^◌, ◌%◌, ◌==◌, length}
use Rattle.std.proofs.lemmas.Bool.{eqb-true}
use Rattle.rule_base.specs.declared.entries.Cell.{Cell}
use Rattle.rule_base.specs.declared.entries.Entry.{Entry}
use Rattle.stm_model.specs.declared.config.Config.{Config}
use Rattle.rule_base.specs.declared.views.View.{View}
use Rattle.rule_base.specs.History.{over, word_at, word_now, Inside, Explains, Below, upto, Follows, Legal}
use Rattle.rule_base.specs.HistoryRule.{HistoryRule, history_projection}
use Rattle.rule_base.specs.StepKinds.{view_after, world_after, Nothing, StepLaw}
use Rattle.rule_base.specs.StepsRule.{StepsRule, steps_projection}
use Rattle.rule_base.specs.World.{World, put, parts}
use Rattle.rule_base.specs.Lemmas.HistoryLemmas.{word_at-all, upto-all, word_now-upto, below-upto, legal-upto, inside-more, small-more, legal-good, legal-small}
use Rattle.rule_base.specs.Lemmas.HistoryRuleLemmas.{advances-same, advances-entry, history-kept, history-seen, history-raised, history-entry}
use Rattle.rule_base.specs.Lemmas.PutLemmas.{put-all, parts-put, parts-kept}
use Rattle.rule_base.specs.Lemmas.RecordLemmas.{records-stay}
use Rattle.rule_base.specs.RecordRule.{record_projection, RecordRule}
use Rattle.rule_base.specs.Lemmas.StepsLemmas.{steps-kept, steps-raised}
use Rattle.rule_seq.specs.AttemptRule.{attempt_projection, AttemptRule}
use Rattle.rule_seq.specs.AttemptLemmas.{attempts-in}
use Rattle.rule_seq.specs.LockRule.{lock_projection, LockRule}
use Rattle.rule_seq.specs.LockLemmas.{lock_projection-kept}
use Rattle.rule_seq.specs.CglLaws.{logged_sees, logged_inside}
use Rattle.rule_seq.specs.CglSteps.{logged, cgl_entry, Commits}
use Rattle.rule_seq.specs.TmlRule.{TmlPart, tml_view, TmlProjection, tml_projection, TmlReader, TmlWriter, TmlRule, TmlWorld}
use Rattle.rule_seq.specs.TmlSteps.{fresh_tml, tml_begin, CanTmlBegin, TmlBegins, tml_load, CanTmlLoad, TmlSees, TmlLoads, still_at, tml_again, CanTmlAgain, TmlAgain, tml_write, CanTmlWrite, tml_store, CanTmlStore, tml_commit, CanTmlCommit}

pub tml_projection-put : (w x : World) (n : ℕ) (v : View) → x.views ≡ put w.views n v
    → tml_projection x ≡ record { clock = x.clock; heap = x.heap; history = x.history; views = put (tml_projection w).views n (tml_view v) }
tml_projection-put w x n v is = λ i. record { clock = x.clock; heap = x.heap; history = x.history; views = (ap (parts tml_view) is ∙ parts-put tml_view w.views n v) i }

pub tml_projection-kept : (w x : World) (n : ℕ) (v : View) → x.views ≡ put w.views n v → x.clock ≡ w.clock → x.heap ≡ w.heap
    → x.history ≡ w.history → tml_view v ≡ tml_view (w.views n) → tml_projection x ≡ tml_projection w
tml_projection-kept w x n v is clock heap history own = λ i. record { clock = clock i; heap = heap i; history = history i; views = (ap (parts tml_view) is ∙ parts-kept tml_view w.views n v own) i }

-- nobody is in an attempt, the clock is even, and the heap is the memory: whatever ran before, TML may run
pub tml-from-rest : (words : ℕ) (s : TmlProjection) → ((n : ℕ) → (s.views n).tml.inside ≡ true → ⊥)
    → ((n : ℕ) → (s.views n).tml.writer ≡ true → ⊥) → s.clock % 2 ≡ 0 → ((a : ℕ) → s.heap a ≡ word_now s.history a) → TmlRule words s
tml-from-rest words s nobody none even heap = record {
  free = λ e. (even, heap);
  reader = λ n t. absurd (nobody n t);
  writer = λ n t. absurd (none n t);
  one = λ m n t. absurd (none m t);
}

module _ (words n : ℕ) where
  -- a caller that isn't the writer changes its part: it is still no writer, and what it has as a reader stands
  pub tml-own : (s : TmlProjection) (u : TmlPart) → (s.views n).tml.writer ≡ false → u.tml.writer ≡ false
      → (u.tml.inside ≡ true → TmlReader words s.clock s.history u) → TmlRule words s → TmlRule words (record s { views = put s.views n u })
  tml-own s u was is own r = record {
    free = λ e. r.free (λ m t. e m (grind (arith, t, was)));
    reader = put-all s.views n u (λ m k. k.tml.inside ≡ true → TmlReader words s.clock s.history k) own (λ m d. r.reader m);
    writer = put-all s.views n u (λ m k. k.tml.writer ≡ true → TmlWriter words (record s { views = put s.views n u }) k) (λ t. absurd (let f : true ≡ false = sym t ∙ is in cc))
        (λ m d t. let k = r.writer m t in record { inside = k.inside; odd = k.odd; below = k.below; stored = k.stored; stores_inside = k.stores_inside; stores_small = k.stores_small });
    one = λ i j p q. r.one i j (grind (arith, p, is)) (grind (arith, q, is));
  }

  -- an even clock is no writer's
  pub no-writer : (s : TmlProjection) → s.clock % 2 ≡ 0 → TmlRule words s → ((m : ℕ) → (s.views m).tml.inside ≡ true → TmlReader words s.clock s.history (s.views m)) → (m : ℕ) → (s.views m).tml.writer ≡ true → ⊥
  no-writer s even r readers m t = let k = r.writer m t in let e = (readers m k.inside).even in let o = k.odd in omega arith

-- a later clock leaves what stands of a reader
pub reader-later : (words clock t : ℕ) (history : List Entry) (v : TmlPart) → clock < t → TmlReader words clock history v → TmlReader words t history v
reader-later words clock t history v up k = record {
  start = let s = k.start in omega arith;
  even = k.even;
  front = k.front;
  sees = k.sees;
  reads_inside = k.reads_inside;
  unstored = k.unstored;
  pending = λ l e. absurd (let s = k.start in omega arith);
  from = k.from;
}

-- and so does a later entry
word_at-later : (h : List Entry) (e : Entry) (s a : ℕ) → s < e.time → word_at (e ∷ h) s a ≡ word_at h s a
word_at-later h e s a l = grind (arith, l)

pub reader-entry : (words clock : ℕ) (history : List Entry) (e : Entry) (v : TmlPart) → clock < e.time → TmlReader words clock history v → TmlReader words e.time (e ∷ history) v
reader-entry words clock history e v later k = record {
  start = let s = k.start in omega arith;
  even = k.even;
  front = k.front;
  sees =
      λ a.
      let same : word_at (e ∷ history) v.attempt.start a ≡ word_at history v.attempt.start a =
      word_at-later history e v.attempt.start a (let s = k.start in omega arith) in
      subst (λ (x : ℕ). over v.attempt.reads a x ≡ x) (sym same) (k.sees a);
  reads_inside = k.reads_inside;
  unstored = k.unstored;
  pending = λ l q. absurd (let s = k.start in omega arith);
  from = k.from;
}

module _ (good : (ℕ → ℕ) → Type 0) (c : Config) (n : ℕ) where
  -- the clauses but for those of the steps, which speak of the step as it stands
  abbrev Parts : World → Type 0
  Parts y = HistoryRule good c (history_projection y) × LockRule (lock_projection y) × AttemptRule (attempt_projection y) × TmlRule c.words (tml_projection y)

  whole_of : (y : World) → Parts y → StepsRule c (steps_projection y) → RecordRule (record_projection y) → TmlWorld good c y
  whole_of y p s q = record { history = p.0; steps = s; records = q; lock = p.1; attempts = p.2; runs = p.3 }

  pub tml_begins : StepLaw (TmlWorld good c) tml_begin (TmlBegins good c) n CanTmlBegin
  tml_begins w r may = record {
    rule =
        whole_of x (go (w.clock % 2 == 0) (λ e. eqb-true (w.clock % 2) 0 e)) (steps-kept c tml_begin n w refl refl refl r.steps)
        (records-stay w x n (view_after tml_begin w (w.views n) w.clock) refl (le_refl w.clock) refl refl refl r.records);
    advances = advances-same w x refl (le_refl w.clock) (le_refl w.done) refl;
    shown = record { legal = r.history.legal; below = r.history.below; seen = (r.history.known n).seen; front = (r.history.known n).front; limit = r.history.limit };
  }
    where
      x : World
      x = world_after tml_begin n w

      next : Bool → View
      next b = record (view_after tml_begin w (w.views n) w.clock) {
        history = if b then record (w.views n).history { seen = w.history; front = w.clock } else (w.views n).history;
        attempt = if b then record { start = w.clock; reads = []; stores = []; entered = false } else (w.views n).attempt;
        tml = if b then fresh_tml else (w.views n).tml;
      }

      at : Bool → World
      at b = record w { views = put w.views n (next b) }

      go : (b : Bool) → (b ≡ true → w.clock % 2 ≡ 0) → Parts (at b)
      go true even = (
        history-seen good c w (at true) n (next true) refl refl refl refl r.history,
        subst LockRule (sym (lock_projection-kept w (at true) n (next true) refl refl refl refl)) r.lock,
        attempts-in w (at true) n (next true) refl may.runs.phase r.attempts,
        subst (TmlRule c.words) (sym (tml_projection-put w (at true) n (next true) refl)) (tml-own c.words n (tml_projection w) (tml_view (next true)) may.unwritten refl (λ t. record {
          start = le_refl w.clock;
          even = even refl;
          front = refl;
          sees = λ a. refl;
          reads_inside = λ a e. absurd cc;
          unstored = λ e. refl;
          pending = λ l e. absurd cc;
          from = λ l. absurd cc;
        }) r.runs),
      )
      go false even = (
        history-kept good c w (at false) n (next false) refl refl refl refl r.history,
        subst LockRule (sym (lock_projection-kept w (at false) n (next false) refl refl refl refl)) r.lock,
        attempts-in w (at false) n (next false) refl may.runs.phase r.attempts,
        subst (TmlRule c.words) (sym (tml_projection-kept w (at false) n (next false) refl refl refl refl refl)) r.runs,
      )

  -- the memory at the start is that after what was seen
  seen_is : (w : World) → TmlWorld good c w → (w.views n).tml.inside ≡ true → (w.views n).history.seen ≡ upto w.history (w.views n).attempt.start
  seen_is w r inside = (r.history.known n).seen ∙ ap (upto w.history) (r.runs.reader n inside).front

  seen_at : (w : World) → TmlWorld good c w → (w.views n).tml.inside ≡ true → (a : ℕ) → word_now (w.views n).history.seen a ≡ word_at w.history (w.views n).attempt.start a
  seen_at w r inside a = ap (λ (h : List Entry). word_now h a) (seen_is w r inside) ∙ word_now-upto w.history (w.views n).attempt.start a

  sees_by : (w : World) → TmlWorld good c w → (w.views n).tml.inside ≡ true → (reads : List Cell) → Explains (word_at w.history (w.views n).attempt.start) reads → TmlSees good c (w.views n) reads
  sees_by w r inside reads sees = record {
    sees = λ a. subst (λ (k : ℕ). over reads a k ≡ k) (sym (seen_at w r inside a)) (sees a);
    legal = subst (Legal good c) (sym (seen_is w r inside)) (legal-upto good c w.history (w.clock + 1) (w.views n).attempt.start r.history.below r.history.legal);
    below = subst (λ (h : List Entry). Below h ((w.views n).attempt.start + 1)) (sym (seen_is w r inside)) (below-upto w.history (w.clock + 1) (w.views n).attempt.start r.history.below);
  }

  -- the memory at the start is that after the history while nothing was added
  at_start : (h : List Entry) (s a : ℕ) → Below h (s + 1) → word_at h s a ≡ word_now h a
  at_start h s a b = word_at-all h (s + 1) s a b (le_refl (s + 1))

  pub tml_loads : (a : ℕ) → StepLaw (TmlWorld good c) (tml_load a) (TmlLoads good c a) n (CanTmlLoad c.words a)
  tml_loads a w r may = record {
    rule =
        whole_of x (go (w.views n).tml.writer refl) (steps-kept c (tml_load a) n w refl refl refl r.steps)
        (records-stay w x n (view_after (tml_load a) w (w.views n) (w.heap a)) refl (le_refl w.clock) refl refl refl r.records);
    advances = advances-same w x refl (le_refl w.clock) (le_refl w.done) refl;
    shown = record {
      value = λ t. value t ∙ ap (over (w.views n).attempt.stores a) (sym (seen_at w r may.has.inside a));
      sees = λ t. sees_by w r may.has.inside (logged (w.views n).attempt a (w.heap a)) (logged_sees (word_at w.history (w.views n).attempt.start) (w.views n).attempt a (w.heap a) (value t) h.sees);
    };
  }
    where
      x : World
      x = world_after (tml_load a) n w

      h : TmlReader c.words w.clock w.history (tml_view (w.views n))
      h = r.runs.reader n may.has.inside

      value : (w.views n).tml.writer ≡ true → w.heap a ≡ over (w.views n).attempt.stores a (word_at w.history (w.views n).attempt.start a)
      value t = let k = r.runs.writer n t in k.stored a ∙ ap (over (w.views n).attempt.stores a) (sym (at_start w.history (w.views n).attempt.start a k.below))

      next : Bool → View
      next b = record (view_after (tml_load a) w (w.views n) (w.heap a)) {
        attempt = if b then record (w.views n).attempt { reads = logged (w.views n).attempt a (w.heap a) } else (w.views n).attempt;
        tml = if b then (w.views n).tml else record (w.views n).tml { loaded = true; from = a; value = w.heap a };
      }

      at : Bool → World
      at b = record w { views = put w.views n (next b) }

      go : (b : Bool) → (w.views n).tml.writer ≡ b → Parts (at b)
      go true t = (
        history-kept good c w (at true) n (next true) refl refl refl refl r.history,
        subst LockRule (sym (lock_projection-kept w (at true) n (next true) refl refl refl refl)) r.lock,
        attempts-in w (at true) n (next true) refl may.has.runs.phase r.attempts,
        subst (TmlRule c.words) (sym (tml_projection-put w (at true) n (next true) refl)) (writes (tml_projection w) (tml_view (next true)) r.runs t refl
            (record {
              start = h.start;
              even = h.even;
              front = h.front;
              sees = logged_sees (word_at w.history (w.views n).attempt.start) (w.views n).attempt a (w.heap a) (value t) h.sees;
              reads_inside = logged_inside c.words (w.views n).attempt a (w.heap a) may.inside h.reads_inside;
              unstored = h.unstored;
              pending = h.pending;
              from = h.from;
            })
            (let k = r.runs.writer n t in λ e. record { inside = k.inside; odd = k.odd; below = k.below; stored = k.stored; stores_inside = k.stores_inside; stores_small = k.stores_small })),
      )
        where
          -- the writer changes its part
          writes : (s : TmlProjection) (u : TmlPart) → TmlRule c.words s → (s.views n).tml.writer ≡ true
              → u.tml.writer ≡ (s.views n).tml.writer → TmlReader c.words s.clock s.history u
              → (u.tml.writer ≡ true → TmlWriter c.words (record s { views = put s.views n u }) u)
              → TmlRule c.words (record s { views = put s.views n u })
          writes s u q was is own wr = record {
            free = λ e. q.free (λ m t. e m (grind (arith, t, is)));
            reader = put-all s.views n u (λ m k. k.tml.inside ≡ true → TmlReader c.words s.clock s.history k) (λ e. own) (λ m d. q.reader m);
            writer = put-all s.views n u (λ m k. k.tml.writer ≡ true → TmlWriter c.words (record s { views = put s.views n u }) k) wr
                (λ m d e. absurd (d (q.one m n e was)));
            one = λ i j p t. q.one i j (grind (arith, p, is)) (grind (arith, t, is));
          }
      go false t = (
        history-kept good c w (at false) n (next false) refl refl refl refl r.history,
        subst LockRule (sym (lock_projection-kept w (at false) n (next false) refl refl refl refl)) r.lock,
        attempts-in w (at false) n (next false) refl may.has.runs.phase r.attempts,
        subst (TmlRule c.words) (sym (tml_projection-put w (at false) n (next false) refl)) (tml-own c.words n (tml_projection w) (tml_view (next false)) t t (λ e. record {
          start = h.start;
          even = h.even;
          front = h.front;
          sees = h.sees;
          reads_inside = h.reads_inside;
          unstored = h.unstored;
          pending = λ l same. (r.runs.free (no-writer c.words n (tml_projection w) (ap (λ k. k % 2) same ∙ h.even) r.runs r.runs.reader)).1 a;
          from = λ l. may.inside;
        }) r.runs),
      )

  pub tml_agains : StepLaw (TmlWorld good c) tml_again (TmlAgain good c) n CanTmlAgain
  tml_agains w r may = record {
    rule = record {
      history = history-kept good c w x n v refl refl refl refl r.history;
      steps = steps-kept c tml_again n w refl refl refl r.steps;
      lock = subst LockRule (sym (lock_projection-kept w x n v refl refl refl refl)) r.lock;
      attempts = attempts-in w x n v refl may.has.runs.phase r.attempts;
      records = records-stay w x n v refl (le_refl w.clock) refl refl refl r.records;
      runs = subst (TmlRule c.words) (sym (tml_projection-put w x n v refl)) (tml-own c.words n (tml_projection w) (tml_view v) may.reads may.reads (λ e. record {
        start = h.start;
        even = h.even;
        front = h.front;
        sees = sees (w.clock == (w.views n).attempt.start) (λ q. eqb-true w.clock (w.views n).attempt.start q) (w.views n).tml.loaded refl;
        reads_inside = inside (w.clock == (w.views n).attempt.start) (w.views n).tml.loaded refl;
        unstored = h.unstored;
        pending = λ l. absurd cc;
        from = λ l. absurd cc;
      }) r.runs);
    };
    advances = advances-same w x refl (le_refl w.clock) (le_refl w.done) refl;
    shown =
        record {
          value = λ same l. value same l ∙ sym (seen_at w r may.has.inside (w.views n).tml.from);
          sees = sees_by w r may.has.inside (still_at w.clock (w.views n))
              (sees (w.clock == (w.views n).attempt.start) (λ q. eqb-true w.clock (w.views n).attempt.start q) (w.views n).tml.loaded refl);
        };
  }
    where
      x : World
      x = world_after tml_again n w

      v : View
      v = view_after tml_again w (w.views n) w.clock

      h : TmlReader c.words w.clock w.history (tml_view (w.views n))
      h = r.runs.reader n may.has.inside

      value : w.clock ≡ (w.views n).attempt.start → (w.views n).tml.loaded ≡ true → (w.views n).tml.value ≡ word_at w.history (w.views n).attempt.start (w.views n).tml.from
      value same l = h.pending l same ∙ sym (at_start w.history (w.views n).attempt.start (w.views n).tml.from (subst (λ (k : ℕ). Below w.history (k + 1)) same r.history.below))

      sees : (b : Bool) → (b ≡ true → w.clock ≡ (w.views n).attempt.start) → (l : Bool) → (w.views n).tml.loaded ≡ l
          → Explains (word_at w.history (w.views n).attempt.start) (if b then
          (if l then record { at = (w.views n).tml.from; value = (w.views n).tml.value }
          ∷ (w.views n).attempt.reads else (w.views n).attempt.reads) else (w.views n).attempt.reads)
      sees true same true l = λ a. grind (arith, value (same refl) l, h.sees a)
      sees true same false l = h.sees
      sees false same true k = h.sees
      sees false same false k = h.sees

      inside : (b l : Bool) → (w.views n).tml.loaded ≡ l
          → Inside c.words (if b then (if l then record { at = (w.views n).tml.from; value = (w.views n).tml.value } ∷ (w.views n).attempt.reads else (w.views n).attempt.reads) else (w.views n).attempt.reads)
      inside true true l = inside-more c.words (record { at = (w.views n).tml.from; value = (w.views n).tml.value }) (w.views n).attempt.reads (h.from l) h.reads_inside
      inside true false l = h.reads_inside
      inside false l k = h.reads_inside

  pub tml_writes : (start : ℕ) → n < c.callers → StepLaw (TmlWorld good c) (tml_write start) Nothing n (CanTmlWrite start)
  tml_writes start low w r may = record {
    rule =
        whole_of x (go (w.clock == start) (λ e. eqb-true w.clock start e)) (steps (w.clock == start) refl (λ e. eqb-true w.clock start e))
        (records-stay w x n (view_after (tml_write start) w (w.views n) w.clock) refl
        (up (w.clock == start) (λ e. eqb-true w.clock start e)) refl refl refl r.records);
    advances = advances-same w x refl (up (w.clock == start) (λ e. eqb-true w.clock start e)) (le_refl w.done) refl;
    shown = tt;
  }
    where
      x : World
      x = world_after (tml_write start) n w

      h : TmlReader c.words w.clock w.history (tml_view (w.views n))
      h = r.runs.reader n may.has.inside

      next : Bool → View
      next b = record (view_after (tml_write start) w (w.views n) w.clock) {
        tml = if b then record (w.views n).tml { writer = true } else (w.views n).tml;
        steps = record (if b then record (w.views n).steps { rises = (w.views n).steps.rises + 1 } else (w.views n).steps) { step_trace = (view_after (tml_write start) w (w.views n) w.clock).steps.step_trace };
      }

      at : Bool → World
      at b = record w { clock = if b then start + 1 else w.clock; views = put w.views n (next b) }

      up : (b : Bool) → (b ≡ true → w.clock ≡ start) → w.clock ≤ (if b then start + 1 else w.clock)
      up true e = let k = e refl in omega arith
      up false e = le_refl w.clock

      step_trace : (b : Bool) → (if b then record (w.views n).steps { rises = (w.views n).steps.rises + 1 } else (w.views n).steps).step_trace ≡ (w.views n).steps.step_trace
      step_trace true = refl
      step_trace false = refl

      steps : (b : Bool) → (w.clock == start) ≡ b → (b ≡ true → w.clock ≡ start) → StepsRule c (steps_projection x)
      steps true q e =
          steps-raised c (tml_write start) n w 1 low
          (ap (λ (b : Bool). if b then start + 1 else w.clock) q ∙ ap (λ k. k + 1) (sym (e refl))) (step_trace (w.clock == start))
          (ap (λ (b : Bool). (if b then record (w.views n).steps { rises = (w.views n).steps.rises + 1 } else (w.views n).steps).rises) q)
          r.steps
      steps false q e =
          steps-kept c (tml_write start) n w (ap (λ (b : Bool). if b then start + 1 else w.clock) q) (step_trace (w.clock == start))
          (ap (λ (b : Bool). (if b then record (w.views n).steps { rises = (w.views n).steps.rises + 1 } else (w.views n).steps).rises) q)
          r.steps

      go : (b : Bool) → (b ≡ true → w.clock ≡ start) → Parts (at b)
      go true e = (
        subst (HistoryRule good c) (sym path) (history-raised good c (history_projection w) (start + 1) (let k = e refl in omega arith) (let l = may.limit in omega arith) r.history),
        subst LockRule (sym (lock_projection-kept w (at true) n (next true) refl refl refl refl)) r.lock,
        attempts-in w (at true) n (next true) refl may.has.runs.phase r.attempts,
        subst (TmlRule c.words) (sym (tml_projection-put w (at true) n (next true) refl)) (record {
          free = λ none. absurd (none n here);
          reader = put-all (tml_projection w).views n (tml_view (next true)) (λ m k. k.tml.inside ≡ true → TmlReader c.words (start + 1) w.history k)
              (λ t. let k = reader-later c.words w.clock (start + 1) w.history (tml_view (w.views n)) next_clock h in record {
                start = k.start;
                even = k.even;
                front = k.front;
                sees = k.sees;
                reads_inside = k.reads_inside;
                unstored = λ f. absurd cc;
                pending = k.pending;
                from = k.from;
              })
              (λ m d t. reader-later c.words w.clock (start + 1) w.history (tml_view (w.views m)) next_clock (r.runs.reader m t));
          writer = put-all (tml_projection w).views n (tml_view (next true)) (λ m k. k.tml.writer ≡ true → TmlWriter c.words y k)
              (λ t. record {
                inside = may.has.inside;
                odd = ap (λ k. k + 1) may.start;
                below = subst (λ (k : ℕ). Below w.history (k + 1)) now r.history.below;
                stored = λ a. (r.runs.free nobody).1 a ∙ ap (λ (k : List Cell). over k a (word_now w.history a)) (sym (h.unstored may.reads));
                stores_inside = subst (Inside c.words) (sym (h.unstored may.reads)) (λ a f. absurd cc);
                stores_small = λ a d l. subst (λ (k : List Cell). over k a d < 2 ^ 64) (sym (h.unstored may.reads)) l;
              })
              (λ m d t. absurd (nobody m t));
          one = λ i j p q. sole i p ∙ sym (sole j q);
        }),
      )
        where
          path : history_projection (at true) ≡ record (history_projection w) { clock = start + 1 }
          path = λ i. record { clock = start + 1; history = w.history; views = parts-kept (λ (u : View). u.history) w.views n (next true) refl i }

          y : TmlProjection
          y = record { clock = start + 1; heap = w.heap; history = w.history; views = put (tml_projection w).views n (tml_view (next true)) }

          now : w.clock ≡ (w.views n).attempt.start
          now = e refl ∙ may.start

          next_clock : w.clock < start + 1
          next_clock = let k = e refl in omega arith

          nobody : (m : ℕ) → (w.views m).tml.writer ≡ true → ⊥
          nobody = no-writer c.words n (tml_projection w) (ap (λ k. k % 2) now ∙ h.even) r.runs r.runs.reader

          here : (put (tml_projection w).views n (tml_view (next true)) n).tml.writer ≡ true
          here = grind arith

          sole : (i : ℕ) → (put (tml_projection w).views n (tml_view (next true)) i).tml.writer ≡ true → i ≡ n
          sole i p = grind (arith, p, nobody i)
      go false e = (
        history-kept good c w (at false) n (next false) refl refl refl refl r.history,
        subst LockRule (sym (lock_projection-kept w (at false) n (next false) refl refl refl refl)) r.lock,
        attempts-in w (at false) n (next false) refl may.has.runs.phase r.attempts,
        subst (TmlRule c.words) (sym (tml_projection-kept w (at false) n (next false) refl refl refl refl refl)) r.runs,
      )

  pub tml_stores : (a k : ℕ) → StepLaw (TmlWorld good c) (tml_store a k) Nothing n (CanTmlStore c.words a k)
  tml_stores a k w r may = record {
    rule = record {
      history = history-kept good c w x n v refl refl refl refl r.history;
      steps = steps-kept c (tml_store a k) n w refl refl refl r.steps;
      lock = subst LockRule (sym (lock_projection-kept w x n v refl refl refl refl)) r.lock;
      attempts = attempts-in w x n v refl may.has.runs.phase r.attempts;
      records = records-stay w x n v refl (le_refl w.clock) refl refl refl r.records;
      runs = subst (TmlRule c.words) (sym (tml_projection-put w x n v refl)) (record {
        free = λ none. absurd (none n here);
        reader = put-all (tml_projection w).views n (tml_view v) (λ m q. q.tml.inside ≡ true → TmlReader c.words w.clock w.history q)
            (λ t. record {
              start = h.start;
              even = h.even;
              front = h.front;
              sees = h.sees;
              reads_inside = h.reads_inside;
              unstored = λ f. absurd (let t = may.writes in cc);
              pending = h.pending;
              from = h.from;
            })
            (λ m d t. r.runs.reader m t);
        writer = put-all (tml_projection w).views n (tml_view v) (λ m q. q.tml.writer ≡ true → TmlWriter c.words y q)
            (λ t. record {
              inside = o.inside;
              odd = o.odd;
              below = o.below;
              stored = λ b. grind (arith, o.stored b);
              stores_inside = inside-more c.words (record { at = a; value = k }) (w.views n).attempt.stores may.inside o.stores_inside;
              stores_small = small-more (record { at = a; value = k }) (w.views n).attempt.stores may.small o.stores_small;
            })
            (λ m d t. absurd (d (r.runs.one m n t may.writes)));
        one = λ i j p q. r.runs.one i j (grind (arith, p)) (grind (arith, q));
      });
    };
    advances = advances-same w x refl (le_refl w.clock) (le_refl w.done) refl;
    shown = tt;
  }
    where
      x : World
      x = world_after (tml_store a k) n w

      v : View
      v = view_after (tml_store a k) w (w.views n) k

      h : TmlReader c.words w.clock w.history (tml_view (w.views n))
      h = r.runs.reader n may.has.inside

      o : TmlWriter c.words (tml_projection w) (tml_view (w.views n))
      o = r.runs.writer n may.writes

      y : TmlProjection
      y = record { clock = w.clock; heap = put w.heap a k; history = w.history; views = put (tml_projection w).views n (tml_view v) }

      here : (put (tml_projection w).views n (tml_view v) n).tml.writer ≡ true
      here = grind (arith, may.writes)

  -- the entry follows the history, leaves the heap as the memory after it and the clock even
  pub tml_commits : (t : ℕ) → n < c.callers → StepLaw (TmlWorld good c) (tml_commit n t) (Commits good c n t) n (CanTmlCommit good t)
  tml_commits t low w r may = record {
    rule = record {
      history = history-entry good c w x n e v refl refl refl refl refl later may.limit follows r.history;
      steps = steps-raised c (tml_commit n t) n w 1 low next refl refl r.steps;
      lock = subst LockRule (sym (lock_projection-kept w x n v refl refl refl refl)) r.lock;
      attempts = attempts-in w x n v refl may.has.runs.phase r.attempts;
      records = records-stay w x n v refl (let k = later in omega arith) refl refl refl r.records;
      runs = subst (TmlRule c.words) (sym (tml_projection-put w x n v refl)) (record {
        free = λ none. (even, λ a. o.stored a);
        reader = put-all (tml_projection w).views n (tml_view v) (λ m q. q.tml.inside ≡ true → TmlReader c.words t (e ∷ w.history) q)
            (λ q. absurd cc)
            (λ m d q. reader-entry c.words w.clock w.history e (tml_view (w.views m)) later (r.runs.reader m q));
        writer = put-all (tml_projection w).views n (tml_view v) (λ m q. q.tml.writer ≡ true → TmlWriter c.words y q)
            (λ q. absurd cc)
            (λ m d q. absurd (d (r.runs.one m n q may.writes)));
        one = λ i j p q. r.runs.one i j (grind (arith, p)) (grind (arith, q));
      });
    };
    advances = advances-entry w x e refl later (le_refl t) (le_refl w.done) refl;
    shown = record {
      legal = (follows, r.history.legal);
      below = (omega arith, subst (Below w.history) (let p = may.time in let q = o.odd in let z : w.clock + 1 ≡ t = omega arith in z) r.history.below);
      seen = (r.history.known n).seen ∙ (ap (upto w.history) h.front ∙ upto-all w.history ((w.views n).attempt.start + 1) (w.views n).attempt.start o.below (le_refl ((w.views n).attempt.start + 1)));
    };
  }
    where
      x : World
      x = world_after (tml_commit n t) n w

      v : View
      v = view_after (tml_commit n t) w (w.views n) t

      e : Entry
      e = cgl_entry n t (w.views n)

      h : TmlReader c.words w.clock w.history (tml_view (w.views n))
      h = r.runs.reader n may.has.inside

      o : TmlWriter c.words (tml_projection w) (tml_view (w.views n))
      o = r.runs.writer n may.writes

      y : TmlProjection
      y = record { clock = t; heap = w.heap; history = e ∷ w.history; views = put (tml_projection w).views n (tml_view v) }

      next : t ≡ w.clock + 1
      next = let p = may.time in let q = o.odd in omega arith

      later : w.clock < t
      later = let k = next in omega arith

      even : t % 2 ≡ 0
      even = let p = may.time in let q = h.even in omega arith

      sees : Explains (word_now w.history) (w.views n).attempt.reads
      sees a = subst (λ (k : ℕ). over (w.views n).attempt.reads a k ≡ k) (at_start w.history (w.views n).attempt.start a o.below) (h.sees a)

      follows : Follows good c (cgl_entry n t (w.views n)) w.history
      follows = record {
        caller = low;
        number = ap length (r.history.known n).made;
        later = let k = next in let o = r.history.opened in omega arith;
        reads = sees;
        reads_inside = h.reads_inside;
        writes_inside = o.stores_inside;
        writes_small = o.stores_small;
        writes_some = may.wrote;
        leaves = may.keeps (word_now w.history) (legal-good good c w.history r.history.legal) sees (λ a. legal-small good c w.history a r.history.legal);
      }
