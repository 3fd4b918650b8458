-- Each kind of step of a promoted attempt keeps its clauses, and the attempt of TML that is granted meets them.
use Rattle.std.proofs.Common.{◌≡◌, ◌≢◌, ℕ, ◌+◌, ◌<◌, ◌≤◌, List, ◌∷◌, Bool, true, false, eqb, arith, refl, sym, subst, ap, ◌∙◌, le_refl, le_trans, ◌*◌, inl, inr, ⊎_elim}
use Rattle.std.specs.Prelude.{◌^◌, ◌%◌, ◌⊎◌, length}
use Rattle.std.proofs.lemmas.Bool.{eqb-true, eqb-false}
use Rattle.stm_model.specs.declared.alg.Alg.{Alg}
use Rattle.stm_model.specs.declared.alg.Alg.TheVariants.{Cgl, Tml, OrecLazy, OrecEager, RingSw, Serial}
use Rattle.rule_base.specs.declared.entries.Cell.{Cell}
use Rattle.rule_base.specs.declared.entries.Entry.{Entry}
use Rattle.stm_model.specs.declared.config.Config.{Config}
use Rattle.rule_base.specs.declared.views.Ownership.{Ownership}
use Rattle.rule_base.specs.declared.views.View.{View}
use Rattle.rule_base.specs.History.{over, touches, without, word_now, Inside, Below, upto, Follows, last_write}
use Rattle.rule_base.specs.RunProjection.{run_view, run_projection}
use Rattle.rule_base.specs.Encodings.{free_record, is_owned}
use Rattle.rule_base.specs.StepKinds.{view_after, world_after, Nothing, StepLaw}
use Rattle.rule_base.specs.World.{World, put, parts}
use Rattle.rule_base.specs.Lemmas.HistoryLemmas.{touches-without, over-without, word_at-all, inside-more, small-more, below-more, upto-all, legal-good, legal-small}
use Rattle.rule_base.specs.Lemmas.HistoryRuleLemmas.{advances-same, advances-entry, history-kept, history-entry}
use Rattle.rule_base.specs.Lemmas.PutLemmas.{put-all, put-here, parts-put}
use Rattle.rule_base.specs.Lemmas.RecordLemmas.{records-stay, records-given}
use Rattle.rule_base.specs.Ranks.{rec_of, rank_one, home_of}
use Rattle.rule_base.specs.Lemmas.StepsLemmas.{steps-kept, steps-raised}
use Rattle.rule_seq.specs.AttemptLemmas.{attempts-stay, attempts-in}
use Rattle.rule_seq.specs.LockRule.{LockRule}
use Rattle.rule_seq.specs.LockLemmas.{lock_projection-kept}
use Rattle.rule_seq.specs.CglLaws.{logged_sees, logged_inside, loads_of}
use Rattle.rule_seq.specs.CglSteps.{Loads, cgl_entry, Commits}
use Rattle.rule_promoted.specs.PromotedRule.{direct_view, direct_projection, DirectRule, Suits, DirectRuns, DirectWorld, suit_view, SuitProjection, suit_projection, OrecSuits}
use Rattle.stm_model.specs.Algorithms.{entry_rise}
use Rattle.rule_ring.specs.RingPromoted.{RingKeeps, keeps-put}
use Rattle.rule_promoted.specs.PromotedSteps.{direct_load, CanDirectLoad, direct_store, CanDirectStore, direct_commit, CanDirectCommit, direct_release, CanDirectRelease}
use Rattle.rule_seq.specs.TmlRule.{tml_projection, TmlRule, TmlReader}

-- the own view after a step of the attempt, and after one of another
pub direct_projection-own : (w x : World) (n : ℕ) (v : View) → x.views ≡ put w.views n v → direct_projection n x ≡ record { clock = x.clock; heap = x.heap; history = x.history; own = direct_view v }
direct_projection-own w x n v is = λ i. record { clock = x.clock; heap = x.heap; history = x.history; own = ap direct_view (ap (λ (f : ℕ → View). f n) is ∙ put-here w.views n v) i }

pub suit_projection-own : (w x : World) (n : ℕ) (v : View) → x.views ≡ put w.views n v → suit_projection n x ≡ record { clock = x.clock; base = x.base; records = x.records; history = x.history; own = suit_view v }
suit_projection-own w x n v is = λ i. record { clock = x.clock; base = x.base; records = x.records; history = x.history; own = ap suit_view (ap (λ (f : ℕ → View). f n) is ∙ put-here w.views n v) i }

-- what a step of the attempt leaves alone
pub record Alike (s t : SuitProjection) : Type 0 where
  pub tml : t.own.tml.writer ≡ s.own.tml.writer
  -- the stamps, but after the entry
  pub base : s.base ≤ t.base
  pub stamps : t.own.attempt.entered ≡ false → (t.history ≡ s.history) × (t.records ≡ s.records) × (t.own.owned ≡ s.own.owned) × (s.own.attempt.entered ≡ false)
  -- the clock doesn't fall, and rises with the entry
  pub clock : s.clock ≤ t.clock
  pub entered : t.own.attempt.entered ≡ true → (s.own.attempt.entered ≡ true) ⊎ (s.clock < t.clock)
  -- what it holds it held, with that old version, and the word is the same
  pub held : (r : ℕ) → touches t.own.owned.held r ≡ true → (touches s.own.owned.held r ≡ true) × (over t.own.owned.held r 0 ≡ over s.own.owned.held r 0) × (t.records r ≡ s.records r)
  pub raised : t.own.owned.raised ≡ s.own.owned.raised
  pub committed : t.own.owned.committed ≡ s.own.owned.committed

orec-alike : (home : ℕ → ℕ) (s t : SuitProjection) → Alike s t → OrecSuits home s → OrecSuits home t
orec-alike home s t l k = record {
  stamped = λ e a b. go (l.stamps e) a b;
  uncommitted = l.committed ∙ k.uncommitted;
  olds = λ r h. let p = l.held r h in let same = p.1 in let old = k.olds r p.0 in let up = l.clock in omega arith;
  older = λ e r h. let p = l.held r h in let same = p.1 in ⊎_elim (λ was. let old = k.older was r p.0 in let up = l.clock in omega arith) (λ up. let old = k.olds r p.0 in omega arith) (l.entered e);
  raised = λ e r h. let p = l.held r h in let same = p.1 in let old = k.raised (sym l.raised ∙ e) r p.0 in let up = l.clock in omega arith;
  locked = λ r h. let p = l.held r h in ap is_owned p.2 ∙ k.locked r p.0;
}
  where
    go : (t.history ≡ s.history) × (t.records ≡ s.records) × (t.own.owned ≡ s.own.owned) × (s.own.attempt.entered ≡ false) → (a : ℕ)
        → t.base < last_write t.history a → 2 * last_write t.history a ≤ rank_one t.own.owned (home a) (rec_of (t.records (home a)))
    go q a b = let was : s.base < last_write s.history a = let o = l.base in let same : last_write t.history a ≡ last_write s.history a = ap (λ (h : List Entry). last_write h a) q.0 in omega arith in
        subst (λ (h : List Entry). 2 * last_write h a ≤ rank_one t.own.owned (home a) (rec_of (t.records (home a)))) (sym q.0)
        (subst (λ (f : ℕ → ℕ). 2 * last_write s.history a ≤ rank_one t.own.owned (home a) (rec_of (f (home a)))) (sym q.1)
        (subst (λ (o : Ownership). 2 * last_write s.history a ≤ rank_one o (home a) (rec_of (s.records (home a)))) (sym q.2) (k.stamped q.3 a was)))

-- a number of the clock that suits
pub suits-later : (home : ℕ → ℕ) (alg : Alg) (s t : SuitProjection) → t.clock % 2 ≡ s.clock % 2 → Alike s t → Suits home alg s → Suits home alg t
suits-later home Cgl s t clock l k = k
suits-later home Tml s t clock l k = record { even = clock ∙ k.even; unwritten = l.tml ∙ k.unwritten }
suits-later home OrecLazy s t clock l k = orec-alike home s t l k
suits-later home OrecEager s t clock l k = orec-alike home s t l k
suits-later home RingSw s t clock l k = k
suits-later home Serial s t clock l k = k

two_more : (k : ℕ) → (k + 2) % 2 ≡ k % 2
two_more k = omega arith

-- the commit's time suits the algorithm
pub suits-ticked : (home : ℕ → ℕ) (alg : Alg) (s t : SuitProjection) → t.clock ≡ s.clock + entry_rise alg → Alike s t → Suits home alg s → Suits home alg t
suits-ticked home Cgl s t clock l k = k
suits-ticked home Tml s t clock l k = suits-later home Tml s t (ap (λ k. k % 2) clock ∙ two_more s.clock) l k
suits-ticked home OrecLazy s t clock l k = orec-alike home s t l k
suits-ticked home OrecEager s t clock l k = orec-alike home s t l k
suits-ticked home RingSw s t clock l k = k
suits-ticked home Serial s t clock l k = k

pub entry_rise-some : (alg : Alg) → 0 < entry_rise alg
entry_rise-some Cgl = omega arith
entry_rise-some Tml = omega arith
entry_rise-some OrecLazy = omega arith
entry_rise-some OrecEager = omega arith
entry_rise-some RingSw = omega arith
entry_rise-some Serial = omega arith

-- THE GRANT UNDER TML: a reader whose start is the clock, alone, meets the clauses of a promoted attempt
pub tml-granted : (c : Config) (n : ℕ) (w : World) → TmlRule c.words (tml_projection w) → Below w.history (w.clock + 1)
    → (w.views n).tml.inside ≡ true → (w.views n).tml.writer ≡ false → (w.views n).lock.taken ≡ false
    → ((m : ℕ) → m ≢ n → (w.views m).tml.writer ≡ true → ⊥) → w.clock ≡ (w.views n).attempt.start
    → DirectRuns c Tml n (run_projection w)
tml-granted c n w r below inside reads unlocked others now = record {
  direct = record {
    stored = λ a. (r.free nobody).1 a ∙ ap (λ (k : List Cell). over k a (word_now w.history a)) (sym (h.unstored reads));
    start = sym now;
    front = h.front ∙ sym now;
    sees = λ a. subst (λ (k : ℕ). over (w.views n).attempt.reads a k ≡ k) (word_at-all w.history (w.clock + 1) (w.views n).attempt.start a below (let e = now in omega arith)) (h.sees a);
    reads_inside = h.reads_inside;
    stores_inside = subst (Inside c.words) (sym (h.unstored reads)) (λ a f. absurd cc);
    stores_small = λ a d l. subst (λ (k : List Cell). over k a d < 2 ^ 64) (sym (h.unstored reads)) l;
    unlocked = unlocked;
  };
  suits = record { even = (r.free nobody).0; unwritten = reads };
  ring = λ e. absurd cc;
}
  where
    h : TmlReader c.words w.clock w.history ((tml_projection w).views n)
    h = r.reader n inside

    nobody : (m : ℕ) → (w.views m).tml.writer ≡ true → ⊥
    nobody m t = by (eqb m n) refl
      where
        by : (b : Bool) → eqb m n ≡ b → ⊥
        by true e = let p : (w.views n).tml.writer ≡ true = subst (λ (k : ℕ). (w.views k).tml.writer ≡ true) (eqb-true m n e) t in let f : true ≡ false = sym p ∙ reads in cc
        by false e = others m (eqb-false m n e) t

-- the projection of what runs after a step of the attempt
projection_put : (w x : World) (n : ℕ) (v : View) → x.views ≡ put w.views n v → x.clock ≡ w.clock → x.lock ≡ w.lock → x.base ≡ w.base
    → x.done ≡ w.done → x.records ≡ w.records → x.slots ≡ w.slots → x.history ≡ w.history → x.heap ≡ x.heap
    → run_projection x ≡ record (run_projection w) { heap = x.heap; views = put (run_projection w).views n (run_view v) }
projection_put w x n v is clock lock base done records slots history heap = λ i. record {
  clock = clock i;
  lock = lock i;
  base = base i;
  done = done i;
  records = records i;
  slots = slots i;
  heap = x.heap;
  history = history i;
  views = (ap (parts run_view) is ∙ parts-put run_view w.views n v) i;
}

module _ (good : (ℕ → ℕ) → Type 0) (c : Config) (alg : Alg) (n : ℕ) where
  seen_all : (w : World) → DirectWorld good c alg n w → (w.views n).history.seen ≡ w.history
  seen_all w r = (r.history.known n).seen ∙ ap (upto w.history) r.runs.direct.front ∙ upto-all w.history (w.clock + 1) w.clock r.history.below (le_refl (w.clock + 1))

  pub direct_loads : (a : ℕ) → StepLaw (DirectWorld good c alg n) (direct_load a) (Loads good c a) n (CanDirectLoad c.words a)
  direct_loads a w r may = record {
    rule = record {
      history = history-kept good c w x n v refl refl refl refl r.history;
      steps = steps-kept c (direct_load a) n w refl refl refl r.steps;
      lock = subst LockRule (sym (lock_projection-kept w x n v refl refl refl refl)) r.lock;
      attempts = attempts-stay w x n v refl refl refl refl r.attempts;
      records = records-stay w x n v refl (le_refl w.clock) refl refl refl r.records;
      runs = record {
        direct = subst (DirectRule c.words) (sym (direct_projection-own w x n v refl)) (record {
          stored = d.stored;
          start = d.start;
          front = d.front;
          sees = logged_sees (word_now w.history) (w.views n).attempt a (w.heap a) (d.stored a) d.sees;
          reads_inside = logged_inside c.words (w.views n).attempt a (w.heap a) may.inside d.reads_inside;
          stores_inside = d.stores_inside;
          stores_small = d.stores_small;
          unlocked = d.unlocked;
        });
        suits =
            subst (Suits (home_of c) alg) (sym (suit_projection-own w x n v refl))
            (suits-later (home_of c) alg (suit_projection n w) (record (suit_projection n w) { own = suit_view v }) refl
            (record {
              tml = refl;
              base = le_refl w.base;
              stamps = λ e. (refl, refl, refl, e);
              clock = le_refl w.clock;
              entered = λ e. inl e;
              held = λ r t. (t, refl, refl);
              raised = refl;
              committed = refl;
            }) r.runs.suits);
        ring = λ e. subst (RingKeeps c.ring n) (sym (projection_put w x n v refl refl refl refl refl refl refl refl refl)) (keeps-put c.ring n n (run_projection w) w.heap (run_view v) refl (λ d. absurd (d refl)) (r.runs.ring e));
      };
    };
    advances = advances-same w x refl (le_refl w.clock) (le_refl w.done) refl;
    shown = loads_of good c n a w (w.views n) (w.heap a) (seen_all w r) d.start r.history (d.stored a) (d.stores_small a (word_now w.history a) (legal-small good c w.history a r.history.legal)) d.sees;
  }
    where
      x : World
      x = world_after (direct_load a) n w

      v : View
      v = view_after (direct_load a) w (w.views n) (w.heap a)

      d : DirectRule c.words (direct_projection n w)
      d = r.runs.direct

  pub direct_stores : (a k : ℕ) → StepLaw (DirectWorld good c alg n) (direct_store a k) Nothing n (CanDirectStore c.words a k)
  direct_stores a k w r may = record {
    rule = record {
      history = history-kept good c w x n v refl refl refl refl r.history;
      steps = steps-kept c (direct_store a k) n w refl refl refl r.steps;
      lock = subst LockRule (sym (lock_projection-kept w x n v refl refl refl refl)) r.lock;
      attempts = attempts-stay w x n v refl refl refl refl r.attempts;
      records = records-stay w x n v refl (le_refl w.clock) refl refl refl r.records;
      runs = record {
        direct = subst (DirectRule c.words) (sym (direct_projection-own w x n v refl)) (record {
          stored = λ b. grind (arith, d.stored b);
          start = d.start;
          front = d.front;
          sees = d.sees;
          reads_inside = d.reads_inside;
          stores_inside = inside-more c.words (record { at = a; value = k }) (w.views n).attempt.stores may.inside d.stores_inside;
          stores_small = small-more (record { at = a; value = k }) (w.views n).attempt.stores may.small d.stores_small;
          unlocked = d.unlocked;
        });
        suits =
            subst (Suits (home_of c) alg) (sym (suit_projection-own w x n v refl))
            (suits-later (home_of c) alg (suit_projection n w) (record (suit_projection n w) { own = suit_view v }) refl
            (record {
              tml = refl;
              base = le_refl w.base;
              stamps = λ e. (refl, refl, refl, e);
              clock = le_refl w.clock;
              entered = λ e. inl e;
              held = λ r t. (t, refl, refl);
              raised = refl;
              committed = refl;
            }) r.runs.suits);
        ring = λ e. subst (RingKeeps c.ring n) (sym (projection_put w x n v refl refl refl refl refl refl refl refl refl)) (keeps-put c.ring n n (run_projection w) (put w.heap a k) (run_view v) refl (λ d. absurd (d refl)) (r.runs.ring e));
      };
    };
    advances = advances-same w x refl (le_refl w.clock) (le_refl w.done) refl;
    shown = tt;
  }
    where
      x : World
      x = world_after (direct_store a k) n w

      v : View
      v = view_after (direct_store a k) w (w.views n) k

      d : DirectRule c.words (direct_projection n w)
      d = r.runs.direct

  -- the entry follows the history, and leaves the heap as the memory after it
  pub direct_commits : (t : ℕ) → n < c.callers → StepLaw (DirectWorld good c alg n) (direct_commit n alg t) (Commits good c n t) n (CanDirectCommit good alg t)
  direct_commits t low w r may = record {
    rule = record {
      history = history-entry good c w x n e v refl refl refl refl refl later may.limit follows r.history;
      steps = steps-raised c (direct_commit n alg t) n w (entry_rise alg) low next refl refl r.steps;
      lock = subst LockRule (sym (lock_projection-kept w x n v refl refl refl refl)) r.lock;
      attempts = attempts-in w x n v refl may.phase r.attempts;
      records = records-stay w x n v refl (let k = later in omega arith) refl refl refl r.records;
      runs = record {
        direct = subst (DirectRule c.words) (sym (direct_projection-own w x n v refl)) (record {
          stored = d.stored;
          start = refl;
          front = refl;
          sees = λ a. refl;
          reads_inside = λ a f. absurd cc;
          stores_inside = λ a f. absurd cc;
          stores_small = λ a d l. l;
          unlocked = d.unlocked;
        });
        suits =
            subst (Suits (home_of c) alg) (sym (suit_projection-own w x n v refl))
            (suits-ticked (home_of c) alg (suit_projection n w)
            (record { clock = t; base = w.base; records = w.records; history = e ∷ w.history; own = suit_view v }) next
            (record {
              tml = refl;
              base = le_refl w.base;
              stamps = λ f. absurd cc;
              clock = (let k = later in omega arith);
              entered = λ f. inr later;
              held = λ r t. (t, refl, refl);
              raised = refl;
              committed = refl;
            }) r.runs.suits);
        ring = λ q. let o = r.runs.ring q in record {
          base = le_trans o.base (let k = later in omega arith);
          done = le_trans o.done (let k = later in omega arith);
          fresh = put-all w.views n v (λ m u. m ≢ n → u.history.front ≤ w.done) (λ d. absurd (d refl)) (λ m d. o.fresh m);
          level = λ f. absurd (marked f);
          slots = λ f. absurd (marked f);
        };
      };
    };
    advances = advances-entry w x e refl later (le_refl t) (le_refl w.done) refl;
    shown = record {
      legal = (follows, r.history.legal);
      below = (omega arith, below);
      seen = seen_all w r;
    };
  }
    where
      x : World
      x = world_after (direct_commit n alg t) n w

      v : View
      v = view_after (direct_commit n alg t) w (w.views n) t

      e : Entry
      e = cgl_entry n t (w.views n)

      d : DirectRule c.words (direct_projection n w)
      d = r.runs.direct

      marked : (put w.views n v n).attempt.entered ≡ false → ⊥
      marked f = let q : true ≡ false = sym (ap (λ (u : View). u.attempt.entered) (put-here w.views n v)) ∙ f in cc

      next : t ≡ w.clock + entry_rise alg
      next = may.time ∙ ap (λ k. k + entry_rise alg) d.start

      later : w.clock < t
      later = let k = next in let s = entry_rise-some alg in omega arith

      below : Below w.history t
      below = below-more w.history (w.clock + 1) t r.history.below (let l = later in omega arith)

      follows : Follows good c (cgl_entry n t (w.views n)) w.history
      follows = record {
        caller = low;
        number = ap length (r.history.known n).made;
        later = let k = later in let o = r.history.opened in omega arith;
        reads = d.sees;
        reads_inside = d.reads_inside;
        writes_inside = d.stores_inside;
        writes_small = d.stores_small;
        writes_some = may.wrote;
        leaves = may.keeps (word_now w.history) (legal-good good c w.history r.history.legal) d.sees (λ a. legal-small good c w.history a r.history.legal);
      }

  -- THE STORE OF A RECORD with the entry's time
  pub direct_releases : (q t : ℕ) → StepLaw (DirectWorld good c alg n) (direct_release q t) Nothing n (CanDirectRelease q t)
  direct_releases q t w r may = record {
    rule = record {
      history = history-kept good c w x n v refl refl refl refl r.history;
      steps = steps-kept c (direct_release q t) n w refl refl refl r.steps;
      lock = subst LockRule (sym (lock_projection-kept w x n v refl refl refl refl)) r.lock;
      attempts = attempts-stay w x n v refl refl refl refl r.attempts;
      records = records-given w x n q t v refl refl refl refl refl (subst (λ (k : ℕ). t ≤ k) d.start (subst (λ (k : ℕ). t ≤ k) may.time (le_refl t))) r.records;
      runs = record {
        direct =
            subst (DirectRule c.words) (sym (direct_projection-own w x n v refl))
            (record {
              stored = d.stored;
              start = d.start;
              front = d.front;
              sees = d.sees;
              reads_inside = d.reads_inside;
              stores_inside = d.stores_inside;
              stores_small = d.stores_small;
              unlocked = d.unlocked;
            });
        suits =
            subst (Suits (home_of c) alg) (sym (suit_projection-own w x n v refl))
            (suits-later (home_of c) alg (suit_projection n w)
            (record { clock = w.clock; base = w.base; records = put w.records q (free_record t); history = w.history; own = suit_view v })
            refl (record {
              tml = refl;
              base = le_refl w.base;
              stamps = λ f. absurd (let k : true ≡ false = sym may.entered ∙ f in cc);
              clock = le_refl w.clock;
              entered = λ f. inl may.entered;
              held = less;
              raised = refl;
              committed = refl;
            }) r.runs.suits);
        ring = λ e. let o = r.runs.ring e in record {
          base = o.base;
          done = o.done;
          fresh = put-all w.views n v (λ m u. m ≢ n → u.history.front ≤ w.done) (λ d. absurd (d refl)) (λ m d. o.fresh m);
          level = λ f. absurd (marked f);
          slots = λ f. absurd (marked f);
        };
      };
    };
    advances = advances-same w x refl (le_refl w.clock) (le_refl w.done) refl;
    shown = tt;
  }
    where
      x : World
      x = world_after (direct_release q t) n w

      v : View
      v = view_after (direct_release q t) w (w.views n) (free_record t)

      marked : (put w.views n v n).attempt.entered ≡ false → ⊥
      marked f = let k : true ≡ false = sym (ap (λ (u : View). u.attempt.entered) (put-here w.views n v) ∙ may.entered) ∙ f in cc

      d : DirectRule c.words (direct_projection n w)
      d = r.runs.direct

      -- what is held still was held, and its word is the same
      less : (r : ℕ) → touches (without (w.views n).owned.held q) r ≡ true
          → (touches (w.views n).owned.held r ≡ true) × (over (without (w.views n).owned.held q) r 0 ≡ over (w.views n).owned.held r 0)
          × (put w.records q (free_record t) r ≡ w.records r)
      less r h = (
        grind (arith, h, touches-without (w.views n).owned.held q r),
        grind (arith, h, touches-without (w.views n).owned.held q r, over-without (w.views n).owned.held q r 0),
        grind (arith, h, touches-without (w.views n).owned.held q r),
      )
