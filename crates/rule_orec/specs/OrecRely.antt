-- How the clauses of one caller outlast the steps of another: what no step undoes, and what each leaves to the others.
use Rattle.std.proofs.Common.{◌≡◌, ℕ, ◌+◌, ◌*◌, ◌<◌, ◌≤◌, Bool, arith, true, false, refl}
use Rattle.rule_base.specs.declared.views.Attempt.{Attempt}
use Rattle.rule_base.specs.declared.views.Ownership.{Ownership}
use Rattle.rule_base.specs.declared.views.Sample.{Sample}
use Rattle.rule_base.specs.declared.views.Validation.{Validation}
use Rattle.rule_base.specs.History.{over, touches, word_at, word_now, last_write, Below}
use Rattle.rule_base.specs.Lemmas.HistoryLemmas.{over-miss, last_write-most}
use Rattle.rule_base.specs.Lemmas.PutLemmas.{put-all}
use Rattle.rule_base.specs.Ranks.{Rec, rank_in}
use Rattle.rule_base.specs.Ranks.Rec.{Free, Taken}
use Rattle.rule_base.specs.World.{put}
use Rattle.rule_orec.specs.OrecRule.{OrecView, OrecProjection, rank, rank_of, stamp, stamp_of, OwnReads, OwnOwned, OwnSample, OwnCheck, Own, OrecRule}

-- what no step undoes: the clock and the ranks never fall, and the memory at a time that is past stands
pub record Grows (w x : OrecProjection) : Type 0 where
  pub clock : w.clock ≤ x.clock
  pub base : x.base ≡ w.base
  pub old : (s a : ℕ) → s ≤ w.clock → word_at x.history s a ≡ word_at w.history s a
  pub rank : (r : ℕ) → rank w r ≤ rank x r

-- what a step of another leaves to who owns records
pub record Spares (home : ℕ → ℕ) (w x : OrecProjection) (n : ℕ) : Type 0 where
  pub records : (r : ℕ) → w.records r ≡ Taken n → x.records r ≡ Taken n
  pub now : (a : ℕ) → w.records (home a) ≡ Taken n → word_now x.history a ≡ word_now w.history a
  pub last : (a : ℕ) → w.records (home a) ≡ Taken n → last_write x.history a ≡ last_write w.history a

-- the stamp is half the rank
half : (vs : ℕ → OrecView) (r : ℕ) (k : Rec) → (2 * stamp_of vs r k ≤ rank_of vs r k) × (rank_of vs r k ≤ 2 * stamp_of vs r k + 1)
half vs r (Free v) = grind arith
half vs r (Taken n) = grind arith

-- THE STAMP NEVER FALLS, where the rank doesn't
pub stamp-grows : (w x : OrecProjection) (r : ℕ) → rank w r ≤ rank x r → stamp w r ≤ stamp x r
stamp-grows w x r l = grind (arith, l, half w.views r (w.records r), half x.views r (x.records r))

module _ (home : ℕ → ℕ) (words : ℕ) where
  reads-stable : (w x : OrecProjection) (v : Attempt) → Grows w x → OwnReads words w v → OwnReads words x v
  reads-stable w x v y o = record {
    start = grind (arith, y.clock, o.start);
    based = grind (arith, y.base, o.based);
    sees = λ a. grind (arith, y.old v.start a o.start, o.sees a);
    reads_inside = o.reads_inside;
  }

  owned-stable : (w x : OrecProjection) (n s : ℕ) (v : Ownership) → Grows w x → Spares home w x n → OwnOwned home w n s v → OwnOwned home x n s v
  owned-stable w x n s v y z o = record {
    held = λ r h. z.records r (o.held r h);
    olds = λ r h. grind (arith, y.clock, o.olds r h);
    vouched = λ a d h b. grind (arith, y.base, b, z.last a (o.held (home a) h), o.vouched a d h);
    eagerly = o.eagerly;
    timed = λ d. grind (arith, y.clock, o.timed d);
    in_place = o.in_place;
    place_eager = o.place_eager;
    place_open = o.place_open;
    place_undo = o.place_undo;
    back = o.back;
    back_done = o.back_done;
    backs = λ a. grind (arith, o.backs a, over-miss v.back a, o.back a, o.held (home a), z.now a);
    undo = o.undo;
    undone = λ a. grind (arith, o.undone a, over-miss v.undo a, o.undo a, o.held (home a), z.now a);
    raised = λ r d h. grind (arith, y.clock, o.raised r d h);
  }

  sample-stable : (w x : OrecProjection) (s : ℕ) (v : Sample) → Grows w x → s ≤ w.clock → OwnSample home w s v → OwnSample home x s v
  sample-stable w x s v y b o = record {
    sampled = λ d. grind (arith, y.rank (home v.from), o.sampled d);
    sample_old = λ d. grind (arith, y.clock, o.sample_old d);
    loaded = λ d l. grind (arith, y.rank (home v.from), o.loaded d, y.old s v.from b);
  }

  check-stable : (w x : OrecProjection) (t : Attempt) (v : Validation) → Grows w x → OwnCheck w t v → OwnCheck x t v
  check-stable w x t v y o = record {
    upto = λ d. grind (arith, y.clock, o.upto d);
    onward = o.onward;
    checked = λ a d t. grind (arith, y.old v.upto a (o.upto d), o.checked a d t);
  }

  -- STABLE: what stands of one caller outlasts a step of another
  pub stable : (w x : OrecProjection) (n : ℕ) (v : OrecView) → Grows w x → Spares home w x n → Own home words w n v → Own home words x n v
  stable w x n v y z o = record {
    attempt = reads-stable w x v.attempt y o.attempt;
    front = o.front;
    owned = owned-stable w x n v.attempt.start v.owned y z o.owned;
    sample = sample-stable w x v.attempt.start v.sample y o.attempt.start o.sample;
    check = check-stable w x v.attempt v.check y o.check;
  }

  -- the clauses with those of the records that stand under every algorithm, and that no entry is later than the clock
  pub record Words (s : OrecProjection) : Type 0 where
    pub below : Below s.history (s.clock + 1)
    pub based : s.base ≤ s.clock
    pub free : (r v : ℕ) → s.records r ≡ Free v → v ≤ s.clock
    pub owned : (r n : ℕ) → s.records r ≡ Taken n → touches (s.views n).owned.held r ≡ true
    pub shut : (n : ℕ) → (s.views n).owned.inside ≡ false → (r : ℕ) → touches (s.views n).owned.held r ≡ false
    pub stamped : (a : ℕ) → s.base < last_write s.history a → 2 * last_write s.history a ≤ rank s (home a)
    pub clean : (a v : ℕ) → s.records (home a) ≡ Free v → s.heap a ≡ word_now s.history a
    pub mixed : (a n : ℕ) → s.records (home a) ≡ Taken n → touches (s.views n).owned.back a ≡ false → s.heap a ≡ over (s.views n).owned.in_place a (word_now s.history a)

  pub record Full (s : OrecProjection) : Type 0 where
    pub whole : Words s
    pub own : (n : ℕ) → (s.views n).owned.inside ≡ true → Own home words s n (s.views n)

  -- after a step: the clauses, and no rank fell
  abbrev pub Next : OrecProjection → OrecProjection → Type 0
  Next w x = Full x × ((r : ℕ) → rank w r ≤ rank x r)

  pub rule_of : (s : OrecProjection) → Full s → OrecRule home words s
  rule_of s g = record { based = g.whole.based; shut = g.whole.shut; stamped = g.whole.stamped; clean = g.whole.clean; mixed = g.whole.mixed; own = g.own }

  pub full_of : (s : OrecProjection) → Below s.history (s.clock + 1) → ((r v : ℕ) → s.records r ≡ Free v → v ≤ s.clock)
      → ((r n : ℕ) → s.records r ≡ Taken n → touches (s.views n).owned.held r ≡ true) → OrecRule home words s → Full s
  full_of s below free owned g = record { whole = record { below = below; based = g.based; free = free; owned = owned; shut = g.shut; stamped = g.stamped; clean = g.clean; mixed = g.mixed }; own = g.own }

  -- who owns a record is in an attempt
  pub owner-in : (s : OrecProjection) → Words s → (r n : ℕ) → s.records r ≡ Taken n → (s.views n).owned.inside ≡ true
  owner-in s g r n is = go (s.views n).owned.inside refl
    where
      go : (b : Bool) → (s.views n).owned.inside ≡ b → b ≡ true
      go true e = refl
      go false e = absurd (grind (arith, g.owned r n is, g.shut n e r))

  -- w with another view of n
  abbrev pub with_view : OrecProjection → ℕ → OrecView → OrecProjection
  with_view w n v = record w { views = put w.views n v }

  rank-same : (vs : ℕ → OrecView) (n r : ℕ) (v : OrecView) (k : Rec) → v.owned ≡ (vs n).owned → rank_of (put vs n v) r k ≡ rank_of vs r k
  rank-same vs n r v (Free x) l = refl
  rank-same vs n r v (Taken m) l = marks vs n r m v l
    where
      marks : (vs : ℕ → OrecView) (n r m : ℕ) (v : OrecView) → v.owned ≡ (vs n).owned → rank_in (put vs n v m).owned r ≡ rank_in (vs m).owned r
      marks vs n r m v l = grind (arith, l)

  -- QUIET: a step that changes what n has read or knows, and nothing that it owns or owes
  pub quiet : (w : OrecProjection) (n : ℕ) (v : OrecView) → v.owned ≡ (w.views n).owned → (v.owned.inside ≡ true → Own home words w n v) → Full w → Next w (with_view w n v)
  quiet w n v l o g = (
    record {
      whole = record {
        below = g.whole.below;
        based = g.whole.based;
        free = g.whole.free;
        owned = λ r m h. grind (arith, g.whole.owned r m h, l);
        shut = put-all w.views n v (λ m u. u.owned.inside ≡ false → (r : ℕ) → touches u.owned.held r ≡ false) (λ e r. grind (arith, l, g.whole.shut n, e, r)) (λ m d. g.whole.shut m);
        stamped = λ a b. grind (arith, rank-same w.views n (home a) v (w.records (home a)) l, g.whole.stamped a b);
        clean = g.whole.clean;
        mixed = λ a m h b. grind (arith, g.whole.mixed a m h, l);
      };
      own =
          put-all w.views n v (λ m u. u.owned.inside ≡ true → Own home words (with_view w n v) m u)
          (λ i. stable w (with_view w n v) n v grows (spares n) (o i)) (λ m d i.
          stable w (with_view w n v) m (w.views m) grows (spares m) (g.own m i));
    },
    grows.rank,
  )
    where
      grows : Grows w (with_view w n v)
      grows = record { clock = grind arith; base = refl; old = λ s a h. refl; rank = λ r. grind (arith, rank-same w.views n r v (w.records r) l) }

      spares : (m : ℕ) → Spares home w (with_view w n v) m
      spares m = record { records = λ r h. h; now = λ a h. refl; last = λ a h. refl }

  -- y with this in the place of what n owns in w
  abbrev pub seated : OrecProjection → OrecProjection → ℕ → Ownership → OrecProjection
  seated w y n h = record y { views = put w.views n (record (w.views n) { owned = h }) }

  -- BY PARTS: a step of n, in an attempt, that changes what it owns and a word: the words, what grows, what n owns,
  -- and what is left to the others
  pub by_parts : (w y : OrecProjection) (n : ℕ) (h : Ownership) (front : ℕ) → Full w → (w.views n).owned.inside ≡ true → h.inside ≡ true → (h.committed ≡ false → front ≡ (w.views n).attempt.start)
      → Words (record y { views = put w.views n (record (w.views n) { owned = h; front = front }) }) → Grows w (record y { views = put w.views n (record (w.views n) { owned = h; front = front }) })
      → OwnOwned home (record y { views = put w.views n (record (w.views n) { owned = h; front = front }) }) n (w.views n).attempt.start h
      → ((m : ℕ) → (m ≡ n → ⊥) → Spares home w (record y { views = put w.views n (record (w.views n) { owned = h; front = front }) }) m)
      → Next w (record y { views = put w.views n (record (w.views n) { owned = h; front = front }) })
  by_parts w y n h front g i j seen whole grows mine spares = (
    record {
      whole = whole;
      own = put-all w.views n (record (w.views n) { owned = h; front = front }) (λ m u. u.owned.inside ≡ true → Own home words x m u)
          (λ q. record {
            attempt = reads-stable w x (w.views n).attempt grows (g.own n i).attempt;
            front = seen;
            owned = mine;
            sample = sample-stable w x (w.views n).attempt.start (w.views n).sample grows (g.own n i).attempt.start (g.own n i).sample;
            check = check-stable w x (w.views n).attempt (w.views n).check grows (g.own n i).check;
          })
          (λ m d q. stable w x m (w.views m) grows (spares m d) (g.own m q));
    },
    grows.rank,
  )
    where
      x : OrecProjection
      x = record y { views = put w.views n (record (w.views n) { owned = h; front = front }) }

  rank-fresh : (vs : ℕ → OrecView) (n r : ℕ) (v : OrecView) (k : Rec) → (k ≡ Taken n → ⊥) → rank_of (put vs n v) r k ≡ rank_of vs r k
  rank-fresh vs n r v (Free x) l = refl
  rank-fresh vs n r v (Taken m) l = grind (arith, l)

  -- FRESH: n, whose is no record, owns nothing afterwards: it begins, or is outside
  pub fresh : (w : OrecProjection) (n : ℕ) (v : OrecView) → ((r : ℕ) → w.records r ≡ Taken n → ⊥)
      → ((r : ℕ) → touches v.owned.held r ≡ false) → (v.owned.inside ≡ true → Own home words w n v) → OrecRule home words w
      → OrecRule home words (with_view w n v) × ((r : ℕ) → rank w r ≤ rank (with_view w n v) r)
  fresh w n v apart none o g = (
    record {
      based = g.based;
      shut = put-all w.views n v (λ m u. u.owned.inside ≡ false → (r : ℕ) → touches u.owned.held r ≡ false) (λ e. none) (λ m d. g.shut m);
      stamped = λ a b. grind (arith, rank-fresh w.views n (home a) v (w.records (home a)) (apart (home a)), g.stamped a b);
      clean = g.clean;
      mixed = λ a m h b. grind (arith, b, g.mixed a m h, h, apart (home a));
      own =
          put-all w.views n v (λ m u. u.owned.inside ≡ true → Own home words (with_view w n v) m u)
          (λ i. stable w (with_view w n v) n v grows (spares n) (o i)) (λ m d i.
          stable w (with_view w n v) m (w.views m) grows (spares m) (g.own m i));
    },
    grows.rank,
  )
    where
      grows : Grows w (with_view w n v)
      grows = record { clock = grind arith; base = refl; old = λ s a h. refl; rank = λ r. grind (arith, rank-fresh w.views n r v (w.records r) (apart r)) }

      spares : (m : ℕ) → Spares home w (with_view w n v) m
      spares m = record { records = λ r h. h; now = λ a h. refl; last = λ a h. refl }

-- FROM REST: nobody is in an attempt, each record is free, the memory lies in the heap, and no entry is later than BASE
pub orec-from-rest : (home : ℕ → ℕ) (words : ℕ) (s : OrecProjection) → ((n : ℕ) → (s.views n).owned.inside ≡ true → ⊥)
    → ((n r : ℕ) → touches (s.views n).owned.held r ≡ true → ⊥) → ((r n : ℕ) → s.records r ≡ Taken n → ⊥) → Below s.history (s.clock + 1)
    → ((a : ℕ) → s.heap a ≡ word_now s.history a) → s.base ≡ s.clock → OrecRule home words s
orec-from-rest home words s nobody none free below heap based = record {
  based = grind (arith, based);
  shut = λ n e r. grind (arith, none n r);
  stamped = λ a b. absurd (grind (arith, b, based, last_write-most s.history s.clock a below));
  clean = λ a v is. heap a;
  mixed = λ a n is b. absurd (free (home a) n is);
  own = λ n i. absurd (nobody n i);
}

-- STILL AT REST, with BASE anywhere: each record vouches for what is later
pub orec-vouched : (home : ℕ → ℕ) (words : ℕ) (s : OrecProjection) → ((n : ℕ) → (s.views n).owned.inside ≡ true → ⊥)
    → ((n r : ℕ) → touches (s.views n).owned.held r ≡ true → ⊥) → ((r n : ℕ) → s.records r ≡ Taken n → ⊥) → s.base ≤ s.clock
    → ((a : ℕ) → s.heap a ≡ word_now s.history a)
    → ((a : ℕ) → s.base < last_write s.history a → (v : ℕ) → s.records (home a) ≡ Free v → 2 * last_write s.history a ≤ 2 * v + 1) → OrecRule home words s
orec-vouched home words s nobody none free based heap stamps = record {
  based = based;
  shut = λ n e r. grind (arith, none n r);
  stamped = λ a b. go a b (s.records (home a)) refl;
  clean = λ a v is. heap a;
  mixed = λ a n is b. absurd (free (home a) n is);
  own = λ n i. absurd (nobody n i);
}
  where
    go : (a : ℕ) → s.base < last_write s.history a → (k : Rec) → s.records (home a) ≡ k → 2 * last_write s.history a ≤ rank s (home a)
    go a b (Free v) is = grind (arith, is, stamps a b v is)
    go a b (Taken n) is = absurd (free (home a) n is)

-- AT REST: where each record is free, the memory lies in the heap
pub orec-at-rest : (home : ℕ → ℕ) (words : ℕ) (s : OrecProjection) → ((r n : ℕ) → s.records r ≡ Taken n → ⊥) → OrecRule home words s → (a : ℕ) → s.heap a ≡ word_now s.history a
orec-at-rest home words s free g a = go (s.records (home a)) refl
  where
    go : (k : Rec) → s.records (home a) ≡ k → s.heap a ≡ word_now s.history a
    go (Free v) is = g.clean a v is
    go (Taken n) is = absurd (free (home a) n is)
