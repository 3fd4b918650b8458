-- What stands of RingSW after a step of another, from rest, and after a caller changes its part.
use Rattle.std.proofs.Common.{◌≡◌, ℕ, ◌+◌, ◌<◌, ◌≤◌, List, ◌∷◌, Bool, true, false, eqb, arith, refl, sym, subst, ap, ◌∙◌, le_trans}
use Rattle.std.specs.Prelude.{if◌then◌else◌, ◌==◌}
use Rattle.rule_base.specs.declared.entries.Cell.{Cell}
use Rattle.rule_base.specs.declared.entries.Entry.{Entry}
use Rattle.rule_base.specs.declared.layout.TheConstants.{SLOT_WORDS}
use Rattle.rule_base.specs.declared.views.View.{View}
use Rattle.rule_base.specs.History.{over, word_now, Below}
use Rattle.rule_base.specs.Lemmas.PutLemmas.{put-all, put-here, put-else, parts-put, parts-kept}
use Rattle.rule_base.specs.World.{World, put, parts}
use Rattle.rule_ring.specs.Filters.{Filters}
use Rattle.rule_ring.specs.RingRule.{RingPart, ring_view, RingProjection, ring_projection, late, RingReader, RingTurn, RingRule}
use Rattle.rule_ring.specs.Slots.{slot_place, writes_of, has_entry, entry-before, word_at-later, entry-later, writes-later}

pub ring_projection-put : (w x : World) (n : ℕ) (v : View) → x.views ≡ put w.views n v
    → ring_projection x
    ≡ record {
      clock = x.clock;
      lock = x.lock;
      base = x.base;
      done = x.done;
      slots = x.slots;
      heap = x.heap;
      history = x.history;
      views = put (ring_projection w).views n (ring_view v);
    }
ring_projection-put w x n v is =
    λ i.
    record {
      clock = x.clock;
      lock = x.lock;
      base = x.base;
      done = x.done;
      slots = x.slots;
      heap = x.heap;
      history = x.history;
      views = (ap (parts ring_view) is ∙ parts-put ring_view w.views n v) i;
    }

pub ring_projection-kept : (w x : World) (n : ℕ) (v : View) → x.views ≡ put w.views n v → x.clock ≡ w.clock → x.lock ≡ w.lock
    → x.base ≡ w.base → x.done ≡ w.done → x.slots ≡ w.slots → x.heap ≡ w.heap → x.history ≡ w.history → ring_view v ≡ ring_view (w.views n)
    → ring_projection x ≡ ring_projection w
ring_projection-kept w x n v is clock lock base done slots heap history own =
    λ i.
    record {
      clock = clock i;
      lock = lock i;
      base = base i;
      done = done i;
      slots = slots i;
      heap = heap i;
      history = history i;
      views = (ap (parts ring_view) is ∙ parts-kept ring_view w.views n v own) i;
    }

-- nobody is late where the change made nobody late
pub late-before : (vs : ℕ → RingPart) (n : ℕ) (u : RingPart) → (late u ≡ false → late (vs n) ≡ false) → ((m : ℕ) → late (put vs n u m) ≡ false) → (m : ℕ) → late (vs m) ≡ false
late-before vs n u own all m = go (eqb m n) refl
  where
    go : (b : Bool) → eqb m n ≡ b → late (vs m) ≡ false
    go true e = let same : m ≡ n = grind (arith, e) in subst (λ (k : ℕ). late (vs k) ≡ false) (sym same) (own (sym (ap late (put-here vs n u)) ∙ all n))
    go false e = let apart : (m ≡ n → ⊥) = (λ q. grind (arith, e, q)) in sym (ap late (put-else vs n m u apart)) ∙ all m

pub entered-before : (vs : ℕ → RingPart) (n : ℕ) (u : RingPart) → u.attempt.entered ≡ (vs n).attempt.entered → ((m : ℕ) → (put vs n u m).attempt.entered ≡ false) → (m : ℕ) → (vs m).attempt.entered ≡ false
entered-before vs n u own all m = go (eqb m n) refl
  where
    go : (b : Bool) → eqb m n ≡ b → (vs m).attempt.entered ≡ false
    go true e = let same : m ≡ n = grind (arith, e) in subst (λ (k : ℕ). (vs k).attempt.entered ≡ false) (sym same) (sym own ∙ (sym (ap (λ (v : RingPart). v.attempt.entered) (put-here vs n u)) ∙ all n))
    go false e = let apart : (m ≡ n → ⊥) = (λ q. grind (arith, e, q)) in sym (ap (λ (v : RingPart). v.attempt.entered) (put-else vs n m u apart)) ∙ all m

module _ (F : Filters) (ring words : ℕ) where
  -- nobody is in an attempt, no entry is later than BASE or DONE, and the heap is the memory: whatever ran before,
  -- RingSW may run
  pub ring-from-rest : (s : RingProjection) → ((n : ℕ) → (s.views n).read.inside ≡ true → ⊥) → ((n : ℕ) → (s.views n).turn.committed ≡ true → ⊥) → ((n : ℕ) → (s.views n).lock.taken ≡ true → ⊥)
      → s.base ≤ s.clock → s.done ≤ s.clock → ((n : ℕ) → (s.views n).front ≤ s.done) → Below s.history (s.done + 1) → (((n : ℕ) → (s.views n).attempt.entered ≡ false) → s.done ≡ s.clock)
      → ((e i : ℕ) → s.base < e → s.clock + 1 < e + ring → has_entry s.history e ≡ true → i < SLOT_WORDS → s.slots (slot_place ring e i) ≡ F.word (writes_of s.history e) i)
      → ((a : ℕ) → s.heap a ≡ word_now s.history a) → RingRule F ring words s
  ring-from-rest s nobody none unlocked base done fresh covered level slots heap = record {
    base = base;
    done = done;
    since = λ e l m. absurd (let k = entry-before s.history (s.done + 1) e covered m in omega arith);
    slots = slots;
    free = λ z. heap;
    fresh = λ n l. fresh n;
    covered = λ l. covered;
    level = λ l. level;
    reader = λ n t. absurd (nobody n t);
    turn = λ n t. absurd (unlocked n t);
    locked = λ n t. absurd (none n t);
  }

  -- a caller changes its part: it isn't late now if it wasn't, and what it has as a reader and in its turn stands
  pub ring-own : (n : ℕ) (s : RingProjection) (u : RingPart) → u.lock.taken ≡ (s.views n).lock.taken → late u ≡ late (s.views n)
      → u.attempt.entered ≡ (s.views n).attempt.entered → u.turn.committed ≡ (s.views n).turn.committed
      → (late u ≡ false → u.front ≤ s.done) → (u.read.inside ≡ true → RingReader F ring words s.clock s.done s.base s.history u)
      → (u.lock.taken ≡ true → RingTurn F ring s.clock s.done s.slots s.heap s.history u.turn) → RingRule F ring words s
      → RingRule F ring words (record s { views = put s.views n u })
  ring-own n s u lock same entered committed fresh reader turn r = record {
    base = r.base;
    done = r.done;
    since = r.since;
    slots = r.slots;
    free = r.free;
    fresh = put-all s.views n u (λ m k. late k ≡ false → k.front ≤ s.done) fresh (λ m d. r.fresh m);
    covered = λ l. r.covered (late-before s.views n u (λ e. sym same ∙ e) l);
    level = λ l e. r.level (late-before s.views n u (λ q. sym same ∙ q) l) (entered-before s.views n u entered e);
    reader = put-all s.views n u (λ m k. k.read.inside ≡ true → RingReader F ring words s.clock s.done s.base s.history k) reader (λ m d. r.reader m);
    turn = put-all s.views n u (λ m k. k.lock.taken ≡ true → RingTurn F ring s.clock s.done s.slots s.heap s.history k.turn) turn (λ m d. r.turn m);
    locked = put-all s.views n u (λ m k. k.turn.committed ≡ true → k.lock.taken ≡ true) (λ t. lock ∙ r.locked n (sym committed ∙ t)) (λ m d. r.locked m);
  }

  -- DONE rose
  pub reader-done : (clock done later base : ℕ) (history : List Entry) (v : RingPart) → done ≤ later → RingReader F ring words clock done base history v → RingReader F ring words clock later base history v
  reader-done clock done later base history v up k = record {
    start = le_trans k.start up;
    vouched = k.vouched;
    front = k.front;
    sees = k.sees;
    reads_inside = k.reads_inside;
    unstored = k.unstored;
    watched = k.watched;
    aim = k.aim;
    from = k.from;
    after = k.after;
    before = k.before;
    found = k.found;
    looked = k.looked;
    onward = k.onward;
    covers = k.covers;
    timely = k.timely;
    clear = k.clear;
    sure = k.sure;
  }

  -- an entry came
  pub reader-entry : (clock done base : ℕ) (history : List Entry) (e : Entry) (v : RingPart) → clock < e.time → done ≤ clock → base ≤ clock
      → RingReader F ring words clock done base history v → RingReader F ring words e.time done base (e ∷ history) v
  reader-entry clock done base history e v later low under k = record {
    start = k.start;
    vouched = λ t l m. vouched t l m (e.time == t) refl;
    front = k.front;
    sees = λ a. subst (λ (x : ℕ). over v.attempt.reads a x ≡ x) (sym (word_at-later history e v.attempt.start a (let s = k.start in omega arith))) (k.sees a);
    reads_inside = k.reads_inside;
    unstored = k.unstored;
    watched = k.watched;
    aim = k.aim;
    from = k.from;
    after = k.after;
    before = λ l. let b = k.before l in omega arith;
    found = λ l. k.found l ∙ sym (word_at-later history e v.read.at v.read.from (let b = k.before l in omega arith));
    looked = λ c. let b = k.looked c in omega arith;
    onward = k.onward;
    covers = k.covers;
    timely = k.timely;
    clear = λ t i c near l h m. let o : t < e.time = (let p = k.timely t i c h in let q = k.looked c in omega arith) in
        k.clear t i c (omega arith) l h (sym (entry-later history e t o) ∙ m) ∙ ap (λ (ws : List Cell). F.word ws i) (sym (writes-later history e t o));
    sure = λ t i c near l h m. let o : t < e.time = (let p = k.timely t i c h in let q = k.looked c in omega arith) in
        k.sure t i c near l h (sym (entry-later history e t o) ∙ m) ∙ ap (λ (ws : List Cell). F.word ws i) (sym (writes-later history e t o));
  }
    where
      vouched : (t : ℕ) → v.attempt.start < t → has_entry (e ∷ history) t ≡ true → (b : Bool) → (e.time == t) ≡ b → base < t
      vouched t l m true q = let same : e.time ≡ t = grind (arith, q) in omega arith
      vouched t l m false q = k.vouched t l (sym (ap (λ (b : Bool). if b then true else has_entry history t) q) ∙ m)
