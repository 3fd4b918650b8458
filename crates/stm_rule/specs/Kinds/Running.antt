-- What stands of what runs after a step that leaves it alone, at rest, and from rest.
use Rattle.std.proofs.Common.{◌≡◌, ◌≢◌, ℕ, ◌+◌, ◌*◌, ◌<◌, ◌≤◌, List, Bool, true, false, arith, refl, sym, subst, ap, ◌∙◌, le_trans, ⊎_elim}
use Rattle.std.specs.Prelude.{◌%◌, ◌⊎◌, ◌==◌}
use Rattle.std.proofs.lemmas.Bool.{eqb-true, eqb-false}
use Rattle.stm_model.specs.Algorithms.{has_records}
use Rattle.stm_model.specs.declared.alg.Alg.{Alg}
use Rattle.stm_model.specs.declared.alg.Alg.TheVariants.{Cgl, Tml, OrecLazy, OrecEager, RingSw, Serial}
use Rattle.stm_model.specs.declared.config.Config.{Config}
use Rattle.rule_base.specs.declared.entries.Entry.{Entry}
use Rattle.rule_base.specs.declared.layout.TheConstants.{SLOT_WORDS}
use Rattle.rule_base.specs.declared.views.LockView.{LockView}
use Rattle.rule_base.specs.declared.views.Ownership.{Ownership}
use Rattle.rule_base.specs.declared.views.RingCommit.{RingCommit}
use Rattle.rule_base.specs.declared.views.RingRead.{RingRead}
use Rattle.rule_base.specs.declared.views.TmlView.{TmlView}
use Rattle.rule_base.specs.declared.views.View.{View}
use Rattle.rule_base.specs.History.{touches, word_now, last_write, Below}
use Rattle.rule_base.specs.Lemmas.HistoryLemmas.{below-more, last_write-most}
use Rattle.rule_base.specs.Lemmas.PutLemmas.{put-all, put-here, put-else, parts-put, parts-kept}
use Rattle.rule_base.specs.Ranks.{Rec, rec_of, rank_one, home_of}
use Rattle.rule_base.specs.Ranks.Rec.{Free, Taken}
use Rattle.rule_base.specs.Regime.{Regime, named_in}
use Rattle.rule_base.specs.Regime.Regime.{Running, Promoted, Giving}
use Rattle.rule_base.specs.RunProjection.{RunView, run_view, RunProjection, run_projection}
use Rattle.rule_base.specs.World.{World, put, parts}
use Rattle.rule_seq.specs.CglRule.{CglView, CglHolder, CglRule, cgl_part, CglRuns}
use Rattle.rule_seq.specs.TmlRule.{TmlPart, TmlRule, tml_part, TmlRuns}
use Rattle.rule_seq.specs.TmlLaws.{tml-own, tml-from-rest}
use Rattle.rule_orec.specs.OrecRule.{OrecView, OrecRule, rank_of, orec_part, OrecRuns}
use Rattle.rule_orec.specs.OrecRely.{fresh, orec-from-rest, orec-at-rest, orec-vouched}
use Rattle.rule_ring.specs.RingLemmas.{ring-from-rest, ring-own}
use Rattle.rule_ring.specs.RingPromoted.{RingKeeps, keeps-put}
use Rattle.rule_ring.specs.RingReadLaws.{not_late}
use Rattle.rule_ring.specs.RingRule.{RingPart, RingRule, late, ring_part, RingRuns}
use Rattle.rule_ring.specs.SlotFilter.{slot_filter}
use Rattle.rule_ring.specs.Slots.{slot_place, writes_of, has_entry, entry-before}
use Rattle.rule_promoted.specs.PromotedRule.{direct_part, DirectRule, suit_part, OrecSuits, Suits, DirectRuns}
use Rattle.stm_rule.specs.Product.{Gives, Runs}

-- the projection after a step that leaves it alone
pub run_projection-kept : (w x : World) (n : ℕ) (v : View) → x.views ≡ put w.views n v → x.clock ≡ w.clock → x.lock ≡ w.lock
    → x.base ≡ w.base → x.done ≡ w.done → x.records ≡ w.records → x.slots ≡ w.slots → x.heap ≡ w.heap → x.history ≡ w.history
    → run_view v ≡ run_view (w.views n) → run_projection x ≡ run_projection w
run_projection-kept w x n v is clock lock base done records slots heap history own = λ i. record {
  clock = clock i;
  lock = lock i;
  base = base i;
  done = done i;
  records = records i;
  slots = slots i;
  heap = heap i;
  history = history i;
  views = (ap (parts run_view) is ∙ parts-kept run_view w.views n v own) i;
}

pub run_projection-put : (w x : World) (n : ℕ) (v : View) → x.views ≡ put w.views n v → x.clock ≡ w.clock → x.lock ≡ w.lock
    → x.base ≡ w.base → x.done ≡ w.done → x.records ≡ w.records → x.slots ≡ w.slots → x.heap ≡ w.heap → x.history ≡ w.history
    → run_projection x ≡ record (run_projection w) { views = put (run_projection w).views n (run_view v) }
run_projection-put w x n v is clock lock base done records slots heap history = λ i. record {
  clock = clock i;
  lock = lock i;
  base = base i;
  done = done i;
  records = records i;
  slots = slots i;
  heap = heap i;
  history = history i;
  views = (ap (parts run_view) is ∙ parts-put run_view w.views n v) i;
}

-- a step that leaves the projection and the regime alone
pub runs-stays : (c : Config) (r q : Regime) (s t : RunProjection) → q ≡ r → t ≡ s → Runs c r s → Runs c q t
runs-stays c r q s t regime projection k = subst (λ (p : Regime). Runs c p t) (sym regime) (subst (Runs c r) (sym projection) k)

-- Nobody is in an attempt, and the memory lies in the heap.
pub record Ease (s : RunProjection) : Type 0 where
  pub heap : (a : ℕ) → s.heap a ≡ word_now s.history a
  pub unlocked : (n : ℕ) → (s.views n).lock.taken ≡ true → ⊥
  pub outside : (n : ℕ) → (s.views n).tml.inside ≡ true → ⊥
  pub unwritten : (n : ℕ) → (s.views n).tml.writer ≡ true → ⊥
  pub inside : (n : ℕ) → (s.views n).owned.inside ≡ true → ⊥
  pub unheld : (n r : ℕ) → touches (s.views n).owned.held r ≡ true → ⊥
  pub freed : (r n : ℕ) → rec_of (s.records r) ≡ Taken n → ⊥
  pub below : Below s.history (s.clock + 1)
  pub unread : (n : ℕ) → (s.views n).ring_read.inside ≡ true → ⊥
  pub uncommitted : (n : ℕ) → (s.views n).ring_commit.committed ≡ true → ⊥

-- what an install has made sure of for the algorithm
pub record Ready (a : Alg) (s : RunProjection) : Type 0 where
  pub even : a ≡ Tml → s.clock % 2 ≡ 0
  -- no entry is later than BASE, which the records would have to vouch for, and DONE lags behind none
  pub based : s.base ≡ s.clock
  pub done : s.done ≡ s.clock
  -- nobody has seen more than the clock
  pub fronts : (n : ℕ) → (s.views n).front ≤ s.clock

-- FROM REST: each algorithm may run
pub from-rest : (c : Config) (a : Alg) (s : RunProjection) → Ease s → Ready a s → Runs c (Running a) s
from-rest c Cgl s e r = record { free = λ z. e.heap; holder = λ n t. absurd (e.unlocked n t) }
from-rest c Tml s e r = tml-from-rest c.words (tml_part s) e.outside e.unwritten (r.even refl) e.heap
from-rest c OrecLazy s e r = orec-from-rest (home_of c) c.words (orec_part s) e.inside e.unheld e.freed e.below e.heap r.based
from-rest c OrecEager s e r = orec-from-rest (home_of c) c.words (orec_part s) e.inside e.unheld e.freed e.below e.heap r.based
from-rest c RingSw s e r = ring-from-rest slot_filter c.ring c.words (ring_part s) e.unread e.uncommitted e.unlocked
    (let k = r.based in omega arith) (let k = r.done in omega arith)
    (λ n. subst (λ (k : ℕ). (s.views n).front ≤ k) (sym r.done) (r.fronts n)) (subst (λ (k : ℕ). Below s.history (k + 1)) (sym r.done) e.below) (λ l. r.done)
    (λ t i b near m low. absurd (let k = entry-before s.history (s.clock + 1) t e.below m in let q = r.based in omega arith)) e.heap
from-rest c Serial s e r = record { free = λ z. e.heap; holder = λ n t. absurd (e.unlocked n t) }

-- the clock, BASE or DONE rose, and of all else that what runs sees only callers' parts changed
pub record Moved (s t : RunProjection) : Type 0 where
  pub clock : s.clock ≤ t.clock
  pub base : s.base ≤ t.base
  pub based : t.base ≤ t.clock
  pub done : s.done ≤ t.done
  pub within : t.done ≤ t.clock
  pub lock : t.lock ≡ s.lock
  pub records : t.records ≡ s.records
  pub slots : t.slots ≡ s.slots
  pub heap : t.heap ≡ s.heap
  pub history : t.history ≡ s.history
  pub fronts : (n : ℕ) → (t.views n).front ≡ (s.views n).front

pub ease-moved : (s t : RunProjection) → s.clock ≤ t.clock → t.records ≡ s.records → t.heap ≡ s.heap → t.history ≡ s.history → t.views ≡ s.views → Ease s → Ease t
ease-moved s t clock records heap history views e = record {
  heap = λ a. ap (λ (f : ℕ → ℕ). f a) heap ∙ (e.heap a ∙ ap (λ (h : List Entry). word_now h a) (sym history));
  unlocked = subst (λ (f : ℕ → RunView). (n : ℕ) → (f n).lock.taken ≡ true → ⊥) (sym views) e.unlocked;
  outside = subst (λ (f : ℕ → RunView). (n : ℕ) → (f n).tml.inside ≡ true → ⊥) (sym views) e.outside;
  unwritten = subst (λ (f : ℕ → RunView). (n : ℕ) → (f n).tml.writer ≡ true → ⊥) (sym views) e.unwritten;
  inside = subst (λ (f : ℕ → RunView). (n : ℕ) → (f n).owned.inside ≡ true → ⊥) (sym views) e.inside;
  unheld = subst (λ (f : ℕ → RunView). (n r : ℕ) → touches (f n).owned.held r ≡ true → ⊥) (sym views) e.unheld;
  freed = subst (λ (f : ℕ → ℕ). (r n : ℕ) → rec_of (f r) ≡ Taken n → ⊥) (sym records) e.freed;
  below = below-more t.history (s.clock + 1) (t.clock + 1) (subst (λ (h : List Entry). Below h (s.clock + 1)) (sym history) e.below) (omega arith);
  unread = subst (λ (f : ℕ → RunView). (n : ℕ) → (f n).ring_read.inside ≡ true → ⊥) (sym views) e.unread;
  uncommitted = subst (λ (f : ℕ → RunView). (n : ℕ) → (f n).ring_commit.committed ≡ true → ⊥) (sym views) e.uncommitted;
}

-- who is at ease changes its part, but for what it has of an attempt
pub ease-own : (w x : World) (n : ℕ) (v : View) → x.views ≡ put w.views n v → w.clock ≤ x.clock → x.records ≡ w.records → x.heap ≡ w.heap
    → x.history ≡ w.history → v.lock ≡ (w.views n).lock → v.tml ≡ (w.views n).tml → v.owned ≡ (w.views n).owned
    → v.ring_read ≡ (w.views n).ring_read → v.ring_commit ≡ (w.views n).ring_commit → Ease (run_projection w) → Ease (run_projection x)
ease-own w x n v is clock records heap history lock tml owned read turn e = subst (λ (s : RunProjection). Ease s) (sym path) (record {
  heap = λ a. ap (λ (f : ℕ → ℕ). f a) heap ∙ (e.heap a ∙ ap (λ (h : List Entry). word_now h a) (sym history));
  unlocked = put-all w.views n v (λ m u. u.lock.taken ≡ true → ⊥) (subst (λ (q : LockView). q.taken ≡ true → ⊥) (sym lock) (e.unlocked n)) (λ m d. e.unlocked m);
  outside = put-all w.views n v (λ m u. u.tml.inside ≡ true → ⊥) (subst (λ (q : TmlView). q.inside ≡ true → ⊥) (sym tml) (e.outside n)) (λ m d. e.outside m);
  unwritten = put-all w.views n v (λ m u. u.tml.writer ≡ true → ⊥) (subst (λ (q : TmlView). q.writer ≡ true → ⊥) (sym tml) (e.unwritten n)) (λ m d. e.unwritten m);
  inside = put-all w.views n v (λ m u. u.owned.inside ≡ true → ⊥) (subst (λ (q : Ownership). q.inside ≡ true → ⊥) (sym owned) (e.inside n)) (λ m d. e.inside m);
  unheld = put-all w.views n v (λ m u. (r : ℕ) → touches u.owned.held r ≡ true → ⊥) (subst (λ (q : Ownership). (r : ℕ) → touches q.held r ≡ true → ⊥) (sym owned) (e.unheld n)) (λ m d. e.unheld m);
  freed = subst (λ (f : ℕ → ℕ). (r m : ℕ) → rec_of (f r) ≡ Taken m → ⊥) (sym records) e.freed;
  below = below-more x.history (w.clock + 1) (x.clock + 1) (subst (λ (h : List Entry). Below h (w.clock + 1)) (sym history) e.below) (omega arith);
  unread = put-all w.views n v (λ m u. u.ring_read.inside ≡ true → ⊥) (subst (λ (q : RingRead). q.inside ≡ true → ⊥) (sym read) (e.unread n)) (λ m d. e.unread m);
  uncommitted = put-all w.views n v (λ m u. u.ring_commit.committed ≡ true → ⊥) (subst (λ (q : RingCommit). q.committed ≡ true → ⊥) (sym turn) (e.uncommitted n)) (λ m d. e.uncommitted m);
})
  where
    path : run_projection x ≡ record (run_projection x) { views = parts run_view (put w.views n v) }
    path = λ i. record (run_projection x) { views = parts run_view (is i) }

-- nobody has an entry to write back
nobody-late : (s : RunProjection) → Ease s → (n : ℕ) → late ((ring_part s).views n) ≡ false
nobody-late s e n = go (s.views n).ring_commit.committed refl
  where
    go : (b : Bool) → (s.views n).ring_commit.committed ≡ b → late ((ring_part s).views n) ≡ false
    go true q = absurd (e.uncommitted n q)
    go false q = not_late ((ring_part s).views n) q

-- where each record is free, what a version vouched for in s it vouches for in t
vouched-moved : (c : Config) (s t : RunProjection) → Moved s t → OrecRuns c s → (q : ℕ) → t.base < last_write t.history q → (v : ℕ) → rec_of (t.records (home_of c q)) ≡ Free v → 2 * last_write t.history q ≤ 2 * v + 1
vouched-moved c s t m k q late v is =
    let same : last_write t.history q ≡ last_write s.history q = ap (λ (h : List Entry). last_write h q) m.history in
    let word : rec_of (s.records (home_of c q)) ≡ Free v = sym (ap (λ (f : ℕ → ℕ). rec_of (f (home_of c q))) m.records) ∙ is in
    let vouched : 2 * last_write s.history q ≤ rank_of (orec_part s).views (home_of c q) (Free v) = subst
    (λ (x : Rec). 2 * last_write s.history q ≤ rank_of (orec_part s).views (home_of c q) x) word
    (k.stamped q (let up = m.base in omega arith)) in
    omega arith

-- STILL AT REST: who installs moves the clock, BASE or DONE while the old algorithm is still named
pub runs-moved : (c : Config) (a : Alg) (s t : RunProjection) → Runs c (Running a) s → Ease s → Ease t → Moved s t
    → (a ≡ Tml → t.clock % 2 ≡ 0) → (a ≡ RingSw → ((n : ℕ) → (t.views n).attempt.entered ≡ false) → t.done ≡ t.clock) → Runs c (Running a) t
runs-moved c Cgl s t k e f m even level = record { free = λ z. f.heap; holder = λ n t. absurd (f.unlocked n t) }
runs-moved c Tml s t k e f m even level = tml-from-rest c.words (tml_part t) f.outside f.unwritten (even refl) f.heap
runs-moved c OrecLazy s t k e f m even level = orec-vouched (home_of c) c.words (orec_part t) f.inside f.unheld f.freed m.based f.heap (vouched-moved c s t m k)
runs-moved c OrecEager s t k e f m even level = orec-vouched (home_of c) c.words (orec_part t) f.inside f.unheld f.freed m.based f.heap (vouched-moved c s t m k)
runs-moved c RingSw s t k e f m even level = ring-from-rest slot_filter c.ring c.words (ring_part t) f.unread f.uncommitted f.unlocked m.based m.within
    (λ n. subst (λ (q : ℕ). q ≤ t.done) (sym (m.fronts n)) (le_trans (k.fresh n (nobody-late s e n)) m.done))
    (subst (λ (h : List Entry). Below h (t.done + 1)) (sym m.history) (below-more s.history (s.done + 1) (t.done + 1) (k.covered (nobody-late s e)) (let d = m.done in omega arith)))
    (level refl)
    (λ q i b near h low.
    ap (λ (g : ℕ → ℕ). g (slot_place c.ring q i)) m.slots
    ∙ (k.slots q i (let d = m.base in omega arith) (let d = m.clock in omega arith)
    (subst (λ (h : List Entry). has_entry h q ≡ true) m.history h) low
    ∙ ap (λ (h : List Entry). slot_filter.word (writes_of h q) i) (sym m.history)))
    f.heap
runs-moved c Serial s t k e f m even level = record { free = λ z. f.heap; holder = λ n t. absurd (f.unlocked n t) }

-- and after an attempt of the records that was promoted
vouched-back : (c : Config) (n : ℕ) (s t : RunProjection) → OrecSuits (home_of c) (suit_part n s) → Below t.history (t.clock + 1)
    → Moved s t → ((s.views n).attempt.entered ≡ true → (t.base ≡ t.clock) × (t.done ≡ t.clock)) → (q : ℕ) → t.base < last_write t.history q
    → (v : ℕ) → rec_of (t.records (home_of c q)) ≡ Free v → 2 * last_write t.history q ≤ 2 * v + 1
vouched-back c n s t k below m marked q late v is = go (s.views n).attempt.entered refl
  where
    go : (b : Bool) → (s.views n).attempt.entered ≡ b → 2 * last_write t.history q ≤ 2 * v + 1
    go true entered = absurd (let l = last_write-most t.history t.clock q below in let b = (marked entered).0 in omega arith)
    go false yet =
        let same : last_write t.history q ≡ last_write s.history q = ap (λ (h : List Entry). last_write h q) m.history in
        let word : rec_of (s.records (home_of c q)) ≡ Free v = sym (ap (λ (f : ℕ → ℕ). rec_of (f (home_of c q))) m.records) ∙ is in
        let vouched : 2 * last_write s.history q ≤ rank_one (s.views n).owned (home_of c q) (Free v) = subst
        (λ (x : Rec). 2 * last_write s.history q ≤ rank_one (s.views n).owned (home_of c q) x) word
        (k.stamped yet q (let up = m.base in omega arith)) in
        omega arith

-- BACK: the attempt of caller n was promoted, and left nothing; t is the projection without it
pub back : (c : Config) (a : Alg) (n : ℕ) (s t : RunProjection) → DirectRuns c a n s → Ease t → Moved s t → t.clock ≡ s.clock
    → ((s.views n).attempt.entered ≡ true → (t.base ≡ t.clock) × (t.done ≡ t.clock)) → ((m : ℕ) → (t.views m).front ≤ t.clock)
    → Runs c (Running a) t
back c Cgl n s t d e m clock marked fronts = absurd d.suits
back c Tml n s t d e m clock marked fronts = tml-from-rest c.words (tml_part t) e.outside e.unwritten (ap (λ k. k % 2) clock ∙ d.suits.even) e.heap
back c OrecLazy n s t d e m clock marked fronts = orec-vouched (home_of c) c.words (orec_part t) e.inside e.unheld e.freed m.based e.heap (vouched-back c n s t d.suits e.below m marked)
back c OrecEager n s t d e m clock marked fronts = orec-vouched (home_of c) c.words (orec_part t) e.inside e.unheld e.freed m.based e.heap (vouched-back c n s t d.suits e.below m marked)
back c RingSw n s t d e m clock marked fronts = ring-from-rest slot_filter c.ring c.words (ring_part t) e.unread e.uncommitted e.unlocked m.based m.within
    (λ k. subst (λ (q : ℕ). (t.views k).front ≤ q) (sym level) (fronts k)) (subst (λ (q : ℕ). Below t.history (q + 1)) (sym level) e.below) (λ l. level)
    (λ q i b near h low. slots (s.views n).attempt.entered refl q i b near h low) e.heap
  where
    k : RingKeeps c.ring n s
    k = d.ring refl

    level_by : (b : Bool) → (s.views n).attempt.entered ≡ b → t.done ≡ t.clock
    level_by true f = (marked f).1
    level_by false f = let l = k.level f in let p = m.done in let w = m.within in omega arith

    level : t.done ≡ t.clock
    level = level_by (s.views n).attempt.entered refl

    slots : (b : Bool) → (s.views n).attempt.entered ≡ b → (q i : ℕ) → t.base < q → t.clock + 1 < q + c.ring → has_entry t.history q ≡ true
        → i < SLOT_WORDS → t.slots (slot_place c.ring q i) ≡ slot_filter.word (writes_of t.history q) i
    slots true f q i b near h low = absurd (let p = entry-before t.history (t.clock + 1) q e.below h in let z = (marked f).0 in omega arith)
    slots false f q i b near h low =
        ap (λ (g : ℕ → ℕ). g (slot_place c.ring q i)) m.slots
        ∙ (k.slots f q i (let z = m.base in omega arith) (omega arith) (subst (λ (h : List Entry). has_entry h q ≡ true) m.history h) low
        ∙ ap (λ (h : List Entry). slot_filter.word (writes_of h q) i) (sym m.history))
back c Serial n s t d e m clock marked fronts = absurd d.suits

-- AT REST: each algorithm leaves the memory in the heap when nobody is in an attempt of it
pub at-rest : (c : Config) (a : Alg) (s : RunProjection) → Runs c (Running a) s → s.lock ≡ 0 → ((n : ℕ) → (s.views n).tml.writer ≡ true → ⊥)
    → ((n : ℕ) → (s.views n).ring_commit.committed ≡ true → ⊥) → (has_records a ≡ true → (r n : ℕ) → rec_of (s.records r) ≡ Taken n → ⊥)
    → ((at : ℕ) → s.heap at ≡ word_now s.history at) × (a ≡ Tml → s.clock % 2 ≡ 0) × (a ≡ RingSw → ((n : ℕ) → (s.views n).attempt.entered ≡ false) → s.done ≡ s.clock)
at-rest c Cgl s k free none early freed = (k.free free, λ e. absurd cc, λ e. absurd cc)
at-rest c Tml s k free none early freed = ((k.free none).1, λ e. (k.free none).0, λ e. absurd cc)
at-rest c OrecLazy s k free none early freed = (orec-at-rest (home_of c) c.words (orec_part s) (freed refl) k, λ e. absurd cc, λ e. absurd cc)
at-rest c OrecEager s k free none early freed = (orec-at-rest (home_of c) c.words (orec_part s) (freed refl) k, λ e. absurd cc, λ e. absurd cc)
at-rest c RingSw s k free none early freed = (k.free free, λ e. absurd cc, λ e settled. k.level nobody settled)
  where
    nobody : (n : ℕ) → late ((ring_part s).views n) ≡ false
    nobody n = go (s.views n).ring_commit.committed refl
      where
        go : (b : Bool) → (s.views n).ring_commit.committed ≡ b → late ((ring_part s).views n) ≡ false
        go true q = absurd (early n q)
        go false q = not_late ((ring_part s).views n) q
at-rest c Serial s k free none early freed = (k.free free, λ e. absurd cc, λ e. absurd cc)

-- a caller without lock and stores changes its attempt, and is outside afterwards
pub record Outside (v : RunView) : Type 0 where
  pub unlocked : v.lock.taken ≡ false
  pub unwritten : v.tml.writer ≡ false
  pub uncommitted : v.ring_commit.committed ≡ false

-- FRESHNESS: under RingSW nobody has seen past DONE, but who has an entry to write back or raised the clock as the
-- gate's holder
pub runs-fresh : (c : Config) (r : Regime) (s : RunProjection) (n : ℕ) → Runs c r s → named_in r ≡ RingSw → (s.views n).ring_commit.committed ≡ false → (s.views n).attempt.entered ≡ false → (s.views n).front ≤ s.done
runs-fresh c (Running Cgl) s n k e early apart = absurd cc
runs-fresh c (Running Tml) s n k e early apart = absurd cc
runs-fresh c (Running OrecLazy) s n k e early apart = absurd cc
runs-fresh c (Running OrecEager) s n k e early apart = absurd cc
runs-fresh c (Running RingSw) s n k e early apart = k.fresh n (not_late ((ring_part s).views n) early)
runs-fresh c (Running Serial) s n k e early apart = absurd cc
runs-fresh c (Promoted a m) s n k e early apart = go (n == m) refl
  where
    -- who is promoted has seen all, and until its entry that is done
    go : (b : Bool) → (n == m) ≡ b → (s.views n).front ≤ s.done
    go true q = let same : n ≡ m = eqb-true n m q in
        let all : s.done ≡ s.clock = (k.ring e).level (subst (λ (j : ℕ). (s.views j).attempt.entered ≡ false) same apart) in
        let seen : (s.views n).front ≡ s.clock = ap (λ (j : ℕ). (s.views j).front) same ∙ k.direct.front in omega arith
    go false q = (k.ring e).fresh n (eqb-false n m q)
runs-fresh c (Giving a) s n k e early apart = k.fresh e n apart

-- what is so of it
pub record Leaves (s : RunProjection) (n : ℕ) (u : RunView) : Type 0 where
  pub was : Outside (s.views n)
  pub out : Outside u
  pub tml : u.tml.inside ≡ false
  pub owned : u.owned.inside ≡ false
  pub bare : (r : ℕ) → touches u.owned.held r ≡ false
  -- no record is its own
  pub apart : (r : ℕ) → rec_of (s.records r) ≡ Taken n → ⊥
  pub unread : u.ring_read.inside ≡ false
  pub entered : u.attempt.entered ≡ (s.views n).attempt.entered

pub runs-leave : (c : Config) (r : Regime) (s : RunProjection) (n : ℕ) (u : RunView) → Leaves s n u
    → (u.front ≡ (s.views n).front) ⊎ (named_in r ≡ RingSw → u.front ≤ s.done) → ((a : Alg) → r ≡ Promoted a n → ⊥) → Runs c r s
    → Runs c r (record s { views = put s.views n u })
runs-leave c r s n u l front plain k = by r front plain k
  where
    cgl : CglRuns c s → CglRuns c (record s { views = put s.views n u })
    cgl q = subst (CglRule c.words) (sym path) (record {
      free = q.free;
      holder = put-all (cgl_part s).views n part (λ m v. v.lock.taken ≡ true → CglHolder c.words (record (cgl_part s) { views = put (cgl_part s).views n part }) v)
          (λ t. absurd (let f : true ≡ false = sym t ∙ l.out.unlocked in cc))
          (λ m d t.
          let h = q.holder m t in
          record {
            stored = h.stored;
            unstored = h.unstored;
            start = h.start;
            front = h.front;
            sees = h.sees;
            reads_inside = h.reads_inside;
            stores_inside = h.stores_inside;
            stores_small = h.stores_small;
            undone = h.undone;
            covered = h.covered;
          });
    })
      where
        part : CglView
        part = record { attempt = u.attempt; lock = u.lock; front = u.front }

        path : cgl_part (record s { views = put s.views n u }) ≡ record (cgl_part s) { views = put (cgl_part s).views n part }
        path = λ i. record { clock = s.clock; lock = s.lock; heap = s.heap; history = s.history; views = parts-put (λ (v : RunView). record { attempt = v.attempt; lock = v.lock; front = v.front }) s.views n u i }

    tml : TmlRuns c s → TmlRuns c (record s { views = put s.views n u })
    tml q = subst (TmlRule c.words) (sym path) (tml-own c.words n (tml_part s) part l.was.unwritten l.out.unwritten (λ t. absurd (let f : true ≡ false = sym t ∙ l.tml in cc)) q)
      where
        part : TmlPart
        part = record { attempt = u.attempt; tml = u.tml; front = u.front }

        path : tml_part (record s { views = put s.views n u }) ≡ record (tml_part s) { views = put (tml_part s).views n part }
        path = λ i. record { clock = s.clock; heap = s.heap; history = s.history; views = parts-put (λ (v : RunView). record { attempt = v.attempt; tml = v.tml; front = v.front }) s.views n u i }

    orec : OrecRuns c s → OrecRuns c (record s { views = put s.views n u })
    orec q = subst (OrecRule (home_of c) c.words) (sym path) (fresh (home_of c) c.words (orec_part s) n part l.apart l.bare (λ i. absurd (let f : true ≡ false = sym i ∙ l.owned in cc)) q).0
      where
        part : OrecView
        part = record { attempt = u.attempt; owned = u.owned; sample = u.sample; check = u.check; front = u.front }

        path : orec_part (record s { views = put s.views n u }) ≡ record (orec_part s) { views = put (orec_part s).views n part }
        path =
            λ i.
            record {
              clock = s.clock;
              base = s.base;
              records = parts rec_of s.records;
              heap = s.heap;
              history = s.history;
              views = parts-put
                  (λ (v : RunView). record { attempt = v.attempt; owned = v.owned; sample = v.sample; check = v.check; front = v.front }) s.views
                  n u i;
            }

    ring : (u.front ≡ (s.views n).front) ⊎ (RingSw ≡ RingSw → u.front ≤ s.done) → RingRuns slot_filter c s → RingRuns slot_filter c (record s { views = put s.views n u })
    ring front q = subst (RingRule slot_filter c.ring c.words) (sym path) (ring-own slot_filter c.ring c.words n (ring_part s) part
        (l.out.unlocked ∙ sym l.was.unlocked) (not_late part l.out.uncommitted ∙ sym (not_late ((ring_part s).views n) l.was.uncommitted))
        l.entered (l.out.uncommitted ∙ sym l.was.uncommitted)
        (λ q2. ⊎_elim (λ same. subst (λ (k : ℕ). k ≤ s.done) (sym same) (q.fresh n (not_late ((ring_part s).views n) l.was.uncommitted))) (λ low. low refl) front)
        (λ t. absurd (let f : true ≡ false = sym t ∙ l.unread in cc)) (λ t. absurd (let f : true ≡ false = sym t ∙ l.out.unlocked in cc)) q)
      where
        part : RingPart
        part = record { attempt = u.attempt; lock = u.lock; read = u.ring_read; turn = u.ring_commit; front = u.front }

        path : ring_part (record s { views = put s.views n u }) ≡ record (ring_part s) { views = put (ring_part s).views n part }
        path = λ i. record (ring_part s) { views = parts-put (λ (v : RunView). record { attempt = v.attempt; lock = v.lock; read = v.ring_read; turn = v.ring_commit; front = v.front }) s.views n u i }

    direct : (a : Alg) (m : ℕ) → m ≢ n → (u.front ≡ (s.views n).front) ⊎ (a ≡ RingSw → u.front ≤ s.done) → DirectRuns c a m s → DirectRuns c a m (record s { views = put s.views n u })
    direct a m other low q = record {
      direct = subst (DirectRule c.words) (sym path) q.direct;
      suits = subst (Suits (home_of c) a) (sym suits) q.suits;
      ring = λ e. keeps-put c.ring m n s s.heap u l.entered (λ d. ⊎_elim (λ same. subst (λ (k : ℕ). k ≤ s.done) (sym same) ((q.ring e).fresh n d)) (λ k. k e) low) (q.ring e);
    }
      where
        path : direct_part m (record s { views = put s.views n u }) ≡ direct_part m s
        path = ap (λ (v : RunView). record { clock = s.clock; heap = s.heap; history = s.history; own = record { attempt = v.attempt; lock = v.lock; tml = v.tml; front = v.front } }) (put-else s.views n m u other)

        suits : suit_part m (record s { views = put s.views n u }) ≡ suit_part m s
        suits = ap (λ (v : RunView). record { clock = s.clock; base = s.base; records = s.records; history = s.history; own = record { attempt = v.attempt; tml = v.tml; owned = v.owned } }) (put-else s.views n m u other)

    gives : (a : Alg) → (u.front ≡ (s.views n).front) ⊎ (a ≡ RingSw → u.front ≤ s.done) → Gives a s → Gives a (record s { views = put s.views n u })
    gives a low q = record {
      heap = q.heap;
      even = q.even;
      fresh = λ e. put-all s.views n u (λ m v. v.attempt.entered ≡ false → v.front ≤ s.done)
          (λ f. ⊎_elim (λ same. subst (λ (k : ℕ). k ≤ s.done) (sym same) (q.fresh e n (sym l.entered ∙ f))) (λ k. k e) low)
          (λ m d f. q.fresh e m f);
      level = λ e settled. q.level e (λ m. kept m (m == n) refl settled);
    }
      where
        kept : (m : ℕ) (b : Bool) → (m == n) ≡ b → ((k : ℕ) → (put s.views n u k).attempt.entered ≡ false) → (s.views m).attempt.entered ≡ false
        kept m true q settled = ap (λ (k : ℕ). (s.views k).attempt.entered) (eqb-true m n q) ∙ (sym l.entered ∙ (sym (ap (λ (v : RunView). v.attempt.entered) (put-here s.views n u)) ∙ settled n))
        kept m false q settled = sym (ap (λ (v : RunView). v.attempt.entered) (put-else s.views n m u (eqb-false m n q))) ∙ settled m

    by : (p : Regime) → (u.front ≡ (s.views n).front) ⊎ (named_in p ≡ RingSw → u.front ≤ s.done) → ((a : Alg) → p ≡ Promoted a n → ⊥) → Runs c p s → Runs c p (record s { views = put s.views n u })
    by (Running Cgl) low apart q = cgl q
    by (Running Tml) low apart q = tml q
    by (Running OrecLazy) low apart q = orec q
    by (Running OrecEager) low apart q = orec q
    by (Running RingSw) low apart q = ring low q
    by (Running Serial) low apart q = cgl q
    by (Promoted a m) low apart q = direct a m (λ same. apart a (ap (Promoted a) same)) low q
    by (Giving a) low apart q = gives a low q
