-- What the steps of a fence come to, as its caller knows it.
use Rattle.std.proofs.Common.{ℕ, zero, suc, ◌≡◌, ◌≢◌, ◌<◌, ◌≤◌, ◌+◌, List, [], ◌∷◌, ◌++◌, Bool, true, false, refl, sym, ap, ◌∙◌, arith, subst, length, replicate, get_or, append_assoc}
use Rattle.std.proofs.lemmas.Bool.Decides.{nat_tests}
use Rattle.std.specs.Prelude.{◌%◌, ◌-◌, ltb, nat_le, reverse, Some, None, MatchOption, slice_index, if◌then◌else◌}
use Rattle.stm_model.specs.Algorithms.{entry_rise}
use Rattle.stm_model.specs.declared.alg.Alg.{Alg}
use Rattle.stm_model.specs.declared.alg.Alg.TheVariants.{Cgl, Tml, OrecLazy, OrecEager, RingSw, Serial}
use Rattle.stm_model.specs.declared.config.Config.{Config}
use Rattle.stm_model.specs.declared.config.TheConstants.{CLOCK_LIMIT}
use Rattle.stm_model.specs.Histories.{memory_after, Ascending}
use Rattle.stm_model.specs.HistoryLaws.{Within}
use Rattle.stm_model.specs.Histories as public
use Rattle.stm_model.specs.Memories.{overlay, item_at, is_empty, put}
use Rattle.rule_base.specs.declared.entries.Cell.{Cell}
use Rattle.rule_base.specs.declared.entries.Entry.{Entry}
use Rattle.rule_base.specs.declared.layout.At.TheVariants.{Clock, Gate, Base, Done, Heap}
use Rattle.rule_base.specs.declared.views.Act.TheVariants.{Load, Store}
use Rattle.rule_base.specs.declared.views.View.{View}
use Rattle.rule_base.specs.Bridge.{words_of, items, of_words, public_entry, public_history}
use Rattle.rule_base.specs.Lemmas.BridgeLemmas.{length-words_of, words_of-at, words_of-words, words_of-zeros, words_of-over, item-none, legal-public, length-public_history}
use Rattle.rule_base.specs.Lemmas.EncodingLemmas.{fence_from-number, fence_count-number}
use Rattle.rule_base.specs.Encodings.{gate_word, fence_number, fenced, IsNamed}
use Rattle.rule_base.specs.FenceSteps.{fence, fence_load, FenceLoads, fence_store, fence_entry, fence_commit, FenceCommits, CanFenceCommit, KeepsFenced, unfence, CanUnfence}
use Rattle.rule_base.specs.History.{over, touches, word_now, upto, Below}
use Rattle.rule_base.specs.Lemmas.HistoryLemmas.{over-miss, over-hit}
use Rattle.rule_base.specs.InstallSteps.{HasChecked, settle, store_base, store_done}
use Rattle.rule_base.specs.Own.{Own}
use Rattle.rule_base.specs.StepKinds.{Nothing, Tells, view_after}
use Rattle.stm_rule.specs.declared.local.Local.{Local}
use Rattle.stm_rule.specs.Attempts.{IsClosing}
use Rattle.stm_rule.specs.FenceFindings.{FindsPast, FindsEven}
use Rattle.stm_answers.specs.Answers.{HoldsClosed, entry}
use Rattle.stm_answers.specs.Fences.{TakesRange, ReadsDirect, WritesDirect, GivesAt, Gives}
use Rattle.stm_answers.specs.Fences as fences
use Rattle.stm_answers.specs.declared.answers.Give.TheVariants.{Unchanged, ClockFull}
use Rattle.stm_answers.specs.CallerState.{known_of, kept_under, written_under, granted_under, locked_under, is_in, is_closing, is_settled, zeros}
use Rattle.stm_answers.specs.CallerStateLaws.{grows-same, ascending-append, within-append}
use Rattle.stm_gate.specs.InnerLaws.{granted-same}
use Rattle.stm_gate.proofs.KeptLaws.{kept-same}
use Rattle.stm_gate.specs.LeavingLaws.{finds-full}
use Rattle.stm_gate.specs.Logging.{item-touched}
use Rattle.stm_gate.specs.Opacity.{later-seen}

memory_after-append : (es : List public.Entry) (e : public.Entry) (m : List ℕ) → memory_after (es ++ e ∷ []) m ≡ overlay (memory_after es m) e.writes
memory_after-append [] e m = refl
memory_after-append (d ∷ es) e m = memory_after-append es e (overlay m d.writes)

-- the memory after a history, as words, is that of the public history
memory-all : (n : ℕ) (h : List Entry) → memory_after (public_history h) (replicate n 0) ≡ words_of n (word_now h)
memory-all n [] = sym (words_of-zeros n)
memory-all n (e ∷ h) = memory_after-append (public_history h) (public_entry e) (replicate n 0) ∙ (ap (λ m. overlay m (items e.writes)) (memory-all n h) ∙ words_of-over n (word_now h) e.writes)

memory-at : (n a : ℕ) (h : List Entry) → a < n → slice_index (memory_after (public_history h) (replicate n 0)) a ≡ word_now h a
memory-at n a h low = ap (λ m. slice_index m a) (memory-all n h) ∙ words_of-at n (word_now h) a low

-- past the end of both memories there is nothing
get_or-past : (xs : List ℕ) (a : ℕ) → length xs ≤ a → get_or xs a 0 ≡ 0
get_or-past [] a h = refl
get_or-past (x ∷ xs) zero h = absurd (omega arith)
get_or-past (x ∷ xs) (suc a) h = get_or-past xs a (omega arith)

written-same : (a : Alg) (granted : Bool) (v u : View) (o : Own) → u.attempt ≡ v.attempt → u.owned ≡ v.owned → written_under a granted u o ≡ written_under a granted v o
written-same Cgl granted v u o attempt owned = ap (λ t. items t.stores) attempt
written-same Tml granted v u o attempt owned = ap (λ t. items t.stores) attempt
written-same OrecLazy false v u o attempt owned = refl
written-same OrecLazy true v u o attempt owned = ap (λ t. items t.stores) attempt
written-same OrecEager false v u o attempt owned = ap (λ t. items t.in_place) owned
written-same OrecEager true v u o attempt owned = ap (λ t. items t.stores) attempt
written-same RingSw false v u o attempt owned = refl
written-same RingSw true v u o attempt owned = ap (λ t. items t.stores) attempt
written-same Serial granted v u o attempt owned = ap (λ t. items t.stores) attempt

-- of a step in the range its caller knows that, and nothing else, anew
beside : (v u : View) (o : Own) → u.history ≡ v.history → u.gate ≡ v.gate → u.lock ≡ v.lock → u.tml ≡ v.tml → u.attempt ≡ v.attempt → u.owned ≡ v.owned
    → u.steps ≡ record v.steps { step_trace = u.steps.step_trace } → known_of u o ≡ record (known_of v o) { top = (known_of u o).top; step_trace = (known_of u o).step_trace; fenced = (known_of u o).fenced }
beside v u o history gate lock tml attempt owned steps = λ i. record (known_of u o) {
  made = public_history (history i).made;
  seen = public_history (history i).seen;
  front = (history i).front;
  phase = (gate i).phase;
  running = is_in (gate i).phase;
  closing = is_closing (gate i).phase;
  holds = (gate i).holds;
  alg = (gate i).algorithm;
  fence = (gate i).fence;
  checked = (gate i).checked;
  settled = is_settled (gate i);
  granted = granted_under (gate i).algorithm (gate i) (lock i);
  kept = ((λ j. kept_under (gate j).algorithm u o) ∙ kept-same v.gate.algorithm v u o o refl (ap (λ t. t.undo) owned) (ap (λ t. t.undo) lock)) i;
  rises = (steps i).rises;
  base = (steps i).rises_at_begin;
  installs = reverse (steps i).installs;
  start = (attempt i).start;
  log = record { reads = items (attempt i).reads; writes = written i };
  locked = locked_under (gate i).algorithm (lock i).taken (tml i).writer;
}
  where
    written : written_under u.gate.algorithm u.gate.granted u o ≡ written_under v.gate.algorithm v.gate.granted v o
    written = ap (λ g. written_under g.algorithm g.granted u o) gate ∙ written-same v.gate.algorithm v.gate.granted v u o attempt owned

module _ (good : List ℕ → Type 0) (c : Config) (n : ℕ) where
  abbrev rule : (ℕ → ℕ) → Type 0
  rule = of_words good c.words

  pub tells-fenced : (from count : ℕ) (alg : Alg) (v w : View) (o : Own) → IsNamed n from count → HoldsClosed (known_of v o) → v.gate.fence ≡ 0
      → Tells (fence n (fence_number n from count) alg) (FindsPast rule c) v (gate_word (fence_number n from count) (1 + n) alg) w → TakesRange good c n from count (known_of v o) (known_of w o)
  tells-fenced from count alg v w o named h free t = let more = later-seen t.0.history v.history.front t.0.clock t.1.below t.1.front in subst (λ (y : View). TakesRange good c n from count (known_of v o) (known_of y o)) (sym t.2) (record {
    closed = record {
      holds = record { phase = h.phase; running = h.running; closing = h.closing; holds = h.holds; ungranted = granted-same v.gate.algorithm last.gate v.gate v.lock refl ∙ h.ungranted; unlocked = h.unlocked };
      grows =
          grows-same (known_of v o) (record (known_of last o) { fenced = (known_of v o).fenced }) refl refl
          (record { place = Gate; act = Store (gate_word (fence_number n from count) (1 + n) alg); found = None } ∷ []) refl refl refl refl refl;
      checked = refl;
      alg = refl;
      installs = refl;
    };
    free = free;
    made = refl;
    rises = refl;
    settled = refl;
    fence = refl;
    range = refl;
    words = λ a. (λ i. if nat_le (fence_from-number n from count named i) a then ltb a (fence_from-number n from count named i + fence_count-number n from count named i) else false);
    legal = legal-public good c t.0.history (t.0.clock + 1) t.1.below t.1.legal;
    later = more.0;
    seen = more.1 ∙ ap (λ s. s ++ more.0) (sym (ap public_history t.1.seen));
    front = t.1.front;
  })
    where
      last : View
      last = view_after (fence n (fence_number n from count) alg) t.0 v (gate_word (fence_number n from count) (1 + n) alg)

  pub tells-direct_read : (a x : ℕ) (v w : View) (o : Own) → a < c.words → Tells (fence_load a) (FenceLoads a) v x w → ReadsDirect good c n a x (known_of v o) (known_of w o)
  tells-direct_read a x v w o low t = subst (λ (y : View). ReadsDirect good c n a x (known_of v o) (known_of y o)) (sym t.2) (record {
    stays = record { is = beside v (view_after (fence_load a) t.0 v x) o refl refl refl refl refl refl refl; item = record { place = Heap a; act = Load; found = Some x }; step_trace = refl };
    range = refl;
    value = by (touches v.fence.stores a) refl;
  })
    where
      by : (own : Bool) → touches v.fence.stores a ≡ own
          → MatchOption (item_at a (items v.fence.stores)) ((x
          ≡ slice_index (memory_after (public_history v.fence.past.seen) (zeros c.words)) a)
          × (items (if touches v.fence.stores a then v.fence.reads else record { at = a; value = x } ∷ v.fence.reads)
          ≡ put a x (items v.fence.reads)))
          (λ y. (x ≡ y) × (items (if touches v.fence.stores a then v.fence.reads else record { at = a; value = x } ∷ v.fence.reads) ≡ items v.fence.reads))
      by true q =
          let at : item_at a (items v.fence.stores) ≡ Some (over v.fence.stores a 0) = item-touched v.fence.stores a q in
          let is : x ≡ over v.fence.stores a 0 = t.1 ∙ over-hit v.fence.stores a (word_now v.fence.past.seen a) 0 q in
          rw at (rw q (is, refl))
      by false q =
          let at : item_at a (items v.fence.stores) ≡ None = item-none v.fence.stores a q in
          let is : x ≡ slice_index (memory_after (public_history v.fence.past.seen) (zeros c.words)) a = t.1 ∙
          (over-miss v.fence.stores a (word_now v.fence.past.seen a) q ∙ sym (memory-at c.words a v.fence.past.seen low)) in
          rw at (rw q (is, refl))

  pub tells-direct_write : (a x : ℕ) (v w : View) (o : Own) → Tells (fence_store a x) Nothing v x w → WritesDirect good c n a x (known_of v o) (known_of w o)
  tells-direct_write a x v w o t = subst (λ (y : View). WritesDirect good c n a x (known_of v o) (known_of y o)) (sym t.2) (record {
    stays = record { is = beside v (view_after (fence_store a x) t.0 v x) o refl refl refl refl refl refl refl; item = record { place = Heap a; act = Store x; found = None }; step_trace = refl };
    range = refl;
  })

  -- who is closing and has a range in which nothing is stored may give it back
  pub can-unfence : (l : Local) (v : View) → IsClosing c.callers n l v → HasChecked c.callers n v → v.fence.holds ≡ true → v.fence.stores ≡ [] → CanUnfence c.callers n l.algorithm v
  can-unfence l v k quiet held none =
      record {
        phase = k.phase;
        quiet = quiet;
        named = k.named;
        holds = held;
        unstored = none;
        plain = λ e. k.clear.unentered;
        marked = λ e. absurd (let f : true ≡ false = sym e ∙ k.ungiven in cc);
      }

  pub tells-unchanged : (alg : Alg) (v w : View) (o : Own) → HoldsClosed (known_of v o) → is_empty (known_of v o).fenced.log.writes ≡ true
      → Tells (unfence n alg) Nothing v (gate_word 0 (1 + n) alg) w → Gives good c n Unchanged (known_of v o) (known_of w o)
  tells-unchanged alg v w o h none t = subst (λ (y : View). Gives good c n Unchanged (known_of v o) (known_of y o)) (sym t.2) (
    record {
      closed = record {
        holds = record { phase = h.phase; running = h.running; closing = h.closing; holds = h.holds; ungranted = granted-same v.gate.algorithm last.gate v.gate v.lock refl ∙ h.ungranted; unlocked = h.unlocked };
        grows = grows-same (known_of v o) (record (known_of last o) { fenced = (known_of v o).fenced }) refl refl (record { place = Gate; act = Store (gate_word 0 (1 + n) alg); found = None } ∷ []) refl refl refl refl refl;
        checked = refl;
        alg = refl;
        installs = refl;
      };
      made = refl;
      seen = refl;
      front = refl;
      rises = refl;
    },
    (refl, refl),
    none,
    (refl, refl),
  )
    where
      last : View
      last = view_after (unfence n alg) t.0 v (gate_word 0 (1 + n) alg)

  pub tells-full : (t : ℕ) (alg : Alg) (v w : View) (o : Own) → HoldsClosed (known_of v o)
      → is_empty (known_of v o).fenced.log.writes ≡ false → CLOCK_LIMIT ≤ t → Tells settle (FindsEven alg) v t w
      → Gives good c n (ClockFull t) (known_of v o) (known_of w o)
  tells-full t alg v w o h some high s = subst (λ (y : View). Gives good c n (ClockFull t) (known_of v o) (known_of y o)) (sym s.2) (
    record {
      closed = record {
        holds = record { phase = h.phase; running = h.running; closing = h.closing; holds = h.holds; ungranted = granted-same v.gate.algorithm last.gate v.gate v.lock refl ∙ h.ungranted; unlocked = h.unlocked };
        grows = grows-same (known_of v o) (record (known_of last o) { fenced = (known_of v o).fenced }) refl refl (record { place = Clock; act = Load; found = Some t } ∷ []) refl refl refl refl refl;
        checked = refl;
        alg = refl;
        installs = refl;
      };
      made = refl;
      seen = refl;
      front = refl;
      rises = refl;
    },
    refl,
    refl,
    some,
    finds-full t v last o o high (record { place = Clock; act = Load; found = Some t } ∷ [], refl, Load, (0, omega arith, refl)),
  )
    where
      last : View
      last = view_after settle s.0 v t

  -- THE MEMORY RULE of a give-back, as the rule states it
  keeps-cells : (v : View) (o : Own) → is_empty (known_of v o).fenced.log.writes ≡ false → fences.KeepsFenced good c n (known_of v o) → KeepsFenced rule v.fence
  keeps-cells v o some keeps m g h small =
      subst good (words_of-over c.words m v.fence.stores) (keeps some (words_of c.words m) g (length-words_of c.words m)
      (λ a e. same a e (ltb a c.words) refl) (words_of-words c.words m small))
    where
      past : List ℕ
      past = memory_after (public_history v.fence.past.seen) (zeros c.words)

      long : length past ≡ c.words
      long = ap length (memory-all c.words v.fence.past.seen) ∙ length-words_of c.words (word_now v.fence.past.seen)

      same : (a : ℕ) → fenced v.fence.number a ≡ true → (b : Bool) → ltb a c.words ≡ b → get_or (words_of c.words m) a 0 ≡ get_or past a 0
      same a e true q = let low : a < c.words = grind (arith, nat_tests, q) in words_of-at c.words m a low ∙ (h a e ∙ sym (memory-at c.words a v.fence.past.seen low))
      same a e false q =
          let high : c.words ≤ a = grind (arith, nat_tests, q) in
          let l = length-words_of c.words m in
          let k = long in
          get_or-past (words_of c.words m) a (omega arith) ∙ sym (get_or-past past a (omega arith))

  some-stored : (v : View) (o : Own) → is_empty (known_of v o).fenced.log.writes ≡ false → v.fence.stores ≢ []
  some-stored v o some e = let f : true ≡ false = sym (ap (λ (cs : List Cell). is_empty (items cs)) e) ∙ some in cc

  -- TML's clock stands two below the limit, if it is below it
  rises-within : (alg : Alg) (t : ℕ) → t < CLOCK_LIMIT → (alg ≡ Tml → t % 2 ≡ 0) → t + entry_rise alg ≤ CLOCK_LIMIT
  rises-within Cgl t low even = omega arith
  rises-within Tml t low even = let e = even refl in omega arith
  rises-within OrecLazy t low even = omega arith
  rises-within OrecEager t low even = omega arith
  rises-within RingSw t low even = omega arith
  rises-within Serial t low even = omega arith

  pub can-commit : (t time : ℕ) (l : Local) (v w : View) (o : Own) → IsClosing c.callers n l v → v.fence.holds ≡ true
      → is_empty (known_of v o).fenced.log.writes ≡ false → fences.KeepsFenced good c n (known_of v o) → t < CLOCK_LIMIT
      → time ≡ t + entry_rise l.algorithm
      → Tells settle (FindsEven l.algorithm) v t w → CanFenceCommit rule l.algorithm time w
  can-commit t time l v w o k held some keeps low is s = subst (CanFenceCommit rule l.algorithm time) (sym s.2) (record {
    phase = k.phase;
    quiescent = refl;
    named = k.named;
    holds = held;
    ungiven = k.ungiven;
    time = is;
    limit = (let r = rises-within l.algorithm t low s.1.1 in omega arith);
    wrote = some-stored v o some;
    keeps = keeps-cells v o some keeps;
  })

  -- THE GIVE-BACK: the clock, the entry, BASE, DONE, and the gate without the range
  pub tells-given : (t time : ℕ) (l : Local) (v s u y z w : View) (o : Own) → IsClosing c.callers n l v → HoldsClosed (known_of v o) → is_empty (known_of v o).fenced.log.writes ≡ false
      → Tells settle (FindsEven l.algorithm) v t s → Tells (fence_commit n l.algorithm time) (FenceCommits rule c n time) s time u → Tells (store_base time) Nothing u time y → Tells (store_done time) Nothing y time z
      → Tells (unfence n l.algorithm) Nothing z (gate_word 0 (1 + n) l.algorithm) w → GivesAt good c n time (known_of v o) (known_of w o)
  tells-given t time l v s u y z w o k h some a b d e f = subst (λ (x : View). GivesAt good c n time (known_of v o) (known_of x o)) (sym path) (record {
    closed = record {
      holds = record { phase = h.phase; running = h.running; closing = h.closing; holds = h.holds; ungranted = granted-same v.gate.algorithm given.gate v.gate v.lock refl ∙ h.ungranted; unlocked = h.unlocked };
      grows = record {
        later = before.0 ++ made ∷ [];
        is =
            ap (λ (q : List public.Entry). q ++ made ∷ []) before.1
            ∙ (append_assoc (public_history (upto b.0.history v.history.front)) before.0 (made ∷ [])
            ∙ ap (λ (q : List Entry). public_history q ++ (before.0 ++ made ∷ [])) (sym shown.seen));
        ascending = ascending-append v.history.front (time - 1) before.0 (made ∷ []) before.2 before.3 (let q = shown.front in omega arith) (let q = shown.front in omega arith, tt);
        up_to = within-append (time - 1) time before.0 (made ∷ []) before.3 (omega arith) (omega arith, tt);
        front_rose = (let q = shown.front in omega arith);
        more =
            record { place = Gate; act = Store (gate_word 0 (1 + n) l.algorithm); found = None }
            ∷ record { place = Done; act = Store time; found = None } ∷ record { place = Base; act = Store time; found = None }
            ∷ record { place = Clock; act = Store time; found = None } ∷ record { place = Clock; act = Load; found = Some t } ∷ [];
        step_trace = refl;
        reads_limit = refl;
        writes_limit = refl;
        marks_limit = refl;
        fenced = refl;
      };
      checked = refl;
      alg = refl;
      installs = refl;
    };
    none = (refl, refl);
    wrote = some;
    settled = refl;
    rises = ap (λ q. v.steps.rises + entry_rise q) (sym k.named);
    made = ap (λ (q : public.Entry). public_history v.history.made ++ q ∷ []) as_entry;
    before = public_history b.0.history;
    seen = ap (λ (q : public.Entry). public_history b.0.history ++ q ∷ []) as_entry;
    legal = legal-public good c (fence_entry n time v ∷ b.0.history) (time + 1) shown.below shown.legal;
    above = shown.front;
    front = refl;
    since = since.0;
    taken = since.1 ∙ ap (λ (q : List Entry). public_history q ++ since.0) (sym shown.past);
    after = (since.2, shown.past_front);
    found = (refl, refl);
  })
    where
      given : View
      given =
          view_after (unfence n l.algorithm) f.0 (view_after (store_done time) e.0
          (view_after (store_base time) d.0 (view_after (fence_commit n l.algorithm time) b.0 (view_after settle a.0 v t) time) time) time)
          (gate_word 0 (1 + n) l.algorithm)

      path : w ≡ given
      path =
          f.2
          ∙ ap (λ x. view_after (unfence n l.algorithm) f.0 x (gate_word 0 (1 + n) l.algorithm))
          (e.2
          ∙ ap (λ x. view_after (store_done time) e.0 x time) (d.2
          ∙ ap (λ x. view_after (store_base time) d.0 x time)
          (b.2 ∙ ap (λ x. view_after (fence_commit n l.algorithm time) b.0 x time) a.2)))

      settled : View
      settled = view_after settle a.0 v t

      shown : FenceCommits rule c n time b.0 settled time
      shown = subst (λ (x : View). FenceCommits rule c n time b.0 x time) a.2 b.1

      -- what had been committed since it took its range
      since : (later : List public.Entry) × (public_history b.0.history ≡ public_history (upto b.0.history v.fence.past.front) ++ later) × Ascending v.fence.past.front later × Within (time - 1) later
      since = let q = shown.past_front in later-seen b.0.history v.fence.past.front (time - 1) (subst (Below b.0.history) (let r : time ≡ (time - 1) + 1 = omega arith in r) shown.below.1) (omega arith)

      -- what had been committed since the caller last looked
      before : (later : List public.Entry) × (public_history b.0.history ≡ public_history (upto b.0.history v.history.front) ++ later) × Ascending v.history.front later × Within (time - 1) later
      before = let q = shown.front in later-seen b.0.history v.history.front (time - 1) (subst (Below b.0.history) (let r : time ≡ (time - 1) + 1 = omega arith in r) shown.below.1) (omega arith)

      made : public.Entry
      made = public_entry (fence_entry n time v)

      as_entry : made ≡ entry time n (length (public_history v.history.made)) (known_of v o).fenced.log
      as_entry = λ i. record { time = time; caller = n; number = sym (length-public_history v.history.made) i; reads = items v.fence.reads; writes = items v.fence.stores }
