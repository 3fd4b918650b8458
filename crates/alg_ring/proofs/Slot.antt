-- What the loads of slot words come to, step by step.
use Rattle.std.proofs.Common.{ℕ, ◌≡◌, ◌≢◌, ◌<◌, ◌≤◌, ◌+◌, ◌*◌, ◌-◌, List, [], ◌∷◌, ◌++◌, Bool, true, false, refl, sym, ap, ◌∙◌, arith, subst, append_assoc}
use Rattle.std.specs.Prelude.{◌==◌, slice_index, bit_and, Some, None}
use Rattle.std.proofs.lemmas.Bool.Decides.{nat_tests}
use Rattle.stm_model.specs.declared.config.Config.{Config}
use Rattle.stm_model.specs.declared.stop.Cause.TheVariants as causes
use Rattle.rule_base.specs.declared.layout.At.TheVariants.{Slot}
use Rattle.rule_base.specs.declared.layout.TheConstants.{SLOT_WORDS}
use Rattle.rule_base.specs.declared.views.Act.TheVariants.{Load}
use Rattle.rule_base.specs.declared.views.SlotWord.{SlotWord}
use Rattle.rule_base.specs.declared.views.TracedStep.{TracedStep}
use Rattle.rule_base.specs.declared.views.View.{View}
use Rattle.rule_base.specs.StepKinds.{Nothing, Tells, view_after}
use Rattle.rule_ring.specs.RingSteps.{CanRingWord, ring_word, AllClear}
use Rattle.rule_ring.specs.SlotFilter.{slot_filter}
use Rattle.rule_ring.specs.Slots.{slot_place, has_word, loaded_word}
use Rattle.stm_logs.specs.Filters.{meets, part_meets}
use Rattle.stm_answers.specs.SlotEvidence.{InStepTrace, LoadsWord, Misses}
use Rattle.alg_ring.specs.Checking.{with_words, CanLoadSlot, NoCommon, FirstCommon, LoadsPart, MeetsSlot, CanScan, MeetsOne}
use Rattle.alg_ring.proofs.Meeting.{part-yes, part-no, meets-yes, meets-no, part-same, lowest-at, ring-meets}
use Rattle.alg_ring.proofs.Words.{front-has, back-has, loaded-some, last-here, last-else, last-of, step_trace-right, step_trace-left}

-- the view doesn't see how the steps are parted
pub with-more : (v : View) (words : List SlotWord) (a b : List TracedStep) → with_words (with_words v words b) words a ≡ with_words v words (a ++ b)
with-more v words a b = ap (λ (t : List TracedStep). record v { ring_read = record v.ring_read { words = words }; steps = record v.steps { step_trace = t } }) (sym (append_assoc a b v.steps.step_trace))

-- two runs of loads, one after the other
pub with-both : (v w u : View) (xs ys : List SlotWord) (a b : List TracedStep) → w ≡ with_words v (xs ++ v.ring_read.words) a
    → u ≡ with_words w (ys ++ w.ring_read.words) b → u ≡ with_words v ((ys ++ xs) ++ v.ring_read.words) (b ++ a)
with-both v w u xs ys a b e f = f ∙ (ap (λ (y : View). with_words y (ys ++ y.ring_read.words) b) e
    ∙ (λ i. record v { ring_read = record v.ring_read { words = sym (append_assoc ys xs v.ring_read.words) i }; steps = record v.steps { step_trace = sym (append_assoc b a v.steps.step_trace) i } }))

-- what a load of a word asks
pub may-word : (ring time i : ℕ) (v w : View) (words : List SlotWord) (more : List TracedStep) → CanLoadSlot ring time v → w ≡ with_words v words more → i < SLOT_WORDS → CanRingWord ring time i w
may-word ring time i v w words more can is low = subst (CanRingWord ring time i) (sym is) (record {
  has = record { runs = record { phase = can.has.runs.phase; algorithm = can.has.runs.algorithm; plain = can.has.runs.plain }; inside = can.has.inside };
  checking = can.checking;
  unsure = can.unsure;
  since = can.since;
  upto = can.upto;
  near = can.near;
  index = low;
})

-- and that of a slot, after others
pub may-slot : (ring time : ℕ) (v w : View) (words : List SlotWord) (more : List TracedStep) → CanLoadSlot ring time v → w ≡ with_words v words more → CanLoadSlot ring time w
may-slot ring time v w words more can is = subst (CanLoadSlot ring time) (sym is) (record {
  has = record { runs = record { phase = can.has.runs.phase; algorithm = can.has.runs.algorithm; plain = can.has.runs.plain }; inside = can.has.inside };
  checking = can.checking;
  unsure = can.unsure;
  since = can.since;
  upto = can.upto;
  near = can.near;
})

module _ (ring time : ℕ) (filter : List ℕ) where
  -- the words of the part before word i were loaded, and have no common bits
  pub record PartSoFar (part i : ℕ) (v w : View) : Type 0 where
    pub words : List SlotWord
    pub more : List TracedStep
    pub is : w ≡ with_words v (words ++ v.ring_read.words) more
    pub of : (t j : ℕ) → has_word words t j ≡ true → (t ≡ time) × (4 * part ≤ j) × (j < i)
    pub found : (j : ℕ) → has_word words time j ≡ true → InStepTrace more (Slot (slot_place ring time j)) (loaded_word words time j)
    pub none : (j : ℕ) → 4 * part ≤ j → j < i → NoCommon ring time filter words j

  pub part-first : (part : ℕ) (v : View) → PartSoFar part (4 * part) v v
  part-first part v = record { words = []; more = []; is = refl; of = λ t j e. absurd cc; found = λ j e. absurd cc; none = λ j a b. absurd (omega arith) }

  module _ (part i : ℕ) (v w u : View) (x : ℕ) (s : PartSoFar part i v w) (t : Tells (ring_word ring time i) Nothing w x u) (low : 4 * part ≤ i) where
    abbrev pub next : List SlotWord
    next = record { time = time; index = i; value = x } ∷ s.words

    abbrev pub steps : List TracedStep
    steps = record { place = Slot (slot_place ring time i); act = Load; found = Some x } ∷ s.more

    next_is : u ≡ with_words v (next ++ v.ring_read.words) steps
    next_is = t.2 ∙ ap (λ (y : View). view_after (ring_word ring time i) t.0 y x) s.is

    next_of : (d j : ℕ) → has_word next d j ≡ true → (d ≡ time) × (4 * part ≤ j) × (j < i + 1)
    next_of d j h = last-of s.words time i x d j ((d ≡ time) × (4 * part ≤ j) × (j < i + 1)) (λ a b. (a, omega arith, omega arith)) (λ k. let o = s.of d j k in (o.0, o.1, let q = o.2 in omega arith)) h

    next_found : (j : ℕ) → has_word next time j ≡ true → InStepTrace steps (Slot (slot_place ring time j)) (loaded_word next time j)
    next_found j h = by (i == j) refl
      where
        by : (b : Bool) → (i == j) ≡ b → InStepTrace steps (Slot (slot_place ring time j)) (loaded_word next time j)
        by true q = let same : i ≡ j = grind (arith, nat_tests) in
            subst (λ (k : ℕ). InStepTrace steps (Slot (slot_place ring time k)) (loaded_word next time k)) same
            (subst (λ (n : ℕ). InStepTrace steps (Slot (slot_place ring time i)) n) (sym (last-here s.words time i x).1)
            (Load, (0, omega arith, refl)))
        by false q = let e = last-else s.words time i x j (let d : i ≢ j = grind (arith, nat_tests) in d) in
            subst (λ (n : ℕ). InStepTrace steps (Slot (slot_place ring time j)) n) (sym e.1)
            (step_trace-right (record { place = Slot (slot_place ring time i); act = Load; found = Some x } ∷ []) s.more
            (Slot (slot_place ring time j)) (loaded_word s.words time j) (s.found j (sym e.0 ∙ h)))

    next_none : (j : ℕ) → 4 * part ≤ j → j < i → NoCommon ring time filter next j
    next_none j a b = let e = last-else s.words time i x j (omega arith) in let n = s.none j a b in (e.0 ∙ n.0, ap (bit_and (slice_index filter j)) e.1 ∙ n.1)

    next_all : bit_and (slice_index filter i) x ≡ 0 → (j : ℕ) → 4 * part ≤ j → j < i + 1 → NoCommon ring time filter next j
    next_all z j a b = by (i == j) refl
      where
        by : (e : Bool) → (i == j) ≡ e → NoCommon ring time filter next j
        by true q = let same : i ≡ j = grind (arith, nat_tests) in let h = last-here s.words time i x in subst (λ (k : ℕ). NoCommon ring time filter next k) same (h.0, ap (bit_and (slice_index filter i)) h.1 ∙ z)
        by false q = let d : i ≢ j = grind (arith, nat_tests) in next_none j a (omega arith)

    -- word i has no common bits
    pub part-next : bit_and (slice_index filter i) x ≡ 0 → PartSoFar part (i + 1) v u
    part-next z = record { words = next; more = steps; is = next_is; of = next_of; found = next_found; none = next_all z }

    -- or some
    pub part-found : i < 4 * part + 4 → bit_and (slice_index filter i) x ≢ 0 → LoadsPart ring time filter part (bit_and (slice_index filter i) x) v u
    part-found high some = record {
      words = next;
      more = steps;
      is = next_is;
      of = λ d j h. let o = next_of d j h in (o.0, o.1, let q = o.2 in omega arith);
      found = next_found;
      none = λ z. absurd (some z);
      some = λ k. record {
        j = i;
        low = low;
        high = high;
        has = (last-here s.words time i x).0;
        is = ap (bit_and (slice_index filter i)) (sym (last-here s.words time i x).1);
        before = next_none;
      };
    }

  pub part-last : (part : ℕ) (v w : View) → PartSoFar part (4 * part + 4) v w → LoadsPart ring time filter part 0 v w
  part-last part v w s = record { words = s.words; more = s.more; is = s.is; of = s.of; found = s.found; none = λ z. s.none; some = λ k. absurd (k refl) }

  -- words of the parts before this one were loaded
  pub record SlotWords (part : ℕ) (v w : View) : Type 0 where
    pub words : List SlotWord
    pub more : List TracedStep
    pub is : w ≡ with_words v (words ++ v.ring_read.words) more
    pub of : (t j : ℕ) → has_word words t j ≡ true → (t ≡ time) × (j < 4 * part)
    pub found : (j : ℕ) → has_word words time j ≡ true → InStepTrace more (Slot (slot_place ring time j)) (loaded_word words time j)

  pub slot-first : (v : View) → SlotWords 0 v v
  slot-first v = record { words = []; more = []; is = refl; of = λ t j e. absurd cc; found = λ j e. absurd cc }

  -- and each of them meets the filter
  pub record SlotMet (part lowest : ℕ) (words : List SlotWord) : Type 0 where
    pub met : (p : ℕ) → p < part → part_meets (slice_index filter) (loaded_word words time) p ≡ true
    pub some : lowest ≢ 0
    pub first : FirstCommon ring time filter 0 lowest words

  module _ (part bits : ℕ) (v w u : View) (s : SlotWords part v w) (l : LoadsPart ring time filter part bits w u) where
    abbrev pub both : List SlotWord
    both = l.words ++ s.words

    -- the words of the parts before are as they were
    before : (j : ℕ) → j < 4 * part → (has_word both time j ≡ has_word s.words time j) × (loaded_word both time j ≡ loaded_word s.words time j)
    before j low = back-has l.words s.words time j (λ h. let o = l.of time j h in let q = o.1 in omega arith)

    here : (j : ℕ) → has_word l.words time j ≡ true → (has_word both time j ≡ true) × (loaded_word both time j ≡ loaded_word l.words time j)
    here j h = front-has l.words s.words time j h

    pub both_of : (t j : ℕ) → has_word both t j ≡ true → (t ≡ time) × (j < 4 * (part + 1))
    both_of t j h = by (has_word l.words t j) refl
      where
        by : (b : Bool) → has_word l.words t j ≡ b → (t ≡ time) × (j < 4 * (part + 1))
        by true e = let o = l.of t j e in (o.0, let q = o.2 in omega arith)
        by false e = let b = back-has l.words s.words t j (λ k. let f : true ≡ false = sym k ∙ e in cc) in let o = s.of t j (sym b.0 ∙ h) in (o.0, let q = o.1 in omega arith)

    pub both_found : (j : ℕ) → has_word both time j ≡ true → InStepTrace (l.more ++ s.more) (Slot (slot_place ring time j)) (loaded_word both time j)
    both_found j h = by (has_word l.words time j) refl
      where
        by : (b : Bool) → has_word l.words time j ≡ b → InStepTrace (l.more ++ s.more) (Slot (slot_place ring time j)) (loaded_word both time j)
        by true e =
            subst (λ (n : ℕ). InStepTrace (l.more ++ s.more) (Slot (slot_place ring time j)) n) (sym (here j e).1)
            (step_trace-left l.more s.more (Slot (slot_place ring time j)) (loaded_word l.words time j) (l.found j e))
        by false e = let b = back-has l.words s.words time j (λ k. let f : true ≡ false = sym k ∙ e in cc) in
            subst (λ (n : ℕ). InStepTrace (l.more ++ s.more) (Slot (slot_place ring time j)) n) (sym b.1)
            (step_trace-right l.more s.more (Slot (slot_place ring time j)) (loaded_word s.words time j) (s.found j (sym b.0 ∙ h)))

    pub both_is : u ≡ with_words v (both ++ v.ring_read.words) (l.more ++ s.more)
    both_is = with-both v w u s.words l.words s.more l.more s.is l.is

    abbrev pub slot-more : SlotWords (part + 1) v u
    slot-more = record { words = both; more = l.more ++ s.more; is = both_is; of = both_of; found = both_found }

    -- a part without common bits: the slot doesn't meet the filter, whatever its other words are
    pub slot-apart : part < 4 → bits ≡ 0 → MeetsSlot ring time filter 0 v u
    slot-apart low none = record {
      words = both;
      more = l.more ++ s.more;
      is = both_is;
      of = λ t j h. (both_of t j h).0;
      found = both_found;
      apart = λ z slot same. meets-no (slice_index filter) slot part low (part-no (slice_index filter) slot part (λ i a b.
          let n = l.none none i a b in let h = here i n.0 in
          ap (bit_and (slice_index filter i)) (sym (same i (omega arith) h.0) ∙ h.1) ∙ n.1));
      missed = λ z. (part, low, λ i a b. let n = l.none none i a b in let h = here i n.0 in (h.0, ap (bit_and (slice_index filter i)) h.1 ∙ n.1));
      meet = λ k. absurd (k refl);
      first = λ k. absurd (k refl);
      lowest = λ k. absurd (k refl);
    }

    -- the part meets the filter
    met-here : bits ≢ 0 → part_meets (slice_index filter) (loaded_word both time) part ≡ true
    met-here some = let f = l.some some in part-yes (slice_index filter) (loaded_word both time) part f.j f.low f.high (λ z. some (f.is ∙ (ap (bit_and (slice_index filter f.j)) (sym (here f.j f.has).1) ∙ z)))

    first-here : (e : part ≡ 0) → bits ≢ 0 → FirstCommon ring time filter 0 bits both
    first-here e some = let f = l.some some in record {
      j = f.j;
      low = omega arith;
      high = (let q = f.high in omega arith);
      has = (here f.j f.has).0;
      is = f.is ∙ ap (bit_and (slice_index filter f.j)) (sym (here f.j f.has).1);
      before = λ i a b. let n = f.before i (omega arith) b in let h = here i n.0 in (h.0, ap (bit_and (slice_index filter i)) h.1 ∙ n.1);
    }

    pub slot-one : part ≡ 0 → bits ≢ 0 → SlotMet (part + 1) bits both
    slot-one e some =
        record {
          met = λ p low.
              let same : part ≡ p = omega arith in
              subst (λ (k : ℕ). part_meets (slice_index filter) (loaded_word both time) k ≡ true) same (met-here some);
          some = some;
          first = first-here e some;
        }

    pub slot-next : (lowest : ℕ) → 0 < part → bits ≢ 0 → SlotMet part lowest s.words → SlotMet (part + 1) lowest both
    slot-next lowest later some k = record {
      met = λ p low. met p low (p == part) refl;
      some = k.some;
      first = let f = k.first in record {
        j = f.j;
        low = f.low;
        high = f.high;
        has = (before f.j (let q = f.high in omega arith)).0 ∙ f.has;
        is = f.is ∙ ap (bit_and (slice_index filter f.j)) (sym (before f.j (let q = f.high in omega arith)).1);
        before = λ i a b. let n = f.before i a b in let h = before i (let q = f.high in omega arith) in (h.0 ∙ n.0, ap (bit_and (slice_index filter i)) h.1 ∙ n.1);
      };
    }
      where
        met : (p : ℕ) → p < part + 1 → (b : Bool) → (p == part) ≡ b → part_meets (slice_index filter) (loaded_word both time) p ≡ true
        met p low true q = let same : part ≡ p = grind (arith, nat_tests) in subst (λ (k : ℕ). part_meets (slice_index filter) (loaded_word both time) k ≡ true) same (met-here some)
        met p low false q = let d : p ≢ part = grind (arith, nat_tests) in part-same (slice_index filter) (loaded_word both time) (loaded_word s.words time) p (λ i a b. (before i (omega arith)).1) ∙ k.met p (omega arith)

  -- all parts meet the filter
  pub slot-all : (part lowest : ℕ) (v w : View) (s : SlotWords part v w) → part ≡ 4 → SlotMet part lowest s.words → MeetsSlot ring time filter lowest v w
  slot-all part lowest v w s end k = let f = k.first in record {
    words = s.words;
    more = s.more;
    is = s.is;
    of = λ t j h. (s.of t j h).0;
    found = s.found;
    apart = λ z. absurd (k.some z);
    missed = λ z. absurd (k.some z);
    first = λ some. f;
    meet = λ some. meets-yes (slice_index filter) (loaded_word s.words time) (λ p l. k.met p (omega arith));
    lowest = λ some. f.is ∙ sym (lowest-at (slice_index filter) (loaded_word s.words time) 16 0 f.j (omega arith) (let q = f.high in omega arith) (λ i a b. (f.before i (omega arith) b).1) (λ z. some (f.is ∙ z)));
  }

-- ALL SLOTS

-- a word by its place in the ring
loads-at : (ring : ℕ) (filter : ℕ → ℕ) (more : List TracedStep) (time i x : ℕ) → InStepTrace more (Slot (slot_place ring time i)) x → LoadsWord ring filter more time i x
unfolding slot_place
loads-at ring filter more time i x t = t

-- with later loads
misses-right : (ring : ℕ) (filter : ℕ → ℕ) (more xs : List TracedStep) (e : ℕ) → Misses ring filter xs e → Misses ring filter (more ++ xs) e
misses-right ring filter more xs e m = record { slot = m.slot; part = m.part; low = m.low; loaded = λ i a b. step_trace-right more xs _ (m.slot i) (m.loaded i a b); none = m.none }

module _ (c : Config) (start clock : ℕ) (filter : List ℕ) where
  -- whatever those words of the slot are that were not loaded, it doesn't meet the filter
  abbrev Apart : List SlotWord → ℕ → Type 0
  Apart words e = (slot : ℕ → ℕ) → ((i : ℕ) → i < SLOT_WORDS → has_word words e i ≡ true → loaded_word words e i ≡ slot i) → meets (slice_index filter) slot ≡ false

  -- the slots of so many times since the start don't meet it
  pub record ScanSoFar (passed : ℕ) (v w : View) : Type 0 where
    pub words : List SlotWord
    pub more : List TracedStep
    pub is : w ≡ with_words v words more
    pub clear : (e : ℕ) → start < e → e ≤ start + passed → Apart words e
    pub missed : (e : ℕ) → start < e → e ≤ start + passed → Misses c.ring (slice_index filter) more e

  pub scan-first : (v : View) → ScanSoFar 0 v v
  scan-first v = record { words = v.ring_read.words; more = []; is = refl; clear = λ e a b. absurd (omega arith); missed = λ e a b. absurd (omega arith) }

  pub may-scan : (passed : ℕ) (v w : View) → CanScan start clock filter v → clock < start + c.ring → passed < clock - start → ScanSoFar passed v w → CanLoadSlot c.ring (start + 1 + passed) w
  may-scan passed v w can near low s = may-slot c.ring (start + 1 + passed) v w s.words s.more (record {
    has = can.has;
    checking = can.checking;
    unsure = can.unsure;
    since = (let e = can.start_is in omega arith);
    upto = (let e = can.clock_is in let d = can.later in omega arith);
    near = (let e = can.start_is in let d = can.clock_is in omega arith);
  }) s.is

  module _ (passed bits : ℕ) (v w u : View) (s : ScanSoFar passed v w) (m : MeetsSlot c.ring (start + 1 + passed) filter bits w u) where
    scan_is : u ≡ with_words v (m.words ++ s.words) (m.more ++ s.more)
    scan_is = m.is ∙ (ap (λ (y : View). with_words y (m.words ++ y.ring_read.words) m.more) s.is ∙ with-more v (m.words ++ s.words) m.more s.more)

    loads : (i : ℕ) → has_word m.words (start + 1 + passed) i ≡ true → LoadsWord c.ring (slice_index filter) (m.more ++ s.more) (start + 1 + passed) i (loaded_word m.words (start + 1 + passed) i)
    loads i h = loads-at c.ring (slice_index filter) (m.more ++ s.more) (start + 1 + passed) i (loaded_word m.words (start + 1 + passed) i)
        (step_trace-left m.more s.more (Slot (slot_place c.ring (start + 1 + passed) i)) (loaded_word m.words (start + 1 + passed) i) (m.found i h))

    pub scan-next : bits ≡ 0 → ScanSoFar (passed + 1) v u
    scan-next none = record { words = m.words ++ s.words; more = m.more ++ s.more; is = scan_is; clear = λ e a b. by e a b (e == start + 1 + passed) refl; missed = λ e a b. misses e a b (e == start + 1 + passed) refl }
      where
        by : (e : ℕ) → start < e → e ≤ start + (passed + 1) → (t : Bool) → (e == start + 1 + passed) ≡ t → Apart (m.words ++ s.words) e
        by e a b true q slot same = m.apart none slot (λ i low h.
            let same_time : start + 1 + passed ≡ e = grind (arith, nat_tests) in
            let f = front-has m.words s.words (start + 1 + passed) i h in
            sym f.1 ∙ subst (λ (t : ℕ). has_word (m.words ++ s.words) t i ≡ true → loaded_word (m.words ++ s.words) t i ≡ slot i) (sym same_time) (same i low) f.0)
        by e a b false q slot same = s.clear e a (let d : e ≢ start + 1 + passed = grind (arith, nat_tests) in omega arith) slot (λ i low h.
            let f = back-has m.words s.words e i (λ k. let d : e ≢ start + 1 + passed = grind (arith, nat_tests) in d (m.of e i k)) in
            sym f.1 ∙ same i low (f.0 ∙ h))

        misses : (e : ℕ) → start < e → e ≤ start + (passed + 1) → (t : Bool) → (e == start + 1 + passed) ≡ t → Misses c.ring (slice_index filter) (m.more ++ s.more) e
        misses e a b true q =
            let same : start + 1 + passed ≡ e = grind (arith, nat_tests) in
            let n = m.missed none in
            subst (Misses c.ring (slice_index filter) (m.more ++ s.more)) same (record {
              slot = loaded_word m.words (start + 1 + passed);
              part = n.0;
              low = n.1;
              loaded = λ i l h. loads i (n.2 i l h).0;
              none = part-no (slice_index filter) (loaded_word m.words (start + 1 + passed)) n.0 (λ i l h. (n.2 i l h).1);
            })
        misses e a b false q = misses-right c.ring (slice_index filter) m.more s.more e (s.missed e a (let d : e ≢ start + 1 + passed = grind (arith, nat_tests) in omega arith))

    pub scan-met : bits ≢ 0 → passed < clock - start → MeetsOne c start clock (Some (causes.Filter (start + 1 + passed) bits)) filter v u
    scan-met some low = (
      m.words ++ s.words,
      m.more ++ s.more,
      scan_is,
      let f = m.first some in record {
        since = omega arith;
        upto = omega arith;
        meets = record {
          slot = loaded_word m.words (start + 1 + passed);
          loaded = λ i l k. loads i (loaded-some m.words (start + 1 + passed) i k);
          meet = m.meet some;
          some = some;
          lowest = m.lowest some;
          index = f.j;
          low = (let h = f.high in omega arith);
          is = f.is;
          upto = λ i l. loads i (upto i l (i == f.j) refl);
        };
        least = λ e a b. misses-right c.ring (slice_index filter) m.more s.more e (s.missed e a (omega arith));
      },
    )
      where
        upto : (i : ℕ) → i ≤ (m.first some).j → (t : Bool) → (i == (m.first some).j) ≡ t → has_word m.words (start + 1 + passed) i ≡ true
        upto i l true q = let f = m.first some in subst (λ (k : ℕ). has_word m.words (start + 1 + passed) k ≡ true) (let e : f.j ≡ i = grind (arith, nat_tests) in e) f.has
        upto i l false q = let f = m.first some in (f.before i (omega arith) (let d : i ≢ f.j = grind (arith, nat_tests) in omega arith)).0

  pub scan-all : (v w : View) → CanScan start clock filter v → ScanSoFar (clock - start) v w → MeetsOne c start clock None filter v w
  scan-all v w can s = (
    s.words,
    s.more,
    s.is,
    subst (AllClear slot_filter) (sym s.is) (λ e a b slot same.
        ring-meets slot (slot_filter.word v.ring_read.watched) (slice_index filter) can.watched
        ∙ s.clear e (let k = can.start_is in omega arith) (let k = can.clock_is in let l = can.later in omega arith) slot same),
  )
