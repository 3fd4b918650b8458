-- What a mark and its release come to in an attempt, under whichever algorithm: the write log has other marks, and as
-- many are counted.
use Rattle.std.proofs.Common.{ℕ, zero, suc, ◌≡◌, ◌≤◌, ◌+◌, ◌-◌, List, [], ◌∷◌, ◌++◌, length, take, Bool, true, false, refl, sym, ap, ◌∙◌, arith, length-append}
use Rattle.std.specs.Prelude.{replicate, ◌&&◌}
use Rattle.std.proofs.lemmas.List.{length-replicate, take-replicate, length-take-le}
use Rattle.stm_model.specs.Algorithms.{irrevocable_under, closes_gate}
use Rattle.stm_model.specs.declared.alg.Alg.{Alg}
use Rattle.stm_model.specs.declared.alg.Alg.TheVariants.{Cgl, Tml, OrecLazy, OrecEager, RingSw, Serial}
use Rattle.stm_model.specs.declared.config.Config.{Config}
use Rattle.rule_base.specs.declared.views.View.{View}
use Rattle.rule_base.specs.Bridge.{items}
use Rattle.stm_rule.specs.declared.local.Local.{Local}
use Rattle.stm_rule.specs.Attempts.{own_of, IsInside, Keeps}
use Rattle.stm_rule.specs.RecordsKept.{Buffers, HasMarks, IsWriteSet}
use Rattle.stm_answers.specs.Answers.{IsMarked, Releases}
use Rattle.stm_answers.specs.CallerState.{CallerState, known_of, written_under, is_irrevocable}
use Rattle.stm_gate.proofs.Cells.{items-cells}
use Rattle.stm_gate.proofs.Irrevocable.{irrevocable-of}
use Rattle.stm_gate.proofs.KeptLaws.{kept-same}
use Rattle.stm_gate.proofs.MarkLaws.{marks-more, marks-take, written-same}

-- what an attempt had written at each mark, the oldest first
abbrev Marks : Type 0
Marks = List (List (ℕ × ℕ))

replicate-more : (d : ℕ) → replicate d [] ++ [] ∷ [] ≡ (let ws : Marks = replicate (d + 1) [] in ws)
replicate-more zero = refl
replicate-more (suc d) = ap (λ (ws : Marks). [] ∷ ws) (replicate-more d) ∙ ap (λ (k : ℕ). replicate k []) (let next : suc (d + 1) ≡ suc d + 1 = omega arith in next)

module _ (c : Config) (l : Local) (v : View) where
  -- the attempt with these marks, so many of them counted
  abbrev pub marked : Marks → ℕ → Local
  marked ms d = record l { writes = record l.writes { marks = ms }; depth = d }

  -- what the algorithm asks of its marks: once irrevocable they are a number
  abbrev Fit : Alg → Bool → Marks → ℕ → Type 0
  Fit Cgl g ms d = v.lock.irrevocable ≡ false → length ms ≡ d
  Fit Tml true ms d = Unit {0}
  Fit Tml false ms d = l.wrote ≡ false → ms ≡ replicate d []
  Fit OrecLazy true ms d = Unit {0}
  Fit OrecLazy false ms d = HasMarks c l.fence ms d
  Fit OrecEager true ms d = Unit {0}
  Fit OrecEager false ms d = length ms ≡ d
  Fit RingSw true ms d = Unit {0}
  Fit RingSw false ms d = HasMarks c l.fence ms d
  Fit Serial g ms d = v.lock.irrevocable ≡ false → length ms ≡ d

  fit-now : (a : Alg) (g : Bool) → Keeps c a g l v → Fit a g l.writes.marks l.depth
  fit-now Cgl g k = k.marked
  fit-now Tml true k = tt
  fit-now Tml false k = k.marked
  fit-now OrecLazy true k = tt
  fit-now OrecLazy false k = k.marked
  fit-now OrecEager true k = tt
  fit-now OrecEager false k = k.marked
  fit-now RingSw true k = tt
  fit-now RingSw false k = k.marked
  fit-now Serial g k = k.marked

  -- ONCE IRREVOCABLE any marks do
  fit-any : (a : Alg) (g : Bool) → irrevocable_under a g l.wrote ≡ true → Keeps c a g l v → l.algorithm ≡ a → l.granted ≡ g → (ms : Marks) (d : ℕ) → Fit a g ms d
  fit-any Cgl g i k e f ms d = λ r. absurd (let no : true ≡ false = sym (k.irrevocable ∙ ((λ j. irrevocable_under (e j) (f j) l.wrote) ∙ i)) ∙ r in cc)
  fit-any Serial g i k e f ms d = λ r. absurd (let no : true ≡ false = sym (k.irrevocable ∙ ((λ j. irrevocable_under (e j) (f j) l.wrote) ∙ i)) ∙ r in cc)
  fit-any Tml true i k e f ms d = tt
  fit-any Tml false i k e f ms d = λ w. absurd (let no : true ≡ false = sym i ∙ w in cc)
  fit-any OrecLazy true i k e f ms d = tt
  fit-any OrecLazy false i k e f ms d = absurd cc
  fit-any OrecEager true i k e f ms d = tt
  fit-any OrecEager false i k e f ms d = absurd cc
  fit-any RingSw true i k e f ms d = tt
  fit-any RingSw false i k e f ms d = absurd cc

  fit-take : (a : Alg) (g : Bool) (ms : Marks) (depth d : ℕ) → Fit a g ms depth → d ≤ depth → Fit a g (take d ms) d
  fit-take Cgl g ms depth d h low = λ r. let n = h r in length-take-le d ms (omega arith)
  fit-take Serial g ms depth d h low = λ r. let n = h r in length-take-le d ms (omega arith)
  fit-take Tml true ms depth d h low = tt
  fit-take Tml false ms depth d h low = λ w. ap (take d) (h w) ∙ take-replicate d depth [] low
  fit-take OrecLazy true ms depth d h low = tt
  fit-take OrecLazy false ms depth d h low = marks-take c l.fence ms depth d h low
  fit-take OrecEager true ms depth d h low = tt
  fit-take OrecEager false ms depth d h low = length-take-le d ms (omega arith)
  fit-take RingSw true ms depth d h low = tt
  fit-take RingSw false ms depth d h low = marks-take c l.fence ms depth d h low

  write-set : Buffers c l → IsWriteSet c l.fence l.writes.items
  write-set b = record { once = b.once; inside = b.inside; small = b.small; apart = b.apart }

  fit-more : (a : Alg) (g : Bool) → Keeps c a g l v → Fit a g (l.writes.marks ++ l.writes.items ∷ []) (l.depth + 1)
  fit-more Cgl g k = λ r. let n = k.marked r in let more = length-append l.writes.marks (l.writes.items ∷ []) in omega arith
  fit-more Serial g k = λ r. let n = k.marked r in let more = length-append l.writes.marks (l.writes.items ∷ []) in omega arith
  fit-more Tml true k = tt
  fit-more Tml false k = λ w. (λ j. k.marked w j ++ k.unbuffered j ∷ []) ∙ replicate-more l.depth
  fit-more OrecLazy true k = tt
  fit-more OrecLazy false k = marks-more c l.fence l.writes.marks l.depth l.writes.items k.marked (write-set k.buffers)
  fit-more OrecEager true k = tt
  fit-more OrecEager false k = let n = k.marked in let more = length-append l.writes.marks (l.writes.items ∷ []) in omega arith
  fit-more RingSw true k = tt
  fit-more RingSw false k = marks-more c l.fence l.writes.marks l.depth l.writes.items k.marked (write-set k.buffers)

  -- all else that is kept stays
  keeps-marked : (a : Alg) (g : Bool) (ms : Marks) (d : ℕ) → Fit a g ms d → Keeps c a g l v → Keeps c a g (marked ms d) v
  keeps-marked Cgl g ms d m k = record {
    taken = k.taken;
    started = k.started;
    unwritten = k.unwritten;
    uncommitted = k.uncommitted;
    reopened = k.reopened;
    clean = k.clean;
    dirty = k.dirty;
    irrevocable = k.irrevocable;
    undone = k.undone;
    undoable = k.undoable;
    shorter = k.shorter;
    most = k.most;
    within = k.within;
    writes = k.writes;
    marked = m;
    apart = k.apart;
    rises = k.rises;
    limit = k.limit;
  }
  keeps-marked Serial g ms d m k = record {
    taken = k.taken;
    started = k.started;
    unwritten = k.unwritten;
    uncommitted = k.uncommitted;
    reopened = k.reopened;
    clean = k.clean;
    dirty = k.dirty;
    irrevocable = k.irrevocable;
    undone = k.undone;
    undoable = k.undoable;
    shorter = k.shorter;
    most = k.most;
    within = k.within;
    writes = k.writes;
    marked = m;
    apart = k.apart;
    rises = k.rises;
    limit = k.limit;
  }
  keeps-marked Tml true ms d m k = record { granted = k.granted; quiescent = k.quiescent; holds = k.holds; clear = k.clear; clean = k.clean; dirty = k.dirty; rises = k.rises; limit = k.limit }
  keeps-marked Tml false ms d m k = record {
    inside = k.inside;
    settled = k.settled;
    unlocked = k.unlocked;
    unfixed = k.unfixed;
    uncommitted = k.uncommitted;
    ungranted = k.ungranted;
    even = k.even;
    writer = k.writer;
    clean = k.clean;
    dirty = k.dirty;
    not_quiescent = k.not_quiescent;
    rises = k.rises;
    limit = k.limit;
    unbuffered = k.unbuffered;
    marked = m;
    sole = k.sole;
  }
  keeps-marked OrecLazy true ms d m k = record { granted = k.granted; quiescent = k.quiescent; holds = k.holds; clear = k.clear; clean = k.clean; dirty = k.dirty; rises = k.rises; limit = k.limit }
  keeps-marked OrecLazy false ms d m k = record {
    optimistic = k.optimistic;
    buffers = record { wrote = k.buffers.wrote; once = k.buffers.once; inside = k.buffers.inside; small = k.buffers.small; apart = k.buffers.apart };
    inside = k.inside;
    lazy = k.lazy;
    open_yet = k.open_yet;
    unraised = k.unraised;
    unplaced = k.unplaced;
    undone = k.undone;
    repaid = k.repaid;
    unsampled = k.unsampled;
    unchecked = k.unchecked;
    reads = k.reads;
    locks = k.locks;
    places = k.places;
    few = k.few;
    versions = k.versions;
    open_handed = k.open_handed;
    locked = k.locked;
    committing = k.committing;
    marked = m;
    olds = k.olds;
    sole = k.sole;
  }
  keeps-marked OrecEager true ms d m k = record {
    granted = k.granted;
    quiescent = k.quiescent;
    holds = k.holds;
    unlocked = k.unlocked;
    unfixed = k.unfixed;
    unwritten = k.unwritten;
    uncommitted = k.uncommitted;
    locks = k.locks;
    places = k.places;
    below = k.below;
    disowned = k.disowned;
    few = k.few;
    clean = k.clean;
    dirty = k.dirty;
    rises = k.rises;
    limit = k.limit;
  }
  keeps-marked OrecEager false ms d m k = record {
    optimistic = k.optimistic;
    inside = k.inside;
    eager = k.eager;
    open_yet = k.open_yet;
    unraised = k.unraised;
    repaid = k.repaid;
    reads = k.reads;
    locks = k.locks;
    writes = k.writes;
    undo = k.undo;
    wrote = k.wrote;
    undoable = k.undoable;
    shorter = k.shorter;
    most = k.most;
    words = k.words;
    small = k.small;
    old_words = k.old_words;
    covered = k.covered;
    few = k.few;
    places = k.places;
    olds = k.olds;
    below = k.below;
    committing = k.committing;
    marked = m;
    sole = k.sole;
  }
  keeps-marked RingSw true ms d m k = record { granted = k.granted; quiescent = k.quiescent; holds = k.holds; clear = k.clear; clean = k.clean; dirty = k.dirty; rises = k.rises; limit = k.limit }
  keeps-marked RingSw false ms d m k = record {
    optimistic = k.optimistic;
    buffers = record { wrote = k.buffers.wrote; once = k.buffers.once; inside = k.buffers.inside; small = k.buffers.small; apart = k.buffers.apart };
    inside = k.inside;
    settled = k.settled;
    loaded = k.loaded;
    stored = k.stored;
    read = k.read;
    marked = m;
    sole = k.sole;
  }

  -- UNTIL IT IS IRREVOCABLE the write log has what was written, and each mark that is counted
  counted : (a : Alg) (g : Bool) → irrevocable_under a g l.wrote ≡ false → l.algorithm ≡ a → l.granted ≡ g → Keeps c a g l v → length l.writes.marks ≡ l.depth
  counted Cgl g i e f k = absurd cc
  counted Tml true i e f k = absurd cc
  counted Tml false i e f k = ap length (k.marked i) ∙ length-replicate l.depth []
  counted OrecLazy true i e f k = absurd cc
  counted OrecLazy false i e f k = k.marked.count
  counted OrecEager true i e f k = absurd cc
  counted OrecEager false i e f k = k.marked
  counted RingSw true i e f k = absurd cc
  counted RingSw false i e f k = k.marked.count
  counted Serial g i e f k = k.marked (k.irrevocable ∙ ((λ j. irrevocable_under (e j) (f j) l.wrote) ∙ i))

  logged : (a : Alg) (g : Bool) → irrevocable_under a g l.wrote ≡ false → v.gate.granted ≡ (closes_gate a && g) → Keeps c a g l v
      → l.algorithm ≡ a → l.granted ≡ g → written_under a v.gate.granted v (own_of l) ≡ l.writes.items
  logged Cgl g i gate k e f = absurd cc
  logged Tml true i gate k e f = absurd cc
  logged Tml false i gate k e f = ap items (k.clean i) ∙ sym k.unbuffered
  logged OrecLazy true i gate k e f = absurd cc
  logged OrecLazy false i gate k e f = ap (λ b. written_under OrecLazy b v (own_of l)) gate ∙ items-cells l.writes.items k.buffers.once
  logged OrecEager true i gate k e f = absurd cc
  logged OrecEager false i gate k e f = ap (λ b. written_under OrecEager b v (own_of l)) gate ∙ sym k.writes
  logged RingSw true i gate k e f = absurd cc
  logged RingSw false i gate k e f = ap (λ b. written_under RingSw b v (own_of l)) gate ∙ items-cells l.writes.items k.buffers.once
  logged Serial g i gate k e f = sym (k.writes (k.irrevocable ∙ ((λ j. irrevocable_under (e j) (f j) l.wrote) ∙ i)))

module _ (good : List ℕ → Type 0) (c : Config) (n : ℕ) (l : Local) (v : View) (i : IsInside good c n l v) where
  inside-marked : (ms : Marks) (d : ℕ) → Fit c l v l.algorithm l.granted ms d → IsInside good c n (marked c l v ms d) v
  inside-marked ms d fit = record {
    phase = i.phase;
    named = i.named;
    spared = record { is = i.spared.is; fits = i.spared.fits };
    disowned = i.disowned;
    unentered = i.unentered;
    start = i.start;
    front = i.front;
    legal = i.legal;
    below = i.below;
    sees = i.sees;
    reads_inside = i.reads_inside;
    looked = i.looked;
    granted = i.granted;
    steady = i.steady;
    keeps = keeps-marked c l v l.algorithm l.granted ms d fit i.keeps;
  }

  -- what is known with other marks
  known-marked : (ms : Marks) (d : ℕ) → known_of v (own_of (marked c l v ms d)) ≡ record (known_of v (own_of l)) { depth = d; marks = ms }
  known-marked ms d = λ j. let q : CallerState = record (known_of v (own_of (marked c l v ms d))) {
    log = record { reads = items v.attempt.reads; writes = written-same v.gate.algorithm v.gate.granted v (own_of l) (own_of (marked c l v ms d)) refl j };
    kept = kept-same v.gate.algorithm v v (own_of l) (own_of (marked c l v ms d)) refl refl refl j;
  } in q

  known-irrevocable : is_irrevocable (known_of v (own_of l)) ≡ irrevocable_under l.algorithm l.granted l.wrote
  known-irrevocable = irrevocable-of good c n l v (own_of l) i

  -- ONCE IRREVOCABLE
  module _ (irrevocable : irrevocable_under l.algorithm l.granted l.wrote ≡ true) where
    pub stays-number : (d : ℕ) → IsInside good c n (record l { depth = d }) v
    stays-number d = inside-marked l.writes.marks d (fit-any c l v l.algorithm l.granted irrevocable i.keeps refl refl l.writes.marks d)

    refused : {A : Type 0} → is_irrevocable (known_of v (own_of l)) ≡ false → A
    refused e = absurd (let no : true ≡ false = sym (known-irrevocable ∙ irrevocable) ∙ e in cc)

    pub marks-number : IsMarked (known_of v (own_of l)) (known_of v (own_of (record l { depth = l.depth + 1 })))
    marks-number = record { is = known-marked l.writes.marks (l.depth + 1); marks = λ e. refused e }

    pub releases-number : (d : ℕ) → Releases d (known_of v (own_of l)) (known_of v (own_of (record l { depth = d - 1 })))
    releases-number d = record { is = known-marked l.writes.marks (d - 1); marks = λ e. refused e }

  -- UNTIL THEN
  module _ (revocable : irrevocable_under l.algorithm l.granted l.wrote ≡ false) where
    pub count : length l.writes.marks ≡ l.depth
    count = counted c l v l.algorithm l.granted revocable refl refl i.keeps

    pub stays-marked : IsInside good c n (marked c l v (l.writes.marks ++ l.writes.items ∷ []) (l.depth + 1)) v
    stays-marked = inside-marked (l.writes.marks ++ l.writes.items ∷ []) (l.depth + 1) (fit-more c l v l.algorithm l.granted i.keeps)

    pub marks-log : IsMarked (known_of v (own_of l)) (known_of v (own_of (marked c l v (l.writes.marks ++ l.writes.items ∷ []) (l.depth + 1))))
    marks-log = record {
      is = known-marked (l.writes.marks ++ l.writes.items ∷ []) (l.depth + 1);
      marks = λ e. (count, ap (λ (ws : List (ℕ × ℕ)). l.writes.marks ++ ws ∷ []) (sym written));
    }
      where
        written : written_under v.gate.algorithm v.gate.granted v (own_of l) ≡ l.writes.items
        written = ap (λ (a : Alg). written_under a v.gate.granted v (own_of l)) i.named ∙ logged c l v l.algorithm l.granted revocable i.granted i.keeps refl refl

    pub stays-released : (d : ℕ) → 1 ≤ d → d ≤ l.depth → IsInside good c n (marked c l v (take (d - 1) l.writes.marks) (d - 1)) v
    stays-released d low high = inside-marked (take (d - 1) l.writes.marks) (d - 1) (fit-take c l v l.algorithm l.granted l.writes.marks l.depth (d - 1) (fit-now c l v l.algorithm l.granted i.keeps) (omega arith))

    pub releases-log : (d : ℕ) → Releases d (known_of v (own_of l)) (known_of v (own_of (marked c l v (take (d - 1) l.writes.marks) (d - 1))))
    releases-log d = record { is = known-marked (take (d - 1) l.writes.marks) (d - 1); marks = λ e. refl }
