-- What the marks of an attempt of RingSW come to.
use Rattle.std.proofs.Common.{ℕ, suc, ◌≡◌, ◌<◌, ◌≤◌, ◌+◌, ◌-◌, List, [], ◌∷◌, ◌++◌, length, get_or, take, Bool, true, false, refl, sym, ap, ◌∙◌, arith, subst}
use Rattle.std.specs.Prelude.{not, slice_index, bit_or}
use Rattle.std.proofs.Math.Seq.{take-suc}
use Rattle.stm_model.specs.Algorithms.{irrevocable_under}
use Rattle.stm_model.specs.declared.alg.Alg.{Alg}
use Rattle.stm_model.specs.declared.alg.Alg.TheVariants.{RingSw}
use Rattle.stm_model.specs.declared.config.Config.{Config}
use Rattle.stm_model.specs.Memories.{is_empty, Once}
use Rattle.rule_base.specs.declared.layout.TheConstants.{SLOT_WORDS}
use Rattle.rule_base.specs.declared.views.View.{View}
use Rattle.rule_base.specs.Bridge.{items}
use Rattle.rule_base.specs.Bridge as bridge
use Rattle.stm_rule.specs.declared.local.Local.{Local}
use Rattle.stm_rule.specs.Attempts.{own_of, no_filter, IsInside, IsPromoted}
use Rattle.stm_rule.specs.Attempts as attempts
use Rattle.rule_ring.specs.SlotFilter.{slot_filter}
use Rattle.stm_rule.specs.RecordsKept.{cells_of, IsWriteSet, HasMarks}
use Rattle.stm_rule.specs.RingKept.{IsRing}
use Rattle.stm_answers.specs.Answers.{IsRolled, kept_rolled}
use Rattle.stm_answers.specs.CallerState.{known_of, granted_under, kept_under, written_under, is_irrevocable, is_in, is_closing}
use Rattle.stm_answers.specs.CallerStateLaws.{grows-same}
use Rattle.stm_logs.specs.Filters.{address_word, filter_word}
use Rattle.stm_logs.specs.LogStates.{LogState, rolled}
use Rattle.stm_gate.proofs.MarkLaws.{marks-take}
use Rattle.stm_gate.specs.Opacity.{opaque-inside}
use Rattle.alg_ring.specs.Filtering.{IsFilterOf}
use Rattle.alg_ring.proofs.Beginning.{no-word}
use Rattle.alg_ring.proofs.FilterWords.{addresses, or-swap, slot-cells}
use Rattle.stm_gate.proofs.Cells.{items-cells}

-- THE FILTER of a log, one item after the other
filter-last : (ws : List (ℕ × ℕ)) (w : ℕ × ℕ) (i : ℕ) → filter_word (addresses (ws ++ w ∷ [])) i ≡ bit_or (address_word w.0 i) (filter_word (addresses ws) i)
filter-last [] w i = refl
filter-last (u ∷ ws) w i = ap (bit_or (address_word u.0 i)) (filter-last ws w i) ∙ or-swap (address_word u.0 i) (address_word w.0 i) (filter_word (addresses ws) i)

pub filter-none : (i : ℕ) → i < SLOT_WORDS → slice_index no_filter i ≡ slot_filter.word (cells_of []) i
filter-none i low = no-word i low

pub filter-next : (ws : List (ℕ × ℕ)) (k : ℕ) (w : ℕ × ℕ) (i x y : ℕ) → k < length ws → w ≡ get_or ws k (0, 0) → x ≡ slot_filter.word (cells_of (take k ws)) i → y ≡ bit_or (address_word w.0 i) x
    → y ≡ slot_filter.word (cells_of (take (k + 1) ws)) i
filter-next ws k w i x y low is before now =
    now
    ∙ (ap (bit_or (address_word w.0 i)) (before ∙ slot-cells (take k ws) i)
    ∙ (sym (filter-last (take k ws) w i)
    ∙ (ap (λ (us : List (ℕ × ℕ)). filter_word (addresses us) i) (sym more) ∙ sym (slot-cells (take (k + 1) ws) i))))
  where
    next : k + 1 ≡ suc k
    next = omega arith

    more : take (k + 1) ws ≡ take k ws ++ w ∷ []
    more = ap (λ (n : ℕ). take n ws) next ∙ (take-suc ws k (0, 0) low ∙ ap (λ (q : ℕ × ℕ). take k ws ++ q ∷ []) (sym is))

module _ (good : List ℕ → Type 0) (c : Config) (n : ℕ) (l : Local) (v : View) (i : IsInside good c n l v) (ring : v.gate.algorithm ≡ RingSw) where
  -- with another log of writes and filter of it, and at another depth
  inside-with : (log : LogState) (stored : List ℕ) (wrote : Bool) (d : ℕ) → attempts.Keeps c l.algorithm l.granted (record l { writes = log; stored = stored; wrote = wrote; depth = d }) v
      → IsInside good c n (record l { writes = log; stored = stored; wrote = wrote; depth = d }) v
  inside-with log stored wrote d keeps = record {
    phase = i.phase;
    named = i.named;
    disowned = i.disowned;
    unentered = i.unentered;
    start = i.start;
    front = i.front;
    legal = i.legal;
    below = i.below;
    sees = i.sees;
    reads_inside = i.reads_inside;
    looked = i.looked;
    granted = i.granted;
    steady = i.steady;
    spared = record { is = i.spared.is; fits = i.spared.fits };
    keeps = keeps;
  }

  -- ONCE IRREVOCABLE a mark is a number
  module _ (irrevocable : l.granted ≡ true) (d : ℕ) where
    abbrev deeper : Local
    deeper = record l { depth = d }

    promoted : IsPromoted l v
    promoted = subst (λ (b : Bool). attempts.Keeps c RingSw b l v) irrevocable (subst (λ (a : Alg). attempts.Keeps c a l.granted l v) (sym i.named ∙ ring) i.keeps)

    pub irrevocable-known : is_irrevocable (known_of v (own_of l)) ≡ true
    irrevocable-known = (λ j. irrevocable_under (ring j) (granted_under (ring j) v.gate v.lock) (not (is_empty (known_of v (own_of l)).log.writes))) ∙ promoted.granted

  -- UNTIL THEN the log of what it wrote has the marks
  module _ (plain : l.granted ≡ false) (quiet : l.committing ≡ false) (k : IsRing c l v) where
    abbrev with_log : LogState → List ℕ → Bool → ℕ → Local
    with_log log stored wrote d = record l { writes = log; stored = stored; wrote = wrote; depth = d }

    pub written-now : (log : LogState) (stored : List ℕ) (wrote : Bool) (d : ℕ) → Once log.items
        → written_under v.gate.algorithm v.gate.granted v (own_of (record l { writes = log; stored = stored; wrote = wrote; depth = d }))
        ≡ log.items
    written-now log stored wrote d once = (λ j. written_under (ring j) (k.optimistic.ungranted j) v (own_of (with_log log stored wrote d))) ∙ items-cells log.items once

    pub revocable : is_irrevocable (known_of v (own_of l)) ≡ false
    revocable = (λ j. irrevocable_under (ring j) (granted_under (ring j) v.gate v.lock) (not (is_empty (known_of v (own_of l)).log.writes))) ∙ k.optimistic.ungranted

    pub stays-with : (log : LogState) (stored : List ℕ) (wrote : Bool) (d : ℕ) → IsWriteSet c l.fence log.items → wrote ≡ not (is_empty log.items) → HasMarks c l.fence log.marks d → IsFilterOf stored log.items
        → IsInside good c n (record l { writes = log; stored = stored; wrote = wrote; depth = d }) v
    stays-with log stored wrote d set some marks words = inside-with log stored wrote d (keeps-ring (record {
      optimistic = k.optimistic;
      buffers = record { wrote = some; once = set.once; inside = set.inside; small = set.small; apart = set.apart };
      inside = k.inside;
      settled = k.settled;
      loaded = k.loaded;
      stored = words;
      read = k.read;
      marked = marks;
      sole = k.sole;
    }))
      where
        keeps-ring : IsRing c (with_log log stored wrote d) v → attempts.Keeps c l.algorithm l.granted (with_log log stored wrote d) v
        keeps-ring p =
            subst (λ (a : Alg). attempts.Keeps c a l.granted (with_log log stored wrote d) v) (sym (sym i.named ∙ ring))
            (subst (λ (b : Bool). attempts.Keeps c RingSw b (with_log log stored wrote d) v) (sym plain) p)

    -- A ROLL BACK
    module _ (log : LogState) (stored : List ℕ) (wrote : Bool) (d : ℕ) (low : 1 ≤ d) (high : d ≤ l.depth) (is : log ≡ rolled d l.writes)
        (words : IsFilterOf stored log.items) (some : wrote ≡ not (is_empty log.items)) where
      abbrev m : Local
      m = with_log log stored wrote d

      set : IsWriteSet c l.fence log.items
      set = subst (IsWriteSet c l.fence) (sym (ap (λ (q : LogState). q.items) is)) (k.marked.sound (d - 1) (let h = k.marked.count in omega arith))

      pub stays-rolled : IsInside good c n (record l { writes = log; stored = stored; wrote = wrote; depth = d }) v
      stays-rolled =
          stays-with log stored wrote d set some
          (subst (λ (ms : List (List (ℕ × ℕ))). HasMarks c l.fence ms d) (sym (ap (λ (q : LogState). q.marks) is))
          (marks-take c l.fence l.writes.marks l.depth d k.marked high)) words

      pub rolls-back : IsRolled good c n d (known_of v (own_of l)) (known_of v (own_of (record l { writes = log; stored = stored; wrote = wrote; depth = d })))
      rolls-back = record {
        stays = record {
          running = ap is_in i.phase;
          uncommitted = quiet;
          closing = ap is_closing i.phase;
          made = refl;
          grows = grows-same (known_of v (own_of l)) (known_of v (own_of m)) refl refl [] refl refl refl (ap (λ (q : LogState). q.marks_limit) is) refl;
          alg = refl;
          fence = refl;
          base = refl;
          rises = refl;
          start = refl;
          installs = refl;
          granted = refl;
          holds = refl;
          checked = refl;
          locked = refl;
        };
        within = (let h = k.marked.count in omega arith);
        reads = refl;
        writes = written-now log stored wrote d set.once ∙ ap (λ (q : LogState). q.items) is;
        depth = refl;
        kept =
            ap (λ (a : Alg). kept_under a v (own_of m)) ring
            ∙ (ap bridge.addresses (items-cells log.items set.once)
            ∙ (ap bridge.addresses (sym (written-now log stored wrote d set.once))
            ∙ ap (λ (a : Alg). kept_rolled a (known_of v (own_of l)).kept (known_of v (own_of m)).log.writes) (sym ring)));
        marks = ap (λ (q : LogState). q.marks) is;
        opaque = opaque-inside good c n m v (own_of m) stays-rolled;
      }
