-- What the parts of a read come to.
use Rattle.std.proofs.Common.{ℕ, ◌≡◌, ◌<◌, ◌+◌, List, [], ◌∷◌, ◌++◌, Bool, false, refl, sym, ap, ◌∙◌, arith, subst, inl, inr, ⊎_elim, append_assoc}
use Rattle.std.specs.Prelude.{◌^◌, ◌&&◌, ◌==◌, if◌then◌else◌, not, length, slice_index, bit_or, Some, None, Ok, Err}
use Rattle.stm_model.specs.Algorithms.{has_read_log}
use Rattle.stm_model.specs.Logs.{Log, Reads}
use Rattle.stm_model.specs.Memories.{item_at}
use Rattle.stm_model.specs.declared.alg.Alg.{Alg}
use Rattle.stm_model.specs.declared.alg.Alg.TheVariants.{RingSw}
use Rattle.stm_model.specs.declared.config.Config.{Config}
use Rattle.stm_model.specs.declared.stop.Cause.{Cause}
use Rattle.rule_base.specs.declared.entries.Cell.{Cell}
use Rattle.rule_base.specs.declared.entries.Entry.{Entry}
use Rattle.rule_base.specs.declared.layout.At.TheVariants.{Clock, Done, Heap}
use Rattle.rule_base.specs.declared.layout.TheConstants.{SLOT_WORDS}
use Rattle.rule_base.specs.declared.views.Act.TheVariants.{Load}
use Rattle.rule_base.specs.declared.views.Attempt.{Attempt}
use Rattle.rule_base.specs.declared.views.TracedStep.{TracedStep}
use Rattle.rule_base.specs.declared.views.View.{View}
use Rattle.rule_base.specs.Bridge.{items, public_history}
use Rattle.rule_base.specs.History.{touches, upto, word_now}
use Rattle.rule_base.specs.Lemmas.HistoryLemmas.{inside-more, over-miss}
use Rattle.rule_base.specs.Own.{Own}
use Rattle.rule_base.specs.StepKinds.{Nothing, Tells, view_after}
use Rattle.rule_ring.specs.RingSteps.{ring_load}
use Rattle.rule_ring.specs.SlotFilter.{slot_filter}
use Rattle.stm_logs.specs.Filters.{address_word}
use Rattle.stm_rule.specs.declared.local.Local.{Local}
use Rattle.stm_rule.specs.Attempts.{Keeps, IsFenceOf, IsInside, IsOutside, ended}
use Rattle.stm_rule.specs.RecordsKept.{cells_of}
use Rattle.stm_rule.specs.RingKept.{IsRing}
use Rattle.stm_answers.specs.declared.answers.Read.TheVariants.{Value, Conflict}
use Rattle.stm_answers.specs.Answers.{HasRead, GoesOn, Quits, StartMoves}
use Rattle.stm_answers.specs.Causes.{Conflicts, has_item, reads_full}
use Rattle.stm_answers.specs.Causes.Asked.{ForWord}
use Rattle.stm_answers.specs.CallerState.{Grows, known_of, written_under, is_irrevocable, is_in, is_closing}
use Rattle.stm_gate.proofs.KeptLaws.{kept-same}
use Rattle.stm_gate.specs.Leaving.{CanLeave, left, last_steps}
use Rattle.stm_gate.specs.LeavingLaws.{quits-left}
use Rattle.stm_gate.specs.Logging.{log_of, reads-logged}
use Rattle.stm_gate.specs.Opacity.{opaque-at, later-seen}
use Rattle.alg_ring.specs.Calls.{LoadsNew}
use Rattle.alg_ring.specs.Checking.{CanCheck, Checks, Passes, passed_at, Fails}
use Rattle.alg_ring.proofs.Buffering.{untouched-items}
use Rattle.alg_ring.proofs.Ending.{revocable, may-leave}
use Rattle.alg_ring.proofs.FilterWords.{filter-put, slot-more}
use Rattle.alg_ring.proofs.Refuting.{FindsAll, finds-between, refuted}
use Rattle.alg_ring.proofs.Seen.{upto-upto}
use Rattle.alg_ring.proofs.Words.{clocks-append}

module _ (good : List ℕ → Type 0) (c : Config) (n a : ℕ) (l : Local) (v : View) (i : IsInside good c n l v) (named : v.gate.algorithm ≡ RingSw) (plain : l.granted ≡ false) (k : IsRing c l v) where
  -- what was written lies with the descriptor
  written : (w : View) (o : Own) → w.gate ≡ v.gate → o.buffered ≡ cells_of l.writes.items → written_under w.gate.algorithm w.gate.granted w o ≡ items (cells_of l.writes.items)
  written w o gate buffered = (λ j. written_under (gate j).algorithm (gate j).granted w o) ∙ ((λ j. written_under (named j) (k.optimistic.ungranted j) w o) ∙ ap items buffered)

  -- there is no read log
  never-full : (o : Own) → reads_full a (known_of v o) ≡ false
  never-full o =
      ap (λ (b : Alg).
      has_read_log b
      && (not (is_irrevocable (known_of v o))
      && (not (has_item a (known_of v o).log.writes)
      && (not (has_item a (known_of v o).log.reads) && (length (known_of v o).log.reads == o.reads_limit))))) named

  module _ (x : ℕ) (u : View) (t : Tells (ring_load a) Nothing v x u) (filter : List ℕ) (words : (j : ℕ) → j < 16 → slice_index filter j ≡ bit_or (address_word a j) (slice_index l.loaded j)) where
    abbrev loaded : View
    loaded = view_after (ring_load a) t.0 v x

    abbrev item : TracedStep
    item = record { place = Heap a; act = Load; found = Some x }

    -- the filter has the word's address too
    filter-watched : (j : ℕ) → j < SLOT_WORDS → slice_index filter j ≡ slot_filter.word (record { at = a; value = 0 } ∷ v.ring_read.watched) j
    filter-watched j low = words j low ∙ (ap (bit_or (address_word a j)) (k.loaded j low) ∙ sym (slot-more (record { at = a; value = 0 }) v.ring_read.watched j))

    pub may-check : CanCheck c l.start filter u
    may-check = subst (CanCheck c l.start filter) (sym t.2) (record {
      has = record { runs = record { phase = i.phase; algorithm = named; plain = k.optimistic.ungranted }; inside = k.inside };
      start_is = i.start;
      front_is = i.front;
      watched = filter-watched;
      not_quiescent = k.optimistic.not_quiescent;
      sole = λ one. k.sole one ∙ ap (λ (q : ℕ). c.clock + q) (sym k.optimistic.rises);
    })

    -- THE CHECK PASSED
    module _ (start : ℕ) (w : View) (checks : Checks good c (Ok start) filter u w) where
      p : Passes good c v.gate start loaded w
      p = subst (λ (z : View). Passes good c z.gate start z w) t.2 checks.0

      abbrev after : View
      after = passed_at p.world start v.gate p.read p.more loaded

      abbrev m : Local
      m = record l { start = start; loaded = filter }

      keeps-ring : IsRing c m after → Keeps c m.algorithm m.granted m after
      keeps-ring q = subst (λ (b : Alg). Keeps c b l.granted m after) (sym (sym i.named ∙ named)) (subst (λ (b : Bool). Keeps c RingSw b m after) (sym plain) q)

      stays : a < c.words → IsInside good c n m after
      stays low = record {
        phase = i.phase;
        named = i.named;
        disowned = i.disowned;
        unentered = i.unentered;
        start = refl;
        front = refl;
        legal = p.sees.begins.legal;
        below = p.sees.begins.below;
        sees = p.sees.sees;
        reads_inside = inside-more c.words (record { at = a; value = x }) v.attempt.reads low i.reads_inside;
        looked = λ e. let q = i.looked e in record { low = q.low; seen = q.seen; unseen = q.unseen };
        granted = i.granted;
        steady = i.steady;
        spared = record { is = i.spared.is; fits = i.spared.fits };
        keeps = keeps-ring (record {
          optimistic =
              record {
                unlocked = k.optimistic.unlocked;
                unfixed = k.optimistic.unfixed;
                unwritten = k.optimistic.unwritten;
                uncommitted = k.optimistic.uncommitted;
                ungranted = k.optimistic.ungranted;
                not_quiescent = k.optimistic.not_quiescent;
                unstored = k.optimistic.unstored;
                rises = k.optimistic.rises;
              };
          buffers = record { wrote = k.buffers.wrote; once = k.buffers.once; inside = k.buffers.inside; small = k.buffers.small; apart = k.buffers.apart };
          inside = p.inside;
          settled = p.settled;
          loaded = λ j less. filter-watched j less ∙ ap (λ (cs : List Cell). slot_filter.word cs j) (sym p.watched);
          stored = k.stored;
          read = λ j less. words j less ∙ (ap (bit_or (address_word a j)) (k.read j less) ∙ sym (filter-put a x j (items v.attempt.reads)));
          marked = k.marked;
          sole = λ one. p.sole one ∙ (i.start ∙ k.sole one);
        });
      }

      module _ (o : Own) (buffered : o.buffered ≡ cells_of l.writes.items) where
        grown : Grows (known_of v o) (known_of after o)
        grown = let b = p.sees.begins in let q = later-seen (upto p.world.history start) v.history.front start b.below b.front in record {
          later = q.0;
          is = subst (λ (h : List Entry). public_history (upto p.world.history start) ≡ public_history h ++ q.0) (upto-upto p.world.history start v.history.front b.front ∙ sym b.seen) q.1;
          ascending = q.2;
          up_to = q.3;
          front_rose = b.front;
          more = p.more ++ item ∷ [];
          step_trace = sym (append_assoc p.more (item ∷ []) v.steps.step_trace);
          reads_limit = refl;
          writes_limit = refl;
          marks_limit = refl;
          fenced = refl;
        }

        start-moves : StartMoves c (ForWord a) RingSw (known_of v o) (known_of after o)
        start-moves = ⊎_elim (λ e. inl (
          e.0,
          (
            p.more ++ item ∷ [],
            sym (append_assoc p.more (item ∷ []) v.steps.step_trace),
            clocks-append v.attempt.start p.more (item ∷ []) e.1 ((λ h. absurd (let no : Heap a ≡ Clock = h in cc)), tt),
          ),
        )) (λ q. inr (q.0, q.1, found Clock q.0 q.2, found Done q.1 q.3, q.4)) p.moves
          where
            found : FindsAll p.more (known_of v o) (known_of after o)
            found = finds-between (known_of v o) (known_of after o) [] p.more (item ∷ []) refl

        goes : GoesOn c (ForWord a) (known_of v o) (known_of after o)
        goes = record {
          continues =
              record {
                running = ap is_in i.phase;
                closing = ap is_closing i.phase;
                made = refl;
                grows = grown;
                alg = refl;
                fence = refl;
                base = refl;
                rises = (omega arith, omega arith);
                later = p.later;
                installs = refl;
                depth = refl;
                locked = inl refl;
              };
          start = subst (λ (b : Alg). StartMoves c (ForWord a) b (known_of v o) (known_of after o)) (sym named) start-moves;
          granted = refl;
          holds = refl;
          checked = refl;
          marks = refl;
        }

        -- the log gains the read, or has it already
        logged : item_at a l.writes.items ≡ None → Reads (known_of v o).log a x (known_of after o).log
        logged fresh = subst (λ (r : Log). Reads r a x (known_of after o).log) before (subst (λ (r : Log). Reads (log_of v.attempt.reads cells) a x r) behind
            (subst (λ (b : Bool). Reads (log_of v.attempt.reads cells) a x (log_of (if b then v.attempt.reads else record { at = a; value = x } ∷ v.attempt.reads) cells)) none
            (reads-logged (word_now (upto p.world.history start)) own a x p.kept (p.sees.value refl ∙ sym (over-miss cells a (word_now (upto p.world.history start) a) none)))))
          where
            cells : List Cell
            cells = cells_of l.writes.items

            own : Attempt
            own = record { start = start; reads = v.attempt.reads; stores = cells; entered = false }

            none : touches cells a ≡ false
            none = untouched-items a l.writes.items fresh

            before : log_of v.attempt.reads cells ≡ (known_of v o).log
            before = λ j. record { reads = items v.attempt.reads; writes = sym (written v o refl buffered) j }

            behind : log_of (record { at = a; value = x } ∷ v.attempt.reads) cells ≡ (known_of after o).log
            behind = λ j. record { reads = items (record { at = a; value = x } ∷ v.attempt.reads); writes = sym (written after o refl buffered) j }

        has-read : a < c.words → item_at a l.writes.items ≡ None → x < 2 ^ 64 → o.committing ≡ false → HasRead good c n a (Value x) (known_of v o) (known_of after o)
        has-read low fresh small quiet = (
          goes,
          quiet,
          logged fresh,
          small,
          opaque-at good c n after o start refl refl p.sees.begins.legal p.sees.begins.below p.sees.sees (inside-more c.words (record { at = a; value = x }) v.attempt.reads low i.reads_inside),
          never-full o,
          refl,
          kept-same v.gate.algorithm v after o o refl refl refl,
        )

      pub loads-value : a < c.words → item_at a l.writes.items ≡ None → x < 2 ^ 64 → LoadsNew good c n a (Value x) l v m w
      loads-value low fresh small = subst (λ (z : View). LoadsNew good c n a (Value x) l v m z) (sym p.is) (stays low, refl, refl, λ o quiet buffered. has-read o buffered low fresh small quiet)

    -- THE CHECK FAILED
    module _ (cause : Cause) (w : View) (checks : Checks good c (Err cause) filter u w) where
      q : Fails good c cause filter loaded w
      q = subst (λ (z : View). Fails good c cause filter z w) t.2 checks

      abbrev failed : View
      failed = record v { ring_read = q.read; steps = record v.steps { step_trace = q.more ++ item ∷ v.steps.step_trace } }

      -- nothing that stands against its end
      abbrev pub MayEnd : View → Type 0
      MayEnd z = CanLeave z × (l.holds ≡ z.gate.holds) × IsFenceOf (record l { loaded = filter }) z × (l.algorithm ≡ z.gate.algorithm)

      pub may-end : l.holds ≡ v.gate.holds → MayEnd w
      may-end holds = subst MayEnd (sym q.is) (
        let m = may-leave good c n l v i named k in
            record {
              phase = m.phase;
              unlocked = m.unlocked;
              unfixed = m.unfixed;
              disowned = m.disowned;
              unwritten = m.unwritten;
              uncommitted = m.uncommitted;
              ungranted = m.ungranted;
              plain = m.plain;
              unstored = m.unstored;
              marked = m.marked;
            },
        holds,
        record { is = i.spared.is; fits = i.spared.fits },
        sym i.named,
      )

      module _ (o : Own) where
        quits : Quits (known_of v o) (known_of (left n failed) o)
        quits =
            quits-left n v failed o
            (record {
              carried = record {
                named = refl;
                base = refl;
                installs = refl;
                fence = refl;
                step_trace = (q.more ++ item ∷ [], sym (append_assoc q.more (item ∷ []) v.steps.step_trace));
                unlocked = k.optimistic.unlocked;
                unwritten = k.optimistic.unwritten;
              };
              history = refl;
            })
            (let r = k.optimistic.rises in (omega arith, omega arith)) (revocable good c n l v i named k o)

        why : Conflicts c n (ForWord a) cause (known_of v o) (known_of (left n failed) o)
        why = refuted c n (ForWord a) (known_of v o) (known_of (left n failed) o) filter v.attempt.start q.clock last q.loads (item ∷ []) cause named refl
            (λ j less. words j less ∙ ap (bit_or (address_word a j)) (k.read j less))
            (ap (λ (m : List TracedStep). last ++ (m ++ item ∷ v.steps.step_trace)) q.parts)
            q.refutes
          where
            last : List TracedStep
            last = last_steps n v.gate.holds v.gate.fence v.gate.algorithm

      pub loads-conflict : (z : View) → n < c.callers → z ≡ left n w → IsOutside z → LoadsNew good c n a (Conflict cause) l v (ended (record l { loaded = filter })) z
      loads-conflict z low is out = (
        out,
        refl,
        λ o quiet buffered. subst (λ (y : View). HasRead good c n a (Conflict cause) (known_of v o) (known_of y o)) (sym (is ∙ ap (left n) q.is)) (quits o, why o, (let e = q.others in omega arith), never-full o),
      )
