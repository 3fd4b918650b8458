-- What a read of what was written before, and a write, come to.
use Rattle.std.proofs.Common.{ℕ, ◌≡◌, ◌<◌, List, [], ◌∷◌, ◌++◌, Bool, true, false, refl, sym, ap, ◌∙◌, arith, subst, inl, inr}
use Rattle.std.specs.Prelude.{◌^◌, ◌⊎◌, ◌==◌, ◌&&◌, not, length, slice_index, bit_or, Option, Some, None, IsSome, MatchOption}
use Rattle.std.proofs.lemmas.Bool.Decides.{nat_tests}
use Rattle.stm_model.specs.Algorithms.{has_read_log, logs_writes}
use Rattle.stm_model.specs.Memories.{item_at, put, is_empty, Once}
use Rattle.stm_model.specs.declared.alg.Alg.{Alg}
use Rattle.stm_model.specs.declared.alg.Alg.TheVariants.{RingSw, Tml}
use Rattle.stm_model.specs.declared.config.Config.{Config}
use Rattle.rule_base.specs.declared.views.View.{View}
use Rattle.rule_base.specs.Encodings.{fenced}
use Rattle.rule_base.specs.Bridge.{items, addresses}
use Rattle.rule_base.specs.History.{Inside, Small, member}
use Rattle.rule_base.specs.Own.{Own}
use Rattle.rule_ring.specs.SlotFilter.{slot_filter}
use Rattle.stm_logs.specs.declared.push.Push.TheVariants as pushes
use Rattle.stm_logs.specs.Filters.{address_word}
use Rattle.stm_logs.specs.LogStates.{LogState, Pushes}
use Rattle.stm_rule.specs.declared.local.Local.{Local}
use Rattle.stm_rule.specs.Attempts.{Keeps, IsInside, own_of}
use Rattle.stm_rule.specs.RecordsKept.{Apart, HasMarks, cells_of}
use Rattle.stm_rule.specs.RingKept.{IsRing}
use Rattle.stm_answers.specs.declared.answers.Read.TheVariants as reads
use Rattle.stm_answers.specs.declared.answers.Write.TheVariants as writes
use Rattle.stm_answers.specs.Answers.{HasRead, HasWritten, Quits, StartMoves}
use Rattle.stm_answers.specs.Causes.{has_item, is_some, reads_full, writes_full}
use Rattle.stm_answers.specs.Causes.Asked.{ForWord}
use Rattle.stm_answers.specs.CallerState.{known_of, written_under, is_irrevocable, is_in, is_closing, kept_under}
use Rattle.stm_answers.specs.CallerStateLaws.{grows-same}
use Rattle.stm_gate.proofs.KeptLaws.{kept-put, member-item, length-addresses}
use Rattle.stm_gate.specs.InnerLaws.{goes-inner}
use Rattle.stm_gate.specs.Leaving.{left}
use Rattle.stm_gate.specs.LeavingLaws.{unmade-refl, quits-left}
use Rattle.stm_gate.specs.Opacity.{opaque-inside}
use Rattle.stm_gate.proofs.Cells.{items-cells}
use Rattle.stm_gate.proofs.CellLogs.{once-put, inside-put, small-put, apart-put, some-put}
use Rattle.alg_ring.proofs.Ending.{revocable}
use Rattle.alg_ring.proofs.FilterWords.{slot-put}

module _ (good : List ℕ → Type 0) (c : Config) (n a : ℕ) (l : Local) (v : View) (i : IsInside good c n l v)
    (named : v.gate.algorithm ≡ RingSw) (plain : l.granted ≡ false) (quiet : l.committing ≡ false) (k : IsRing c l v) where
  abbrev o : Own
  o = own_of l

  -- what was written lies with the descriptor
  written : (p : Own) → written_under v.gate.algorithm v.gate.granted v p ≡ items p.buffered
  written p = λ j. written_under (named j) (k.optimistic.ungranted j) v p

  written-here : (known_of v o).log.writes ≡ l.writes.items
  written-here = written o ∙ items-cells l.writes.items k.buffers.once

  kept-here : (known_of v o).kept ≡ addresses l.writes.items
  kept-here = ap (λ (b : Alg). kept_under b v o) named ∙ ap addresses (items-cells l.writes.items k.buffers.once)

  never-full : reads_full a (known_of v o) ≡ false
  never-full =
      ap (λ (b : Alg).
      has_read_log b
      && (not (is_irrevocable (known_of v o))
      && (not (has_item a (known_of v o).log.writes)
      && (not (has_item a (known_of v o).log.reads) && (length (known_of v o).log.reads == o.reads_limit))))) named

  pub reads-own : (x : ℕ) → item_at a l.writes.items ≡ Some x → x < 2 ^ 64 → HasRead good c n a (reads.Value x) (known_of v o) (known_of v o)
  reads-own x own small = (
    goes-inner v v o i.phase (λ e. ([], refl, tt)) (record { history = refl; gate = refl; lock = refl; writer = refl; fence = refl; start = refl; rises = refl; base = refl; installs = refl; step_trace = ([], refl) }),
    quiet,
    (
      refl,
      subst (λ (m : Option ℕ).
          MatchOption m
          (MatchOption (item_at a (items v.attempt.reads)) (items v.attempt.reads ≡ items v.attempt.reads ++ (a, x) ∷ []) (λ y.
          (x ≡ y) × (items v.attempt.reads ≡ items v.attempt.reads))) (λ y. (x ≡ y) × (items v.attempt.reads ≡ items v.attempt.reads)))
          (sym (ap (item_at a) written-here ∙ own)) (refl, refl),
    ),
    small,
    opaque-inside good c n l v o i,
    never-full,
    refl,
    refl,
  )

  -- THE LOG HAS ROOM
  module _ (x : ℕ) (log : LogState) (filter : List ℕ) (is : log ≡ record l.writes { items = put a x l.writes.items }) where
    abbrev m : Local
    m = record l { writes = log; stored = filter; wrote = true }

    put_is : log.items ≡ put a x l.writes.items
    put_is = ap (λ (q : LogState). q.items) is

    pub writes-done : writes_full a (known_of v o) ≡ false → HasWritten good c n a x writes.Done (known_of v o) (known_of v (own_of m))
    writes-done room = (
      record {
        continues =
            record {
              running = ap is_in i.phase;
              closing = ap is_closing i.phase;
              made = refl;
              grows = grows-same (known_of v o) (known_of v (own_of m)) refl refl [] refl refl refl (ap (λ (q : LogState). q.marks_limit) is) refl;
              alg = refl;
              fence = refl;
              base = refl;
              rises = (omega arith, omega arith);
              later = omega arith;
              installs = refl;
              depth = refl;
              locked = inl refl;
            };
        start = subst (λ (b : Alg). StartMoves c (ForWord a) b (known_of v o) (known_of v (own_of m))) (sym named) (inl (refl, ([], refl, tt)));
        granted = refl;
        holds = refl;
        checked = refl;
        marks = ap (λ (q : LogState). q.marks) is;
      },
      quiet,
      (refl, λ b. ap (item_at b) (wrote-put ∙ ap (put a x) (sym written-here))),
      opaque-inside good c n l v (own_of m) i,
      room,
      ap (λ (b : Alg). kept_under b v (own_of m)) named ∙ (ap (λ (ws : List (ℕ × ℕ)). addresses (items (cells_of ws))) put_is
          ∙ (ap addresses (items-cells (put a x l.writes.items) (once-put a x l.writes.items k.buffers.once))
          ∙ kept-put a x l.writes.items (known_of v o) (ap logs_writes named) (revocable good c n l v i named k o) kept-here)),
      λ tml free. absurd (let no : RingSw ≡ Tml = sym named ∙ tml in cc),
    )
      where
        wrote-put : written_under v.gate.algorithm v.gate.granted v (own_of m) ≡ put a x l.writes.items
        wrote-put = written (own_of m) ∙ (ap (λ (ws : List (ℕ × ℕ)). items (cells_of ws)) put_is ∙ items-cells (put a x l.writes.items) (once-put a x l.writes.items k.buffers.once))

    keeps-ring : IsRing c m v → Keeps c m.algorithm m.granted m v
    keeps-ring q = subst (λ (b : Alg). Keeps c b l.granted m v) (sym (sym i.named ∙ named)) (subst (λ (b : Bool). Keeps c RingSw b m v) (sym plain) q)

    pub stays-written : a < c.words → fenced v.gate.fence a ≡ false → x < 2 ^ 64 → ((j : ℕ) → j < 16 → slice_index filter j ≡ bit_or (address_word a j) (slice_index l.stored j)) → IsInside good c n m v
    stays-written low out small words = record {
      phase = i.phase;
      named = i.named;
      disowned = i.disowned;
      unentered = i.unentered;
      start = i.start;
      front = i.front;
      legal = i.legal;
      below = i.below;
      sees = i.sees;
      reads_inside = i.reads_inside;
      looked = i.looked;
      granted = i.granted;
      steady = i.steady;
      spared = record { is = i.spared.is; fits = i.spared.fits };
      keeps = keeps-ring (record {
        optimistic = k.optimistic;
        buffers = record {
          wrote = ap not (sym (ap is_empty put_is ∙ some-put a x l.writes.items));
          once = subst Once (sym put_is) (once-put a x l.writes.items k.buffers.once);
          inside = subst (λ (ws : List (ℕ × ℕ)). Inside c.words (cells_of ws)) (sym put_is) (inside-put a x l.writes.items k.buffers.once c.words low k.buffers.inside);
          small = subst (λ (ws : List (ℕ × ℕ)). Small (cells_of ws)) (sym put_is) (small-put a x l.writes.items k.buffers.once small k.buffers.small);
          apart = subst (λ (ws : List (ℕ × ℕ)). Apart l.fence (cells_of ws)) (sym put_is) (apart-put a x l.writes.items k.buffers.once l.fence (subst (λ f. fenced f a ≡ false) i.spared.is out) k.buffers.apart);
        };
        inside = k.inside;
        settled = k.settled;
        loaded = k.loaded;
        stored = λ j less. words j less ∙ (ap (bit_or (address_word a j)) (k.stored j less) ∙ (sym (slot-put a x j l.writes.items) ∙ ap (λ (ws : List (ℕ × ℕ)). slot_filter.word (cells_of ws) j) (sym put_is)));
        read = k.read;
        marked = subst (λ (ms : List (List (ℕ × ℕ))). HasMarks c l.fence ms l.depth) (sym (ap (λ (q : LogState). q.marks) is)) k.marked;
        sole = k.sole;
      });
    }

  -- by whether the write log has its length
  filled : (m : Option ℕ) (b : Bool) → l.writes.len ≡ l.undo.len → item_at a l.writes.items ≡ m → (length l.writes.items == l.writes.len) ≡ b → writes_full a (known_of v o) ≡ (not (is_some m) && b)
  filled m b len at count =
      (λ j.
      logs_writes (named j)
      && (not (revocable good c n l v i named k o j) && (not (member (kept-here j) a) && (length (kept-here j) == sym len j))))
      ∙ (λ j. not (member-item a l.writes.items j) && (length-addresses l.writes.items j == l.writes.len))
      ∙ ap (λ (q : Option ℕ). not (is_some q) && (length l.writes.items == l.writes.len)) at ∙ ap (λ (q : Bool). not (is_some m) && q) count

  pub room-of : (ws : List (ℕ × ℕ)) (log : LogState) → l.writes.len ≡ l.undo.len → Pushes l.writes a ws pushes.Done log → writes_full a (known_of v o) ≡ false
  room-of ws log len p = by (item_at a l.writes.items) refl (length l.writes.items == l.writes.len) refl p.0
    where
      by : (m : Option ℕ) → item_at a l.writes.items ≡ m → (b : Bool) → (length l.writes.items == l.writes.len) ≡ b
          → IsSome (item_at a l.writes.items) ⊎ (length l.writes.items < l.writes.len) → writes_full a (known_of v o) ≡ false
      by (Some y) e b q r = filled (Some y) b len e q
      by None e false q r = filled None false len e q
      by None e true q (inl r) = absurd (let f : false ≡ true = subst IsSome e r in cc)
      by None e true q (inr r) = absurd (let f : length l.writes.items ≡ l.writes.len = grind (arith, nat_tests) in omega arith)

  -- THE LOG IS FULL
  pub writes-refused : (x limit : ℕ) (ws : List (ℕ × ℕ)) (log : LogState) (w : View) → l.writes.len ≡ l.undo.len
      → Pushes l.writes a ws (pushes.Full limit) log → w ≡ left n v
      → HasWritten good c n a x (writes.Full limit) (known_of v o) (known_of w o)
  writes-refused x limit ws log w len p is = (subst (λ (y : View). Quits (known_of v o) (known_of y o)) (sym is) quits, filled None true len p.0 (let e = p.1 in grind (arith, nat_tests)), p.2 ∙ len)
    where
      quits : Quits (known_of v o) (known_of (left n v) o)
      quits = quits-left n v v o (unmade-refl v k.optimistic.unlocked k.optimistic.unwritten) (let r = k.optimistic.rises in (omega arith, omega arith)) (revocable good c n l v i named k o)
