-- What begin, read and write of OrecLazy come to.
use Rattle.std.proofs.Common.{ℕ, ◌≡◌, ◌≢◌, ◌<◌, List, [], ◌∷◌, ◌++◌, length, Bool, true, false, refl, sym, ap, ◌∙◌, arith, subst, inl, inr}
use Rattle.std.specs.Prelude.{◌^◌, ◌⊎◌, ◌==◌, ◌&&◌, not, Option, Some, None, IsSome}
use Rattle.std.proofs.lemmas.Bool.Decides.{nat_tests}
use Rattle.stm_model.specs.Algorithms.{logs_writes, irrevocable_under}
use Rattle.stm_model.specs.declared.alg.Alg.{Alg}
use Rattle.stm_model.specs.declared.alg.Alg.TheVariants.{Cgl, Tml, OrecLazy, OrecEager, RingSw, Serial}
use Rattle.stm_model.specs.declared.config.Config.{Config}
use Rattle.stm_model.specs.declared.stop.Cause.{Cause}
use Rattle.stm_model.specs.Memories.{item_at, put, is_empty, Once}
use Rattle.rule_base.specs.declared.entries.Cell.{Cell}
use Rattle.rule_base.specs.declared.entries.Entry.{Entry}
use Rattle.rule_base.specs.declared.views.Sample.{Sample}
use Rattle.rule_base.specs.declared.views.TracedStep.{TracedStep}
use Rattle.rule_base.specs.declared.views.Validation.{Validation}
use Rattle.rule_base.specs.declared.views.View.{View}
use Rattle.rule_base.specs.Encodings.{fenced}
use Rattle.rule_base.specs.Bridge.{addresses, items, of_words}
use Rattle.rule_base.specs.History.{member, Inside, Small}
use Rattle.rule_base.specs.Lemmas.HistoryLemmas.{inside-more}
use Rattle.rule_base.specs.Own.{Own}
use Rattle.rule_base.specs.StepKinds.{Tells}
use Rattle.rule_orec.specs.OrecReading.{no_check, no_sample}
use Rattle.rule_orec.specs.OrecSteps.{is_eager, orec_begin}
use Rattle.stm_rule.specs.declared.local.Local.{Local}
use Rattle.stm_rule.specs.Attempts.{own_of, IsInside}
use Rattle.stm_rule.specs.Attempts as attempts
use Rattle.stm_rule.specs.RecordsKept.{Apart, cells_of, IsLazy, HasMarks}
use Rattle.alg_orec.specs.RecordFindings.{FindsStart}
use Rattle.stm_answers.specs.declared.answers.Read.TheVariants as answers
use Rattle.stm_answers.specs.declared.answers.Write.TheVariants as writes
use Rattle.stm_answers.specs.Answers.{HasRead, HasWritten, Quits, StartMoves, kept_with}
use Rattle.stm_answers.specs.Causes.{is_some, writes_full}
use Rattle.stm_answers.specs.Causes.Asked.{ForWord}
use Rattle.stm_answers.specs.CallerState.{known_of, granted_under, kept_under, written_under, is_irrevocable, is_in, is_closing}
use Rattle.stm_answers.specs.CallerStateLaws.{grows-same}
use Rattle.stm_logs.specs.declared.push.Push.TheVariants as pushes
use Rattle.stm_logs.specs.LogStates.{LogState, Pushes}
use Rattle.stm_gate.proofs.KeptLaws.{kept-put, length-addresses, member-item}
use Rattle.stm_gate.specs.Logging.{put-new}
use Rattle.stm_gate.specs.Opacity.{opaque-inside}
use Rattle.stm_gate.specs.Starts.{CanBegin, StartsAt}
use Rattle.stm_gate.proofs.Cells.{items-cells}
use Rattle.stm_gate.proofs.CellLogs.{once-put, inside-put, small-put, apart-put, some-put}
use Rattle.alg_orec.proofs.RecordReads as reads
use Rattle.alg_orec.proofs.RecordReads.{IsReading}
use Rattle.alg_orec.specs.Ending.{GivesUp}
use Rattle.alg_orec.specs.Loading.{moved, MayMove, RefusesRead, HasLoaded}

-- an algorithm of records that was not promoted keeps what IsLazy says
lazy-by : (c : Config) (l : Local) (v : View) (a : Alg) (granted : Bool) → a ≡ OrecLazy → granted ≡ false → attempts.Keeps c a granted l v → IsLazy c l v
lazy-by c l v Cgl granted e g k = absurd cc
lazy-by c l v Tml granted e g k = absurd cc
lazy-by c l v OrecLazy true e g k = absurd cc
lazy-by c l v OrecLazy false e g k = k
lazy-by c l v OrecEager granted e g k = absurd cc
lazy-by c l v RingSw granted e g k = absurd cc
lazy-by c l v Serial granted e g k = absurd cc

module _ (good : List ℕ → Type 0) (c : Config) (n : ℕ) (l : Local) (v : View) where
  abbrev pub rule : (ℕ → ℕ) → Type 0
  rule = of_words good c.words

  pub lazy-of : IsInside good c n l v → v.gate.algorithm ≡ OrecLazy → l.granted ≡ false → IsLazy c l v
  lazy-of i lazy plain = lazy-by c l v l.algorithm l.granted (sym i.named ∙ lazy) plain i.keeps

  module _ (i : IsInside good c n l v) (lazy : v.gate.algorithm ≡ OrecLazy) (plain : l.granted ≡ false) (quiet : l.committing ≡ false) (k : IsLazy c l v) where
    abbrev o : Own
    o = own_of l

    ungranted : v.gate.granted ≡ false
    ungranted = k.optimistic.ungranted

    -- what was written lies with the descriptor
    pub written : (w : View) (m : Local) → w.gate ≡ v.gate → m.writes.items ≡ l.writes.items → written_under w.gate.algorithm w.gate.granted w (own_of m) ≡ l.writes.items
    written w m gate same =
        (λ j. written_under (gate j).algorithm (gate j).granted w (own_of m))
        ∙ ((λ j. written_under (lazy j) (ungranted j) w (own_of m))
        ∙ (ap (λ (ws : List (ℕ × ℕ)). items (cells_of ws)) same ∙ items-cells l.writes.items k.buffers.once))

    pub written-here : (known_of v o).log.writes ≡ l.writes.items
    written-here = written v l refl refl

    pub reading : IsReading good c n l v
    reading = record { inside = i; orec = inl lazy; ungranted = ungranted; quiet = quiet; reads = k.reads; written = λ w gate owned. written w l gate refl }

    pub revocable : is_irrevocable (known_of v o) ≡ false
    revocable = (λ j. irrevocable_under (lazy j) (granted_under (lazy j) v.gate v.lock) (not (is_empty (written_under v.gate.algorithm v.gate.granted v o)))) ∙ ungranted

    -- the attempt ended from a view that the load came to
    quits-moved : (start : ℕ) (seen : List Entry) (sample : Sample) (check : Validation) (more : List TracedStep) (w : View)
        → MayMove rule c n start seen more v → GivesUp n (moved v start seen v.attempt.reads sample check more) w
        → Quits (known_of v o) (known_of w o)
    quits-moved start seen sample check more w moves g = subst (λ (y : View). Quits (known_of v o) (known_of y o)) (sym g.is)
        (reads.quits-moved reading start seen more moves v.attempt.reads sample check g.before g.unmade (let a = g.rises in let b = k.optimistic.rises in (omega arith, omega arith)))

    quits-here : (w : View) → GivesUp n v w → Quits (known_of v o) (known_of w o)
    quits-here w g = quits-moved v.attempt.start v.history.seen v.sample v.check [] w (inl (refl, refl)) (subst (λ (y : View). GivesUp n y w) (reads.here reading) g)

    pub reads-full : (a : ℕ) (w : View) → item_at a l.writes.items ≡ None → item_at a l.reads.items ≡ None
        → length l.reads.items ≡ l.reads.len → GivesUp n v w → HasRead good c n a (answers.Full l.reads.len) (known_of v o) (known_of w o)
    reads-full a w unwritten unread count g = reads.reads-full reading a w unwritten unread count (quits-here w g)

    pub reads-refused : (a : ℕ) (cause : Cause) (m : Local) (u w : View) → item_at a l.writes.items ≡ None → item_at a l.reads.items ≡ None
        → length l.reads.items ≢ l.reads.len → RefusesRead rule c n a cause l v m u → GivesUp n u w
        → HasRead good c n a (answers.Conflict cause) (known_of v o) (known_of w o)
    reads-refused a cause m u w unwritten unread room h g =
        subst (λ (y : View). HasRead good c n a (answers.Conflict cause) (known_of v o) (known_of y o)) (sym g.is) (reads.reads-refused
        reading a cause m u g.before unwritten unread room h g.unmade
        (subst (λ (y : View). Quits (known_of v o) (known_of y o)) g.is (quits-moved m.start h.seen u.sample u.check h.more w h.moves (subst (λ (y : View). GivesUp n y w) h.is g))))

    pub reads-new : (a x : ℕ) (m : Local) (w : View) → x < 2 ^ 64 → a < c.words → item_at a l.writes.items ≡ None → item_at a l.reads.items ≡ None → length l.reads.items ≢ l.reads.len → HasLoaded rule c n a x l v m w
        → HasRead good c n a (answers.Value x) (known_of v o) (known_of w o)
    reads-new = reads.reads-new reading

    -- the attempt goes on with the read in its log
    pub stays-read : (a x : ℕ) (m : Local) (w : View) (log : LogState) → a < c.words → item_at a l.reads.items ≡ None
        → log ≡ record l.reads { items = l.reads.items ++ (a, x) ∷ [] } → HasLoaded rule c n a x l v m w
        → IsInside good c n (record m { reads = log }) w
    stays-read a x m w log low unread is h = subst (λ (y : View). IsInside good c n (record m { reads = log }) y) (sym h.is) (subst (λ (q : Local). IsInside good c n (record q { reads = log }) u) (sym h.local)
        (reads.stays-moved reading m.start h.seen h.more h.moves rs no_sample no_check log h.legal h.below h.sees (inside-more c.words (record { at = a; value = x }) v.attempt.reads low i.reads_inside)
        (keeps-lazy (record {
          optimistic = reads.optimistic-moved reading m.start h.seen h.more h.moves rs no_sample no_check k.optimistic;
          buffers = record { wrote = k.buffers.wrote; once = k.buffers.once; inside = k.buffers.inside; small = k.buffers.small; apart = k.buffers.apart };
          inside = k.inside;
          lazy = k.lazy;
          open_yet = k.open_yet;
          unraised = k.unraised;
          unplaced = k.unplaced;
          undone = k.undone;
          repaid = k.repaid;
          unsampled = refl;
          unchecked = refl;
          reads = ap (λ (q : LogState). q.items) is ∙ (sym (put-new a x l.reads.items unread) ∙ ap (put a x) k.reads);
          locks = k.locks;
          places = k.places;
          few = k.few;
          versions = k.versions;
          open_handed = k.open_handed;
          locked = k.locked;
          committing = k.committing;
          marked = k.marked;
          olds = λ e. absurd (let f : false ≡ true = sym quiet ∙ e in cc);
          sole = reads.sole-at reading m.start h.seen h.more h.moves k.sole;
        }))))
      where
        rs : List Cell
        rs = record { at = a; value = x } ∷ v.attempt.reads

        u : View
        u = moved v m.start h.seen rs no_sample no_check h.more

        q : Local
        q = record l { start = m.start; reads = log }

        keeps-lazy : IsLazy c q u → attempts.Keeps c q.algorithm q.granted q u
        keeps-lazy p = subst (λ (b : Alg). attempts.Keeps c b l.granted q u) (sym (sym i.named ∙ lazy)) (subst (λ (b : Bool). attempts.Keeps c OrecLazy b q u) (sym plain) p)

    -- what is kept is what the write log has
    kept-here : (known_of v o).kept ≡ addresses l.writes.items
    kept-here = ap (λ (b : Alg). kept_under b v o) lazy ∙ ap addresses (items-cells l.writes.items k.buffers.once)

    -- WRITE: the log has room
    pub writes-done : (a x : ℕ) (log : LogState) → a < c.words → x < 2 ^ 64 → log ≡ record l.writes { items = put a x l.writes.items }
        → writes_full a (known_of v o) ≡ false
        → HasWritten good c n a x writes.Done (known_of v o) (known_of v (own_of (record l { writes = log; wrote = true })))
    writes-done a x log low small is room = (
      record {
        continues =
            record {
              running = ap is_in i.phase;
              closing = ap is_closing i.phase;
              made = refl;
              grows = grows-same (known_of v o) (known_of v p) refl refl [] refl refl refl (ap (λ (q : LogState). q.marks_limit) is) refl;
              alg = refl;
              fence = refl;
              base = refl;
              rises = (omega arith, omega arith);
              later = omega arith;
              installs = refl;
              depth = refl;
              locked = inl refl;
            };
        start = subst (λ (b : Alg). StartMoves c (ForWord a) b (known_of v o) (known_of v p)) (sym lazy) (inl refl);
        granted = refl;
        holds = refl;
        checked = refl;
        marks = ap (λ (q : LogState). q.marks) is;
      },
      quiet,
      (refl, λ b. ap (item_at b) (wrote-put ∙ ap (put a x) (sym written-here))),
      opaque-inside good c n l v p i,
      room,
      kept-put-here,
      λ tml free. absurd (let no : OrecLazy ≡ Tml = sym lazy ∙ tml in cc),
    )
      where
        p : Own
        p = own_of (record l { writes = log; wrote = true })

        kept-put-here : (known_of v p).kept ≡ kept_with a (known_of v o)
        kept-put-here = ap (λ (b : Alg). kept_under b v p) lazy ∙ (ap (λ (q : LogState). addresses (items (cells_of q.items))) is
            ∙ (ap addresses (items-cells (put a x l.writes.items) (once-put a x l.writes.items k.buffers.once)) ∙ kept-put a x l.writes.items (known_of v o) (ap logs_writes lazy) revocable kept-here))

        wrote-put : written_under v.gate.algorithm v.gate.granted v p ≡ put a x l.writes.items
        wrote-put = (λ j. written_under (lazy j) (ungranted j) v p) ∙ (ap (λ (q : LogState). items (cells_of q.items)) is ∙ items-cells (put a x l.writes.items) (once-put a x l.writes.items k.buffers.once))

    -- by whether the write log has its length
    filled : (a : ℕ) (m : Option ℕ) (b : Bool) → l.writes.len ≡ l.undo.len → item_at a l.writes.items ≡ m → (length l.writes.items == l.writes.len) ≡ b → writes_full a (known_of v o) ≡ (not (is_some m) && b)
    filled a m b len at count = λ j. logs_writes (lazy j) && (not (revocable j) && (not (there j) && room j))
      where
        there : member (known_of v o).kept a ≡ is_some m
        there = ap (λ (ks : List ℕ). member ks a) kept-here ∙ (member-item a l.writes.items ∙ ap is_some at)

        room : (length (known_of v o).kept == l.undo.len) ≡ b
        room = (λ j. length (kept-here j) == sym len j) ∙ (ap (λ (q : ℕ). q == l.writes.len) (length-addresses l.writes.items) ∙ count)

    pub room-of : (a : ℕ) (ws : List (ℕ × ℕ)) (log : LogState) → l.writes.len ≡ l.undo.len → Pushes l.writes a ws pushes.Done log → writes_full a (known_of v o) ≡ false
    room-of a ws log len p = by (item_at a l.writes.items) refl (length l.writes.items == l.writes.len) refl p.0
      where
        by : (m : Option ℕ) → item_at a l.writes.items ≡ m → (b : Bool) → (length l.writes.items == l.writes.len) ≡ b
            → IsSome (item_at a l.writes.items) ⊎ (length l.writes.items < l.writes.len) → writes_full a (known_of v o) ≡ false
        by (Some y) e b q r = filled a (Some y) b len e q
        by None e false q r = filled a None false len e q
        by None e true q (inl r) = absurd (let f : false ≡ true = subst IsSome e r in cc)
        by None e true q (inr r) = absurd (let f : length l.writes.items ≡ l.writes.len = grind (arith, nat_tests) in omega arith)

    pub writes-refused : (a x limit : ℕ) (ws : List (ℕ × ℕ)) (log : LogState) (w : View) → l.writes.len ≡ l.undo.len
        → Pushes l.writes a ws (pushes.Full limit) log → GivesUp n v w
        → HasWritten good c n a x (writes.Full limit) (known_of v o) (known_of w o)
    writes-refused a x limit ws log w len p g = (quits-here w g, filled a None true len p.0 (let e = p.1 in grind (arith, nat_tests)), p.2 ∙ len)

    pub stays-written : (a x : ℕ) (log : LogState) → a < c.words → fenced v.gate.fence a ≡ false → x < 2 ^ 64
        → log ≡ record l.writes { items = put a x l.writes.items } → IsInside good c n (record l { writes = log; wrote = true }) v
    stays-written a x log low out small is = record {
      phase = i.phase;
      named = i.named;
      disowned = i.disowned;
      unentered = i.unentered;
      start = i.start;
      front = i.front;
      legal = i.legal;
      below = i.below;
      sees = i.sees;
      reads_inside = i.reads_inside;
      looked = i.looked;
      granted = i.granted;
      steady = i.steady;
      spared = record { is = i.spared.is; fits = i.spared.fits };
      keeps = keeps-lazy (record {
        optimistic = k.optimistic;
        buffers = record {
          wrote = ap not (sym (ap is_empty put_is ∙ some-put a x l.writes.items));
          once = subst Once (sym put_is) (once-put a x l.writes.items k.buffers.once);
          inside = subst (λ (ws : List (ℕ × ℕ)). Inside c.words (cells_of ws)) (sym put_is) (inside-put a x l.writes.items k.buffers.once c.words low k.buffers.inside);
          small = subst (λ (ws : List (ℕ × ℕ)). Small (cells_of ws)) (sym put_is) (small-put a x l.writes.items k.buffers.once small k.buffers.small);
          apart = subst (λ (ws : List (ℕ × ℕ)). Apart l.fence (cells_of ws)) (sym put_is) (apart-put a x l.writes.items k.buffers.once l.fence (subst (λ f. fenced f a ≡ false) i.spared.is out) k.buffers.apart);
        };
        inside = k.inside;
        lazy = k.lazy;
        open_yet = k.open_yet;
        unraised = k.unraised;
        unplaced = k.unplaced;
        undone = k.undone;
        repaid = k.repaid;
        unsampled = k.unsampled;
        unchecked = k.unchecked;
        reads = k.reads;
        locks = k.locks;
        places = k.places;
        few = (let e : length l.locks.items ≡ 0 = ap length k.locks ∙ ap (λ (cs : List Cell). length (items cs)) (k.open_handed quiet) in omega arith);
        versions = k.versions;
        open_handed = k.open_handed;
        locked = λ e. absurd (let f : false ≡ true = sym quiet ∙ e in cc);
        committing = λ e. refl;
        marked = subst (λ (ms : List (List (ℕ × ℕ))). HasMarks c l.fence ms l.depth) (sym (ap (λ (m : LogState). m.marks) is)) k.marked;
        olds = λ e. absurd (let f : false ≡ true = sym quiet ∙ e in cc);
        sole = k.sole;
      });
    }
      where
        q : Local
        q = record l { writes = log; wrote = true }

        put_is : log.items ≡ put a x l.writes.items
        put_is = ap (λ (m : LogState). m.items) is

        keeps-lazy : IsLazy c q v → attempts.Keeps c q.algorithm q.granted q v
        keeps-lazy p = subst (λ (b : Alg). attempts.Keeps c b l.granted q v) (sym (sym i.named ∙ lazy)) (subst (λ (b : Bool). attempts.Keeps c OrecLazy b q v) (sym plain) p)

-- BEGIN
pub tells-started : (good : List ℕ → Type 0) (c : Config) (n : ℕ) (v : View) → CanBegin OrecLazy v → (clock : ℕ) (w : View)
    → Tells orec_begin (FindsStart (of_words good c.words) c) v clock w → StartsAt good c n OrecLazy clock v w
tells-started good c n v can clock w t = reads.tells-started good c n OrecLazy (inl refl) v can clock w t (λ l. record {
  optimistic = reads.optimistic-begun good c n OrecLazy (inl refl) v can clock w t;
  buffers = record { wrote = refl; once = tt; inside = λ a e. absurd cc; small = λ a d e. e; apart = λ a e. absurd cc };
  inside = refl;
  lazy = ap is_eager can.named;
  open_yet = refl;
  unraised = refl;
  unplaced = refl;
  undone = refl;
  repaid = refl;
  unsampled = refl;
  unchecked = refl;
  reads = refl;
  locks = refl;
  places = λ a e. absurd cc;
  few = omega arith;
  versions = λ r e. absurd cc;
  open_handed = λ e. refl;
  locked = λ e. absurd cc;
  committing = λ e. absurd cc;
  marked = record { count = refl; sound = λ j e. absurd (omega arith) };
  olds = λ e. absurd cc;
  sole = reads.sole-begun good c n OrecLazy (inl refl) v can clock w t;
}) (λ o fresh. ap items fresh.1)
