-- What the parts of a read of OrecEager come to, and what they come to together.
use Rattle.std.proofs.Common.{ℕ, ◌≡◌, ◌≢◌, ◌<◌, ◌≤◌, ◌*◌, List, [], ◌∷◌, ◌++◌, length, Bool, true, false, refl, sym, ap, ◌∙◌, arith, subst, inl, inr, append_assoc}
use Rattle.std.specs.Prelude.{◌%◌, ◌⊎◌, ◌==◌, ◌&&◌, not, if◌then◌else◌, Some, None, Err, ◌||◌}
use Rattle.std.proofs.lemmas.Bool.Decides.{nat_tests}
use Rattle.std.proofs.lemmas.List.Elements.{Contains-append_left}
use Rattle.stm_model.specs.Algorithms.{has_records, has_read_log, irrevocable_under, quit_rise}
use Rattle.stm_model.specs.declared.alg.Alg.{Alg}
use Rattle.stm_model.specs.declared.alg.Alg.TheVariants.{OrecEager}
use Rattle.stm_model.specs.declared.config.Config.{Config}
use Rattle.stm_model.specs.declared.stop.Cause.{Cause}
use Rattle.stm_model.specs.declared.stop.Cause.TheVariants as causes
use Rattle.stm_model.specs.Logs.{Log, Reads}
use Rattle.stm_model.specs.Memories.{item_at, is_empty}
use Rattle.rule_base.specs.declared.entries.Cell.{Cell}
use Rattle.rule_base.specs.declared.entries.Entry.{Entry}
use Rattle.rule_base.specs.declared.layout.At.TheVariants.{Clock, Record, Heap}
use Rattle.rule_base.specs.declared.seats.Who.{Who}
use Rattle.rule_base.specs.declared.views.Act.TheVariants.{Load}
use Rattle.rule_base.specs.declared.views.Sample.{Sample}
use Rattle.rule_base.specs.declared.views.TracedStep.{TracedStep}
use Rattle.rule_base.specs.declared.views.Validation.{Validation}
use Rattle.rule_base.specs.declared.views.View.{View}
use Rattle.rule_base.specs.Bridge.{items, of_words}
use Rattle.rule_base.specs.Encodings.{free_record, version_of}
use Rattle.rule_base.specs.History.{word_now, Explains}
use Rattle.rule_base.specs.Own.{Own}
use Rattle.rule_base.specs.Ranks.{home_of}
use Rattle.rule_base.specs.StepKinds.{Nothing, Tells}
use Rattle.rule_orec.specs.OrecReading.{no_check, no_sample}
use Rattle.rule_orec.specs.OrecSteps.{orec_confirm, orec_load, CanOrecConfirm, CanOrecLoad}
use Rattle.stm_gate.specs.Knowing.{known, number}
use Rattle.stm_gate.specs.LeavingLaws.{found-earlier, found-later}
use Rattle.stm_gate.specs.Opacity.{opaque-inside}
use Rattle.stm_rule.specs.Alone.{left_at}
use Rattle.stm_rule.specs.declared.local.Local.{Local}
use Rattle.stm_rule.specs.Attempts.{own_of, IsInside}
use Rattle.stm_rule.specs.Callers.{Handle, IsSameCaller}
use Rattle.stm_rule.specs.EagerKept.{IsEager}
use Rattle.alg_orec.proofs.OthersLaws.{left-found, moved-others}
use Rattle.alg_orec.specs.RecordFindings.{FindsAgain}
use Rattle.stm_answers.specs.declared.answers.Read.{Read}
use Rattle.stm_answers.specs.declared.answers.Read.TheVariants as reads
use Rattle.stm_answers.specs.Answers.{GoesOn, HasRead, Quits, StartMoves, write_rise}
use Rattle.stm_answers.specs.Causes.{Asked, Conflicts, FindsNewer, has_item, reads_full}
use Rattle.stm_answers.specs.Causes.Asked.{ForWord}
use Rattle.stm_answers.specs.Evidence.{Found}
use Rattle.stm_answers.specs.CallerState.{CallerState, caller_of, known_of, is_irrevocable, is_none, has_written}
use Rattle.stm_answers.specs.CallerStateLaws.{grows-trans, lock-trans}
use Rattle.alg_orec.proofs.Eager.EagerCalls.{RunsEager}
use Rattle.alg_orec.proofs.Eager.EagerLaws as laws
use Rattle.alg_orec.proofs.Eager.EagerProving.{ended-by, written}
use Rattle.alg_orec.proofs.Eager.EagerTakingLaws as taking
use Rattle.stm_gate.proofs.KeptLaws.{kept-same}
use Rattle.alg_orec.proofs.LoadLaws.{free-word, untouched-loads}
use Rattle.stm_logs.specs.Probing.{IsPlace}
use Rattle.alg_orec.proofs.RecordReads as records
use Rattle.alg_orec.proofs.LockingLaws.{unheld-of}
use Rattle.alg_orec.specs.EagerEnding.{CanAbortEager, AbortsEager}
use Rattle.alg_orec.specs.EagerReading.{IsNew, HasSample, IsSampled, IsLoaded, LoadsSampled, GoesOnReading, FindsFree, FindsMoved, Samples, Confirms}
use Rattle.alg_orec.specs.Loading.{CanLoadValid, HasPlace, moved, sampled_at, MayMove, MovesOwed, HasSampled, HasLoaded}
use Rattle.alg_orec.specs.Validating.{load_of}

-- THE PARTS TOGETHER: a start that moved, and moved on
abbrev MovesBy : Config → ℕ → CallerState → CallerState → Type 0
MovesBy c at v w = (w.start ≡ v.start) ⊎ (Found Clock w.start v w × FindsNewer c at v w)

moves-on : (c : Config) (at : ℕ) (u v w : CallerState) → u.start ≤ v.start → (more : List TracedStep) → v.step_trace ≡ more ++ u.step_trace
    → (late : List TracedStep) → w.step_trace ≡ late ++ v.step_trace → MovesBy c at u v → MovesBy c at v w → MovesBy c at u w
moves-on c at u v w low more t late s a (inr f) = let d = f.1 in inr (found-earlier Clock w.start u v w f.0 more t, (d.0, found-earlier (Record (at % c.records)) d.0 u v w d.1 more t, d.2, (let e = d.3 in omega arith)))
moves-on c at u v w low more t late s (inl e) (inl f) = inl (f ∙ e)
moves-on c at u v w low more t late s (inr e) (inl f) =
    let d = e.1 in
    inr (
      subst (λ (x : ℕ). Found Clock x u w) (sym f) (found-later Clock v.start u v w e.0 late s),
      (d.0, found-later (Record (at % c.records)) d.0 u v w d.1 late s, d.2, d.3),
    )

-- who reads under OrecEager doesn't raise the clock
level-reads : {c : Config} {asked : Asked} → (v u : CallerState) → v.alg ≡ OrecEager → GoesOn c asked v u → u.rises ≡ v.rises
level-reads v u eager a = let low = a.continues.rises.0 in let high = a.continues.rises.1 in let e : write_rise v.alg (is_irrevocable v) ≡ 0 = ap (λ (r : Alg). write_rise r (is_irrevocable v)) eager in omega arith

-- a place in the read log stays while the log does
pub same-place : {c : Config} {asked : Asked} (a place : ℕ) (v u : CallerState) → GoesOn c asked v u → u.log ≡ v.log → HasPlace a place v → HasPlace a place u
same-place a place v u goes log is = subst (λ (m : ℕ). IsPlace (2 * m) u.log.reads a place) (sym goes.continues.grows.reads_limit) (subst (λ (g : Log). IsPlace (2 * v.reads_limit) g.reads a place) (sym log) is)

-- an attempt of OrecEager that went on, with its log as it was
module _ {c : Config} {at : ℕ} (v u : CallerState) (eager : v.alg ≡ OrecEager) (a : GoesOn c (ForWord at) v u) (log : u.log ≡ v.log) (kept : u.kept ≡ v.kept) where
  same-irrevocable : is_irrevocable u ≡ is_irrevocable v
  same-irrevocable = λ j. irrevocable_under (a.continues.alg j) (a.granted j) (not (is_empty (log j).writes))

  pub same-room : (b : ℕ) → reads_full b u ≡ reads_full b v
  same-room b = λ j. has_read_log (a.continues.alg j) && (not (same-irrevocable j) && (not (has_item b (log j).writes) && (not (has_item b (log j).reads) && (length (log j).reads == a.continues.grows.reads_limit j))))

  pub still-new : (b : ℕ) → item_at b v.log.writes ≡ None → item_at b v.log.reads ≡ None → reads_full b v ≡ false → IsNew b u
  still-new b unwritten unread room = record { unwritten = ap (λ (g : Log). item_at b g.writes) log ∙ unwritten; unread = ap (λ (g : Log). item_at b g.reads) log ∙ unread; room = same-room b ∙ room }

  module _ (w : CallerState) where
    pub goes-then : GoesOn c (ForWord at) u w → GoesOn c (ForWord at) v w
    goes-then b = let k = a.continues in let q = b.continues in record {
      continues = record {
        running = q.running;
        closing = q.closing;
        made = q.made ∙ k.made;
        grows = grows-trans v u w k.grows q.grows;
        alg = q.alg ∙ k.alg;
        fence = q.fence ∙ k.fence;
        base = q.base ∙ k.base;
        rises = (
          let x = k.rises.0 in let y = q.rises.0 in omega arith,
          let x = k.rises.1 in let y = q.rises.1 in let e = still v eager in let f = still u (k.alg ∙ eager) in omega arith,
        );
        later = (let x = k.later in let y = q.later in omega arith);
        installs = q.installs ∙ k.installs;
        depth = q.depth ∙ k.depth;
        locked = lock-trans v u w k.alg k.locked q.locked;
      };
      start =
          subst (λ (r : Alg). StartMoves c (ForWord at) r v w) (sym eager)
          (moves-on c at v u w k.later k.grows.more k.grows.step_trace q.grows.more q.grows.step_trace
          (subst (λ (r : Alg). StartMoves c (ForWord at) r v u) eager a.start)
          (subst (λ (r : Alg). StartMoves c (ForWord at) r u w) (k.alg ∙ eager) b.start));
      granted = b.granted ∙ a.granted;
      holds = b.holds ∙ a.holds;
      checked = b.checked ∙ a.checked;
      marks = b.marks ∙ a.marks;
    }
      where
        still : (x : CallerState) → x.alg ≡ OrecEager → write_rise x.alg (is_irrevocable x) ≡ 0
        still x e = ap (λ (r : Alg). write_rise r (is_irrevocable x)) e

    pub quits-then : Quits u w → Quits v w
    quits-then b = let k = a.continues in record {
      ends = record { idle = b.ends.idle; grows = grows-trans v u w k.grows b.ends.grows; alg = b.ends.alg ∙ k.alg; base = b.ends.base ∙ k.base; installs = b.ends.installs ∙ k.installs };
      made = b.made ∙ k.made;
      rises = (
        let e = k.base in let r = b.rises.0 in omega arith,
        let e = k.base in
            let r = b.rises.1 in
            let q : quit_rise u.alg (has_written u) ≡ quit_rise v.alg (has_written v) =
            (λ j. quit_rise (k.alg j) (not (is_empty (log j).writes) || not (is_none (kept j)))) in
            omega arith,
      );
      revocable = sym same-irrevocable ∙ b.revocable;
    }

module _ (good : List ℕ → Type 0) (c : Config) (n a word x : ℕ) where
  abbrev at : ℕ
  at = a % c.records

  -- the record was sampled, the word loaded, the record confirmed
  pub reads-apart : (v s u w : CallerState) (r : Read) → v.alg ≡ OrecEager → FindsFree good c n a word v s
      → GoesOnReading good c n a (load_of (Heap a) x ∷ []) s u → Confirms good c n a word x r u w → HasRead good c n a r v w
  reads-apart v s u w r eager f l k = by r k
    where
      found : GoesOnReading good c n a (f.0 ++ load_of (Record at) word ∷ []) v s
      found = f.2

      goes : GoesOn c (ForWord a) v u
      goes = goes-then v s eager found.goes found.log found.kept u l.goes

      log : u.log ≡ v.log
      log = l.log ∙ found.log

      kept : u.kept ≡ v.kept
      kept = l.kept ∙ found.kept

      room : reads_full a v ≡ false
      room = sym (same-room v s eager found.goes found.log found.kept a) ∙ found.fresh.room

      step_trace : u.step_trace ≡ load_of (Heap a) x ∷ (f.0 ++ load_of (Record at) word ∷ v.step_trace)
      step_trace = l.step_trace ∙ ap (λ (t : List TracedStep). load_of (Heap a) x ∷ t) (found.step_trace ∙ append_assoc f.0 (load_of (Record at) word ∷ []) v.step_trace)

      by : (r : reads.the_data) → Confirms good c n a word x r u w → HasRead good c n a r v w
      by (reads.Value y) q =
          subst (λ (z : ℕ). HasRead good c n a (reads.Value z) v w) (sym q.0)
          (let h = q.1 in (
            goes-then v u eager goes log kept w h.0,
            h.1,
            subst (λ (g : Log). Reads g a x w.log) log h.2,
            h.3,
            h.4,
            room,
            h.6 ∙ level-reads v u eager goes,
            h.7 ∙ kept,
          ))
      by (reads.Conflict cause) q = (
        quits-then v u eager goes log kept w q.quits,
        subst (λ (z : Cause). Conflicts c n (ForWord a) z v w) (sym q.is) (
          ap has_records eager,
          refl,
          record {
            apart = q.apart;
            early = [];
            middle = load_of (Heap a) x ∷ f.0;
            act = Load;
            late = q.late;
            step_trace = q.step_trace ∙ ap (λ (t : List TracedStep). q.late ++ load_of (Record at) q.after ∷ t) step_trace;
            untouched = ((λ e. refl), untouched-loads (Record at) f.0 f.1);
            refused = refl;
          },
        ),
        q.others,
        room,
      )
      by (reads.Full limit) q = absurd q

-- the same of a descriptor
module _ {K : Type 0} (good : List ℕ → Type 0) (c : Config) (a : ℕ) where
  pub refused-first : (n : ℕ) (r : reads.the_data) (d e : Handle K) → Samples good c n a (Err r) d e → HasRead good c n a r (known d) (known e)
  refused-first n (reads.Value x) d e s = absurd s
  refused-first n (reads.Conflict cause) d e s = s
  refused-first n (reads.Full limit) d e s = s

  pub reads-together : (word x : ℕ) (r : Read) (d s u w : Handle K) → IsSameCaller d s → IsSameCaller s u → (known d).alg ≡ OrecEager
      → FindsFree good c (number d) a word (known d) (known s)
      → GoesOnReading good c (number s) a (load_of (Heap a) x ∷ []) (known s) (known u)
      → Confirms good c (number u) a word x r (known u) (known w) → HasRead good c (number d) a r (known d) (known w)
  reads-together word x r d s u w p q eager f l k =
      reads-apart good c (number d) a word x (known d) (known s) (known u) (known w) r eager f
      (subst (λ (n : ℕ). GoesOnReading good c n a (load_of (Heap a) x ∷ []) (known s) (known u)) first l)
      (subst (λ (n : ℕ). Confirms good c n a word x r (known u) (known w)) (ap (λ (y : Who K). caller_of y.role) q.who ∙ first) k)
    where
      first : number s ≡ number d
      first = ap (λ (y : Who K). caller_of y.role) p.who

-- a was neither written nor read before, and the read log has room
pub record IsUnread (l : Local) (a : ℕ) : Type 0 where
  pub unwritten : item_at a l.writes.items ≡ None
  pub unread : item_at a l.reads.items ≡ None
  pub room : length l.reads.items ≢ l.reads.len

-- THE PARTS
module _ (good : List ℕ → Type 0) (c : Config) (n : ℕ) (l : Local) (v : View) (runs : RunsEager good c n l v) where
  abbrev rule : (ℕ → ℕ) → Type 0
  rule = of_words good c.words

  abbrev i : IsInside good c n l v
  i = runs.inside

  abbrev k : IsEager c l v
  k = runs.kept

  abbrev o : Own
  o = own_of l

  -- what contracts see of the logs is what the descriptor has
  pub unwritten-of : (a : ℕ) → item_at a (known_of v o).log.writes ≡ None → item_at a l.writes.items ≡ None
  unwritten-of a e = ap (item_at a) (sym (laws.written-here good c n l v runs)) ∙ e

  pub unread-of : (a : ℕ) → item_at a (known_of v o).log.reads ≡ None → item_at a l.reads.items ≡ None
  unread-of a e = ap (item_at a) k.reads ∙ e

  pub new-of : (a : ℕ) → item_at a l.writes.items ≡ None → item_at a l.reads.items ≡ None → length l.reads.items ≢ l.reads.len → IsNew a (known_of v o)
  new-of a unwritten unread room =
      record {
        unwritten = ap (item_at a) (laws.written-here good c n l v runs) ∙ unwritten;
        unread = ap (item_at a) (sym k.reads) ∙ unread;
        room = records.full-by (laws.reading good c n l v runs) a false unwritten unread (grind (arith, nat_tests));
      }

  pub room-of : (a : ℕ) → IsNew a (known_of v o) → length l.reads.items ≢ l.reads.len
  room-of a new e =
      absurd (let full : reads_full a (known_of v o) ≡ true = records.full-by (laws.reading good c n l v runs) a true
      (unwritten-of a new.unwritten) (unread-of a new.unread) (grind (arith, nat_tests)) in
      let q : true ≡ false = sym full ∙ new.room in cc)

  pub unread-new : (a : ℕ) → IsNew a (known_of v o) → IsUnread l a
  unread-new a new = record { unwritten = unwritten-of a new.unwritten; unread = unread-of a new.unread; room = room-of a new }

  stays : (start : ℕ) (seen : List Entry) (sample : Sample) (check : Validation) (more : List TracedStep)
      → MayMove rule c n start seen more v
      → IsInside good c n (record l { start = start; reads = l.reads }) (moved v start seen v.attempt.reads sample check more)
  stays start seen sample check more moves =
      laws.stays-moved good c n l v runs start seen v.attempt.reads sample check more l.reads moves
      (records.legal-at (laws.reading good c n l v runs) start seen more moves)
      (records.below-at (laws.reading good c n l v runs) start seen more moves)
      (records.sees-at (laws.reading good c n l v runs) start seen more moves) i.reads_inside k.reads

  -- it goes on where it came to, and has yet to read a
  reads-on : (a start : ℕ) (seen : List Entry) (sample : Sample) (check : Validation) (more : List TracedStep)
      → MayMove rule c n start seen more v → MovesOwed c a start more v → IsNew a (known_of v o)
      → GoesOnReading good c n a more (known_of v o) (known_of (moved v start seen v.attempt.reads sample check more) o)
  reads-on a start seen sample check more moves owed new = record {
    goes = goes;
    uncommitted = runs.quiet;
    log = log;
    kept = kept-same v.gate.algorithm v w o o refl refl refl;
    fresh = still-new (known_of v o) (known_of w o) runs.eager goes log (kept-same v.gate.algorithm v w o o refl refl refl) a new.unwritten new.unread new.room;
    opaque = opaque-inside good c n (record l { start = start; reads = l.reads }) w o (stays start seen sample check more moves);
    step_trace = refl;
  }
    where
      w : View
      w = moved v start seen v.attempt.reads sample check more

      goes : GoesOn c (ForWord a) (known_of v o) (known_of w o)
      goes = records.goes-moved (laws.reading good c n l v runs) start seen more moves v.attempt.reads sample check a owed

      log : (known_of w o).log ≡ (known_of v o).log
      log = λ j. record { reads = items v.attempt.reads; writes = (written c l v k runs.eager w o refl refl ∙ sym (written c l v k runs.eager v o refl refl)) j }

  -- where the start stayed
  stays-here : (rs : List Cell) (sample : Sample) (check : Validation) (more : List TracedStep)
      → record v {
        attempt = record v.attempt { reads = rs };
        sample = sample;
        check = check;
        steps = record v.steps { step_trace = more ++ v.steps.step_trace };
      } ≡ moved v l.start v.history.seen rs sample check more
  stays-here rs sample check more =
      λ j.
      record v {
        history = record v.history { front = i.front j };
        attempt = record v.attempt { start = i.start j; reads = rs };
        sample = sample;
        check = check;
        steps = record v.steps { step_trace = more ++ v.steps.step_trace };
      }

  -- SAMPLE
  pub may-sample : (a : ℕ) → a < c.words → item_at a l.writes.items ≡ None → item_at (a % c.records) l.locks.items ≡ None → CanLoadValid c a l v
  may-sample a low unwritten none = taking.may-load_valid rule c n a l v (laws.may-load good c n l v runs a low unwritten) (unheld-of v.owned.held l.locks.items (a % c.records) k.locks none)

  module _ (a word : ℕ) (m : Local) (w : View) (h : HasSampled rule c n a word l v m w) where
    abbrev all : List TracedStep
    all = h.late ++ load_of (Record (a % c.records)) word ∷ []

    moves : MayMove rule c n m.start h.seen all v
    moves = by h.moves
      where
        by : MayMove rule c n m.start h.seen h.late v → MayMove rule c n m.start h.seen all v
        by (inl q) = inl q
        by (inr q) = inr (Contains-append_left h.late (load_of (Record (a % c.records)) word ∷ []) (load_of Clock m.start) q.0, q.1, q.2)

    pub stays-sampled : IsInside good c n m w
    stays-sampled =
        subst (λ (q : Local). IsInside good c n q w) (sym h.local)
        (subst (λ (y : View). IsInside good c n (record l { start = m.start }) y) (sym h.is)
        (stays m.start h.seen (sampled_at a (version_of word)) w.check all moves))

    pub finds-free : IsNew a (known_of v o) → FindsFree good c n a word (known_of v o) (known_of w o)
    finds-free new = (
      h.late,
      h.loads,
      subst (λ (y : View). GoesOnReading good c n a all (known_of v o) (known_of y o)) (sym h.is)
          (reads-on a m.start h.seen (sampled_at a (version_of word)) w.check all moves h.owed new),
    )

    pub is-sampled : IsSampled c a word w
    is-sampled = subst (IsSampled c a word) (sym h.is) (record {
      has = record { sampled = refl; from = refl; version = h.old };
      before = sym (free-word word h.free);
      left = left h.next;
    })
      where
        left : (h.late ≡ []) ⊎ (1 < c.callers) → (left_at (a % c.records) (all ++ v.steps.step_trace) ≡ Some word) ⊎ (1 < c.callers)
        left (inl none) = inl (ap (λ (q : List TracedStep). left_at (a % c.records) ((q ++ load_of (Record (a % c.records)) word ∷ []) ++ v.steps.step_trace)) none ∙ left-found (a % c.records) word v.steps.step_trace)
        left (inr many) = inr many

  -- LOAD
  pub may-load : (a : ℕ) → HasSample a v → CanOrecLoad a v
  may-load a h = record { has = (laws.opens good c n l v runs).has; sampled = h.sampled; from = h.from; version = h.version }

  module _ (a x : ℕ) (w : View) (t : Tells (orec_load a) Nothing v x w) where
    abbrev sample_loaded : Sample
    sample_loaded = record v.sample { loaded = true; value = x }

    abbrev loading : List TracedStep
    loading = load_of (Heap a) x ∷ []

    load_path : w ≡ moved v l.start v.history.seen v.attempt.reads sample_loaded v.check loading
    load_path = t.2 ∙ stays-here v.attempt.reads sample_loaded v.check loading

    pub stays-loaded : IsInside good c n l w
    stays-loaded = subst (IsInside good c n l) (sym load_path) (stays l.start v.history.seen sample_loaded v.check loading (inl (sym i.start, refl)))

    pub reads-loaded : IsNew a (known_of v o) → GoesOnReading good c n a loading (known_of v o) (known_of w o)
    reads-loaded new =
        subst (λ (y : View). GoesOnReading good c n a loading (known_of v o) (known_of y o)) (sym load_path)
        (reads-on a l.start v.history.seen sample_loaded v.check loading (inl (sym i.start, refl)) (inl (sym i.start)) new)

    pub is-loaded : LoadsSampled c a x v w
    is-loaded word s = subst (IsLoaded c a word x) (sym t.2) (record { loaded = refl; from = s.has.from; before = s.before; value = refl; left = s.left })

  -- CONFIRM
  module _ (a word x : ℕ) (low : a < c.words) (h : IsLoaded c a word x v) where
    abbrev r : ℕ
    r = a % c.records

    pub may-confirm : CanOrecConfirm (home_of c) c.words r v
    may-confirm = record { opens = laws.opens good c n l v runs; loaded = h.loaded; its = ap (home_of c) h.from; inside = subst (λ (b : ℕ). b < c.words) (sym h.from) low }

    module _ (after : ℕ) (w : View) (t : Tells (orec_confirm r) (FindsAgain rule c n r) v after w) where
      abbrev again : List TracedStep
      again = load_of (Record r) after ∷ []

      abbrev reading : ℕ → ℕ → List Cell
      reading at value = record { at = at; value = value } ∷ v.attempt.reads

      abbrev read_if : Bool → List Cell
      read_if b = if b then reading v.sample.from v.sample.value else v.attempt.reads

      path : (b : Bool) → (after == free_record v.sample.version) ≡ b → w ≡ moved v l.start v.history.seen (read_if b) no_sample no_check again
      path b e =
          t.2
          ∙ (ap (λ (d : Bool).
          record v {
            attempt = record v.attempt { reads = read_if d };
            sample = no_sample;
            check = no_check;
            steps = record v.steps { step_trace = again ++ v.steps.step_trace };
          }) e ∙ stays-here (read_if b) no_sample no_check again)

      -- where nothing moved
      pub loads-same : after ≡ word → HasLoaded rule c n a x l v l w
      loads-same same = record {
        local = refl;
        seen = v.history.seen;
        more = again;
        is = path true here ∙ (λ j. moved v l.start v.history.seen (reading (h.from j) (h.value j)) no_sample no_check again);
        moves = inl (sym i.start, refl);
        owed = inl (sym i.start);
        sees = subst (λ (rs : List Cell). Explains (word_now v.history.seen) rs) (λ j. reading (h.from j) (h.value j)) (subst (λ (b : Bool). Explains (word_now v.history.seen) (read_if b)) here t.1.confirms.sees.sees);
        legal = i.legal;
        below = i.below;
      }
        where
          here : (after == free_record v.sample.version) ≡ true
          here = let e = same ∙ h.before in grind (arith, nat_tests)

      -- where the record was found otherwise
      module _ (apart : after ≢ word) where
        moved_path : w ≡ moved v l.start v.history.seen v.attempt.reads no_sample no_check again
        moved_path = path false (let e : after ≢ free_record v.sample.version = (λ q. apart (q ∙ sym h.before)) in grind (arith, nat_tests))

        pub may-take-moved : CanAbortEager c l w
        may-take-moved = subst (CanAbortEager c l) (sym moved_path) (laws.may-take good c n l v runs l l.start v.history.seen v.attempt.reads no_sample no_check again refl refl)

        pub finds-moved : n < c.callers → (z : View) → AbortsEager n w z → FindsMoved good c n a word (causes.Moved r word after) (known_of v o) (known_of z o)
        finds-moved mine z g = record {
          quits = laws.quits-moved good c n l v runs l.start v.history.seen v.attempt.reads no_sample no_check again z (inl (sym i.start, refl)) (subst (λ (y : View). AbortsEager n y z) moved_path g);
          others = others h.left;
          after = after;
          apart = λ e. apart (sym e);
          is = refl;
          late = (ended-by n w z g).0;
          step_trace = (let m = ended-by n w z g in m.1 ∙ ap (λ (y : View). m.0 ++ y.steps.step_trace) moved_path);
        }
          where
            others : (left_at r v.steps.step_trace ≡ Some word) ⊎ (1 < c.callers) → 1 < c.callers
            others (inl left) = moved-others c n mine t.0 v after r word t.1.found left apart
            others (inr many) = many
