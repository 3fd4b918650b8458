-- What the steps of a commit of OrecLazy come to.
use Rattle.std.proofs.Common.{ℕ, ◌≡◌, ◌<◌, ◌≤◌, ◌+◌, List, [], ◌∷◌, ◌++◌, length, Bool, true, false, refl, sym, ap, ◌∙◌, arith, subst, append_assoc, inl, inr, ⊎_elim}
use Rattle.std.specs.Prelude.{Some, ◌||◌, ◌⊎◌, not, Result, Ok, Err}
use Rattle.std.proofs.lemmas.Bool.Decides.{nat_tests}
use Rattle.std.proofs.lemmas.List.Elements.{Contains-append_left, Contains-append_right}
use Rattle.stm_model.specs.Algorithms.{has_records, asks_at_commit, irrevocable_under}
use Rattle.stm_model.specs.declared.alg.Alg.{Alg}
use Rattle.stm_model.specs.declared.alg.Alg.TheVariants.{OrecLazy}
use Rattle.stm_model.specs.declared.config.Config.{Config}
use Rattle.stm_model.specs.declared.config.TheConstants.{CLOCK_LIMIT}
use Rattle.stm_model.specs.declared.stop.Cause.TheVariants as causes
use Rattle.stm_model.specs.Memories.{item_at, is_empty}
use Rattle.rule_base.specs.declared.entries.Cell.{Cell}
use Rattle.rule_base.specs.declared.entries.Entry.{Entry}
use Rattle.rule_base.specs.declared.layout.At.{At}
use Rattle.rule_base.specs.declared.layout.At.TheVariants.{Clock, Record}
use Rattle.rule_base.specs.declared.views.Act.TheVariants.{Load, Exchange}
use Rattle.rule_base.specs.declared.views.TracedStep.{TracedStep}
use Rattle.rule_base.specs.declared.views.Validation.{Validation}
use Rattle.rule_base.specs.declared.views.View.{View}
use Rattle.rule_base.specs.Bridge.{items, of_words, public_history}
use Rattle.rule_base.specs.Lemmas.BridgeLemmas.{item-some}
use Rattle.rule_base.specs.Encodings.{free_record, owned_record, is_owned, version_of}
use Rattle.rule_base.specs.Lemmas.EncodingLemmas.{is_owned-free, version_of-free}
use Rattle.rule_base.specs.History.{over, touches, word_now, upto, Inside, Below, Explains, Legal}
use Rattle.rule_base.specs.Own.{Own}
use Rattle.rule_base.specs.Ranks.{home_of}
use Rattle.rule_orec.specs.OrecReading.{no_check}
use Rattle.rule_orec.specs.OrecSteps.{HasOpen}
use Rattle.stm_logs.specs.LogStates.{LogState}
use Rattle.stm_rule.specs.declared.local.Local.{Local}
use Rattle.stm_rule.specs.Attempts.{Keeps, IsInside, own_of}
use Rattle.stm_rule.specs.RecordsKept.{cells_of, IsLazy}
use Rattle.stm_answers.specs.Causes.{Conflicts, IsStaleAt, OwesValidation, has_item}
use Rattle.stm_answers.specs.Causes.Asked.{ToCommit}
use Rattle.stm_answers.specs.Evidence.{Found, Untouched}
use Rattle.stm_answers.specs.CallerState.{Grows, known_of, granted_under, written_under, is_irrevocable, wrote}
use Rattle.stm_answers.specs.CallerStateLaws.{grows-same}
use Rattle.stm_gate.specs.LeavingLaws.{IsUnmade}
use Rattle.stm_gate.specs.Opacity.{later-seen}
use Rattle.stm_gate.proofs.Peeling.{has-touched}
use Rattle.alg_orec.specs.Committing.{CanCommit, readied, Owed, IsReady, IsStopped, Prepares}
use Rattle.alg_orec.specs.Ending.{CanAbortLazy}
use Rattle.alg_orec.specs.Locking.{holding_still, lock_item, CanLockAll, WasFree, IsRefused, Holds, LocksEach, StopsLocking}
use Rattle.alg_orec.specs.Validating.{load_of, OnlyLoads, CanValidate, Refuses, IsFoundStale, IsHeldNewer, IsStale, IsValid, Validates}
use Rattle.stm_gate.proofs.Cells.{items-cells}
use Rattle.alg_orec.proofs.Proving.{lazy-of}

-- loads change no word
pub untouched-loads : (p : At) (is rest : List TracedStep) → OnlyLoads is → Untouched p rest → Untouched p (is ++ rest)
untouched-loads p [] rest o u = u
untouched-loads p (i ∷ is) rest o u = (λ e. rw o.0 refl, untouched-loads p is rest o.1 u)

apart_lists : (a b d t : List TracedStep) (x : TracedStep) → (a ++ (b ++ x ∷ d)) ++ t ≡ (a ++ b) ++ x ∷ (d ++ t)
apart_lists a b d t x = append_assoc a (b ++ x ∷ d) t ∙ (ap (λ (s : List TracedStep). a ++ s) (append_assoc b (x ∷ d) t) ∙ sym (append_assoc a b (x ∷ (d ++ t))))

others-by : (n callers : ℕ) → n < callers → (callers ≡ 1 → ⊥) → 1 < callers
others-by n callers low apart = omega arith

module _ (good : List ℕ → Type 0) (c : Config) (n : ℕ) (low : n < c.callers) (l : Local) (v : View) (can : CanCommit good c n l v) where
  i : IsInside good c n l v
  i = can.inside

  k : IsLazy c l v
  k = lazy-of good c n l v can.inside can.lazy can.plain

  pub lazy : v.gate.algorithm ≡ OrecLazy
  lazy = can.inside.named ∙ can.lazy

  -- what was written lies with the descriptor
  pub written : (o : Own) → o.buffered ≡ cells_of l.writes.items → written_under v.gate.algorithm v.gate.granted v o ≡ l.writes.items
  written o e = (λ j. written_under (lazy j) (k.optimistic.ungranted j) v o) ∙ (ap items e ∙ items-cells l.writes.items k.buffers.once)

  pub wrote_is : (o : Own) → o.buffered ≡ cells_of l.writes.items → wrote (known_of v o) ≡ true
  wrote_is o e = ap (λ (ws : List (ℕ × ℕ)). not (is_empty ws)) (written o e) ∙ (sym k.buffers.wrote ∙ can.wrote)

  pub revocable : (o : Own) → is_irrevocable (known_of v o) ≡ false
  revocable o = (λ j. irrevocable_under (lazy j) (granted_under (lazy j) v.gate v.lock) (wrote (known_of v o))) ∙ k.optimistic.ungranted

  -- an address that was written, or read, as an item of the log
  has_written : (o : Own) (a : ℕ) → o.buffered ≡ cells_of l.writes.items → touches (cells_of l.writes.items) a ≡ true → has_item a (known_of v o).log.writes ≡ true
  has_written o a e t = (λ j. has_item a (written_under (lazy j) (k.optimistic.ungranted j) v o)) ∙ (ap (λ (cs : List Cell). has_item a (items cs)) e ∙ (sym (has-touched a (cells_of l.writes.items)) ∙ t))

  pub may-lock_all : l.committing ≡ false → 0 < c.records → CanLockAll c l v
  may-lock_all free records = record {
    can =
        record {
          opens = record {
            has =
                record { runs = record { phase = i.phase; algorithm = ap has_records lazy; plain = k.optimistic.ungranted }; inside = k.inside };
            open_yet = k.open_yet;
          };
          lazy = k.lazy;
          unraised = k.unraised;
          locks = k.locks;
        };
    none = k.open_handed free;
    lengths = (let e = can.lengths.0 in let h = can.lengths.1 in omega arith);
    records = records;
  }

  -- what it holds in the middle of its commit
  pub holds-still : Holds c n l v l v []
  holds-still = record { local = refl; len = refl; is = refl; locks = k.locks; places = k.places; few = k.few; versions = k.versions }

  pub may-validate : (m : Local) (u : View) (more : List TracedStep) → Holds c n l v m u more → CanValidate c m u
  may-validate m u more h = record {
    opens = subst HasOpen (sym h.is) (record { has = record { runs = record { phase = i.phase; algorithm = ap has_records lazy; plain = k.optimistic.ungranted }; inside = k.inside }; open_yet = k.open_yet });
    start = ap (λ (y : View). y.attempt.start) h.is ∙ (i.start ∙ sym (ap (λ (q : Local). q.start) h.local));
    reads = ap (λ (q : Local). q.reads.items) h.local ∙ (k.reads ∙ sym (ap (λ (y : View). items y.attempt.reads) h.is));
    locks = h.locks;
    versions = λ r version e. let p = item-some u.owned.held r version (sym (ap (item_at r) h.locks) ∙ e) in let b = h.versions r p.0 in let q = p.1 in omega arith;
    level = λ one. let a = ap (λ (y : View). y.attempt.start) h.is in let b = i.start in let d = k.sole one in let e = ap (λ (y : View). y.steps.rises) h.is in let f = k.optimistic.rises in omega arith;
  }

  -- an attempt that holds records can be taken back
  pub can-roll : (m : Local) (y : View) (held : List Cell) (check : Validation) (more : List TracedStep)
      → y ≡ record (holding_still v held more) { check = check } → m.locks.items ≡ items held → Inside c.records held
      → ((r : ℕ) → touches held r ≡ true → over held r 0 ≤ CLOCK_LIMIT) → CanAbortLazy c m y
  can-roll m y held check more is locks places versions = subst (CanAbortLazy c m) (sym is) (record {
    opens = record { has = record { runs = record { phase = i.phase; algorithm = ap has_records lazy; plain = k.optimistic.ungranted }; inside = k.inside }; open_yet = k.open_yet };
    lazy = k.lazy;
    unplaced = k.unplaced;
    undone = k.undone;
    repaid = k.repaid;
    locks = locks;
    places = places;
    versions = λ r version e. let p = item-some held r version (sym (ap (item_at r) locks) ∙ e) in let b = versions r p.0 in let q = p.1 in omega arith;
    unlocked = k.optimistic.unlocked;
    unfixed = k.optimistic.unfixed;
    unwritten = k.optimistic.unwritten;
    uncommitted = k.optimistic.uncommitted;
    unstored = k.optimistic.unstored;
    unentered = i.unentered;
  })

  -- READY: the attempt stands as in the middle of its commit
  module _ (start : ℕ) (locks : LogState) (seen : List Entry) (held : List Cell) (loaded : Bool) (check : Validation) (more : List TracedStep) where
    abbrev in_commit : Local
    in_commit = record l { start = start; locks = locks; committing = true }

    abbrev y : View
    y = readied v seen start held loaded check more

    pub stays-ready : locks.items ≡ items held → Inside c.records held → length locks.items ≤ l.writes.len
        → ((r : ℕ) → touches held r ≡ true → over held r 0 ≤ CLOCK_LIMIT)
        → ((a : ℕ) → touches (cells_of l.writes.items) a ≡ true → touches held (home_of c a) ≡ true)
        → ((r : ℕ) → touches held r ≡ true → over held r 0 ≤ start) → check.checking ≡ false → Legal (of_words good c.words) c seen → Below seen (start + 1) → Explains (word_now seen) v.attempt.reads
        → (c.callers ≡ 1 → start ≡ c.clock + v.steps.rises_at_begin) → IsInside good c n in_commit y
    stays-ready logs places few versions covered olds unchecked legal below sees sole = record {
      phase = i.phase;
      named = i.named;
      disowned = λ e. absurd (let f : true ≡ false = sym (ap has_records can.lazy) ∙ e in cc);
      unentered = i.unentered;
      start = refl;
      front = refl;
      legal = legal;
      below = below;
      sees = sees;
      reads_inside = i.reads_inside;
      looked = λ e. let h = i.looked e in record { low = h.low; seen = h.seen; unseen = h.unseen };
      granted = i.granted;
      steady = λ e. absurd (let f : false ≡ true = sym (λ j. not (asks_at_commit (can.lazy j)) || can.plain j) ∙ e in cc);
      spared = record { is = i.spared.is; fits = i.spared.fits };
      keeps = subst (λ (a : Alg). Keeps c a l.granted in_commit y) (sym can.lazy) (subst (λ (b : Bool). Keeps c OrecLazy b in_commit y) (sym can.plain) stays);
    }
      where
        stays : IsLazy c in_commit y
        stays = record {
          optimistic = record {
            unlocked = k.optimistic.unlocked;
            unfixed = k.optimistic.unfixed;
            unwritten = k.optimistic.unwritten;
            uncommitted = k.optimistic.uncommitted;
            ungranted = k.optimistic.ungranted;
            not_quiescent = k.optimistic.not_quiescent;
            unstored = k.optimistic.unstored;
            rises = k.optimistic.rises;
          };
          buffers = record { wrote = k.buffers.wrote; once = k.buffers.once; inside = k.buffers.inside; small = k.buffers.small; apart = k.buffers.apart };
          inside = k.inside;
          lazy = k.lazy;
          open_yet = k.open_yet;
          unraised = k.unraised;
          unplaced = k.unplaced;
          undone = k.undone;
          repaid = k.repaid;
          unsampled = k.unsampled;
          unchecked = unchecked;
          reads = k.reads;
          locks = logs;
          places = places;
          few = few;
          versions = versions;
          open_handed = λ e. absurd cc;
          locked = λ e. covered;
          committing = λ e. can.wrote;
          marked = k.marked;
          olds = λ e. olds;
          sole = sole;
        }

  -- where no version is above the start
  pub ready-still : (newest : ℕ) (m : Local) (u : View) → l.committing ≡ false → newest ≤ l.start → LocksEach c n newest l v m u → IsReady good c n l v m u
  ready-still newest m u first old e = record {
    local = whole;
    len = h.len;
    seen = v.history.seen;
    held = u.owned.held;
    loaded = v.sample.loaded;
    check = v.check;
    more = e.more;
    is = path;
    stays = subst (λ (q : Local). IsInside good c n (record q { committing = true }) u) (sym whole) (subst (IsInside good c n (record l { start = m.start; locks = m.locks; committing = true })) (sym path)
        (stays-ready m.start m.locks v.history.seen u.owned.held v.sample.loaded v.check e.more h.locks h.places h.few h.versions e.covered
        (λ r t. let o = e.olds r t in let s = start in omega arith) k.unchecked i.legal (subst (λ (s : ℕ). Below v.history.seen (s + 1)) (sym start) i.below) i.sees (λ one. start ∙ k.sole one)));
    grows = λ o. subst (λ (y : View). Grows (known_of v o) (known_of y o)) (sym h.is) (grows-same (known_of v o) (known_of (holding_still v u.owned.held e.more) o) refl refl e.more refl refl refl refl refl);
    start = inl start;
    again = λ g o. absurd (let f : true ≡ false = sym g ∙ first in cc);
  }
    where
      h : Holds c n l v m u e.more
      h = e.locks.holds

      start : m.start ≡ l.start
      start = ap (λ (q : Local). q.start) h.local

      whole : m ≡ record l { start = m.start; locks = m.locks }
      whole = h.local ∙ (λ j. record l { start = sym start j; locks = m.locks })

      path : u ≡ readied v v.history.seen m.start u.owned.held v.sample.loaded v.check e.more
      path = h.is ∙ (λ j. record (holding_still v u.owned.held e.more) { history = record v.history { front = (i.front ∙ sym start) j }; attempt = record v.attempt { start = (i.start ∙ sym start) j } })

  -- where all reads were validated
  pub ready-valid : (m q : Local) (u w : View) (more : List TracedStep) → Holds c n l v m u more
      → ((a : ℕ) → touches (cells_of l.writes.items) a ≡ true → touches u.owned.held (home_of c a) ≡ true) → Owed good c n l v w
      → IsValid c n (of_words good c.words) m u q w → IsReady good c n l v q w
  ready-valid m q u w more h covered due valid = record {
    local = whole;
    len = ap (λ (p : Local). p.locks.len) valid.local ∙ h.len;
    seen = valid.history;
    held = u.owned.held;
    loaded = false;
    check = no_check;
    more = valid.more ++ more;
    is = path;
    stays = subst (λ (p : Local). IsInside good c n (record p { committing = true }) w) (sym whole) (subst (IsInside good c n (record l { start = q.start; locks = q.locks; committing = true })) (sym path)
        (stays-ready q.start q.locks valid.history u.owned.held false no_check (valid.more ++ more)
        (ap (λ (p : Local). p.locks.items) valid.local ∙ h.locks) h.places
        (let e = ap (λ (p : Local). length p.locks.items) valid.local in let f = h.few in omega arith) h.versions covered valid.olds refl
        valid.moves.legal valid.moves.below (subst (Explains (word_now valid.history)) (ap (λ (y : View). y.attempt.reads) h.is) valid.moves.sees)
        (λ one. let s = valid.sole one in let r = ap (λ (y : View). y.steps.rises) h.is in let b = k.optimistic.rises in omega arith)));
    grows = λ o. subst (λ (y : View). Grows (known_of v o) (known_of y o)) (sym path) (grown o);
    start = inr (found, due);
    again = λ g. found;
  }
    where
      whole : q ≡ record l { start = q.start; locks = q.locks }
      whole = valid.local ∙ (ap (λ (p : Local). record p { start = q.start }) h.local ∙ (λ j. record l { start = q.start; locks = sym (ap (λ (p : Local). p.locks) valid.local) j }))

      path : w ≡ readied v valid.history q.start u.owned.held false no_check (valid.more ++ more)
      path = valid.is ∙ (ap (λ (y : View).
          record y {
            history = record y.history { seen = valid.history; front = q.start };
            attempt = record y.attempt { start = q.start };
            sample = record y.sample { loaded = false };
            check = no_check;
            steps = record y.steps { step_trace = valid.more ++ y.steps.step_trace };
          }) h.is
          ∙ ap (λ (t : List TracedStep). record (readied v valid.history q.start u.owned.held false no_check []) { steps = record v.steps { step_trace = t } }) (sym (append_assoc valid.more more v.steps.step_trace)))

      front_is : u.history.front ≡ v.history.front
      front_is = ap (λ (y : View). y.history.front) h.is

      front : v.history.front ≤ q.start
      front = let f = front_is in let m = valid.moves.front in omega arith

      seen_is : v.history.seen ≡ upto valid.history v.history.front
      seen_is = sym (ap (λ (y : View). y.history.seen) h.is) ∙ (valid.moves.seen ∙ ap (upto valid.history) front_is)

      grown : (o : Own) → Grows (known_of v o) (known_of (readied v valid.history q.start u.owned.held false no_check (valid.more ++ more)) o)
      grown o = let r = later-seen valid.history v.history.front q.start valid.moves.below front in record {
        later = r.0;
        is = r.1 ∙ ap (λ (hs : List Entry). public_history hs ++ r.0) (sym seen_is);
        ascending = r.2;
        up_to = r.3;
        front_rose = front;
        more = valid.more ++ more;
        step_trace = refl;
        reads_limit = refl;
        writes_limit = refl;
        marks_limit = refl;
        fenced = refl;
      }

      found : (o : Own) → Found Clock q.start (known_of v o) (known_of w o)
      found o = (valid.more ++ more, ap (λ (y : View). y.steps.step_trace) path, Load, Contains-append_left valid.more more (load_of Clock q.start) valid.found)

  -- STOPPED: a record that can't be taken
  pub stopped-locking : (cause : causes.the_data) (m : Local) (u : View) → StopsLocking c n cause l v m u → IsStopped good c n cause l v m u
  stopped-locking cause m u s = record {
    local = h.local;
    len = h.len;
    few = h.few;
    can = can-roll m u u.owned.held v.check (s.last ++ s.before) h.is h.locks h.places h.versions;
    gate = ap (λ (y : View). y.gate) h.is;
    unmade =
        subst (IsUnmade v) (sym h.is)
        (record {
          carried = record {
            named = refl;
            base = refl;
            installs = refl;
            fence = refl;
            step_trace = (s.last ++ s.before, refl);
            unlocked = k.optimistic.unlocked;
            unwritten = k.optimistic.unwritten;
          };
          history = refl;
        });
    rises = ap (λ (y : View). y.steps.rises) h.is;
    conflicts = λ o e mid. why cause o e s.last step_trace s.why;
    others = others_of cause s.last s.why;
  }
    where
      h : Holds c n l v m u (s.last ++ s.before)
      h = s.locks.holds

      step_trace : u.steps.step_trace ≡ (s.last ++ s.before) ++ v.steps.step_trace
      step_trace = ap (λ (y : View). y.steps.step_trace) h.is

      records : has_records v.gate.algorithm ≡ true
      records = ap has_records lazy

      why : (cause : causes.the_data) (o : Own) → o.buffered ≡ cells_of l.writes.items → (last : List TracedStep)
          → u.steps.step_trace ≡ (last ++ s.before) ++ v.steps.step_trace → IsRefused c n (home_of c s.a) cause l.start last
          → Conflicts c n ToCommit cause (known_of v o) (known_of u o)
      why (causes.Clock had now) o e last t f = absurd f
      why (causes.Record index word start) o e last t f = (
        records,
        f.1 ∙ sym i.start,
        record {
          early = s.before;
          act = Load;
          late = [];
          step_trace =
              t ∙ ap (λ (is : List TracedStep). (is ++ s.before) ++ v.steps.step_trace) f.2.last
              ∙ ap (λ (r : ℕ). record { place = Record r; act = Load; found = Some word } ∷ (s.before ++ v.steps.step_trace)) (sym f.0);
          untouched = subst (λ (r : ℕ). Untouched (Record r) s.before) (sym f.0) s.untouched;
        },
        inl ((s.a, f.0, has_written o s.a e s.written), (f.2.owned, f.2.other)),
      )
      why (causes.Moved index before after) o e last t f = let g = f.1 in (
        records,
        (s.a, f.0, has_written o s.a e s.written),
        record {
          apart = g.apart;
          early = s.before;
          middle = [];
          act = Exchange (free_record g.version) (owned_record n);
          late = [];
          step_trace =
              t ∙ ap (λ (is : List TracedStep). (is ++ s.before) ++ v.steps.step_trace) g.last
              ∙ ap (λ (r : ℕ). lock_item n r g.version after ∷ load_of (Record r) before ∷ (s.before ++ v.steps.step_trace)) (sym f.0);
          untouched = tt;
          refused = let p = g.apart in let q = g.free in grind (arith, nat_tests);
        },
      )
      why (causes.Filter time bits) o e last t f = absurd f
      why (causes.Overrun start clock) o e last t f = absurd f

      others_of : (cause : causes.the_data) (last : List TracedStep) → IsRefused c n (home_of c s.a) cause l.start last → 1 < c.callers
      others_of (causes.Clock had now) last f = absurd f
      others_of (causes.Record index word start) last f = f.2.others
      others_of (causes.Moved index before after) last f = f.1.others
      others_of (causes.Filter time bits) last f = absurd f
      others_of (causes.Overrun start clock) last f = absurd f

  -- or a read that isn't valid
  module _ (m : Local) (u w : View) (more : List TracedStep) (h : Holds c n l v m u more) (free : (r : ℕ) → touches u.owned.held r ≡ true → l.start < over u.owned.held r 0 → WasFree r (over u.owned.held r 0) more)
      (apart : (r : ℕ) → touches u.owned.held r ≡ false → Untouched (Record r) more) (sole : (r : ℕ) → touches u.owned.held r ≡ true
      → l.start < over u.owned.held r 0 → c.callers ≡ 1 → over u.owned.held r 0 ≤ c.clock + v.steps.rises) where
    start_is : u.attempt.start ≡ l.start
    start_is = ap (λ (y : View). y.attempt.start) h.is ∙ i.start

    stale_path : (index word start : ℕ) (s : IsStale c n index word start u w) → w ≡ record (holding_still v u.owned.held (s.more ++ more)) { check = w.check }
    stale_path index word start s =
        s.is
        ∙ (ap (λ (y : View). record y { check = w.check; steps = record y.steps { step_trace = s.more ++ y.steps.step_trace } }) h.is
        ∙ ap
        (λ (t : List TracedStep). record (holding_still v u.owned.held []) { check = w.check; steps = record v.steps { step_trace = t } })
        (sym (append_assoc s.more more v.steps.step_trace)))

    stale-conflicts : (index word start : ℕ) → IsStale c n index word start u w → (o : Own)
        → OwesValidation c ToCommit (known_of v o) (known_of w o)
        → Conflicts c n ToCommit (causes.Record index word start) (known_of v o) (known_of w o) × (1 < c.callers)
    stale-conflicts index word start s o due = by s.why
      where
        step_trace : w.steps.step_trace ≡ (s.more ++ more) ++ v.steps.step_trace
        step_trace = ap (λ (y : View). y.steps.step_trace) (stale_path index word start s)

        from : start ≡ v.attempt.start
        from = s.start ∙ (start_is ∙ sym i.start)

        read : has_item s.a (items v.attempt.reads) ≡ true
        read = sym (has-touched s.a v.attempt.reads) ∙ (ap (λ (y : View). touches y.attempt.reads s.a) (sym h.is) ∙ s.read)

        by : IsFoundStale c n index word start s.more u ⊎ IsHeldNewer c n index word start u → Conflicts c n ToCommit (causes.Record index word start) (known_of v o) (known_of w o) × (1 < c.callers)
        by (inl f) = (
          (
            ap has_records lazy,
            from,
            record {
              early = f.early ++ more;
              act = Load;
              late = [];
              step_trace = step_trace ∙ ap (λ (is : List TracedStep). (is ++ more) ++ v.steps.step_trace) f.last;
              untouched = untouched-loads (Record index) f.early more (subst OnlyLoads f.last s.loads).1 (apart index f.unheld);
            },
            inr (due, (s.a, s.home, read), subst (λ (t : ℕ). IsStaleAt c n t word) from f.stale),
          ),
          f.others,
        )
        by (inr f) = let newer : l.start < over u.owned.held index 0 = (let a = f.newer in let b = s.start in let d = start_is in omega arith) in let g = free index f.held newer in (
          (
            ap has_records lazy,
            from,
            record {
              early = g.early;
              act = Load;
              late = s.more ++ g.late;
              step_trace =
                  step_trace
                  ∙ (ap (λ (is : List TracedStep). (s.more ++ is) ++ v.steps.step_trace) g.is
                  ∙ (ap (λ (x : ℕ). (s.more ++ (g.late ++ load_of (Record index) x ∷ g.early)) ++ v.steps.step_trace) (sym f.word)
                  ∙ apart_lists s.more g.late g.early v.steps.step_trace (load_of (Record index) word)));
              untouched = g.untouched;
            },
            inr (
              due,
              (s.a, s.home, read),
              inr (
                ap is_owned f.word ∙ is_owned-free (over u.owned.held index 0),
                (let a = f.newer in
                    let e = from in
                    let b : version_of word ≡ over u.owned.held index 0 = ap version_of f.word ∙ version_of-free (over u.owned.held index 0) in
                    omega arith),
              ),
            ),
          ),
          others-by n c.callers low (λ one. let a = sole index f.held newer one in let b = k.sole one in let d = k.optimistic.rises in omega arith),
        )

    pub stopped-validating : (cause : causes.the_data) → Owed good c n l v w → Refuses c n cause u w → IsStopped good c n cause l v m w
    stopped-validating (causes.Clock had now) due s = absurd s
    stopped-validating (causes.Record index word start) due s = let path = stale_path index word start s in record {
      local = h.local;
      len = h.len;
      few = h.few;
      can = can-roll m w u.owned.held w.check (s.more ++ more) path h.locks h.places h.versions;
      gate = ap (λ (y : View). y.gate) path;
      unmade =
          subst (IsUnmade v) (sym path)
          (record {
            carried = record {
              named = refl;
              base = refl;
              installs = refl;
              fence = refl;
              step_trace = (s.more ++ more, refl);
              unlocked = k.optimistic.unlocked;
              unwritten = k.optimistic.unwritten;
            };
            history = refl;
          });
      rises = ap (λ (y : View). y.steps.rises) path;
      conflicts = λ o e mid. (stale-conflicts index word start s o (due o e mid)).0;
      others = (stale-conflicts index word start s (own_of l) (due (own_of l) refl refl)).1;
    }
    stopped-validating (causes.Moved index before after) due s = absurd s
    stopped-validating (causes.Filter time bits) due s = absurd s
    stopped-validating (causes.Overrun start clock) due s = absurd s

  -- THE VALIDATION behind the locks, or in a later call
  pub after-validate : (res : Result (Unit {0}) causes.the_data) (m q : Local) (u w : View) (more : List TracedStep)
      → Holds c n l v m u more → ((a : ℕ) → touches (cells_of l.writes.items) a ≡ true → touches u.owned.held (home_of c a) ≡ true)
      → ((r : ℕ) → touches u.owned.held r ≡ true → l.start < over u.owned.held r 0 → WasFree r (over u.owned.held r 0) more) → ((r : ℕ) → touches u.owned.held r ≡ false → Untouched (Record r) more)
      → ((r : ℕ) → touches u.owned.held r ≡ true → l.start < over u.owned.held r 0 → c.callers ≡ 1
      → over u.owned.held r 0 ≤ c.clock + v.steps.rises) → Owed good c n l v w → Validates c n (of_words good c.words) res m u q w
      → Prepares good c n res l v q w
  after-validate (Ok x) m q u w more h covered free apart sole due valid = ready-valid m q u w more h covered due valid
  after-validate (Err cause) m q u w more h covered free apart sole due stops = subst (λ (p : Local). IsStopped good c n cause l v p w) (sym stops.0) (stopped-validating m u w more h free apart sole cause due stops.1)

  -- a validation only adds steps
  validates-more : (res : Result (Unit {0}) causes.the_data) (m q : Local) (u w : View) → Validates c n (of_words good c.words) res m u q w → (late : List TracedStep) × (w.steps.step_trace ≡ late ++ u.steps.step_trace)
  validates-more (Ok x) m q u w valid = (valid.more, ap (λ (y : View). y.steps.step_trace) valid.is)
  validates-more (Err cause) m q u w stops = by cause stops.1
    where
      by : (cause : causes.the_data) → Refuses c n cause u w → (late : List TracedStep) × (w.steps.step_trace ≡ late ++ u.steps.step_trace)
      by (causes.Clock had now) s = absurd s
      by (causes.Record index word start) s = (s.more, ap (λ (y : View). y.steps.step_trace) s.is)
      by (causes.Moved index before after) s = absurd s
      by (causes.Filter time bits) s = absurd s
      by (causes.Overrun start clock) s = absurd s

  -- it is owed where the newest of the versions that were taken is above the start
  locked-owes : (newest : ℕ) (m : Local) (u w : View) (late : List TracedStep) → w.steps.step_trace ≡ late ++ u.steps.step_trace → l.start < newest → LocksEach c n newest l v m u → Owed good c n l v w
  locked-owes newest m u w late steps above e o buffered mid = ⊎_elim
      (λ z. absurd (omega arith))
      (λ f. inr (
        f.0,
        has_written o f.0 buffered f.1,
        (
          free_record newest,
          (late ++ e.more, path, Load, Contains-append_right late e.more (load_of (Record (home_of c f.0)) (free_record newest)) f.2),
          is_owned-free newest,
          (let a : version_of (free_record newest) ≡ newest = version_of-free newest in let b = i.start in omega arith),
        ),
      ))
      e.found
    where
      path : w.steps.step_trace ≡ (late ++ e.more) ++ v.steps.step_trace
      path = steps ∙ (ap (λ (y : View). late ++ y.steps.step_trace) e.locks.holds.is ∙ sym (append_assoc late e.more v.steps.step_trace))

  pub locked-validate : (res : Result (Unit {0}) causes.the_data) (newest : ℕ) (m q : Local) (u w : View) → l.start < newest
      → LocksEach c n newest l v m u → Validates c n (of_words good c.words) res m u q w → Prepares good c n res l v q w
  locked-validate res newest m q u w above e valid =
      let more = validates-more res m q u w valid in
      after-validate res m q u w e.more e.locks.holds e.covered (λ r t late. e.locks.free r t) e.locks.apart (λ r t late. e.locks.sole r t) (locked-owes newest m u w more.0 more.1 above e) valid

  pub again-validate : (res : Result (Unit {0}) causes.the_data) (q : Local) (w : View) → l.committing ≡ true → Validates c n (of_words good c.words) res l v q w → Prepares good c n res l v q w
  again-validate res q w mid valid =
      after-validate res l q v w [] holds-still (k.locked mid) (λ r t late. absurd (let o = k.olds mid r t in omega arith)) (λ r t. tt)
      (λ r t late. absurd (let o = k.olds mid r t in omega arith)) (λ o buffered same. inl (same ∙ mid)) valid
