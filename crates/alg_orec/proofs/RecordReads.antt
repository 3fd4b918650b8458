-- What begin and read come to under OrecLazy and OrecEager alike.
use Rattle.std.proofs.Common.{ℕ, ◌≡◌, ◌≢◌, ◌<◌, ◌≤◌, ◌+◌, List, [], ◌∷◌, ◌++◌, length, Bool, true, false, refl, sym, ap, ◌∙◌, arith, subst, inl, inr}
use Rattle.std.specs.Prelude.{◌^◌, ◌⊎◌, ◌==◌, ◌&&◌, ◌||◌, not, Option, Some, None, MatchOption}
use Rattle.std.proofs.lemmas.Bool.Decides.{nat_tests}
use Rattle.stm_model.specs.Algorithms.{closes_gate, has_records, has_read_log, irrevocable_under, quit_rise, takes_lock}
use Rattle.stm_model.specs.declared.alg.Alg.{Alg}
use Rattle.stm_model.specs.declared.alg.Alg.TheVariants.{OrecLazy, OrecEager}
use Rattle.stm_model.specs.declared.config.Config.{Config}
use Rattle.stm_model.specs.declared.stop.Cause.{Cause}
use Rattle.stm_model.specs.Memories.{item_at, put, is_empty}
use Rattle.rule_base.specs.declared.entries.Cell.{Cell}
use Rattle.rule_base.specs.declared.entries.Entry.{Entry}
use Rattle.rule_base.specs.declared.layout.At.{At}
use Rattle.rule_base.specs.declared.layout.At.TheVariants.{Clock}
use Rattle.rule_base.specs.declared.views.Act.TheVariants.{Load}
use Rattle.rule_base.specs.declared.views.GateView.{GateView}
use Rattle.rule_base.specs.declared.views.LockView.{LockView}
use Rattle.rule_base.specs.declared.views.Sample.{Sample}
use Rattle.rule_base.specs.declared.views.TracedStep.{TracedStep}
use Rattle.rule_base.specs.declared.views.Validation.{Validation}
use Rattle.rule_base.specs.declared.views.View.{View}
use Rattle.rule_base.specs.Bridge.{addresses, items, of_words, public_history}
use Rattle.rule_base.specs.History.{word_now, Below, Explains, Inside, Legal}
use Rattle.rule_base.specs.Lemmas.HistoryLemmas.{inside-more}
use Rattle.rule_base.specs.Own.{Own}
use Rattle.rule_base.specs.StepKinds.{Tells, view_after}
use Rattle.rule_orec.specs.OrecReading.{no_check, no_sample}
use Rattle.rule_orec.specs.OrecSteps.{orec_begin, CanOrecBegin}
use Rattle.rule_seq.specs.CglSteps as steps
use Rattle.stm_rule.specs.declared.local.Local.{Local}
use Rattle.stm_rule.specs.Attempts.{begun, own_of, IsInside}
use Rattle.stm_rule.specs.Attempts as attempts
use Rattle.stm_rule.specs.RecordsKept.{IsOptimistic}
use Rattle.alg_orec.specs.RecordFindings.{FindsStart}
use Rattle.stm_answers.specs.declared.answers.Read.TheVariants as reads
use Rattle.stm_answers.specs.Answers.{HasRead, Quits, GoesOn, StartMoves, start_word}
use Rattle.stm_answers.specs.Causes.{Asked, FindsNewer, OwesValidation, has_item, is_some, reads_full}
use Rattle.stm_answers.specs.Causes.Asked.{ForWord}
use Rattle.stm_answers.specs.Evidence.{Found}
use Rattle.stm_answers.specs.CallerState.{CallerState, Grows, known_of, granted_under, kept_under, written_under, is_irrevocable, is_in, is_closing, is_none, has_written}
use Rattle.stm_answers.specs.CallerStateLaws.{grows-same, grows-trans}
use Rattle.stm_logs.specs.LogStates.{LogState}
use Rattle.stm_gate.specs.InnerLaws.{goes-inner, unlocked-of}
use Rattle.stm_gate.specs.Leaving.{left}
use Rattle.stm_gate.specs.LeavingLaws.{IsUnmade, quits-left, step_trace-left}
use Rattle.stm_gate.specs.Logging.{put-new}
use Rattle.stm_gate.specs.Opacity.{opaque-at, opaque-inside, later-seen}
use Rattle.stm_gate.specs.Starts.{CanBegin, IsFresh, StartsAt}
use Rattle.stm_gate.proofs.KeptLaws.{kept-same}
use Rattle.alg_orec.proofs.Proving.{conflicts-by-records}
use Rattle.alg_orec.specs.Loading.{moved, MayMove, MovesOwed, ShowsNewer, RefusesRead, HasLoaded}
use Rattle.alg_orec.specs.Validating.{load_of}

and-no : (b : Bool) → (b && false) ≡ false
and-no true = refl
and-no false = refl

-- either of the two
abbrev pub IsOrec : Alg → Type 0
IsOrec a = (a ≡ OrecLazy) ⊎ (a ≡ OrecEager)

logs-reads : (a : Alg) → IsOrec a → has_read_log a ≡ true
logs-reads a (inl e) = ap has_read_log e
logs-reads a (inr e) = ap has_read_log e

pub owns-records : (a : Alg) → IsOrec a → has_records a ≡ true
owns-records a (inl e) = ap has_records e
owns-records a (inr e) = ap has_records e

promoted-by : (a : Alg) (g : GateView) (k : LockView) (wrote : Bool) → IsOrec a → irrevocable_under a (granted_under a g k) wrote ≡ g.granted
promoted-by a g k wrote (inl e) = λ j. irrevocable_under (e j) (granted_under (e j) g k) wrote
promoted-by a g k wrote (inr e) = λ j. irrevocable_under (e j) (granted_under (e j) g k) wrote

takes-none : (a : Alg) → IsOrec a → takes_lock a ≡ false
takes-none a (inl e) = ap takes_lock e
takes-none a (inr e) = ap takes_lock e

pub start-by : (c : Config) (asked : Asked) (a : Alg) (v w : CallerState) → IsOrec a → (w.start ≡ v.start) ⊎ (Found Clock w.start v w × OwesValidation c asked v w) → StartMoves c asked a v w
start-by c asked a v w (inl e) m = subst (λ (b : Alg). StartMoves c asked b v w) (sym e) m
start-by c asked a v w (inr e) m = subst (λ (b : Alg). StartMoves c asked b v w) (sym e) m

-- what its steps show of the record, as contracts see it
pub newer-shown : (c : Config) (a : ℕ) (more : List TracedStep) (v w : View) (o p : Own) → w.steps.step_trace ≡ more ++ v.steps.step_trace → ShowsNewer c a more v → FindsNewer c a (known_of v o) (known_of w p)
newer-shown c a more v w o p t s = (s.0, (more, t, Load, s.1), s.2, s.3)

-- an attempt that was not promoted, between two of its calls
pub record IsReading (good : List ℕ → Type 0) (c : Config) (n : ℕ) (l : Local) (v : View) : Type 0 where
  pub inside : IsInside good c n l v
  pub orec : IsOrec v.gate.algorithm
  pub ungranted : v.gate.granted ≡ false
  pub quiet : l.committing ≡ false
  pub reads : l.reads.items ≡ items v.attempt.reads
  pub written : (w : View) → w.gate ≡ v.gate → w.owned ≡ v.owned → written_under w.gate.algorithm w.gate.granted w (own_of l) ≡ l.writes.items

module _ {good : List ℕ → Type 0} {c : Config} {n : ℕ} {l : Local} {v : View} (a : IsReading good c n l v) where
  open a use {inside as i, orec, ungranted, quiet, written}

  abbrev o : Own
  o = own_of l

  abbrev rule : (ℕ → ℕ) → Type 0
  rule = of_words good c.words

  pub written-here : (known_of v o).log.writes ≡ l.writes.items
  written-here = written v refl refl

  revocable : is_irrevocable (known_of v o) ≡ false
  revocable = promoted-by v.gate.algorithm v.gate v.lock (not (is_empty (known_of v o).log.writes)) orec ∙ ungranted

  -- THE LOGS: no room is wanted for an address that they have
  full : Bool → Bool
  full b = has_read_log v.gate.algorithm && (not (is_irrevocable (known_of v o)) && b)

  fulls : full false ≡ false
  unfolding full
  fulls = ap (λ (b : Bool). has_read_log v.gate.algorithm && b) (and-no (not (is_irrevocable (known_of v o)))) ∙ and-no (has_read_log v.gate.algorithm)

  has-room : (at x : ℕ) → (item_at at l.writes.items ≡ Some x) ⊎ (item_at at l.reads.items ≡ Some x) → reads_full at (known_of v o) ≡ false
  unfolding full
  has-room at x (inl own) = ap (λ (m : Option ℕ). full (not (is_some m) && (not (has_item at (items v.attempt.reads)) && (length (items v.attempt.reads) == l.reads.len)))) (ap (item_at at) written-here ∙ own) ∙ fulls
  has-room at x (inr old) = ap (λ (m : Option ℕ). full (not (has_item at (known_of v o).log.writes) && (not (is_some m) && (length (items v.attempt.reads) == l.reads.len)))) (ap (item_at at) (sym a.reads) ∙ old)
      ∙ (ap full (and-no (not (has_item at (known_of v o).log.writes))) ∙ fulls)

  -- by whether the read log has its length
  pub full-by : (at : ℕ) (b : Bool) → item_at at l.writes.items ≡ None → item_at at l.reads.items ≡ None → (length l.reads.items == l.reads.len) ≡ b → reads_full at (known_of v o) ≡ b
  full-by at b unwritten unread count =
      (λ j.
      logs-reads v.gate.algorithm orec j
      && (not (revocable j)
      && (not (is_some ((ap (item_at at) written-here ∙ unwritten) j))
      && (not (is_some ((ap (item_at at) (sym a.reads) ∙ unread) j)) && (length (sym a.reads j) == l.reads.len))))) ∙ count

  -- READ, of what was written or read before
  stays : {asked : Asked} → GoesOn c asked (known_of v o) (known_of v o)
  stays = goes-inner v v o i.phase (λ e. ([], refl, tt)) (record { history = refl; gate = refl; lock = refl; writer = refl; fence = refl; start = refl; rises = refl; base = refl; installs = refl; step_trace = ([], refl) })

  -- the log of reads after a read of x, by what was written and read there
  abbrev logged : ℕ → ℕ → List (ℕ × ℕ) → Option ℕ → Option ℕ → Type 0
  logged at x rs own old = MatchOption own (MatchOption old (rs ≡ items v.attempt.reads ++ (at, x) ∷ []) (λ y. (x ≡ y) × (rs ≡ items v.attempt.reads))) (λ y. (x ≡ y) × (rs ≡ items v.attempt.reads))

  pub reads-own : (at x : ℕ) → item_at at l.writes.items ≡ Some x → x < 2 ^ 64 → HasRead good c n at (reads.Value x) (known_of v o) (known_of v o)
  reads-own at x own small = (
    stays,
    quiet,
    (refl, subst (λ (m : Option ℕ). logged at x (items v.attempt.reads) m (item_at at (items v.attempt.reads))) (sym (ap (item_at at) written-here ∙ own)) (refl, refl)),
    small,
    opaque-inside good c n l v o i,
    has-room at x (inl own),
    refl,
    refl,
  )

  pub reads-old : (at x : ℕ) → item_at at l.writes.items ≡ None → item_at at l.reads.items ≡ Some x → x < 2 ^ 64 → HasRead good c n at (reads.Value x) (known_of v o) (known_of v o)
  reads-old at x unwritten old small = (
    stays,
    quiet,
    (
      refl,
      subst (λ (m : Option ℕ). logged at x (items v.attempt.reads) m (item_at at (items v.attempt.reads))) (sym (ap (item_at at) written-here ∙ unwritten))
          (subst (λ (m : Option ℕ). logged at x (items v.attempt.reads) None m) (sym (ap (item_at at) (sym a.reads) ∙ old)) (refl, refl)),
    ),
    small,
    opaque-inside good c n l v o i,
    has-room at x (inr old),
    refl,
    refl,
  )

  -- where nothing was loaded
  pub here : v ≡ moved v v.attempt.start v.history.seen v.attempt.reads v.sample v.check []
  here = let e : v.history.front ≡ v.attempt.start = i.front ∙ sym i.start in λ j. record v { history = record v.history { front = e j } }

  -- THE VIEW that a load came to
  module _ (start : ℕ) (seen : List Entry) (more : List TracedStep) (moves : MayMove rule c n start seen more v) where
    -- a start doesn't fall
    pub begins : v.attempt.start ≤ start
    begins = by moves
      where
        by : MayMove rule c n start seen more v → v.attempt.start ≤ start
        by (inl s) = let e = s.0 in omega arith
        by (inr s) = let f = s.1.front in let e = i.front in let b = i.start in omega arith

    -- the history up to where the start came to
    pub legal-at : Legal rule c seen
    legal-at = by moves
      where
        by : MayMove rule c n start seen more v → Legal rule c seen
        by (inl e) = subst (λ (h : List Entry). Legal rule c h) (sym e.1) i.legal
        by (inr e) = e.1.legal

    pub below-at : Below seen (start + 1)
    below-at = by moves
      where
        by : MayMove rule c n start seen more v → Below seen (start + 1)
        by (inl e) = subst (λ (h : List Entry). Below h (start + 1)) (sym e.1) (subst (λ (t : ℕ). Below v.history.seen (t + 1)) (sym (e.0 ∙ i.start)) i.below)
        by (inr e) = e.1.below

    pub sees-at : Explains (word_now seen) v.attempt.reads
    sees-at = by moves
      where
        by : MayMove rule c n start seen more v → Explains (word_now seen) v.attempt.reads
        by (inl e) = subst (λ (h : List Entry). Explains (word_now h) v.attempt.reads) (sym e.1) i.sees
        by (inr e) = e.1.sees

    pub sole-at : (c.callers ≡ 1 → l.start ≡ c.clock + v.steps.rises_at_begin) → c.callers ≡ 1 → start ≡ c.clock + v.steps.rises_at_begin
    sole-at sole one = by moves
      where
        by : MayMove rule c n start seen more v → start ≡ c.clock + v.steps.rises_at_begin
        by (inl e) = e.0 ∙ (i.start ∙ sole one)
        by (inr e) = absurd (let f = e.2 in omega arith)

    module _ (rs : List Cell) (sample : Sample) (check : Validation) where
      abbrev u : View
      u = moved v start seen rs sample check more

      pub grown : (p : Own) → p.reads_limit ≡ l.reads.len → p.writes_limit ≡ l.undo.len → p.marks_limit ≡ l.writes.marks_limit
          → Grows (known_of v o) (known_of u p)
      grown p r w m = by moves
        where
          by : MayMove rule c n start seen more v → Grows (known_of v o) (known_of u p)
          by (inl s) = grows-same (known_of v o) (known_of u p) (ap public_history s.1) (s.0 ∙ (i.start ∙ sym i.front)) more refl r w m refl
          by (inr s) = let h = s.1 in let q = later-seen seen v.history.front start h.below h.front in record {
            later = q.0;
            is = subst (λ (h : List Entry). public_history seen ≡ public_history h ++ q.0) (sym h.seen) q.1;
            ascending = q.2;
            up_to = q.3;
            front_rose = h.front;
            more = more;
            step_trace = refl;
            reads_limit = r;
            writes_limit = w;
            marks_limit = m;
            fenced = refl;
          }

      pub goes-moved : (at : ℕ) → MovesOwed c at start more v → GoesOn c (ForWord at) (known_of v o) (known_of u o)
      goes-moved at owed = record {
        continues = record {
          running = ap is_in i.phase;
          closing = ap is_closing i.phase;
          made = refl;
          grows = grown o refl refl refl;
          alg = refl;
          fence = refl;
          base = refl;
          rises = (omega arith, omega arith);
          later = begins;
          installs = refl;
          depth = refl;
          locked = inl refl;
        };
        start = start-by c (ForWord at) v.gate.algorithm (known_of v o) (known_of u o) orec (start-moves moves owed);
        granted = refl;
        holds = refl;
        checked = refl;
        marks = refl;
      }
        where
          start-moves : MayMove rule c n start seen more v → MovesOwed c at start more v → (start ≡ v.attempt.start) ⊎ (Found Clock start (known_of v o) (known_of u o) × FindsNewer c at (known_of v o) (known_of u o))
          start-moves (inl s) d = inl s.0
          start-moves (inr s) (inl d) = inl d
          start-moves (inr s) (inr d) = inr ((more, refl, Load, s.0), newer-shown c at more v u o o refl d)

      -- the attempt ended from there
      pub quits-moved : (before : View) → IsUnmade u before → (v.steps.rises_at_begin ≤ before.steps.rises) × (before.steps.rises ≤ v.steps.rises_at_begin + quit_rise v.gate.algorithm (has_written (known_of v o)))
          → Quits (known_of v o) (known_of (left n before) o)
      quits-moved before unmade rises = record {
        ends =
            record {
              idle = q.ends.idle;
              grows = grows-trans (known_of v o) (known_of u o) (known_of (left n before) o) (grown o refl refl refl) q.ends.grows;
              alg = q.ends.alg;
              base = q.ends.base;
              installs = q.ends.installs;
            };
        made = q.made;
        rises = rises;
        revocable = revocable;
      }
        where
          as-here : (known_of v o).log.writes ≡ (known_of u o).log.writes
          as-here = written-here ∙ sym (written u refl refl)

          q : Quits (known_of u o) (known_of (left n before) o)
          q =
              quits-left n u before o unmade (
                rises.0,
                subst (λ (b : Bool). before.steps.rises ≤ v.steps.rises_at_begin + quit_rise v.gate.algorithm b)
                    (λ j. not (is_empty (as-here j)) || not (is_none (sym (kept-same v.gate.algorithm v u o o refl refl refl) j))) rises.1,
              )
              (promoted-by v.gate.algorithm v.gate v.lock (not (is_empty (known_of u o).log.writes)) orec ∙ ungranted)

      -- or it stands there, and its descriptor has what was read
      pub stays-moved : (log : LogState) → Legal rule c seen → Below seen (start + 1) → Explains (word_now seen) rs → Inside c.words rs
          → attempts.Keeps c l.algorithm l.granted (record l { start = start; reads = log }) u
          → IsInside good c n (record l { start = start; reads = log }) u
      stays-moved log legal below sees inside keeps = record {
        phase = i.phase;
        named = i.named;
        disowned = i.disowned;
        unentered = i.unentered;
        start = refl;
        front = refl;
        legal = legal;
        below = below;
        sees = sees;
        reads_inside = inside;
        looked = λ e. let q = i.looked e in record { low = q.low; seen = q.seen; unseen = q.unseen };
        granted = i.granted;
        steady = i.steady;
        spared = record { is = i.spared.is; fits = i.spared.fits };
        keeps = keeps;
      }

      pub optimistic-moved : IsOptimistic v → IsOptimistic u
      optimistic-moved k =
          record {
            unlocked = k.unlocked;
            unfixed = k.unfixed;
            unwritten = k.unwritten;
            uncommitted = k.uncommitted;
            ungranted = ungranted;
            not_quiescent = k.not_quiescent;
            unstored = k.unstored;
            rises = k.rises;
          }

  -- THE REFUSALS
  pub reads-full : (at : ℕ) (w : View) → item_at at l.writes.items ≡ None → item_at at l.reads.items ≡ None
      → length l.reads.items ≡ l.reads.len → Quits (known_of v o) (known_of w o)
      → HasRead good c n at (reads.Full l.reads.len) (known_of v o) (known_of w o)
  reads-full at w unwritten unread count quits = (quits, full-by at true unwritten unread (grind (arith, nat_tests)), refl)

  pub reads-refused : (at : ℕ) (cause : Cause) (m : Local) (w before : View) → item_at at l.writes.items ≡ None
      → item_at at l.reads.items ≡ None → length l.reads.items ≢ l.reads.len → RefusesRead rule c n at cause l v m w → IsUnmade w before
      → Quits (known_of v o) (known_of (left n before) o)
      → HasRead good c n at (reads.Conflict cause) (known_of v o) (known_of (left n before) o)
  reads-refused at cause m w before unwritten unread room h unmade quits = let more = step_trace-left n w before unmade.carried in (
    quits,
    conflicts-by-records c n (ForWord at) cause (known_of v o) (known_of w o) (known_of (left n before) o) (owns-records v.gate.algorithm orec) more.0 more.1 (h.why o o),
    h.others,
    full-by at false unwritten unread (grind (arith, nat_tests)),
  )

  -- READ, of a word that was loaded
  pub reads-new : (at x : ℕ) (m : Local) (w : View) → x < 2 ^ 64 → at < c.words → item_at at l.writes.items ≡ None → item_at at l.reads.items ≡ None → length l.reads.items ≢ l.reads.len → HasLoaded rule c n at x l v m w
      → HasRead good c n at (reads.Value x) (known_of v o) (known_of w o)
  reads-new at x m w small low unwritten unread room h = subst (λ (y : View). HasRead good c n at (reads.Value x) (known_of v o) (known_of y o)) (sym h.is) (
    goes-moved m.start h.seen h.more h.moves (record { at = at; value = x } ∷ v.attempt.reads) no_sample no_check at h.owed,
    quiet,
    (
      written y refl refl ∙ sym written-here,
      subst (λ (q : Option ℕ). logged at x (put at x (items v.attempt.reads)) q (item_at at (items v.attempt.reads))) (sym (ap (item_at at) written-here ∙ unwritten))
          (subst (λ (q : Option ℕ). logged at x (put at x (items v.attempt.reads)) None q) (sym none) (put-new at x (items v.attempt.reads) none)),
    ),
    small,
    opaque-at good c n y o m.start refl refl h.legal h.below h.sees (inside-more c.words (record { at = at; value = x }) v.attempt.reads low i.reads_inside),
    full-by at false unwritten unread (grind (arith, nat_tests)),
    refl,
    kept-same v.gate.algorithm v y o o refl refl refl,
  )
    where
      y : View
      y = moved v m.start h.seen (record { at = at; value = x } ∷ v.attempt.reads) no_sample no_check h.more

      none : item_at at (items v.attempt.reads) ≡ None
      none = ap (item_at at) (sym a.reads) ∙ unread

-- BEGIN
starts-at-clock : (a : Alg) → IsOrec a → start_word a ≡ Clock
starts-at-clock a (inl e) = ap start_word e
starts-at-clock a (inr e) = ap start_word e

granted-by : (a : Alg) (g : GateView) (k : LockView) → IsOrec a → granted_under a g k ≡ g.granted
granted-by a g k (inl e) = ap (λ (b : Alg). granted_under b g k) e
granted-by a g k (inr e) = ap (λ (b : Alg). granted_under b g k) e

pub may-begin : (alg : Alg) → IsOrec alg → (v : View) → CanBegin alg v → CanOrecBegin v
may-begin alg orec v can = record { runs = record { phase = can.phase; algorithm = ap has_records can.named ∙ owns-records alg orec; plain = can.ungranted }; disowned = can.clear.disowned }

module _ (good : List ℕ → Type 0) (c : Config) (n : ℕ) (alg : Alg) (orec : IsOrec alg) (v : View) (can : CanBegin alg v) where
  module _ (clock : ℕ) (w : View) (t : Tells orec_begin (FindsStart (of_words good c.words) c) v clock w) where
    abbrev y : View
    y = view_after orec_begin t.0 v clock

    b : steps.Begins (of_words good c.words) c t.0 v clock
    b = t.1.begins

    pub optimistic-begun : IsOptimistic y
    optimistic-begun =
        record {
          unlocked = can.clear.unlocked;
          unfixed = can.clear.unfixed;
          unwritten = can.clear.unwritten;
          uncommitted = can.clear.uncommitted;
          ungranted = can.ungranted;
          not_quiescent = t.1.not_quiescent can.reopened;
          unstored = refl;
          rises = can.rises;
        }

    pub sole-begun : c.callers ≡ 1 → clock ≡ c.clock + v.steps.rises_at_begin
    sole-begun one = let q = t.1.sole one in let r = can.rises in omega arith

    pub tells-started : ((l : Local) → attempts.Keeps c alg false (begun alg clock l) y) → ((o : Own) → IsFresh o → written_under alg false y o ≡ []) → StartsAt good c n alg clock v w
    tells-started keeps writes = subst (λ (z : View). StartsAt good c n alg clock v z) (sym t.2) (record {
      inside = λ l fenced free. record {
        steady = λ e. refl;
        spared = record { is = fenced.is; fits = fenced.fits };
        phase = can.phase;
        named = can.named;
        disowned = λ e. absurd (let f : true ≡ false = sym (owns-records alg orec) ∙ e in cc);
        unentered = refl;
        start = refl;
        front = refl;
        legal = b.legal;
        below = b.below;
        sees = λ a. refl;
        reads_inside = λ a e. absurd cc;
        looked = λ e. absurd (let f : false ≡ true = sym free ∙ e in cc);
        granted = can.ungranted ∙ sym (and-no (closes_gate alg));
        keeps = keeps l;
      };
      reopened = can.reopened;
      fence = refl;
      rises = can.rises;
      starts = λ o fresh. record {
        keeps = record { made = refl; grows = grown o; rises = refl; installs = refl };
        found = subst (λ (p : At). Found p clock (known_of v o) (known_of y o)) (sym (starts-at-clock alg orec)) (_ ∷ [], refl, Load, (0, omega arith, refl));
        is = refl;
        fresh = b.front;
        bare = bare o fresh;
        log = (λ j. record { reads = []; writes = written_under (can.named j) (can.ungranted j) y o }) ∙ ap (λ (ws : List (ℕ × ℕ)). record { reads = []; writes = ws }) (writes o fresh);
        granted = granted-by v.gate.algorithm v.gate v.lock (here-orec orec) ∙ can.ungranted;
        opaque = opaque-at good c n y o clock refl refl b.legal b.below (λ a. refl) (λ a e. absurd cc);
        locked = unlocked-of v.gate.algorithm v.lock.taken v.tml.writer can.clear.unlocked can.clear.unwritten ∙ sym (takes-none alg orec);
        took = λ e. absurd (let f : false ≡ true = sym (takes-none alg orec) ∙ e in cc);
      };
    })
      where
        here-orec : IsOrec alg → IsOrec v.gate.algorithm
        here-orec (inl e) = inl (can.named ∙ e)
        here-orec (inr e) = inr (can.named ∙ e)

        -- neither log has an item yet
        bare : (o : Own) → IsFresh o → (known_of y o).kept ≡ []
        bare o fresh = by v.gate.algorithm (here-orec orec)
          where
            by : (a : Alg) → IsOrec a → kept_under a y o ≡ []
            by a (inl e) = ap (λ (b : Alg). kept_under b y o) e ∙ ap (λ (cs : List Cell). addresses (items cs)) fresh.1
            by a (inr e) = ap (λ (b : Alg). kept_under b y o) e

        grown : (o : Own) → Grows (known_of v o) (known_of y o)
        grown o = let q = later-seen t.0.history v.history.front clock b.below b.front in record {
          later = q.0;
          is = subst (λ (h : List Entry). public_history t.0.history ≡ public_history h ++ q.0) (sym b.seen) q.1;
          ascending = q.2;
          up_to = q.3;
          front_rose = b.front;
          more = load_of Clock clock ∷ [];
          step_trace = refl;
          reads_limit = refl;
          writes_limit = refl;
          marks_limit = refl;
          fenced = refl;
        }
