-- What the steps of the calls of TML come to.
use Rattle.std.proofs.Common.{ℕ, ◌≡◌, ◌≢◌, ◌<◌, ◌≤◌, ◌+◌, List, [], ◌∷◌, ◌++◌, Bool, true, false, refl, sym, ap, ◌∙◌, arith, subst, inl, inr}
use Rattle.std.proofs.lemmas.Bool.Decides.{nat_tests}
use Rattle.std.specs.Prelude.{◌==◌, ◌%◌, ◌^◌, ltb, if◌then◌else◌, not, ◌&&◌, ◌||◌, Some, None}
use Rattle.stm_model.specs.Algorithms.{entry_rise, irrevocable_under, has_read_log, has_records, logs_writes, closes_gate, asks_at_write, asks_at_commit, asks_at_grant}
use Rattle.stm_model.specs.declared.alg.Alg.{Alg}
use Rattle.stm_model.specs.declared.alg.Alg.TheVariants.{Tml, RingSw}
use Rattle.stm_model.specs.declared.config.Config.{Config}
use Rattle.stm_model.specs.declared.config.TheConstants.{CLOCK_LIMIT}
use Rattle.stm_model.specs.declared.stop.Cause.TheVariants as causes
use Rattle.stm_model.specs.Logs.{Reads, Keeps}
use Rattle.stm_model.specs.Memories.{is_empty, item_at, put}
use Rattle.rule_base.specs.declared.entries.Cell.{Cell}
use Rattle.rule_base.specs.declared.entries.Entry.{Entry}
use Rattle.rule_base.specs.declared.layout.At.TheVariants.{Clock, Heap}
use Rattle.rule_base.specs.declared.views.Act.TheVariants.{Load, Store, Exchange}
use Rattle.rule_base.specs.declared.views.GateView.{GateView}
use Rattle.rule_base.specs.declared.views.LockView.{LockView}
use Rattle.rule_base.specs.declared.views.Ownership.{Ownership}
use Rattle.rule_base.specs.declared.views.View.{View}
use Rattle.rule_base.specs.Bridge.{items, of_words, public_history}
use Rattle.rule_base.specs.Lemmas.BridgeLemmas.{keeps-cells}
use Rattle.rule_base.specs.History.{over, touches, word_now, Explains}
use Rattle.rule_base.specs.Lemmas.HistoryLemmas.{inside-more}
use Rattle.rule_base.specs.Own.{Own}
use Rattle.rule_base.specs.StepKinds.{Nothing, Tells, view_after}
use Rattle.rule_base.specs.World.{World}
use Rattle.rule_seq.specs.CglSteps.{logged}
use Rattle.rule_seq.specs.CglSteps as steps
use Rattle.rule_base.specs.GateSteps.{granted_at}
use Rattle.rule_promoted.specs.PromotedSteps.{tml_grants, tml_grant, CanTmlGrant}
use Rattle.rule_seq.specs.TmlSteps.{fresh_tml, tml_begin, TmlBegins, HasTml, tml_load, TmlLoads, tml_again, CanTmlAgain, tml_write, CanTmlWrite, tml_store, tml_commit, CanTmlCommit}
use Rattle.stm_rule.specs.declared.local.Local.{Local}
use Rattle.stm_rule.specs.Attempts.{good_by, IsInside, IsTml, StandsBy, Stands}
use Rattle.stm_rule.specs.Attempts as Rules
use Rattle.stm_rule.specs.Findings.{FindsSole, FindsBegin, FindsAgain}
use Rattle.stm_answers.specs.declared.answers.Cancel.TheVariants.{Cancelled}
use Rattle.stm_answers.specs.declared.answers.Commit.TheVariants.{ReadOnly}
use Rattle.stm_answers.specs.declared.answers.Irrev.TheVariants as irrevs
use Rattle.stm_answers.specs.declared.answers.Read.TheVariants as reads
use Rattle.stm_answers.specs.declared.answers.Write.TheVariants as writes
use Rattle.stm_answers.specs.Answers.{write_rise, kept_with, HasRead, HasWritten, KeepsRule, Commits, CommitsAt, Cancels, Quits, TriesIrrevocable}
use Rattle.stm_answers.specs.Evidence.{Found}
use Rattle.stm_answers.specs.Causes.{reads_full, writes_full}
use Rattle.stm_answers.specs.Causes.Asked.{ForWord}
use Rattle.stm_answers.specs.CallerState.{known_of, kept_under, granted_under, locked_under, written_under, is_irrevocable, wrote, is_in, is_closing}
use Rattle.stm_answers.specs.CallerStateLaws.{grows-same}
use Rattle.stm_gate.specs.InnerLaws.{goes-inner, start-stays, no-log-full}
use Rattle.stm_gate.proofs.KeptLaws.{kept-same, kept-unlogged}
use Rattle.stm_gate.specs.Leaving.{CanLeave, left}
use Rattle.stm_gate.specs.LeavingLaws.{IsUnmade, unmade-refl, ended-left, quits-left, commits-left, found-left, finds-full}
use Rattle.stm_gate.specs.Logging.{reads-logged, inside-logged, wrote-some}
use Rattle.stm_gate.specs.Starts.{CanBegin}
use Rattle.stm_gate.specs.Starts as Starts
use Rattle.stm_answers.specs.declared.answers.Begin.TheVariants as begins
use Rattle.stm_gate.specs.Granting.{IsAlone, Grants}
use Rattle.stm_gate.specs.Opacity.{opaque-at, opaque-inside, later-seen}

-- more than one caller
others-by : (n callers : ℕ) → n < callers → callers ≢ 1 → 1 < callers
others-by n callers low apart = omega arith

-- an attempt that was not promoted, between two calls
pub record InTml (good : List ℕ → Type 0) (c : Config) (n : ℕ) (l : Local) (v : View) (o : Own) : Type 0 where
  pub quiet : o.committing ≡ false
  pub inside : IsInside good c n l v
  pub named : v.gate.algorithm ≡ Tml
  pub keeps : IsTml c l v

module _ (good : List ℕ → Type 0) (c : Config) (n : ℕ) where
  abbrev pub rule : (ℕ → ℕ) → Type 0
  rule = of_words good c.words

  module _ {l : Local} {v : View} {o : Own} (a : InTml good c n l v o) where
    open a use {quiet, inside as i, named as tml, keeps as k}

    pub has-tml : HasTml v
    has-tml = record { runs = record { phase = i.phase; algorithm = tml; plain = k.ungranted }; inside = k.inside }

    never-ring : {P : Type 0} → v.gate.algorithm ≡ RingSw → P
    never-ring e = absurd (let no : Tml ≡ RingSw = sym tml ∙ e in cc)

    -- what was written lies in the heap, and no log can be full
    written-here : (y : View) → written_under v.gate.algorithm v.gate.granted y o ≡ items y.attempt.stores
    written-here y = ap (λ (a : Alg). written_under a v.gate.granted y o) tml

    never-full : (a : ℕ) → (reads_full a (known_of v o) ≡ false) × (writes_full a (known_of v o) ≡ false)
    never-full a = no-log-full a (known_of v o) (ap has_read_log tml) (ap logs_writes tml)

    kept-now : (a : ℕ) (y : View) → y.gate ≡ v.gate → y.owned ≡ v.owned → y.lock ≡ v.lock → (known_of y o).kept ≡ kept_with a (known_of v o)
    kept-now a y gate owned lock =
        (λ j. kept_under (gate j).algorithm y o)
        ∙ (kept-same v.gate.algorithm v y o o refl (ap (λ (q : Ownership). q.undo) owned) (ap (λ (q : LockView). q.undo) lock)
        ∙ sym (kept-unlogged a (known_of v o) (ap logs_writes tml)))

    -- the writer has the clock
    locked-now : (y : View) → y.tml.writer ≡ true → locked_under v.gate.algorithm y.lock.taken y.tml.writer ≡ true
    locked-now y writer = ap (λ (a : Alg). locked_under a y.lock.taken y.tml.writer) tml ∙ writer

    -- the read is one of the log
    reads-here : (a x : ℕ) (rs : List Cell) (w : View) → w.attempt.reads ≡ rs → w.attempt.stores ≡ v.attempt.stores → logged v.attempt a x ≡ rs → x ≡ over v.attempt.stores a (word_now v.history.seen a)
        → Reads (known_of v o).log a x (record { reads = items w.attempt.reads; writes = written_under v.gate.algorithm v.gate.granted w o })
    reads-here a x rs w is same log value =
        subst (λ (ws : List (ℕ × ℕ)).
        Reads (record { reads = items v.attempt.reads; writes = ws }) a x
        (record { reads = items w.attempt.reads; writes = written_under v.gate.algorithm v.gate.granted w o })) (sym (written-here v))
        (subst (λ (ws : List (ℕ × ℕ)). Reads (record { reads = items v.attempt.reads; writes = items v.attempt.stores }) a x (record { reads = items w.attempt.reads; writes = ws })) (sym (written-here w ∙ ap items same))
        (subst (λ (qs : List Cell). Reads (record { reads = items v.attempt.reads; writes = items v.attempt.stores }) a x (record { reads = items qs; writes = items v.attempt.stores })) (log ∙ sym is)
        (reads-logged (word_now v.history.seen) v.attempt a x i.sees value)))

    -- the view after a load of the word, by whether the attempt writes
    abbrev load_at : ℕ → ℕ → Bool → View
    load_at a x b = record v {
      attempt = if b then record v.attempt { reads = logged v.attempt a x } else v.attempt;
      tml = if b then v.tml else record v.tml { loaded = true; from = a; value = x };
      steps = record v.steps { step_trace = record { place = Heap a; act = Load; found = Some x } ∷ v.steps.step_trace };
    }

    load_path : (a x : ℕ) (w : View) (b : Bool) → l.wrote ≡ b → Tells (tml_load a) (TmlLoads rule c a) v x w → w ≡ load_at a x b
    load_path a x w b e t = t.2 ∙ ap (load_at a x) (k.writer ∙ e)

    -- a writer reads in place
    pub tells-in_place : (a x : ℕ) (w : View) → x < 2 ^ 64 → a < c.words → l.wrote ≡ true → Tells (tml_load a) (TmlLoads rule c a) v x w → HasRead good c n a (reads.Value x) (known_of v o) (known_of w o)
    tells-in_place a x w small low dirty t = subst (λ (u : View). HasRead good c n a (reads.Value x) (known_of v o) (known_of u o)) (sym (load_path a x w true dirty t)) (
      goes-inner v u o i.phase never-ring (record { history = refl; gate = refl; lock = refl; writer = refl; fence = refl; start = refl; rises = refl; base = refl; installs = refl; step_trace = (_ ∷ [], refl) }),
      quiet,
      reads-here a x (logged v.attempt a x) u refl refl refl (t.1.value writes),
      small,
      opaque-at good c n u o l.start i.start i.front i.legal i.below (t.1.sees writes).sees (inside-logged c.words v.attempt a x low i.reads_inside),
      (never-full a).0,
      refl,
      kept-same v.gate.algorithm v u o o refl refl refl,
    )
      where
        u : View
        u = load_at a x true

        writes : v.tml.writer ≡ true
        writes = k.writer ∙ dirty

    -- the view after the clock was loaded after the word
    abbrev again_at : ℕ → ℕ → ℕ → Bool → View
    again_at a x clock b = record v {
      attempt = record v.attempt { reads = if b then record { at = a; value = x } ∷ v.attempt.reads else v.attempt.reads };
      tml = record v.tml { loaded = false; from = a; value = x };
      steps = record v.steps { step_trace = record { place = Clock; act = Load; found = Some clock } ∷ record { place = Heap a; act = Load; found = Some x } ∷ v.steps.step_trace };
    }

    again_path : (a x clock : ℕ) (s w : View) (b : Bool) → (clock == v.attempt.start) ≡ b → l.wrote ≡ false
        → Tells (tml_load a) (TmlLoads rule c a) v x s → Tells tml_again (FindsAgain rule c) s clock w → w ≡ again_at a x clock b
    again_path a x clock s w b e clean t r = r.2 ∙ (ap (λ (y : View). view_after tml_again r.0 y clock) (load_path a x s false clean t) ∙ ap (again_at a x clock) e)

    -- with one caller alone the clock stands
    others : (clock : ℕ) → n < c.callers → l.wrote ≡ false → clock ≢ l.start → (c.callers ≡ 1 → clock ≡ c.clock + v.steps.rises) → 1 < c.callers
    others clock low clean apart sole =
        others-by n c.callers low (λ one.
        apart (let s = sole one in
        let q = k.sole one in
        let r : v.steps.rises ≡ v.steps.rises_at_begin + 0 =
        k.rises ∙ ap (λ (b : Bool). v.steps.rises_at_begin + (if b then 1 else 0)) clean in
        omega arith))

    -- a reader can still be cancelled, and may leave
    revocable : l.wrote ≡ false → is_irrevocable (known_of v o) ≡ false
    revocable clean =
        ap (λ (a : Alg). irrevocable_under a (granted_under a v.gate v.lock) (not (is_empty (written_under a v.gate.granted v o)))) tml
        ∙ (ap (λ (b : Bool). irrevocable_under Tml b (not (is_empty (items v.attempt.stores)))) k.ungranted
        ∙ ap (λ (cs : List Cell). not (is_empty (items cs))) (k.clean clean))

    pub may-leave : (u : View) → l.wrote ≡ false → u.gate ≡ v.gate → u.lock ≡ v.lock → u.owned ≡ v.owned → u.tml.writer ≡ v.tml.writer
        → u.ring_commit.committed ≡ v.ring_commit.committed → u.attempt.stores ≡ v.attempt.stores → u.attempt.entered ≡ v.attempt.entered
        → CanLeave u
    may-leave u clean gate lock owned writer committed stores entered = record {
      phase = ap (λ (g : GateView). g.phase) gate ∙ i.phase;
      unlocked = ap (λ (q : LockView). q.taken) lock ∙ k.unlocked;
      unfixed = ap (λ (q : LockView). q.irrevocable) lock ∙ k.unfixed;
      disowned = ap (λ (q : Ownership). q.held) owned ∙ i.disowned (ap has_records (sym i.named ∙ tml));
      unwritten = writer ∙ (k.writer ∙ clean);
      uncommitted = committed ∙ k.uncommitted;
      plain = λ e. entered ∙ i.unentered;
      ungranted = λ e. ap (λ (g : GateView). g.granted) gate ∙ k.ungranted;
      unstored = λ e. stores ∙ k.clean clean;
      marked = λ e q. absurd (let f : true ≡ false = sym q ∙ (entered ∙ i.unentered) in cc);
    }

    quits-here : (u : View) → l.wrote ≡ false → IsUnmade v u → u.steps.rises ≡ v.steps.rises → Quits (known_of v o) (known_of (left n u) o)
    quits-here u clean m rises =
        quits-left n v u o m
        (let r : v.steps.rises ≡ v.steps.rises_at_begin + 0 =
        k.rises ∙ ap (λ (b : Bool). v.steps.rises_at_begin + (if b then 1 else 0)) clean in
        (omega arith, omega arith)) (revocable clean)

    -- a reader's word stands where the clock is still its start
    pub tells-read : (a x clock : ℕ) (s w : View) → x < 2 ^ 64 → a < c.words → l.wrote ≡ false → clock ≡ l.start → Tells (tml_load a) (TmlLoads rule c a) v x s → Tells tml_again (FindsAgain rule c) s clock w
        → HasRead good c n a (reads.Value x) (known_of v o) (known_of w o)
    tells-read a x clock s w small low clean same t r = subst (λ (y : View). HasRead good c n a (reads.Value x) (known_of v o) (known_of y o)) (sym (again_path a x clock s w true here clean t r)) (
      goes-inner v u o i.phase never-ring (record { history = refl; gate = refl; lock = refl; writer = refl; fence = refl; start = refl; rises = refl; base = refl; installs = refl; step_trace = (_ ∷ _ ∷ [], refl) }),
      quiet,
      reads-here a x (record { at = a; value = x } ∷ v.attempt.reads) u refl refl
          (ap (λ (cs : List Cell). if touches cs a then v.attempt.reads else record { at = a; value = x } ∷ v.attempt.reads) none)
          (value ∙ ap (λ (cs : List Cell). over cs a (word_now v.history.seen a)) (sym none)),
      small,
      opaque-at good c n u o l.start i.start i.front i.legal i.below sees (inside-more c.words (record { at = a; value = x }) v.attempt.reads low i.reads_inside),
      (never-full a).0,
      refl,
      kept-same v.gate.algorithm v u o o refl refl refl,
    )
      where
        now : clock ≡ v.attempt.start
        now = same ∙ sym i.start

        here : (clock == v.attempt.start) ≡ true
        here = grind (arith, nat_tests, now)

        u : View
        u = again_at a x clock true

        none : v.attempt.stores ≡ []
        none = k.clean clean

        shown : FindsAgain rule c r.0 (load_at a x false) clock
        shown = subst (λ (y : View). FindsAgain rule c r.0 y clock) (load_path a x s false clean t) r.1

        value : x ≡ word_now v.history.seen a
        value = shown.again.value now refl

        sees : Explains (word_now v.history.seen) (record { at = a; value = x } ∷ v.attempt.reads)
        sees = subst (λ (b : Bool). Explains (word_now v.history.seen) (if b then record { at = a; value = x } ∷ v.attempt.reads else v.attempt.reads)) here shown.again.sees.sees

    -- and else the attempt ends
    pub tells-conflict : (a x clock : ℕ) (s u w : View) → n < c.callers → l.wrote ≡ false → clock ≢ l.start → Tells (tml_load a) (TmlLoads rule c a) v x s → Tells tml_again (FindsAgain rule c) s clock u → w ≡ left n u
        → HasRead good c n a (reads.Conflict (causes.Clock l.start clock)) (known_of v o) (known_of w o)
    tells-conflict a x clock s u w low clean apart t r is = subst
        (λ (y : View). HasRead good c n a (reads.Conflict (causes.Clock l.start clock)) (known_of v o) (known_of y o))
        (sym (is ∙ ap (left n) (again_path a x clock s u false here clean t r))) (
          quits-here y clean
              (record {
                carried = record {
                  named = refl;
                  base = refl;
                  installs = refl;
                  fence = refl;
                  step_trace = (_ ∷ _ ∷ [], refl);
                  unlocked = k.unlocked;
                  unwritten = k.writer ∙ clean;
                };
                history = refl;
              }) refl,
          (tml, sym i.start, (λ e. apart (sym e)), found-left n Clock clock v y o o (_ ∷ _ ∷ [], refl, Load, (0, omega arith, refl))),
          others clock low clean apart shown.sole,
          (never-full a).0,
        )
      where
        here : (clock == v.attempt.start) ≡ false
        here = let s = i.start in grind (arith, nat_tests)

        y : View
        y = again_at a x clock false

        shown : FindsAgain rule c r.0 (load_at a x false) clock
        shown = subst (λ (y : View). FindsAgain rule c r.0 y clock) (load_path a x s false clean t) r.1

    -- the view after the clock was loaded before the first write, and after the exchange
    abbrev asked_at : ℕ → View
    asked_at clock = record v { tml = record v.tml { loaded = false }; steps = record v.steps { step_trace = record { place = Clock; act = Load; found = Some clock } ∷ v.steps.step_trace } }

    asked_path : (clock : ℕ) (s : View) → Tells tml_again (FindsAgain rule c) v clock s → s ≡ asked_at clock
    asked_path clock s r =
        r.2
        ∙ ((λ j.
        record (asked_at clock) {
          attempt = record v.attempt {
            reads = if clock
                == v.attempt.start then (if k.settled j then record { at = v.tml.from; value = v.tml.value } ∷ v.attempt.reads else v.attempt.reads)
                else v.attempt.reads;
          };
        })
        ∙ ap (λ (rs : List Cell). record (asked_at clock) { attempt = record v.attempt { reads = rs } }) (same (clock == v.attempt.start)))
      where
        same : (b : Bool) → (if b then v.attempt.reads else v.attempt.reads) ≡ v.attempt.reads
        same true = refl
        same false = refl

    pub may-ask : l.wrote ≡ false → CanTmlAgain v
    may-ask clean = record { has = has-tml; reads = k.writer ∙ clean }

    abbrev tried_at : ℕ → ℕ → Bool → View
    tried_at clock found b = record v {
      tml = if b then record v.tml { loaded = false; writer = true } else record v.tml { loaded = false };
      steps = record v.steps {
        rises = if b then v.steps.rises + 1 else v.steps.rises;
        step_trace = record { place = Clock; act = Exchange l.start (l.start + 1); found = Some found } ∷ record { place = Clock; act = Load; found = Some clock } ∷ v.steps.step_trace;
      };
    }

    tried_path : (clock found : ℕ) (s w : View) (b : Bool) → (found == l.start) ≡ b → Tells tml_again (FindsAgain rule c) v clock s → Tells (tml_write l.start) (FindsSole c) s found w → w ≡ tried_at clock found b
    tried_path clock found s w b e r t = t.2 ∙ (ap (λ (y : View). view_after (tml_write l.start) t.0 y found) (asked_path clock s r) ∙ (by (found == l.start) ∙ ap (tried_at clock found) e))
      where
        by : (d : Bool) → record (asked_at clock) {
          tml = if d then record (asked_at clock).tml { writer = true } else (asked_at clock).tml;
          steps =
              record (if d then record (asked_at clock).steps { rises = v.steps.rises + 1 } else (asked_at clock).steps) {
                step_trace = record { place = Clock; act = Exchange l.start (l.start + 1); found = Some found }
                    ∷ (if d then record (asked_at clock).steps { rises = v.steps.rises + 1 } else (asked_at clock).steps).step_trace;
              };
        } ≡ tried_at clock found d
        by true = refl
        by false = refl

    -- below the limit an even start leaves room for the commit
    room : l.start < CLOCK_LIMIT → l.start + 2 ≤ CLOCK_LIMIT
    room low = let e = k.even in omega arith

    pub may-try : (clock : ℕ) (s : View) → l.wrote ≡ false → clock ≡ l.start → clock < CLOCK_LIMIT → Tells tml_again (FindsAgain rule c) v clock s → CanTmlWrite l.start s
    may-try clock s clean same low r = subst (CanTmlWrite l.start) (sym (asked_path clock s r)) (record {
      has = record { runs = record { phase = i.phase; algorithm = tml; plain = k.ungranted }; inside = k.inside };
      reads = k.writer ∙ clean;
      start = sym i.start;
      limit = room (let e = same in omega arith);
      settled = refl;
      not_quiescent = k.not_quiescent;
    })

    -- the clock was found elsewhere: before the exchange, by it, or at its limit
    pub refused-asked : (a x clock : ℕ) (s w : View) → n < c.callers → l.wrote ≡ false → clock ≢ l.start
        → Tells tml_again (FindsAgain rule c) v clock s → w ≡ left n s
        → HasWritten good c n a x (writes.Conflict (causes.Clock l.start clock)) (known_of v o) (known_of w o)
    refused-asked a x clock s w low clean apart r is = subst
        (λ (y : View). HasWritten good c n a x (writes.Conflict (causes.Clock l.start clock)) (known_of v o) (known_of y o))
        (sym (is ∙ ap (left n) (asked_path clock s r))) (
          quits-here y clean (record { carried = record { named = refl; base = refl; installs = refl; fence = refl; step_trace = (_ ∷ [], refl); unlocked = k.unlocked; unwritten = k.writer ∙ clean }; history = refl }) refl,
          (tml, sym i.start, (λ e. apart (sym e)), found-left n Clock clock v y o o (_ ∷ [], refl, Load, (0, omega arith, refl))),
          others clock low clean apart r.1.sole,
          (never-full a).1,
        )
      where
        y : View
        y = asked_at clock

    pub refused-full : (a x clock : ℕ) (s w : View) → l.wrote ≡ false → CLOCK_LIMIT ≤ clock → Tells tml_again (FindsAgain rule c) v clock s
        → w ≡ left n s → HasWritten good c n a x (writes.ClockFull clock) (known_of v o) (known_of w o)
    refused-full a x clock s w clean high r is = subst (λ (y : View). HasWritten good c n a x (writes.ClockFull clock) (known_of v o) (known_of y o)) (sym (is ∙ ap (left n) (asked_path clock s r))) (
      quits-here y clean (record { carried = record { named = refl; base = refl; installs = refl; fence = refl; step_trace = (_ ∷ [], refl); unlocked = k.unlocked; unwritten = k.writer ∙ clean }; history = refl }) refl,
      ap asks_at_write tml,
      finds-full clock v (left n y) o o high (found-left n Clock clock v y o o (_ ∷ [], refl, Load, (0, omega arith, refl))),
      (never-full a).1,
    )
      where
        y : View
        y = asked_at clock

    pub may-leave-asked : (clock : ℕ) (s : View) → l.wrote ≡ false → Tells tml_again (FindsAgain rule c) v clock s → CanLeave s
    may-leave-asked clock s clean r = subst CanLeave (sym (asked_path clock s r)) (may-leave (asked_at clock) clean refl refl refl refl refl refl refl)

    pub refused-tried : (a x clock found : ℕ) (s u w : View) → n < c.callers → l.wrote ≡ false → found ≢ l.start
        → Tells tml_again (FindsAgain rule c) v clock s → Tells (tml_write l.start) (FindsSole c) s found u → w ≡ left n u
        → HasWritten good c n a x (writes.Conflict (causes.Clock l.start found)) (known_of v o) (known_of w o)
    refused-tried a x clock found s u w low clean apart r t is = subst
        (λ (y : View). HasWritten good c n a x (writes.Conflict (causes.Clock l.start found)) (known_of v o) (known_of y o))
        (sym (is ∙ ap (left n) (tried_path clock found s u false (grind (arith, nat_tests)) r t))) (
          quits-here y clean
              (record {
                carried = record {
                  named = refl;
                  base = refl;
                  installs = refl;
                  fence = refl;
                  step_trace = (_ ∷ _ ∷ [], refl);
                  unlocked = k.unlocked;
                  unwritten = k.writer ∙ clean;
                };
                history = refl;
              }) refl,
          (tml, sym i.start, (λ e. apart (sym e)), found-left n Clock found v y o o (_ ∷ _ ∷ [], refl, Exchange l.start (l.start + 1), (0, omega arith, refl))),
          others found low clean apart (subst (λ (y : View). FindsSole c t.0 y found) (asked_path clock s r) t.1),
          (never-full a).1,
        )
      where
        y : View
        y = tried_at clock found false

    pub may-leave-tried : (clock found : ℕ) (s u : View) → l.wrote ≡ false → found ≢ l.start → Tells tml_again (FindsAgain rule c) v clock s → Tells (tml_write l.start) (FindsSole c) s found u → CanLeave u
    may-leave-tried clock found s u clean apart r t =
        subst CanLeave (sym (tried_path clock found s u false (grind (arith, nat_tests)) r t))
        (may-leave (tried_at clock found false) clean refl refl refl refl refl refl refl)

    -- the view after the first write
    abbrev put_at : ℕ → ℕ → ℕ → ℕ → View
    put_at a x clock found = record v {
      attempt = record v.attempt { stores = record { at = a; value = x } ∷ v.attempt.stores };
      tml = record v.tml { loaded = false; writer = true };
      steps =
          record v.steps {
            rises = v.steps.rises + 1;
            step_trace = record { place = Heap a; act = Store x; found = None }
                ∷ record { place = Clock; act = Exchange l.start (l.start + 1); found = Some found }
                ∷ record { place = Clock; act = Load; found = Some clock } ∷ v.steps.step_trace;
          };
    }

    put_path : (a x clock found : ℕ) (s u w : View) → found ≡ l.start → Tells tml_again (FindsAgain rule c) v clock s
        → Tells (tml_write l.start) (FindsSole c) s found u → Tells (tml_store a x) Nothing u x w → w ≡ put_at a x clock found
    put_path a x clock found s u w same r t p = p.2 ∙ ap (λ (y : View). view_after (tml_store a x) p.0 y x) (tried_path clock found s u true (grind (arith, nat_tests)) r t)

    clean_rises : l.wrote ≡ false → v.steps.rises ≡ v.steps.rises_at_begin
    clean_rises clean = let r : v.steps.rises ≡ v.steps.rises_at_begin + 0 = k.rises ∙ ap (λ (b : Bool). v.steps.rises_at_begin + (if b then 1 else 0)) clean in omega arith

    keeps-tml : (m : Local) (y : View) → m.algorithm ≡ l.algorithm → m.granted ≡ l.granted → l.granted ≡ false → IsTml c m y → Rules.Keeps c m.algorithm m.granted m y
    keeps-tml m y alg granted plain q = subst (λ (a : Alg). Rules.Keeps c a m.granted m y) (sym (alg ∙ (sym i.named ∙ tml))) (subst (λ (b : Bool). Rules.Keeps c Tml b m y) (sym (granted ∙ plain)) q)

    pub stays-written : (a x clock found : ℕ) (s u w : View) → a < c.words → l.granted ≡ false → l.wrote ≡ false → l.start < CLOCK_LIMIT
        → found ≡ l.start → Tells tml_again (FindsAgain rule c) v clock s → Tells (tml_write l.start) (FindsSole c) s found u
        → Tells (tml_store a x) Nothing u x w
        → IsInside good c n (record l { wrote = true }) w
    stays-written a x clock found s u w low plain clean under same r t p = subst (λ (y : View). IsInside good c n m y) (sym (put_path a x clock found s u w same r t p)) (record {
      phase = i.phase;
      named = i.named;
      spared = record { is = i.spared.is; fits = i.spared.fits };
      steady = i.steady;
      disowned = i.disowned;
      unentered = i.unentered;
      start = i.start;
      front = i.front;
      legal = i.legal;
      below = i.below;
      sees = i.sees;
      reads_inside = i.reads_inside;
      looked = λ e. let h = i.looked e in record { low = h.low; seen = h.seen; unseen = h.unseen };
      granted = i.granted;
      keeps = keeps-tml m y refl refl plain (record {
        inside = k.inside;
        settled = refl;
        unlocked = k.unlocked;
        uncommitted = k.uncommitted;
        unfixed = k.unfixed;
        ungranted = k.ungranted;
        even = k.even;
        writer = refl;
        clean = λ e. absurd cc;
        dirty = λ e f. cc;
        not_quiescent = k.not_quiescent;
        rises = (let q = clean_rises clean in omega arith);
        limit = λ e. room under;
        unbuffered = k.unbuffered;
        marked = λ e. absurd cc;
        sole = k.sole;
      });
    })
      where
        m : Local
        m = record l { wrote = true }

        y : View
        y = put_at a x clock found

    pub tells-first : (a x clock found : ℕ) (s u w : View) → l.wrote ≡ false → found ≡ l.start
        → Tells tml_again (FindsAgain rule c) v clock s → Tells (tml_write l.start) (FindsSole c) s found u
        → Tells (tml_store a x) Nothing u x w
        → HasWritten good c n a x writes.Done (known_of v o) (known_of w o)
    tells-first a x clock found s u w clean same r t p = subst (λ (y : View). HasWritten good c n a x writes.Done (known_of v o) (known_of y o)) (sym (put_path a x clock found s u w same r t p)) (
      record {
        continues = record {
          running = ap is_in i.phase;
          closing = ap is_closing i.phase;
          made = refl;
          grows = grows-same (known_of v o) (known_of y o) refl refl (_ ∷ _ ∷ _ ∷ []) refl refl refl refl refl;
          alg = refl;
          fence = refl;
          base = refl;
          rises = (let q : write_rise v.gate.algorithm (is_irrevocable (known_of v o)) ≡ 1 = (λ j. write_rise (tml j) (revocable clean j)) in (omega arith, omega arith));
          later = omega arith;
          installs = refl;
          depth = refl;
          locked = inr (tml, locked-now y refl);
        };
        start = start-stays c (ForWord a) v.gate.algorithm (known_of v o) (known_of y o) never-ring refl;
        granted = refl;
        holds = refl;
        checked = refl;
        marks = refl;
      },
      quiet,
      (refl, λ b. ap (item_at b) (written-here y ∙ ap (put a x) (sym (written-here v)))),
      opaque-at good c n y o l.start i.start i.front i.legal i.below i.sees i.reads_inside,
      (never-full a).1,
      kept-now a y refl refl refl,
      λ t free. locked-now y refl,
    )
      where
        y : View
        y = put_at a x clock found

    pub put_holds : (a x clock found : ℕ) (s u w : View) → found ≡ l.start → Tells tml_again (FindsAgain rule c) v clock s
        → Tells (tml_write l.start) (FindsSole c) s found u → Tells (tml_store a x) Nothing u x w → w.gate.holds ≡ v.gate.holds
    put_holds a x clock found s u w same r t p = ap (λ (y : View). y.gate.holds) (put_path a x clock found s u w same r t p)

    -- a writer stores in place
    pub tells-stored : (a x : ℕ) (w : View) → l.wrote ≡ true → Tells (tml_store a x) Nothing v x w → HasWritten good c n a x writes.Done (known_of v o) (known_of w o)
    tells-stored a x w dirty t = subst (λ (y : View). HasWritten good c n a x writes.Done (known_of v o) (known_of y o)) (sym t.2) (
      goes-inner v y o i.phase never-ring (record { history = refl; gate = refl; lock = refl; writer = refl; fence = refl; start = refl; rises = refl; base = refl; installs = refl; step_trace = (_ ∷ [], refl) }),
      quiet,
      (refl, λ b. ap (item_at b) (written-here y ∙ ap (put a x) (sym (written-here v)))),
      opaque-at good c n y o l.start i.start i.front i.legal i.below i.sees i.reads_inside,
      (never-full a).1,
      kept-now a y refl refl refl,
      λ t free. locked-now y (k.writer ∙ dirty),
    )
      where
        y : View
        y = view_after (tml_store a x) t.0 v x

    -- the ends
    unwritten : l.wrote ≡ false → wrote (known_of v o) ≡ false
    unwritten clean = ap (λ (ws : List (ℕ × ℕ)). not (is_empty ws)) (written-here v ∙ ap items (k.clean clean))

    pub tells-read_only : (w : View) → l.wrote ≡ false → w ≡ left n v → Commits good c n (ReadOnly l.start) (known_of v o) (known_of w o)
    tells-read_only w clean is = subst (λ (y : View). Commits good c n (ReadOnly l.start) (known_of v o) (known_of y o)) (sym is) (
      ended-left n good c l.start v v o (unmade-refl v k.unlocked (k.writer ∙ clean)) (sym i.start) (opaque-inside good c n l v o i),
      (let r = clean_rises clean in omega arith, let r = clean_rises clean in omega arith),
      unwritten clean,
    )

    pub tells-cancelled : (w : View) → l.wrote ≡ false → w ≡ left n v → Cancels good c n (Cancelled l.start) (known_of v o) (known_of w o)
    tells-cancelled w clean is = subst (λ (y : View). Cancels good c n (Cancelled l.start) (known_of v o) (known_of y o)) (sym is) (
      ended-left n good c l.start v v o (unmade-refl v k.unlocked (k.writer ∙ clean)) (sym i.start) (opaque-inside good c n l v o i),
      (let r = clean_rises clean in omega arith),
      (let r = clean_rises clean in omega arith),
      revocable clean,
    )

    pub may-commit : (t : ℕ) → t ≡ l.start + 2 → l.wrote ≡ true → KeepsRule good c n (known_of v o) → CanTmlCommit rule t v
    may-commit t time dirty keeps = record {
      has = has-tml;
      writes = k.writer ∙ dirty;
      not_quiescent = k.not_quiescent;
      time = time ∙ ap (λ (q : ℕ). q + 2) (sym i.start);
      limit = (let q = k.limit dirty in omega arith);
      wrote = k.dirty dirty;
      keeps = keeps-cells good c.words v.attempt.reads v.attempt.stores i.reads_inside
          (subst (λ (ws : List (ℕ × ℕ)). Keeps good c.words (record { reads = items v.attempt.reads; writes = ws })) (written-here v)
          (keeps (ap (λ (ws : List (ℕ × ℕ)). not (is_empty ws)) (written-here v) ∙ ap not (wrote-some v.attempt.stores (k.dirty dirty)))));
    }

    pub tells-committed : (t : ℕ) (u w : View) → t ≡ l.start + 2 → l.wrote ≡ true → Tells (tml_commit n t) (steps.Commits rule c n t) v t u → w ≡ left n u → CommitsAt good c n t (known_of v o) (known_of w o)
    tells-committed t u w time dirty a is = subst (λ (y : View). CommitsAt good c n t (known_of v o) (known_of y o)) (sym (is ∙ ap (left n) a.2))
        (commits-left n good c t a.0 v (view_after (tml_commit n t) a.0 v t) o a.1 (record {
          carried = record { named = refl; base = refl; installs = refl; fence = refl; step_trace = (_ ∷ [], refl); unlocked = k.unlocked; unwritten = refl };
          history = refl;
          rises =
              (let r : v.steps.rises ≡ v.steps.rises_at_begin + 1 =
              k.rises ∙ ap (λ (b : Bool). v.steps.rises_at_begin + (if b then 1 else 0)) dirty in
              let e : entry_rise v.gate.algorithm ≡ 2 = ap entry_rise tml in omega arith);
        }) (let q = i.start in omega arith) (let q = i.front in omega arith) (k.dirty dirty) (written-here v))

    -- a writer is irrevocable
    pub irrevocable-writer : l.wrote ≡ true → is_irrevocable (known_of v o) ≡ true
    irrevocable-writer dirty =
        ap (λ (a : Alg). irrevocable_under a (granted_under a v.gate v.lock) (not (is_empty (written_under a v.gate.granted v o)))) tml
        ∙ (ap (λ (b : Bool). irrevocable_under Tml b (not (is_empty (items v.attempt.stores)))) k.ungranted
        ∙ ap not (wrote-some v.attempt.stores (k.dirty dirty)))

    -- the grant, by whether the clock allows it
    abbrev granted_view : ℕ → Bool → View
    granted_view clock b = record v { gate = if b then granted_at clock v.gate else v.gate; steps = record v.steps { step_trace = record { place = Clock; act = Load; found = Some clock } ∷ v.steps.step_trace } }

    grant_path : (clock : ℕ) (w : View) (b : Bool) → tml_grants clock v ≡ b → Tells tml_grant (FindsSole c) v clock w → w ≡ granted_view clock b
    grant_path clock w b e t = t.2 ∙ ap (granted_view clock) e

    pub may-grant : l.wrote ≡ false → IsAlone c.callers n v → CanTmlGrant c.callers n v
    may-grant clean a = record { has = has-tml; reads = k.writer ∙ clean; unlocked = k.unlocked; holds = a.holds; quiet = a.quiet }

    full_no : (clock : ℕ) → CLOCK_LIMIT ≤ clock → tml_grants clock v ≡ false
    full_no clock high = by (clock == v.attempt.start)
      where
        over_limit : ltb clock CLOCK_LIMIT ≡ false
        over_limit = grind (arith, nat_tests)

        by : (b : Bool) → (if b then ltb clock CLOCK_LIMIT else false) ≡ false
        by true = over_limit
        by false = refl

    moved_no : (clock : ℕ) → clock ≢ l.start → tml_grants clock v ≡ false
    moved_no clock apart = ap (λ (b : Bool). if b then ltb clock CLOCK_LIMIT else false) (let q = i.start in let e : (clock == v.attempt.start) ≡ false = grind (arith, nat_tests) in e)

    still_yes : (clock : ℕ) → clock ≡ l.start → clock < CLOCK_LIMIT → tml_grants clock v ≡ true
    still_yes clock same under =
        ap (λ (b : Bool). if b then ltb clock CLOCK_LIMIT else false)
        (let q = i.start in let e : (clock == v.attempt.start) ≡ true = grind (arith, nat_tests) in e)
        ∙ (let e : ltb clock CLOCK_LIMIT ≡ true = grind (arith, nat_tests) in e)

    pub may-leave-alone : (clock : ℕ) (w : View) → l.wrote ≡ false → tml_grants clock v ≡ false → Tells tml_grant (FindsSole c) v clock w → CanLeave w
    may-leave-alone clock w clean stays t = subst CanLeave (sym (grant_path clock w false stays t)) (may-leave (granted_view clock false) clean refl refl refl refl refl refl refl)

    pub may-leave-full : (clock : ℕ) (w : View) → l.wrote ≡ false → CLOCK_LIMIT ≤ clock → Tells tml_grant (FindsSole c) v clock w → CanLeave w
    may-leave-full clock w clean high t = may-leave-alone clock w clean (full_no clock high) t

    pub may-leave-moved : (clock : ℕ) (w : View) → l.wrote ≡ false → clock ≢ l.start → Tells tml_grant (FindsSole c) v clock w → CanLeave w
    may-leave-moved clock w clean apart t = may-leave-alone clock w clean (moved_no clock apart) t

    pub grants-full : (clock : ℕ) (u w : View) → l.wrote ≡ false → CLOCK_LIMIT ≤ clock → Tells tml_grant (FindsSole c) v clock u → w ≡ left n u → Grants good c n (irrevs.ClockFull clock) (known_of v o) (known_of w o)
    grants-full clock u w clean high t is = subst (λ (y : View). Grants good c n (irrevs.ClockFull clock) (known_of v o) (known_of y o)) (sym (is ∙ ap (left n) (grant_path clock u false (full_no clock high) t))) (
      quits-here y clean (record { carried = record { named = refl; base = refl; installs = refl; fence = refl; step_trace = (_ ∷ [], refl); unlocked = k.unlocked; unwritten = k.writer ∙ clean }; history = refl }) refl,
      ap asks_at_grant tml,
      finds-full clock v (left n y) o o high (found-left n Clock clock v y o o (_ ∷ [], refl, Load, (0, omega arith, refl))),
    )
      where
        y : View
        y = granted_view clock false

    pub grants-moved : (clock : ℕ) (u w : View) → n < c.callers → l.wrote ≡ false → clock ≢ l.start
        → Tells tml_grant (FindsSole c) v clock u → w ≡ left n u
        → Grants good c n (irrevs.Conflict (causes.Clock l.start clock)) (known_of v o) (known_of w o)
    grants-moved clock u w low clean apart t is = subst
        (λ (y : View). Grants good c n (irrevs.Conflict (causes.Clock l.start clock)) (known_of v o) (known_of y o))
        (sym (is ∙ ap (left n) (grant_path clock u false (moved_no clock apart) t))) (
          quits-here y clean (record { carried = record { named = refl; base = refl; installs = refl; fence = refl; step_trace = (_ ∷ [], refl); unlocked = k.unlocked; unwritten = k.writer ∙ clean }; history = refl }) refl,
          (tml, sym i.start, (λ e. apart (sym e)), found-left n Clock clock v y o o (_ ∷ [], refl, Load, (0, omega arith, refl))),
          others clock low clean apart t.1,
        )
      where
        y : View
        y = granted_view clock false

    pub grants-so : (clock : ℕ) (w : View) → l.wrote ≡ false → clock ≡ l.start → clock < CLOCK_LIMIT → IsAlone c.callers n v
        → Tells tml_grant (FindsSole c) v clock w → Grants good c n irrevs.Granted (known_of v o) (known_of w o)
    grants-so clock w clean same under a t = subst (λ (y : View). TriesIrrevocable good c n (known_of v o) (known_of y o)) (sym (grant_path clock w true (still_yes clock same under) t)) (record {
      continues = record {
        running = ap is_in i.phase;
        closing = ap is_closing i.phase;
        made = refl;
        grows = grows-same (known_of v o) (known_of y o) refl refl (_ ∷ []) refl refl refl refl refl;
        alg = refl;
        fence = refl;
        base = refl;
        rises = (omega arith, omega arith);
        later = omega arith;
        installs = refl;
        depth = refl;
        locked = inl refl;
      };
      still = refl;
      uncommitted = quiet;
      log = λ j. record { reads = items v.attempt.reads; writes = (ap (λ (q : Alg). written_under q true y o) tml ∙ sym (written-here v)) j };
      kept = λ e. ap (λ (q : Alg). kept_under q y o) tml;
      irrevocable = ap (λ (q : Alg). irrevocable_under q (granted_under q y.gate y.lock) (not (is_empty (written_under q true y o)))) tml;
      opaque = opaque-at good c n y o l.start i.start i.front i.legal i.below i.sees i.reads_inside;
      before = λ e. absurd (let f : true ≡ false = sym e ∙ revocable clean in cc);
      now = λ e. (ap (λ (q : Alg). granted_under q y.gate y.lock) tml, subst (λ (q : ℕ). Found Clock q (known_of v o) (known_of y o)) (same ∙ sym i.start) (_ ∷ [], refl, Load, (0, omega arith, refl)));
      alone = λ e q. (a.holds, a.quiet);
    })
      where
        y : View
        y = granted_view clock true

    pub grant_holds : (clock : ℕ) (w : View) → clock ≡ l.start → clock < CLOCK_LIMIT → Tells tml_grant (FindsSole c) v clock w → w.gate.holds ≡ v.gate.holds
    grant_holds clock w same under t = ap (λ (y : View). y.gate.holds) (grant_path clock w true (still_yes clock same under) t)

    pub stays-promoted : (clock : ℕ) (w : View) → l.holds ≡ true → l.wrote ≡ false → clock ≡ l.start → clock < CLOCK_LIMIT → Tells tml_grant (FindsSole c) v clock w → IsInside good c n (record l { granted = true }) w
    stays-promoted clock w held clean same under t = subst (λ (y : View). IsInside good c n m y) (sym (grant_path clock w true (still_yes clock same under) t)) (record {
      phase = i.phase;
      named = i.named;
      spared = record { is = i.spared.is; fits = i.spared.fits };
      steady = λ e. i.steady (ap (λ (a : Alg). not (asks_at_commit a) || l.granted) (sym i.named ∙ tml));
      disowned = i.disowned;
      unentered = i.unentered;
      start = i.start;
      front = i.front;
      legal = i.legal;
      below = i.below;
      sees = i.sees;
      reads_inside = i.reads_inside;
      looked = λ e. let h = i.looked e in record { low = h.low; seen = h.seen; unseen = h.unseen };
      granted = sym (ap (λ (q : Alg). closes_gate q && true) (sym i.named ∙ tml));
      keeps = subst (λ (q : Alg). Rules.Keeps c q true m y) (sym (sym i.named ∙ tml)) (record {
        granted = refl;
        quiescent = refl;
        holds = held;
        clear = record { unlocked = k.unlocked; disowned = i.disowned (ap has_records (sym i.named ∙ tml)); unwritten = k.writer ∙ clean; uncommitted = k.uncommitted; unentered = i.unentered; unfixed = k.unfixed };
        clean = k.clean;
        dirty = k.dirty;
        rises = clean_rises clean;
        limit = (let q : entry_rise l.algorithm ≡ 2 = ap entry_rise (sym i.named ∙ tml) in let r = room (let z = same in omega arith) in omega arith);
      });
    })
      where
        m : Local
        m = record l { granted = true }

        y : View
        y = granted_view clock true

  -- a promoted attempt is irrevocable
  pub irrevocable-granted : (l : Local) (v : View) (o : Own) → IsInside good c n l v → v.gate.algorithm ≡ Tml → l.granted ≡ true → is_irrevocable (known_of v o) ≡ true
  irrevocable-granted l v o i tml granted =
      let here : v.gate.granted ≡ true = i.granted ∙ (λ j. closes_gate ((sym i.named ∙ tml) j) && granted j) in
      ap (λ (a : Alg). irrevocable_under a (granted_under a v.gate v.lock) (not (is_empty (written_under a v.gate.granted v o)))) tml
      ∙ ap (λ (b : Bool). irrevocable_under Tml b (not (is_empty (items v.attempt.stores)))) here

module _ (good : List ℕ → Type 0) (c : Config) (n : ℕ) (v : View) (can : CanBegin Tml v) where
  abbrev begun_at : World → ℕ → Bool → View
  begun_at m clock b = record v {
    history = if b then record v.history { seen = m.history; front = clock } else v.history;
    attempt = if b then record { start = clock; reads = []; stores = []; entered = false } else v.attempt;
    tml = if b then fresh_tml else v.tml;
    steps = record v.steps { step_trace = record { place = Clock; act = Load; found = Some clock } ∷ v.steps.step_trace };
  }

  begun_path : (clock : ℕ) (w : View) (b : Bool) → (clock % 2 == 0) ≡ b → (t : Tells tml_begin (FindsBegin (of_words good c.words) c) v clock w) → w ≡ begun_at t.0 clock b
  begun_path clock w b e t = t.2 ∙ ap (begun_at t.0 clock) e

  -- the clock is odd: another caller writes
  pub tells-held : (clock : ℕ) (w : View) → clock % 2 ≡ 1 → Tells tml_begin (FindsBegin (of_words good c.words) c) v clock w → Starts.Refuses good c n Tml (begins.Held clock) v w
  tells-held clock w odd t = subst (λ (y : View). Starts.Refuses good c n Tml (begins.Held clock) v y) (sym (begun_path clock w false (grind (arith, nat_tests)) t)) (
    record {
      can =
          record {
            phase = can.phase;
            named = can.named;
            reopened = can.reopened;
            ungranted = can.ungranted;
            clear = record {
              unlocked = can.clear.unlocked;
              disowned = can.clear.disowned;
              unwritten = can.clear.unwritten;
              uncommitted = can.clear.uncommitted;
              unentered = can.clear.unentered;
              unfixed = can.clear.unfixed;
            };
            unentered = can.unentered;
            rises = can.rises;
          };
      keeps = λ o. record { made = refl; grows = grows-same (known_of v o) (known_of y o) refl refl (_ ∷ []) refl refl refl refl refl; rises = refl; installs = refl };
    },
    omega arith,
    (λ o. ((_ ∷ [], refl, Load, (0, omega arith, refl)), odd)),
    t.1.writer odd,
  )
    where
      y : View
      y = begun_at t.0 clock false

  pub tells-started : (clock : ℕ) (w : View) → clock % 2 ≡ 0 → Tells tml_begin (FindsBegin (of_words good c.words) c) v clock w → Starts.StartsAt good c n Tml clock v w
  tells-started clock w even t = subst (λ (y : View). Starts.StartsAt good c n Tml clock v y) (sym (begun_path clock w true (grind (arith, nat_tests)) t)) (record {
    inside = λ l fenced free. record {
      steady = λ e. refl;
      phase = can.phase;
      named = can.named;
      spared = record { is = fenced.is; fits = fenced.fits };
      disowned = λ e. can.clear.disowned;
      unentered = refl;
      start = refl;
      front = refl;
      legal = b.legal;
      below = b.below;
      sees = λ a. refl;
      reads_inside = λ a e. absurd cc;
      looked = λ e. absurd (let f : false ≡ true = sym free ∙ e in cc);
      granted = can.ungranted;
      keeps = record {
        inside = refl;
        settled = refl;
        unlocked = can.clear.unlocked;
        uncommitted = can.clear.uncommitted;
        unfixed = can.clear.unfixed;
        ungranted = can.ungranted;
        even = even;
        writer = refl;
        clean = λ e. refl;
        dirty = λ e. absurd cc;
        not_quiescent = t.1.not_quiescent can.reopened;
        rises = (let r = can.rises in omega arith);
        limit = λ e. absurd cc;
        unbuffered = refl;
        marked = λ e. refl;
        sole = λ one. (let q = t.1.sole one in let r = can.rises in omega arith);
      };
    };
    reopened = can.reopened;
    fence = refl;
    rises = can.rises;
    starts = λ o fresh. record {
      keeps =
          record {
            made = refl;
            grows = (let q = later-seen t.0.history v.history.front clock b.below b.front in
                record {
                  later = q.0;
                  is = subst (λ (h : List Entry). public_history t.0.history ≡ public_history h ++ q.0) (sym b.seen) q.1;
                  ascending = q.2;
                  up_to = q.3;
                  front_rose = b.front;
                  more = record { place = Clock; act = Load; found = Some clock } ∷ [];
                  step_trace = refl;
                  reads_limit = refl;
                  writes_limit = refl;
                  marks_limit = refl;
                  fenced = refl;
                });
            rises = refl;
            installs = refl;
          };
      found = (_ ∷ [], refl, Load, (0, omega arith, refl));
      is = refl;
      fresh = b.front;
      log = λ j. record { reads = []; writes = ap (λ (a : Alg). written_under a v.gate.granted y o) can.named j };
      bare = ap (λ (a : Alg). kept_under a y o) can.named;
      granted = ap (λ (a : Alg). granted_under a v.gate v.lock) can.named ∙ can.ungranted;
      opaque = opaque-at good c n y o clock refl refl b.legal b.below (λ a. refl) (λ a e. absurd cc);
      locked = ap (λ (a : Alg). locked_under a v.lock.taken false) can.named;
      took = λ e. absurd cc;
    };
  })
    where
      y : View
      y = begun_at t.0 clock true

      b : TmlBegins (of_words good c.words) c t.0 v clock
      b = t.1.begins
