-- What comes of an attempt that is alone, and of the call in which it came to be so.
use Rattle.std.proofs.Common.{ℕ, ◌≡◌, ◌<◌, List, [], ◌∷◌, ◌++◌, true, false, refl, sym, ap, ◌∙◌, arith, subst, append_assoc, inl, inr}
use Rattle.std.specs.Prelude.{◌||◌, Some, not}
use Rattle.stm_model.specs.Algorithms.{asks_at_grant, closes_gate, has_records, irrevocable_under, quit_rise}
use Rattle.stm_model.specs.declared.config.Config.{Config}
use Rattle.stm_model.specs.declared.stop.Cause.TheVariants as causes
use Rattle.stm_model.specs.Logs.{Log}
use Rattle.stm_model.specs.Memories.{is_empty}
use Rattle.rule_base.specs.declared.layout.At.{At}
use Rattle.rule_base.specs.declared.layout.At.TheVariants.{Clock, Record}
use Rattle.rule_base.specs.declared.views.TracedStep.{TracedStep}
use Rattle.rule_base.specs.declared.views.View.{View}
use Rattle.rule_base.specs.InstallSteps.{HasChecked}
use Rattle.rule_base.specs.Own.{Own}
use Rattle.stm_rule.specs.declared.local.Local.{Local}
use Rattle.stm_rule.specs.Attempts.{IsInside}
use Rattle.stm_answers.specs.declared.answers.Irrev.{Irrev}
use Rattle.stm_answers.specs.declared.answers.Irrev.TheVariants as irrevs
use Rattle.stm_answers.specs.Answers.{TriesIrrevocable, Quits, Waits, Irrevs}
use Rattle.stm_answers.specs.Causes.{Conflicts, FindsFull, IsInTheWay, IsStaleAt, has_item, read_filter}
use Rattle.stm_answers.specs.Causes.Asked.{ToPromote}
use Rattle.stm_answers.specs.Evidence.{Found, FoundAsWas, Untouched}
use Rattle.stm_answers.specs.SlotEvidence.{FindsFirst, clock_load}
use Rattle.stm_answers.specs.CallerState.{CallerState, Grows, known_of, is_irrevocable, is_in, is_closing, is_none, has_written}
use Rattle.stm_answers.specs.CallerStateLaws.{grows-same, grows-trans, lock-trans}
use Rattle.stm_gate.specs.LeavingLaws.{found-earlier}
use Rattle.stm_gate.specs.Opacity.{opaque-inside}
use Rattle.stm_gate.specs.Promoting.{SparesRecords}

-- caller n holds the gate, and has seen all others idle since
pub record IsAlone (callers n : ℕ) (v : View) : Type 0 where
  pub holds : v.gate.holds ≡ true
  pub quiet : HasChecked callers n v

untouched-append : (p : At) (is js : List TracedStep) → Untouched p is → Untouched p js → Untouched p (is ++ js)
untouched-append p [] js a b = b
untouched-append p (i ∷ is) js a b = (a.0, untouched-append p is js a.1 b)

-- what was found of a record from a later moment on, as seen from before
as-was-earlier : (r x : ℕ) (u v w : CallerState) → SparesRecords u v → FoundAsWas (Record r) x v w → FoundAsWas (Record r) x u w
as-was-earlier r x u v w s f = record {
  early = f.early ++ s.0;
  act = f.act;
  late = f.late;
  step_trace =
      f.step_trace
      ∙ ap (λ (t : List TracedStep). f.late ++ record { place = Record r; act = f.act; found = Some x } ∷ t)
      (ap (λ (t : List TracedStep). f.early ++ t) s.1 ∙ sym (append_assoc f.early s.0 u.step_trace));
  untouched = untouched-append (Record r) f.early s.0 f.untouched (s.2 r);
}

module _ (good : List ℕ → Type 0) (c : Config) (n : ℕ) where
  -- what becomes of an attempt that is alone
  abbrev pub Grants : Irrev → CallerState → CallerState → Type 0
  Grants irrevs.Granted v w = TriesIrrevocable good c n v w
  Grants (irrevs.Busy caller status) v w = ⊥
  Grants (irrevs.Taken gate) v w = ⊥
  Grants (irrevs.Conflict cause) v w = Quits v w × Conflicts c n ToPromote cause v w × (1 < c.callers)
  Grants (irrevs.ClockFull clock) v w = Quits v w × (asks_at_grant v.alg ≡ true) × FindsFull clock v w

  quits-after : (u v w : CallerState) → Waits good c n u v → Quits v w → Quits u w
  quits-after u v w a b = let k = a.continues in record {
    ends = record { idle = b.ends.idle; grows = grows-trans u v w k.grows b.ends.grows; alg = b.ends.alg ∙ k.alg; base = b.ends.base ∙ k.base; installs = b.ends.installs ∙ k.installs };
    made = b.made ∙ k.made;
    rises = (
      let e = k.base in
          let r = b.rises.0 in
          omega arith,
      let e = k.base in
          let r = b.rises.1 in
          let q : quit_rise v.alg (has_written v) ≡ quit_rise u.alg (has_written u) =
          (λ j. quit_rise (k.alg j) (not (is_empty (a.log j).writes) || not (is_none (a.kept j)))) in
          omega arith,
    );
    revocable = a.revocable;
  }

  found-before : (place : At) (x : ℕ) (u v w : CallerState) → Waits good c n u v → Found place x v w → Found place x u w
  found-before place x u v w a f = found-earlier place x u v w f a.continues.grows.more a.continues.grows.step_trace

  first-after : (time bits : ℕ) (u v w : CallerState) → Waits good c n u v
      → FindsFirst c.ring v.start (read_filter c n ToPromote v.log.reads) time bits v w
      → FindsFirst c.ring u.start (read_filter c n ToPromote u.log.reads) time bits u w
  first-after time bits u v w a f = subst (λ (g : Log). FindsFirst c.ring u.start (read_filter c n ToPromote g.reads) time bits u w) a.log
      (subst (λ (s : ℕ). FindsFirst c.ring s (read_filter c n ToPromote v.log.reads) time bits u w) a.start (record {
        early = f.early ++ k.more;
        clock = f.clock;
        loads = f.loads;
        later = f.later;
        late = f.late;
        step_trace =
            f.step_trace
            ∙ ap (λ (t : List TracedStep). f.late ++ clock_load f.later ∷ (f.loads ++ clock_load f.clock ∷ t))
            (ap (λ (t : List TracedStep). f.early ++ t) k.step_trace ∙ sym (append_assoc f.early k.more u.step_trace));
        near = f.near;
        first = f.first;
      }))
    where
      k : Grows u v
      k = a.continues.grows

  conflicts-after : (cause : causes.the_data) (u v w : CallerState) → Waits good c n u v → SparesRecords u v → Conflicts c n ToPromote cause v w → Conflicts c n ToPromote cause u w
  conflicts-after (causes.Clock had now) u v w a s b = (sym a.continues.alg ∙ b.0, b.1 ∙ a.start, b.2, found-before Clock now u v w a b.3)
  conflicts-after (causes.Record index word start) u v w a s b = (ap has_records (sym a.continues.alg) ∙ b.0, b.1 ∙ a.start, as-was-earlier index word u v w s b.2, way b.3)
    where
      stale : IsStaleAt c n v.start word → IsStaleAt c n u.start word
      stale = subst (λ (t : ℕ). IsStaleAt c n t word) a.start

      way : IsInTheWay c n ToPromote index word v w → IsInTheWay c n ToPromote index word u w
      way (inl x) = absurd x.0
      way (inr x) = inr (tt, (x.1.0, x.1.1, sym (ap (λ (g : Log). has_item x.1.0 g.reads) a.log) ∙ x.1.2), stale x.2)
  conflicts-after (causes.Moved index before after) u v w a s b = absurd b.1
  conflicts-after (causes.Filter time bits) u v w a s b = (sym a.continues.alg ∙ b.0, first-after time bits u v w a b.1)
  conflicts-after (causes.Overrun start clock) u v w a s b = (sym a.continues.alg ∙ b.0, b.1 ∙ a.start, found-before Clock clock u v w a b.2, b.3)

  -- THE CALL: it came to be alone, and then this became of it
  pub irrevs-after : (r : irrevs.the_data) (u v w : CallerState) → Waits good c n u v → SparesRecords u v → Grants r v w → Irrevs good c n r u w
  irrevs-after irrevs.Granted u v w a s b = let k = a.continues in let q = b.continues in
      let still : is_irrevocable v ≡ false = (λ j. irrevocable_under (k.alg j) (a.granted j) (not (is_empty (a.log j).writes))) ∙ a.revocable in record {
        continues = record {
          running = q.running;
          closing = q.closing;
          made = q.made ∙ k.made;
          grows = grows-trans u v w k.grows q.grows;
          alg = q.alg ∙ k.alg;
          fence = q.fence ∙ k.fence;
          base = q.base ∙ k.base;
          rises = (let x = a.still in let y = b.still in (omega arith, omega arith));
          later = (let x = k.later in let y = q.later in omega arith);
          installs = q.installs ∙ k.installs;
          depth = q.depth ∙ k.depth;
          locked = lock-trans u v w k.alg k.locked q.locked;
        };
        still = b.still ∙ a.still;
        uncommitted = b.uncommitted;
        log = b.log ∙ a.log;
        kept = λ e. b.kept (a.kept ∙ e);
        irrevocable = b.irrevocable;
        opaque = b.opaque;
        before = λ e. absurd (let f : true ≡ false = sym e ∙ a.revocable in cc);
        now = λ e. (let z = b.now still in (z.0, found-before Clock w.start u v w a z.1));
        alone = λ e x. b.alone still (ap closes_gate k.alg ∙ x);
      }
  irrevs-after (irrevs.Busy caller status) u v w a s b = absurd b
  irrevs-after (irrevs.Taken gate) u v w a s b = absurd b
  irrevs-after (irrevs.Conflict cause) u v w a s b = (quits-after u v w a b.0, conflicts-after cause u v w a s b.1, b.2)
  irrevs-after (irrevs.ClockFull clock) u v w a s b = (
    quits-after u v w a b.0,
    ap asks_at_grant (sym a.continues.alg) ∙ b.1,
    record { limit = b.2.limit; found = found-before Clock clock u v w a b.2.found; top = b.2.top },
  )

  -- an attempt that was irrevocable before stays as it was
  pub irrevocable-already : (l : Local) (v : View) (o : Own) → o.committing ≡ false → IsInside good c n l v → is_irrevocable (known_of v o) ≡ true → TriesIrrevocable good c n (known_of v o) (known_of v o)
  irrevocable-already l v o quiet i irrevocable = record {
    continues = record {
      running = ap is_in i.phase;
      closing = ap is_closing i.phase;
      made = refl;
      grows = grows-same (known_of v o) (known_of v o) refl refl [] refl refl refl refl refl;
      alg = refl;
      fence = refl;
      base = refl;
      rises = (omega arith, omega arith);
      later = omega arith;
      installs = refl;
      depth = refl;
      locked = inl refl;
    };
    still = refl;
    uncommitted = quiet;
    log = refl;
    kept = λ e. e;
    irrevocable = irrevocable;
    opaque = opaque-inside good c n l v o i;
    before = λ e. refl;
    now = λ e. absurd (let f : true ≡ false = sym irrevocable ∙ e in cc);
    alone = λ e q. absurd (let f : true ≡ false = sym irrevocable ∙ e in cc);
  }
