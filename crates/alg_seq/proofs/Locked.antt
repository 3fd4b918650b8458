-- What the steps of an attempt that has the lock come to, as its caller knows it.
use Rattle.std.proofs.Common.{ℕ, ◌≡◌, ◌<◌, ◌+◌, List, [], ◌∷◌, ◌++◌, Bool, true, false, refl, sym, ap, ◌∙◌, arith, subst, le_refl, inl}
use Rattle.std.specs.Prelude.{Some, None, reverse, not, length, ◌&&◌, ◌||◌, ◌==◌}
use Rattle.stm_model.specs.Algorithms.{takes_lock, has_read_log, entry_rise, asks_at_begin}
use Rattle.stm_model.specs.declared.alg.Alg.{Alg}
use Rattle.stm_model.specs.declared.alg.Alg.TheVariants.{Cgl, Tml, OrecLazy, OrecEager, RingSw, Serial}
use Rattle.stm_model.specs.declared.config.Config.{Config}
use Rattle.stm_model.specs.Logs.{Log, Reads}
use Rattle.stm_model.specs.Logs as logs
use Rattle.stm_model.specs.Memories.{is_empty, put}
use Rattle.rule_base.specs.declared.entries.Cell.{Cell}
use Rattle.rule_base.specs.declared.layout.At.TheVariants.{Clock, Lock, Heap}
use Rattle.rule_base.specs.declared.views.Act.TheVariants.{Load, Store}
use Rattle.rule_base.specs.declared.views.Attempt.{Attempt}
use Rattle.rule_base.specs.declared.views.GateView.{GateView}
use Rattle.rule_base.specs.declared.views.LockView.{LockView}
use Rattle.rule_base.specs.declared.views.Phase.TheVariants.{In}
use Rattle.rule_base.specs.declared.views.SeenHistory.{SeenHistory}
use Rattle.rule_base.specs.declared.views.TracedStep.{TracedStep}
use Rattle.rule_base.specs.declared.views.View.{View}
use Rattle.rule_base.specs.Bridge.{items, of_words, public_history}
use Rattle.rule_base.specs.Lemmas.BridgeLemmas.{keeps-cells}
use Rattle.rule_base.specs.History.{word_now, Inside, Below, Explains, Legal}
use Rattle.rule_base.specs.Own.{Own}
use Rattle.rule_base.specs.StepKinds.{Nothing, Tells, view_after}
use Rattle.rule_base.specs.World.{World}
use Rattle.rule_seq.specs.CglSteps.{load_heap, Loads, store_heap, store_clock, CanStoreClock, Commits, free_lock}
use Rattle.stm_rule.specs.declared.local.Local.{Local}
use Rattle.stm_rule.specs.Attempts.{IsInside, IsLocked, Keeps}
use Rattle.stm_answers.specs.declared.answers.Read.TheVariants.{Value}
use Rattle.stm_answers.specs.declared.answers.Write.TheVariants.{Done}
use Rattle.stm_answers.specs.Answers as answers
use Rattle.stm_answers.specs.Answers.{kept_with, GoesOn, HasRead, HasWritten, KeepsRule, CommitsAt, EndsAt, RisesWithout}
use Rattle.stm_answers.specs.Causes.{Asked, has_item, reads_full, writes_full}
use Rattle.stm_answers.specs.CallerState.{CallerState, known_of, fenced_of, granted_under, locked_under, written_under, kept_under, is_in, is_closing, is_irrevocable, wrote}
use Rattle.stm_answers.specs.CallerStateLaws.{grows-same}
use Rattle.stm_gate.specs.InnerLaws.{start-stays}
use Rattle.stm_gate.proofs.KeptLaws.{kept-same}
use Rattle.stm_gate.specs.Leaving.{left}
use Rattle.stm_gate.specs.LeavingLaws.{IsUnmade, IsMade, ended-left, commits-left}
use Rattle.stm_gate.specs.Logging.{reads-logged, inside-logged, wrote-some}
use Rattle.stm_gate.specs.Opacity.{opaque-at, opaque-inside}

pub locked-of : (c : Config) (a : Alg) (granted : Bool) (l : Local) (v : View) → takes_lock a ≡ true → Keeps c a granted l v → IsLocked c l v
locked-of c Cgl granted l v t k = k
locked-of c Serial granted l v t k = k
locked-of c Tml granted l v t k = absurd cc
locked-of c OrecLazy granted l v t k = absurd cc
locked-of c OrecEager granted l v t k = absurd cc
locked-of c RingSw granted l v t k = absurd cc

pub keeps-by : (c : Config) (a : Alg) (granted : Bool) (l : Local) (v : View) → takes_lock a ≡ true → IsLocked c l v → Keeps c a granted l v
keeps-by c Cgl granted l v t k = k
keeps-by c Serial granted l v t k = k
keeps-by c Tml granted l v t k = absurd cc
keeps-by c OrecLazy granted l v t k = absurd cc
keeps-by c OrecEager granted l v t k = absurd cc
keeps-by c RingSw granted l v t k = absurd cc

-- what an attempt with the lock wrote lies in the heap
pub written-plain : (a : Alg) (granted : Bool) (v : View) (o : Own) → takes_lock a ≡ true → written_under a granted v o ≡ items v.attempt.stores
written-plain Cgl granted v o t = refl
written-plain Serial granted v o t = refl
written-plain Tml granted v o t = absurd cc
written-plain OrecLazy granted v o t = absurd cc
written-plain OrecEager granted v o t = absurd cc
written-plain RingSw granted v o t = absurd cc

no-read-log : (a : Alg) → takes_lock a ≡ true → has_read_log a ≡ false
no-read-log Cgl t = refl
no-read-log Serial t = refl
no-read-log Tml t = absurd cc
no-read-log OrecLazy t = absurd cc
no-read-log OrecEager t = absurd cc
no-read-log RingSw t = absurd cc

entry-one : (a : Alg) → takes_lock a ≡ true → entry_rise a ≡ 1
entry-one Cgl t = refl
entry-one Serial t = refl
entry-one Tml t = absurd cc
entry-one OrecLazy t = absurd cc
entry-one OrecEager t = absurd cc
entry-one RingSw t = absurd cc

granted-same : (a : Alg) (g : GateView) (k l : LockView) → l.irrevocable ≡ k.irrevocable → granted_under a g l ≡ granted_under a g k
granted-same Cgl g k l e = refl
granted-same Tml g k l e = refl
granted-same OrecLazy g k l e = refl
granted-same OrecEager g k l e = refl
granted-same RingSw g k l e = refl
granted-same Serial g k l e = e

pub or-last : (a b c : Bool) → c ≡ true → (a || (b || c)) ≡ true
or-last true b c e = refl
or-last false true c e = refl
or-last false false c e = e

pub or-middle : (a b c : Bool) → b ≡ true → (a || (b || c)) ≡ true
or-middle true b c e = refl
or-middle false true c e = refl
or-middle false false c e = absurd cc

-- a step of the attempt left alone all that others see of it
pub record IsLogged (v w : View) : Type 0 where
  pub history : w.history ≡ v.history
  pub gate : w.gate ≡ v.gate
  pub irrevocable : w.lock.irrevocable ≡ v.lock.irrevocable
  pub taken : w.lock.taken ≡ v.lock.taken
  pub writer : w.tml.writer ≡ v.tml.writer
  pub fence : w.fence ≡ v.fence
  pub start : w.attempt.start ≡ v.attempt.start
  pub rises : w.steps.rises ≡ v.steps.rises
  pub base : w.steps.rises_at_begin ≡ v.steps.rises_at_begin
  pub installs : w.steps.installs ≡ v.steps.installs
  pub step_trace : (more : List TracedStep) × (w.steps.step_trace ≡ more ++ v.steps.step_trace)

pub logged-refl : (v : View) → IsLogged v v
logged-refl v = record { history = refl; gate = refl; irrevocable = refl; taken = refl; writer = refl; fence = refl; start = refl; rises = refl; base = refl; installs = refl; step_trace = ([], refl) }

pub goes-on : {c : Config} {asked : Asked} → (v w : View) (o : Own) → v.gate.phase ≡ In → takes_lock v.gate.algorithm ≡ true → IsLogged v w → GoesOn c asked (known_of v o) (known_of w o)
goes-on {c} {asked} v w o inside locks i = record {
  continues = record {
    running = ap (λ (g : GateView). is_in g.phase) i.gate ∙ ap is_in inside;
    closing = ap (λ (g : GateView). is_closing g.phase) i.gate ∙ ap is_closing inside;
    made = ap (λ (h : SeenHistory). public_history h.made) i.history;
    grows =
        grows-same (known_of v o) (known_of w o) (ap (λ (h : SeenHistory). public_history h.seen) i.history)
        (ap (λ (h : SeenHistory). h.front) i.history) i.step_trace.0 i.step_trace.1 refl refl refl (ap fenced_of i.fence);
    alg = ap (λ (g : GateView). g.algorithm) i.gate;
    fence = ap (λ (g : GateView). g.fence) i.gate;
    base = i.base;
    rises = (let e = i.rises in omega arith, let e = i.rises in omega arith);
    later = (let e = i.start in omega arith);
    installs = ap reverse i.installs;
    depth = refl;
    locked = inl (λ k. locked_under (i.gate k).algorithm (i.taken k) (i.writer k));
  };
  start = start-stays c asked v.gate.algorithm (known_of v o) (known_of w o) (λ e. absurd (let no : true ≡ false = sym locks ∙ ap takes_lock e in cc)) i.start;
  granted = ap (λ (g : GateView). granted_under g.algorithm g w.lock) i.gate ∙ granted-same v.gate.algorithm v.gate v.lock w.lock i.irrevocable;
  holds = ap (λ (g : GateView). g.holds) i.gate;
  checked = ap (λ (g : GateView). g.checked) i.gate;
  marks = refl;
}

reads-free : (a : ℕ) (v : CallerState) → takes_lock v.alg ≡ true → reads_full a v ≡ false
reads-free a v t = ap (λ b. b && (not (is_irrevocable v) && (not (has_item a v.log.writes) && (not (has_item a v.log.reads) && (length v.log.reads == v.reads_limit))))) (no-read-log v.alg t)

module _ (good : List ℕ → Type 0) (c : Config) (n : ℕ) where
  abbrev pub rule : (ℕ → ℕ) → Type 0
  rule = of_words good c.words

  pub locked : (l : Local) (v : View) → takes_lock v.gate.algorithm ≡ true → IsInside good c n l v → IsLocked c l v
  locked l v t i = locked-of c l.algorithm l.granted l v (ap takes_lock (sym i.named) ∙ t) i.keeps

  pub tells-read : (a x : ℕ) (l : Local) (v w : View) (o : Own) → a < c.words → IsInside good c n l v → takes_lock v.gate.algorithm ≡ true → o.committing ≡ false → Tells (load_heap a) (Loads rule c a) v x w
      → HasRead good c n a (Value x) (known_of v o) (known_of w o)
  tells-read a x l v w o low i locks settled t = subst (λ (u : View). HasRead good c n a (Value x) (known_of v o) (known_of u o)) (sym t.2) (
    goes-on v u o i.phase locks
        (record {
          history = refl;
          gate = refl;
          irrevocable = refl;
          taken = refl;
          writer = refl;
          fence = refl;
          start = refl;
          rises = refl;
          base = refl;
          installs = refl;
          step_trace = (record { place = Heap a; act = Load; found = Some x } ∷ [], refl);
        }),
    settled,
    subst (λ (ws : List (ℕ × ℕ)). Reads (known_of v o).log a x (record { reads = items u.attempt.reads; writes = ws })) (sym (written-plain v.gate.algorithm v.gate.granted u o locks))
        (subst (λ (ws : List (ℕ × ℕ)).
        Reads (record { reads = items v.attempt.reads; writes = ws }) a x
        (record { reads = items u.attempt.reads; writes = items v.attempt.stores }))
        (sym (written-plain v.gate.algorithm v.gate.granted v o locks))
        (reads-logged (word_now v.history.seen) v.attempt a x i.sees t.1.value)),
    t.1.small,
    opaque-at good c n u o l.start i.start i.front i.legal i.below t.1.sees (inside-logged c.words v.attempt a x low i.reads_inside),
    reads-free a (known_of v o) locks,
    refl,
    kept-same v.gate.algorithm v u o o refl refl refl,
  )
    where
      u : View
      u = view_after (load_heap a) t.0 v x

  -- a store puts its word into the log
  pub tells-store : (a x : ℕ) (v w : View) (o : Own) (m : World) → v.gate.phase ≡ In → takes_lock v.gate.algorithm ≡ true
      → o.committing ≡ false → writes_full a (known_of v o) ≡ false
      → kept_under w.gate.algorithm (view_after (store_heap a x) m w x) o ≡ kept_with a (known_of v o)
      → IsLogged v w → w.attempt ≡ v.attempt → ((u : View) → u.history ≡ v.history → u.attempt.start ≡ v.attempt.start → u.attempt.reads ≡ v.attempt.reads → answers.IsOpaque good c n (known_of u o))
      → HasWritten good c n a x Done (known_of v o) (known_of (view_after (store_heap a x) m w x) o)
  tells-store a x v w o m inside locks settled room kept i same opaque = (
    goes-on v u o inside locks
        (record {
          history = i.history;
          gate = i.gate;
          irrevocable = i.irrevocable;
          taken = i.taken;
          writer = i.writer;
          fence = i.fence;
          start = i.start;
          rises = i.rises;
          base = i.base;
          installs = i.installs;
          step_trace = (
            record { place = Heap a; act = Store x; found = None } ∷ i.step_trace.0,
            ap (λ t. record { place = Heap a; act = Store x; found = None } ∷ t) i.step_trace.1,
          );
        }),
    settled,
    subst (λ (ws : List (ℕ × ℕ)). logs.Writes (known_of v o).log a x (record { reads = items u.attempt.reads; writes = ws }))
        (sym (written-plain w.gate.algorithm w.gate.granted u o (ap (λ (g : GateView). takes_lock g.algorithm) i.gate ∙ locks)))
        (subst (λ (ws : List (ℕ × ℕ)).
        logs.Writes (record { reads = items v.attempt.reads; writes = ws }) a x
        (record { reads = items w.attempt.reads; writes = put a x (items w.attempt.stores) }))
        (sym (written-plain v.gate.algorithm v.gate.granted v o locks))
        (subst (λ (t : Attempt).
        logs.Writes (record { reads = items v.attempt.reads; writes = items v.attempt.stores }) a x
        (record { reads = items t.reads; writes = put a x (items t.stores) })) (sym same) (refl, λ b. refl))),
    opaque u i.history i.start (ap (λ (t : Attempt). t.reads) same),
    room,
    kept,
    λ tml free. absurd (apart v.gate.algorithm locks (ap (λ (g : GateView). g.algorithm) (sym i.gate) ∙ tml)),
  )
    where
      u : View
      u = view_after (store_heap a x) m w x

      apart : (b : Alg) → takes_lock b ≡ true → b ≡ Tml → ⊥
      apart b e is = let no : takes_lock Tml ≡ true = ap takes_lock (sym is) ∙ e in cc

  pub still-opaque : (l : Local) (v : View) (o : Own) → IsInside good c n l v → (u : View) → u.history ≡ v.history
      → u.attempt.start ≡ v.attempt.start → u.attempt.reads ≡ v.attempt.reads → answers.IsOpaque good c n (known_of u o)
  still-opaque l v o i u history start reads = opaque-at good c n u o l.start (start ∙ i.start) (ap (λ (h : SeenHistory). h.front) history ∙ i.front)
      (subst (λ (h : SeenHistory). Legal rule c h.seen) (sym history) i.legal) (subst (λ (h : SeenHistory). Below h.seen (l.start + 1)) (sym history) i.below)
      (subst (λ (h : SeenHistory). Explains (word_now h.seen) u.attempt.reads) (sym history) (subst (λ (r : List Cell). Explains (word_now v.history.seen) r) (sym reads) i.sees))
      (subst (λ (r : List Cell). Inside c.words r) (sym reads) i.reads_inside)

  -- an irrevocable attempt stays as it is
  pub stays-irrevocable : (l : Local) (v : View) (o : Own) → IsInside good c n l v → o.committing ≡ false → is_irrevocable (known_of v o) ≡ true → answers.TriesIrrevocable good c n (known_of v o) (known_of v o)
  stays-irrevocable l v o i settled irrevocable = record {
    continues = record {
      running = ap is_in i.phase;
      closing = ap is_closing i.phase;
      made = refl;
      grows = grows-same (known_of v o) (known_of v o) refl refl [] refl refl refl refl refl;
      alg = refl;
      fence = refl;
      base = refl;
      rises = (omega arith, omega arith);
      later = le_refl v.attempt.start;
      installs = refl;
      depth = refl;
      locked = inl refl;
    };
    still = refl;
    uncommitted = settled;
    log = refl;
    kept = λ e. e;
    irrevocable = irrevocable;
    opaque = opaque-inside good c n l v o i;
    before = λ e. refl;
    now = λ e. absurd (let no : true ≡ false = sym irrevocable ∙ e in cc);
    alone = λ e. absurd (let no : true ≡ false = sym irrevocable ∙ e in cc);
  }

  -- an attempt that wrote may store the next clock
  pub may-commit : (l : Local) (v : View) (o : Own) → IsInside good c n l v → takes_lock v.gate.algorithm ≡ true → v.gate.holds ≡ l.holds
      → l.wrote ≡ true → KeepsRule good c n (known_of v o) → CanStoreClock rule (l.start + 1) v
  may-commit l v o i locks free dirty keeps = let k = locked l v locks i in record {
    has = record { phase = i.phase; algorithm = locks; taken = k.taken };
    started = k.started;
    free = free ∙ k.reopened;
    time = (let e = i.start in omega arith);
    limit = (let low = k.limit (or-last (asks_at_begin l.algorithm) l.granted l.wrote dirty) in omega arith);
    wrote = k.dirty dirty;
    keeps = keeps-cells good c.words v.attempt.reads v.attempt.stores i.reads_inside
        (subst (λ (ws : List (ℕ × ℕ)). logs.Keeps good c.words (record { reads = items v.attempt.reads; writes = ws })) (written-plain v.gate.algorithm v.gate.granted v o locks) (keeps (wrote-of l v o i locks dirty)));
  }
    where
      wrote-of : (l : Local) (v : View) (o : Own) → IsInside good c n l v → takes_lock v.gate.algorithm ≡ true → l.wrote ≡ true → wrote (known_of v o) ≡ true
      wrote-of l v o i locks dirty = ap (λ (ws : List (ℕ × ℕ)). not (is_empty ws)) (written-plain v.gate.algorithm v.gate.granted v o locks) ∙ ap not (wrote-some v.attempt.stores ((locked l v locks i).dirty dirty))

  pub tells-ended : (l : Local) (v u : View) (o : Own) → IsInside good c n l v → takes_lock v.gate.algorithm ≡ true → l.wrote ≡ false → Tells free_lock Nothing v 0 u
      → EndsAt good c n l.start (known_of v o) (known_of (left n u) o) × RisesWithout (known_of v o) (known_of (left n u) o) × (wrote (known_of v o) ≡ false)
  tells-ended l v u o i locks clean t = let k = locked l v locks i in (
    ended-left n good c l.start v u o (subst (λ (y : View). IsUnmade v y) (sym t.2) unmade) (sym i.start) (opaque-inside good c n l v o i),
    (let r = ap (λ (y : View). y.steps.rises) t.2 in let e = k.rises in omega arith, let r = ap (λ (y : View). y.steps.rises) t.2 in let e = k.rises in omega arith),
    ap (λ (ws : List (ℕ × ℕ)). not (is_empty ws)) (written-plain v.gate.algorithm v.gate.granted v o locks) ∙ ap (λ (cs : List Cell). not (is_empty (items cs))) (k.clean clean),
  )
    where
      unmade : IsUnmade v (view_after free_lock t.0 v 0)
      unmade =
          record {
            carried = record {
              named = refl;
              base = refl;
              installs = refl;
              fence = refl;
              step_trace = (record { place = Lock; act = Store 0; found = None } ∷ [], refl);
              unlocked = refl;
              unwritten = (locked l v locks i).unwritten;
            };
            history = refl;
          }

  pub tells-committed : (l : Local) (v s u : View) (o : Own) → IsInside good c n l v → takes_lock v.gate.algorithm ≡ true → l.wrote ≡ true
      → Tells (store_clock n (l.start + 1)) (Commits rule c n (l.start + 1)) v (l.start + 1) s → Tells free_lock Nothing s 0 u
      → CommitsAt good c n (l.start + 1) (known_of v o) (known_of (left n u) o)
  tells-committed l v s u o i locks dirty r t = let k = locked l v locks i in
      commits-left n good c (l.start + 1) r.0 v u o r.1 (subst (λ (y : View). IsMade n (l.start + 1) r.0.history v y) (sym path) (made k.rises))
      (let e = i.start in omega arith) (let e = i.front in omega arith) (k.dirty dirty) (written-plain v.gate.algorithm v.gate.granted v o locks)
    where
      last : View
      last = view_after free_lock t.0 (view_after (store_clock n (l.start + 1)) r.0 v (l.start + 1)) 0

      path : u ≡ last
      path = t.2 ∙ ap (λ y. view_after free_lock t.0 y 0) r.2

      made : v.steps.rises ≡ v.steps.rises_at_begin → IsMade n (l.start + 1) r.0.history v last
      made rises = record {
        carried =
            record {
              named = refl;
              base = refl;
              installs = refl;
              fence = refl;
              step_trace = (
                record { place = Lock; act = Store 0; found = None }
                    ∷ record { place = Clock; act = Store (l.start + 1); found = None } ∷ [],
                refl,
              );
              unlocked = refl;
              unwritten = (locked l v locks i).unwritten;
            };
        history = refl;
        rises = (let one = entry-one v.gate.algorithm locks in omega arith);
      }
