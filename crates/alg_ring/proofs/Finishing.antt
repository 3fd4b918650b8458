-- What the steps of a commit come to, from the turn on.
use Rattle.std.proofs.Common.{ℕ, ◌≡◌, ◌<◌, ◌≤◌, ◌+◌, List, [], ◌∷◌, ◌++◌, length, Bool, true, false, refl, sym, ap, ◌∙◌, arith, subst, append_assoc}
use Rattle.std.specs.Prelude.{Some, None, Ok, if◌then◌else◌}
use Rattle.stm_model.specs.Algorithms.{has_records, asks_at_commit, entry_rise}
use Rattle.stm_model.specs.declared.alg.Alg.TheVariants.{RingSw}
use Rattle.stm_model.specs.declared.config.Config.{Config}
use Rattle.stm_model.specs.declared.config.TheConstants.{CLOCK_LIMIT}
use Rattle.stm_model.specs.declared.stop.Cause.{Cause}
use Rattle.stm_model.specs.Histories as public
use Rattle.rule_base.specs.Encodings.{fenced}
use Rattle.rule_base.specs.declared.entries.Cell.{Cell}
use Rattle.rule_base.specs.declared.entries.Entry.{Entry}
use Rattle.rule_base.specs.declared.layout.At.TheVariants.{Clock, Lock, Done}
use Rattle.rule_base.specs.declared.seats.SeatView.{SeatView}
use Rattle.rule_base.specs.declared.views.Act.TheVariants.{Load, Store}
use Rattle.rule_base.specs.declared.views.Attempt.{Attempt}
use Rattle.rule_base.specs.declared.views.RingCommit.{RingCommit}
use Rattle.rule_base.specs.declared.views.RingRead.{RingRead}
use Rattle.rule_base.specs.declared.views.SeenHistory.{SeenHistory}
use Rattle.rule_base.specs.declared.views.TracedStep.{TracedStep}
use Rattle.rule_base.specs.declared.views.View.{View}
use Rattle.rule_base.specs.Bridge.{items, of_words, public_entry, public_history}
use Rattle.rule_base.specs.Lemmas.BridgeLemmas.{keeps-cells, legal-public, length-public_history}
use Rattle.rule_base.specs.History.{upto, Keeps}
use Rattle.rule_base.specs.Own.{Own}
use Rattle.rule_base.specs.StepKinds.{Nothing, Tells, view_after}
use Rattle.rule_ring.specs.RingSteps.{HasTurn, ring_tick, ring_free, ring_done, CanRingDone, RingEnters, no_read, no_turn}
use Rattle.rule_seq.specs.CglSteps.{fresh_lock}
use Rattle.stm_rule.specs.declared.local.Local.{Local}
use Rattle.stm_rule.specs.Attempts.{IsInside, IsOutside, HasRoom, ended, own_of}
use Rattle.stm_rule.specs.Kept.{SeatTells}
use Rattle.stm_rule.specs.RecordsKept.{cells_of}
use Rattle.stm_rule.specs.RingKept.{IsRing}
use Rattle.alg_ring.specs.RingFindings.{FindsTick}
use Rattle.stm_answers.specs.declared.answers.Commit.{Commit}
use Rattle.stm_answers.specs.declared.answers.Commit.TheVariants as commits
use Rattle.stm_answers.specs.Answers.{Commits, CommitsAt, Quits, entry}
use Rattle.stm_answers.specs.Causes.Asked.{ToCommit}
use Rattle.stm_answers.specs.CallerState.{Grows, known_of}
use Rattle.stm_answers.specs.CallerStateLaws.{grows-same, grows-trans, ascending-append, within-append}
use Rattle.stm_gate.specs.Leaving.{left, last_steps}
use Rattle.stm_gate.specs.LeavingLaws.{quits-left, finds-full, found-left}
use Rattle.stm_model.specs.Logs as logs
use Rattle.alg_ring.specs.Calls.{HasAttempt, StandsTold, TookTurn, IsDecided, freed, CanEnter, Enters, entered_at, writing, CanWriteBack, WritesBack}
use Rattle.alg_ring.specs.Checking.{CanCheck, Checks, Fails, passed_at}
use Rattle.alg_ring.proofs.Checked.{passes-grows}
use Rattle.alg_ring.proofs.Refuting.{refuted}
use Rattle.alg_ring.proofs.Running as attempt
use Rattle.stm_gate.specs.InnerLaws.{unlocked-of}

abbrev pub clock_found : ℕ → TracedStep
clock_found clock = record { place = Clock; act = Load; found = Some clock }

abbrev lock_freed : TracedStep
lock_freed = record { place = Lock; act = Store 0; found = None }

abbrev done_stored : ℕ → TracedStep
done_stored time = record { place = Done; act = Store time; found = None }

pub freed-is : {K : Type 0} (s t : SeatView K) → SeatTells ring_free Nothing s 0 t → t.view ≡ freed s.view
freed-is {K} s t h = ap (λ (y : SeatView K). y.view) h.3

-- the lock is free and the attempt has left: what was decided is told
pub finishes : (good : List ℕ → Type 0) (c : Config) (n : ℕ) (answer : Commit) (l m : Local) (v u w : View)
    → IsDecided good c n answer v l u → HasRoom l → w ≡ left n (freed u) → m ≡ ended l → IsOutside w
    → StandsTold good c n (Commits good c n answer) l v m w
finishes good c n answer l m v u w d lengths end idle out = subst (λ (k : Local). StandsTold good c n (Commits good c n answer) l v k w) (sym idle) (record {
  stands = record { holds = sym out.reopened; lengths = lengths; by = out };
  told = subst (λ (y : View). Commits good c n answer (known_of v (own_of l)) (known_of y (own_of l))) (sym end) d.commits;
})

module _ (good : List ℕ → Type 0) (c : Config) (n : ℕ) (l : Local) (v w : View) (turn : TookTurn good c n v l w) where
  abbrev rule : (ℕ → ℕ) → Type 0
  rule = of_words good c.words

  abbrev ws : List Cell
  ws = cells_of l.writes.items

  abbrev o : Own
  o = own_of l

  has : HasAttempt good c n l v
  has = turn.has.attempt

  i : IsInside good c n l v
  i = attempt.inside good c n l v has

  named : v.gate.algorithm ≡ RingSw
  named = has.named

  plain : l.granted ≡ false
  plain = sym (attempt.irrevocable-is good c n l v has) ∙ turn.has.revocable

  k : IsRing c l v
  k = attempt.kept good c n l v has plain

  -- what changes while it has the lock
  abbrev locked_at : SeenHistory → Attempt → RingRead → RingCommit → ℕ → List TracedStep → View
  locked_at history mine read commit rises more = record v {
    history = history;
    attempt = mine;
    lock = fresh_lock RingSw;
    ring_read = read;
    ring_commit = commit;
    steps = record v.steps { rises = rises; step_trace = more ++ v.steps.step_trace };
  }

  -- with neither a store in the heap nor an entry that isn't written back, it can free the lock and leave
  decided : (answer : Commit) (history : SeenHistory) (mine : Attempt) (read : RingRead) (commit : RingCommit) (rises : ℕ)
      (more : List TracedStep) → mine.entered ≡ false → mine.stores ≡ [] → (commit.committed ≡ true → commit.finished ≡ true)
      → Commits good c n answer (known_of v o) (known_of (left n (freed (locked_at history mine read commit rises more))) o) → IsDecided good c n answer v l (locked_at history mine read commit rises more)
  decided answer history mine read commit rises more unentered unstored finished told = record {
    free = record { runs = record { phase = i.phase; algorithm = named; plain = k.optimistic.ungranted }; taken = refl; finished = finished };
    leave = record {
      phase = i.phase;
      unlocked = refl;
      unfixed = refl;
      disowned = i.disowned (ap has_records (attempt.ring good c n l v has));
      unwritten = k.optimistic.unwritten;
      uncommitted = refl;
      ungranted = λ e. k.optimistic.ungranted;
      plain = λ e. unentered;
      unstored = λ e. unstored;
      marked = λ e q. absurd (let f : true ≡ false = sym q ∙ unentered in cc);
    };
    gate = refl;
    commits = told;
  }

  -- BEFORE THE ENTRY
  abbrev ticking : ℕ → RingCommit
  ticking clock = record no_turn { ticked = true; clock = clock }

  abbrev ticked_at : RingRead → ℕ → List TracedStep → View
  ticked_at read clock more = locked_at v.history v.attempt read (ticking clock) v.steps.rises more

  -- nothing was appended
  unmade : (answer : Commit) (read : RingRead) (clock : ℕ) (more : List TracedStep) (u : View) → u ≡ ticked_at read clock more
      → (Quits (known_of v o) (known_of (left n (freed (ticked_at read clock more))) o)
      → Commits good c n answer (known_of v o) (known_of (left n (freed (ticked_at read clock more))) o)) → IsDecided good c n answer v l u
  unmade answer read clock more u is told = subst (IsDecided good c n answer v l) (sym is) (decided answer v.history v.attempt read
      (ticking clock) v.steps.rises more i.unentered k.optimistic.unstored (λ e. absurd cc) (told (
      quits-left n v (freed (ticked_at read clock more)) o
      (record {
        carried = record {
          named = refl;
          base = refl;
          installs = refl;
          fence = refl;
          step_trace = (lock_freed ∷ more, refl);
          unlocked = refl;
          unwritten = k.optimistic.unwritten;
        };
        history = refl;
      })
      (let r = k.optimistic.rises in (omega arith, omega arith)) turn.has.revocable)))

  pub may-tick : HasTurn w
  may-tick = subst HasTurn (sym turn.is) (record { has = record { runs = record { phase = i.phase; algorithm = named; plain = k.optimistic.ungranted }; inside = k.inside }; taken = refl; unentered = refl })

  module _ (clock : ℕ) (u : View) (t : Tells ring_tick (FindsTick rule c) w clock u) where
    abbrev early : List TracedStep
    early = clock_found clock ∷ turn.more

    ticked : u ≡ ticked_at v.ring_read clock early
    ticked = t.2 ∙ ap (λ (y : View). view_after ring_tick t.0 y clock) turn.is

    pub decides-full : CLOCK_LIMIT ≤ clock → IsDecided good c n (commits.ClockFull clock) v l u
    decides-full high = unmade (commits.ClockFull clock) v.ring_read clock early u ticked (λ quits. (
      quits,
      ap asks_at_commit named,
      turn.has.wrote,
      finds-full clock v (left n (freed (ticked_at v.ring_read clock early))) o o high
          (found-left n Clock clock v (freed (ticked_at v.ring_read clock early)) o o (lock_freed ∷ early, refl, Load, (1, omega arith, refl))),
    ))

    -- THE CHECK
    pub may-check : CanCheck c l.start l.loaded u
    may-check = subst (CanCheck c l.start l.loaded) (sym ticked) (record {
      has = record { runs = record { phase = i.phase; algorithm = named; plain = k.optimistic.ungranted }; inside = k.inside };
      start_is = i.start;
      front_is = i.front;
      watched = k.loaded;
      not_quiescent = k.optimistic.not_quiescent;
      sole = λ one. (let a = k.sole one in let b = k.optimistic.rises in omega arith);
    })

    pub decides-conflict : n < c.callers → (cause : Cause) (x : View) → Fails good c cause l.loaded u x → IsDecided good c n (commits.Conflict cause) v l x
    decides-conflict low cause x f = unmade (commits.Conflict cause) f.read clock (f.more ++ early) x failed (λ quits. (
      quits,
      refuted c n ToCommit (known_of v o) (known_of (left n (freed (ticked_at f.read clock (f.more ++ early)))) o) l.loaded u.attempt.start
          f.clock (last ++ lock_freed ∷ []) f.loads early cause named (sym (ap (λ (z : View). z.attempt.start) ticked)) k.read
          (ap (λ (s : List TracedStep). last ++ lock_freed ∷ s) (append_assoc f.more early v.steps.step_trace)
          ∙ (sym (append_assoc last (lock_freed ∷ []) (f.more ++ (early ++ v.steps.step_trace)))
          ∙ ap (λ (m : List TracedStep). (last ++ lock_freed ∷ []) ++ (m ++ (early ++ v.steps.step_trace))) f.parts)) f.refutes,
      (let d = f.others in omega arith),
      turn.has.wrote,
    ))
      where
        last : List TracedStep
        last = last_steps n v.gate.holds v.gate.fence v.gate.algorithm

        failed : x ≡ ticked_at f.read clock (f.more ++ early)
        failed = f.is ∙ (ap (λ (y : View). record y { ring_read = f.read; steps = record y.steps { step_trace = f.more ++ y.steps.step_trace } }) ticked
            ∙ ap (λ (s : List TracedStep). record (ticked_at f.read clock []) { steps = record v.steps { step_trace = s } }) (sym (append_assoc f.more early v.steps.step_trace)))

    -- where it passes, the start is the clock
    module _ (start : ℕ) (x : View) (p : Checks good c (Ok start) l.loaded u x) where
      abbrev checked_at : List TracedStep → View
      checked_at more = locked_at (record v.history { seen = upto p.0.world.history start; front = start }) (record v.attempt { start = start }) p.0.read (ticking clock) v.steps.rises more

      passed : x ≡ checked_at (p.0.more ++ early)
      passed = p.0.is ∙ (ap (λ (y : View). passed_at p.0.world start y.gate p.0.read p.0.more y) ticked
          ∙ (λ j. record (checked_at []) {
            attempt = record v.attempt { start = start; reads = if k.settled j then record { at = v.ring_read.from; value = v.ring_read.value } ∷ v.attempt.reads else v.attempt.reads };
            steps = record v.steps { step_trace = sym (append_assoc p.0.more early v.steps.step_trace) j };
          }))

      start-is : start ≡ clock
      start-is = p.1 (ap (λ (y : View). y.lock.taken) ticked) (ap (λ (y : View). y.ring_commit.committed) ticked) (ap (λ (y : View). y.ring_commit.ticked) ticked) ∙ ap (λ (y : View). y.ring_commit.clock) ticked

      keeps : Keeps rule v.attempt.reads ws
      keeps =
          keeps-cells good c.words v.attempt.reads ws i.reads_inside
          (subst (λ (xs : List (ℕ × ℕ)). logs.Keeps good c.words (record { reads = items v.attempt.reads; writes = xs }))
          (attempt.written-is good c n l v has plain) (turn.has.keeps turn.has.wrote))

      pub may-enter : clock < CLOCK_LIMIT → CanEnter good c (clock + 1) l x
      may-enter under = subst (CanEnter good c (clock + 1) l) (sym passed) (record {
        turn = record { has = record { runs = record { phase = i.phase; algorithm = named; plain = k.optimistic.ungranted }; inside = p.0.inside }; taken = refl; unentered = refl };
        ticked = refl;
        unslotted = refl;
        checked = start-is;
        next = refl;
        limit = omega arith;
        settled = p.0.settled;
        not_quiescent = k.optimistic.not_quiescent;
        buffers = k.buffers;
        spared = λ a t. ap (λ f. fenced f a) i.spared.is ∙ k.buffers.apart a t;
        wrote = sym (attempt.wrote-is good c n l v has plain) ∙ turn.has.wrote;
        stored = k.stored;
        keeps = keeps;
      })

      grows : Grows (known_of v o) (known_of x o)
      grows = grows-trans (known_of v o) (known_of u o) (known_of x o)
          (subst (λ (y : View). Grows (known_of v o) (known_of y o)) (sym ticked) (grows-same (known_of v o) (known_of (ticked_at v.ring_read clock early) o) refl refl early refl refl refl refl refl))
          (passes-grows good c u.gate start u x p.0 o o refl refl refl)

      -- BEHIND THE ENTRY
      module _ (y : View) (e : Enters good c n (clock + 1) l x y) where
        abbrev mine : Entry
        mine = record { time = clock + 1; caller = n; number = length v.history.made; reads = v.attempt.reads; writes = ws }

        abbrev behind : Bool → List Cell → List TracedStep → View
        behind finished back more =
            locked_at (record v.history { made = mine ∷ v.history.made; seen = mine ∷ e.world.history; front = clock + 1 })
            (record { start = 0; reads = []; stores = []; entered = v.attempt.entered }) no_read
            (record { slotted = 0; writes = ws; ticked = true; clock = clock + 1; committed = true; finished = finished; back = back }) (v.steps.rises + 1) more

        entered : y ≡ behind false ws (e.more ++ (p.0.more ++ early))
        entered = e.is ∙ (ap (entered_at good c n (clock + 1) e.world.history l e.more) passed
            ∙ ap (λ (s : List TracedStep). record (behind false ws []) { steps = record v.steps { rises = v.steps.rises + 1; step_trace = s } }) (sym (append_assoc e.more (p.0.more ++ early) v.steps.step_trace)))

        pub may-write_back : CanWriteBack c l.writes y
        may-write_back = subst (CanWriteBack c l.writes) (sym entered) (record {
          entered = record { runs = record { phase = i.phase; algorithm = named; plain = k.optimistic.ungranted }; committed = refl; unfinished = refl };
          once = k.buffers.once;
          inside = k.buffers.inside;
          back = refl;
        })

        -- the commit: the entry was made after a check that passed
        commits-at : (more : List TracedStep) → CommitsAt good c n (clock + 1) (known_of v o) (known_of (left n (freed (behind true [] more))) o)
        commits-at more = let rose = grows.front_rose in record {
          ends = record {
            idle = (refl, refl, refl, refl, unlocked-of v.gate.algorithm false v.tml.writer refl k.optimistic.unwritten);
            grows = record {
              later = grows.later ++ made ∷ [];
              is =
                  ap (λ (h : List Entry). public_history h ++ made ∷ []) (sym e.shown.seen)
                  ∙ (ap (λ (h : List public.Entry). h ++ made ∷ []) grows.is
                  ∙ append_assoc (public_history v.history.seen) grows.later (made ∷ []));
              ascending = ascending-append v.history.front x.history.front grows.later (made ∷ []) grows.ascending grows.up_to rose (omega (arith, front-is), tt);
              up_to = within-append x.history.front (clock + 1) grows.later (made ∷ []) grows.up_to (omega (arith, front-is)) (omega arith, tt);
              front_rose = omega (arith, front-is);
              more = last ++ lock_freed ∷ more;
              step_trace = sym (append_assoc last (lock_freed ∷ more) v.steps.step_trace);
              reads_limit = refl;
              writes_limit = refl;
              marks_limit = refl;
              fenced = refl;
            };
            alg = refl;
            base = refl;
            installs = refl;
          };
          rises = (let a = k.optimistic.rises in let d : entry_rise v.gate.algorithm ≡ 1 = ap entry_rise named in omega arith);
          wrote = turn.has.wrote;
          made = ap (λ (m : public.Entry). public_history v.history.made ++ m ∷ []) as_entry;
          before = public_history e.world.history;
          seen = ap (λ (m : public.Entry). public_history e.world.history ++ m ∷ []) as_entry;
          legal = legal-public good c (mine ∷ e.world.history) (clock + 1 + 1) shown.below shown.legal;
          later = (let a = i.start in let d = i.front in omega (arith, front-is));
          above = omega (arith, front-is);
          front = refl;
        }
          where
            made : public.Entry
            made = public_entry mine

            as_entry : made ≡ entry (clock + 1) n (length (public_history v.history.made)) (known_of v o).log
            as_entry = λ j. record { time = clock + 1; caller = n; number = sym (length-public_history v.history.made) j; reads = items v.attempt.reads; writes = sym (attempt.written-is good c n l v has plain) j }

            shown : RingEnters rule c n (clock + 1) e.world (writing good c l (checked_at (p.0.more ++ early))) (clock + 1)
            shown = subst (λ (z : View). RingEnters rule c n (clock + 1) e.world (writing good c l z) (clock + 1)) passed e.shown

            front-is : x.history.front ≡ clock
            front-is = ap (λ (z : View). z.history.front) passed ∙ start-is

            last : List TracedStep
            last = last_steps n v.gate.holds v.gate.fence v.gate.algorithm

        module _ (z : View) (b : WritesBack y z) where
          written : z ≡ behind false [] (b.more ++ (e.more ++ (p.0.more ++ early)))
          written = b.is ∙ (ap (λ (q : View). record q { ring_commit = record q.ring_commit { back = [] }; steps = record q.steps { step_trace = b.more ++ q.steps.step_trace } }) entered
              ∙ ap
              (λ (s : List TracedStep).
              record (behind false [] []) { steps = record v.steps { rises = v.steps.rises + 1; step_trace = s } })
              (sym (append_assoc b.more (e.more ++ (p.0.more ++ early)) v.steps.step_trace)))

          pub may-done : CanRingDone (clock + 1) z
          may-done = subst (CanRingDone (clock + 1)) (sym written) (record {
            entered = record { runs = record { phase = i.phase; algorithm = named; plain = k.optimistic.ungranted }; committed = refl; unfinished = refl };
            time = refl;
            written = λ a. refl;
            free = k.optimistic.not_quiescent;
          })

          pub decides-committed : (q : View) → Tells (ring_done (clock + 1)) Nothing z (clock + 1) q → IsDecided good c n (commits.Committed (clock + 1)) v l q
          decides-committed q d = let more : List TracedStep = done_stored (clock + 1) ∷ (b.more ++ (e.more ++ (p.0.more ++ early))) in
              subst (IsDecided good c n (commits.Committed (clock + 1)) v l) (sym (d.2 ∙ ap (λ (y : View). view_after (ring_done (clock + 1)) d.0 y (clock + 1)) written))
              (decided (commits.Committed (clock + 1)) (behind true [] more).history (behind true [] more).attempt no_read
              (behind true [] more).ring_commit (v.steps.rises + 1) more i.unentered refl (λ f. refl) (commits-at more))
