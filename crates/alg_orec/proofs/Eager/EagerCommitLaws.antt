-- What the ends of an attempt of OrecEager come to: its commit, and what cancels it.
use Rattle.std.proofs.Common.{ℕ, ◌≡◌, ◌≢◌, ◌<◌, ◌≤◌, ◌+◌, List, [], ◌∷◌, ◌++◌, length, Bool, true, false, refl, sym, ap, ◌∙◌, arith, subst, inl, inr, append_assoc, ⊎_elim}
use Rattle.std.specs.Prelude.{◌⊎◌, ◌==◌, ◌||◌, not, reverse, if◌then◌else◌, Result, Ok, Err}
use Rattle.std.proofs.lemmas.Bool.Decides.{nat_tests}
use Rattle.stm_model.specs.Algorithms.{has_records, asks_at_commit, entry_rise, quit_rise}
use Rattle.stm_model.specs.declared.alg.Alg.{Alg}
use Rattle.stm_model.specs.declared.alg.Alg.TheVariants.{OrecEager}
use Rattle.stm_model.specs.declared.config.Config.{Config}
use Rattle.stm_model.specs.declared.config.TheConstants.{CLOCK_LIMIT}
use Rattle.stm_model.specs.declared.stop.Cause.TheVariants as causes
use Rattle.stm_model.specs.Histories as public
use Rattle.stm_model.specs.Logs as logs
use Rattle.stm_model.specs.Logs.{Log}
use Rattle.stm_model.specs.Memories.{item_at, is_empty}
use Rattle.rule_base.specs.declared.entries.Cell.{Cell}
use Rattle.rule_base.specs.declared.entries.Entry.{Entry}
use Rattle.rule_base.specs.declared.layout.At.TheVariants.{Clock, Record}
use Rattle.rule_base.specs.declared.views.Act.TheVariants.{Load}
use Rattle.rule_base.specs.declared.views.TracedStep.{TracedStep}
use Rattle.rule_base.specs.declared.views.Validation.{Validation}
use Rattle.rule_base.specs.declared.views.View.{View}
use Rattle.rule_base.specs.Bridge.{items, of_words, public_entry, public_history}
use Rattle.rule_base.specs.Lemmas.BridgeLemmas.{item-some, keeps-cells, legal-public, length-public_history}
use Rattle.rule_base.specs.History.{over, touches, word_now, Below, Explains, Legal}
use Rattle.rule_base.specs.Own.{Own}
use Rattle.rule_base.specs.Ranks.{home_of}
use Rattle.rule_base.specs.StepKinds.{Tells}
use Rattle.rule_base.specs.World.{World}
use Rattle.rule_orec.specs.OrecOwning.{entered_at}
use Rattle.rule_orec.specs.OrecReading.{no_check}
use Rattle.rule_orec.specs.OrecSteps.{HasOrec, orec_entry, orec_limit, orec_commit, CanOrecCommit}
use Rattle.stm_gate.specs.Leaving.{CanLeave, left}
use Rattle.stm_gate.specs.LeavingLaws.{IsUnmade, unmade-refl, ended-left, step_trace-left, finds-full, found-later}
use Rattle.stm_gate.specs.Logging.{item-touched}
use Rattle.stm_gate.specs.Opacity.{opaque-inside, later-seen}
use Rattle.stm_gate.proofs.Told.{running-by}
use Rattle.stm_rule.specs.declared.local.Local.{Local}
use Rattle.stm_rule.specs.Attempts.{own_of, IsInside, IsOutside, HasRoom, Stands, StandsBy}
use Rattle.stm_rule.specs.Attempts as attempts
use Rattle.stm_rule.specs.EagerKept.{IsEager}
use Rattle.alg_orec.proofs.OthersLaws.{clock-others}
use Rattle.alg_orec.specs.RecordFindings.{FindsClock, FindsCommit, Enters}
use Rattle.stm_answers.specs.declared.answers.Cancel.TheVariants.{Cancelled}
use Rattle.stm_answers.specs.declared.answers.Commit.TheVariants as commits
use Rattle.stm_answers.specs.Answers.{KeepsRule, Commits, CommitsAt, Cancels, EndsAt, entry}
use Rattle.stm_answers.specs.Causes.{Conflicts, IsStaleAt, has_item, is_some}
use Rattle.stm_answers.specs.Causes.Asked.{ToCommit}
use Rattle.stm_answers.specs.Evidence.{Found}
use Rattle.stm_answers.specs.CallerState.{Grows, known_of, granted_under, written_under, wrote, has_written}
use Rattle.stm_answers.specs.CallerStateLaws.{grows-same}
use Rattle.stm_logs.specs.LogStates.{LogState}
use Rattle.alg_orec.proofs.AgainLaws as again
use Rattle.alg_orec.proofs.AgainLaws.{tried}
use Rattle.alg_orec.proofs.CommitOpening.{Unpromoted}
use Rattle.alg_orec.proofs.Eager.EagerProving as proving
use Rattle.alg_orec.proofs.Eager.EagerProving.{eager-of}
use Rattle.alg_orec.proofs.LoadLaws.{untouched-loads}
use Rattle.alg_orec.proofs.Proving.{Leads, quits-leads, full-leads, commits-leads, ends-own, with_commit}
use Rattle.alg_orec.specs.Committing.{readied}
use Rattle.alg_orec.specs.EagerCommitting.{CanCommitPlaced, IsRevalidated, IsOverrun, Revalidates}
use Rattle.alg_orec.specs.EagerEnding.{CanAbortEager, AbortsEager}
use Rattle.alg_orec.specs.Locking.{OwesNothing, holding_still, ReleasesAll}
use Rattle.alg_orec.specs.Validating.{load_of, OnlyLoads, CanValidate, HasVersions, IsFoundStale, IsHeldNewer, Refuses, IsValid, Validates}
use Rattle.stm_gate.specs.InnerLaws.{unlocked-of}

module _ {good : List ℕ → Type 0} {c : Config} {n : ℕ} {l : Local} {v : View} (p : Unpromoted good c n l v) where
  pub k : IsEager c l v
  k = eager-of good c n l v p.inside (sym p.inside.named ∙ p.eager) p.plain

  has-orec : HasOrec v
  has-orec = record { runs = record { phase = p.inside.phase; algorithm = ap has_records p.eager; plain = k.optimistic.ungranted }; inside = k.inside }

  versions : HasVersions l
  versions r version e = let f = item-some v.owned.held r version (sym (ap (λ (ws : List (ℕ × ℕ)). item_at r ws) k.locks) ∙ e) in let b = k.below r f.0 in let s = f.1 in omega arith

  -- it may be taken back after steps that changed nothing of it
  pub may-take : (m : Local) (check : Validation) (more : List TracedStep) → m.locks ≡ l.locks → m.undo ≡ l.undo
      → CanAbortEager c m (record v { check = check; steps = record v.steps { step_trace = more ++ v.steps.step_trace } })
  may-take m check more locks undo = record {
    gives = record {
      opens = record { has = record { runs = record { phase = p.inside.phase; algorithm = ap has_records p.eager; plain = k.optimistic.ungranted }; inside = k.inside }; open_yet = k.open_yet };
      repaid = k.repaid;
      undo = ap (λ (q : LogState). q.items) undo ∙ k.undo;
      undoable = k.undoable;
      words = k.old_words;
      locks = ap (λ (q : LogState). q.items) locks ∙ k.locks;
      places = k.places;
      below = k.below;
      earlier = λ quiescent. absurd (let f : true ≡ false = sym quiescent ∙ k.optimistic.not_quiescent in cc);
    };
    unlocked = k.optimistic.unlocked;
    unfixed = k.optimistic.unfixed;
    unwritten = k.optimistic.unwritten;
    uncommitted = k.optimistic.uncommitted;
    unstored = k.optimistic.unstored;
    unentered = p.inside.unentered;
  }

  pub may-take-here : CanAbortEager c l v
  may-take-here = may-take l v.check [] refl refl

  pub clean : (o : Own) → has_written (known_of v o) ≡ false → v.owned.held ≡ []
  clean o = proving.never-held c l v k p.eager v o refl refl

  -- CANCEL
  pub tells-cancelled : (z : View) (o : Own) → AbortsEager n v z → Cancels good c n (Cancelled l.start) (known_of v o) (known_of z (with_commit false o))
  tells-cancelled z o g = (
    record { ends = ends-own v z o (with_commit false o) refl refl refl q.ends; made = q.made; is_start = q.is_start; seen = q.seen; kept = q.kept; sees = q.sees },
    (let a = rose.0 in let e = rises in omega arith),
    (let a = rose.1 in let e = rises in omega arith),
    proving.revocable c l v k p.eager v o refl,
  )
    where
      q : EndsAt good c n l.start (known_of v o) (known_of z o)
      q = subst (λ (y : View). EndsAt good c n l.start (known_of v o) (known_of y o)) (sym g.is) (ended-left n good c l.start v g.before o g.unmade (sym p.inside.start) (opaque-inside good c n l v o p.inside))

      rises : z.steps.rises ≡ g.before.steps.rises
      rises = ap (λ (y : View). y.steps.rises) g.is

      rose : (v.steps.rises_at_begin ≤ g.before.steps.rises) × (g.before.steps.rises ≤ v.steps.rises_at_begin + quit_rise v.gate.algorithm (has_written (known_of v o)))
      rose = proving.rose n v v z o p.eager k.optimistic.ungranted k.optimistic.rises refl (clean o) g

  -- where it was rolled back and wrote nothing else
  pub tells-unwritten : l.wrote ≡ false → (z : View) (o : Own) → AbortsEager n v z → Commits good c n (commits.ReadOnly l.start) (known_of v o) (known_of z (with_commit false o))
  tells-unwritten unwritten z o g = let t = tells-cancelled z o g in (t.0, (t.1, t.2), proving.wrote-known c l v k p.eager v o refl refl ∙ unwritten)

  pub may-commit : l.wrote ≡ true → Stands good c n l v → CanCommitPlaced good c n l v
  may-commit wrote stands =
      record {
        inside = p.inside;
        eager = sym p.inside.named ∙ p.eager;
        plain = p.plain;
        wrote = wrote;
        running = running-by good c n l v p.inside.phase stands;
        holds = stands.holds;
        lengths = stands.lengths;
      }

  -- READ ONLY
  module _ (unwritten : l.wrote ≡ false) (handed : v.owned.held ≡ []) where
    pub may-leave : CanLeave v
    may-leave = record {
      phase = p.inside.phase;
      unlocked = k.optimistic.unlocked;
      unfixed = k.optimistic.unfixed;
      disowned = handed;
      unwritten = k.optimistic.unwritten;
      uncommitted = k.optimistic.uncommitted;
      ungranted = λ e. k.optimistic.ungranted;
      plain = λ e. p.inside.unentered;
      unstored = λ e. k.optimistic.unstored;
      marked = λ e q. absurd (let f : true ≡ false = sym q ∙ p.inside.unentered in cc);
    }

    pub tells-read_only : (z : View) (o : Own) → z ≡ left n v → Commits good c n (commits.ReadOnly l.start) (known_of v o) (known_of z o)
    tells-read_only z o is = subst (λ (y : View). Commits good c n (commits.ReadOnly l.start) (known_of v o) (known_of y o)) (sym is) (
      ended-left n good c l.start v v o (unmade-refl v k.optimistic.unlocked k.optimistic.unwritten) (sym p.inside.start) (opaque-inside good c n l v o p.inside),
      (let r = k.optimistic.rises in omega arith, let r = k.optimistic.rises in omega arith),
      proving.wrote-known c l v k p.eager v o refl refl ∙ unwritten,
    )

-- where the start changed alone, what contracts see is the same but for whether it commits
pub own-moved : (l m : Local) → m ≡ record l { start = m.start } → (P : Own → Type 0) → P (with_commit false (own_of l)) → P (own_of (attempts.ended (record m { committing = false })))
own-moved l m is P p = subst (λ (q : Local). P (own_of (record q { committing = false }))) (sym is) p

pub own-again : (l m : Local) → m ≡ record l { start = m.start } → (P : Own → Type 0) → P (with_commit true (own_of l)) → P (own_of (record m { committing = true }))
own-again l m is P p = subst (λ (q : Local). P (own_of (record q { committing = true }))) (sym is) p

-- an attempt that ended leaves a descriptor that stands
pub ended-stands : (good : List ℕ → Type 0) (c : Config) (n : ℕ) (q : Local) (z : View) → HasRoom q → IsOutside z → Stands good c n (attempts.ended q) z
ended-stands good c n q z lengths out = record { holds = sym out.reopened; lengths = lengths; by = out }

-- what stands of the attempt, at the call
module _ {good : List ℕ → Type 0} {c : Config} {n : ℕ} {l : Local} {v : View} (can : CanCommitPlaced good c n l v) where
  abbrev rule : (ℕ → ℕ) → Type 0
  rule = of_words good c.words

  i : IsInside good c n l v
  i = can.inside

  eager : v.gate.algorithm ≡ OrecEager
  eager = can.inside.named ∙ can.eager

  here : Unpromoted good c n l v
  here = record { inside = i; eager = eager; plain = can.plain }

  kept : IsEager c l v
  kept = k here

  wrote_is : (o : Own) → wrote (known_of v o) ≡ true
  wrote_is o = proving.wrote-known c l v kept eager v o refl refl ∙ can.wrote

  -- THE VALIDATION
  pub may-validate : CanValidate c l v
  may-validate = record {
    opens = record { has = has-orec here; open_yet = kept.open_yet };
    start = i.start;
    reads = kept.reads;
    locks = kept.locks;
    versions = versions here;
    level = λ one. i.start ∙ (kept.sole one ∙ ap (λ (q : ℕ). c.clock + q) (sym kept.optimistic.rises));
  }

  -- THE LIMIT
  pub may-limit : HasOrec v
  may-limit = has-orec here

  pub may-take-full : (b : Bool) (clock : ℕ) (u : View) → Tells orec_limit (FindsClock c) v clock u → CanAbortEager c (record l { committing = b }) u
  may-take-full b clock u t = subst (CanAbortEager c (record l { committing = b })) (sym t.2) (may-take here (record l { committing = b }) v.check (load_of Clock clock ∷ []) refl refl)

  pub tells-full : (o : Own) (clock : ℕ) (u z : View) → CLOCK_LIMIT ≤ l.start → Tells orec_limit (FindsClock c) v clock u
      → AbortsEager n u z → Commits good c n (commits.ClockFull clock) (known_of v o) (known_of z (with_commit false o))
  tells-full o clock u z high t g = let f = proving.ended-by n u z g in (
    proving.quits-back n v u z o eager kept.optimistic.ungranted kept.optimistic.rises (ap (λ (y : View). y.steps.rises) t.2) (λ e. ap (λ (y : View). y.owned.held) t.2 ∙ clean here o e) g
        (subst (IsUnmade v) (sym t.2)
        (record {
          carried = record {
            named = refl;
            base = refl;
            installs = refl;
            fence = refl;
            step_trace = (load_of Clock clock ∷ [], refl);
            unlocked = kept.optimistic.unlocked;
            unwritten = kept.optimistic.unwritten;
          };
          history = refl;
        })),
    ap asks_at_commit eager,
    wrote_is o,
    finds-full clock v z o (with_commit false o) (let a = t.1.started in let b = i.start in omega arith)
        (found-later Clock clock (known_of v o) (known_of u o) (known_of z (with_commit false o)) (load_of Clock clock ∷ [], ap (λ (y : View). y.steps.step_trace) t.2, Load, (0, omega arith, refl)) f.0 f.1),
  )

  -- THE ENTRY
  abbrev pub ws : List Cell
  ws = v.owned.in_place

  written_is : (o : Own) → written_under v.gate.algorithm v.gate.granted v o ≡ items ws
  written_is o = proving.written c l v kept eager v o refl refl ∙ kept.writes

  placed-some : ws ≢ []
  placed-some none = let e : is_empty l.writes.items ≡ true = ap is_empty (kept.writes ∙ ap items none) in let f : false ≡ true = sym (ap not e) ∙ (sym kept.wrote ∙ can.wrote) in absurd cc

  pub may-enter : (o : Own) → l.start < CLOCK_LIMIT → KeepsRule good c n (known_of v o) → CanOrecCommit (home_of c) rule c.words l.start ws [] v
  may-enter o under keeps = record {
    has = may-limit;
    not_quiescent = kept.optimistic.not_quiescent;
    from = sym i.start;
    limit = omega arith;
    ready = record {
      open_yet = kept.open_yet;
      unraised = kept.unraised;
      covered = λ a t. kept.covered a (kept.undoable a t);
      backed = λ a t. absurd cc;
      backs = λ a d. refl;
      there = λ a d t. refl;
    };
    wrote = placed-some;
    writes_inside = kept.words;
    writes_small = kept.small;
    keeps = keeps-cells good c.words v.attempt.reads ws i.reads_inside (subst (λ (xs : List (ℕ × ℕ)). logs.Keeps good c.words (record { reads = items v.attempt.reads; writes = xs })) (written_is o) (keeps (wrote_is o)));
  }

  -- the view after the exchange, by whether it took
  abbrev exchanged : World → ℕ → Bool → View
  exchanged w now b = record v {
    history = if b then record v.history { made = orec_entry n (l.start + 1) ws v ∷ v.history.made; seen = orec_entry n (l.start + 1) ws v ∷ w.history; front = l.start + 1 } else v.history;
    steps = record v.steps { rises = if b then v.steps.rises + 1 else v.steps.rises; step_trace = tried l.start now ∷ v.steps.step_trace };
    owned = if b then entered_at (l.start + 1) [] v.owned else v.owned;
  }

  exchange_path : (now : ℕ) (u : View) (b : Bool) → (now == l.start) ≡ b → (t : Tells (orec_commit n l.start ws []) (FindsCommit rule c n l.start ws) v now u) → u ≡ exchanged t.0 now b
  exchange_path now u b s t = t.2 ∙ (by (now == l.start) ∙ ap (exchanged t.0 now) s)
    where
      by : (d : Bool) → record v {
        history = if d then record v.history { made = orec_entry n (l.start + 1) ws v ∷ v.history.made; seen = orec_entry n (l.start + 1) ws v ∷ t.0.history; front = l.start + 1 } else v.history;
        steps = record (if d then record v.steps { rises = v.steps.rises + 1 } else v.steps) { step_trace = tried l.start now ∷ (if d then record v.steps { rises = v.steps.rises + 1 } else v.steps).step_trace };
        owned = if d then entered_at (l.start + 1) [] v.owned else v.owned;
      } ≡ exchanged t.0 now d
      by true = refl
      by false = refl

  -- it didn't: the attempt stands as before
  pub refused_path : (now : ℕ) (u : View) → now ≢ l.start → Tells (orec_commit n l.start ws []) (FindsCommit rule c n l.start ws) v now u
      → u ≡ record v { steps = record v.steps { step_trace = tried l.start now ∷ v.steps.step_trace } }
  refused_path now u apart t = exchange_path now u false (grind (arith, nat_tests)) t

  pub refused-others : n < c.callers → (now : ℕ) (u : View) → now ≢ l.start → Tells (orec_commit n l.start ws []) (FindsCommit rule c n l.start ws) v now u → 1 < c.callers
  refused-others low now u apart t = clock-others c n low t.0 v now t.1.clock (λ one. let a = kept.sole one in let b = i.start in let d = kept.optimistic.rises in omega arith) (λ s. apart (s ∙ i.start))

  -- it did: the entry is made, and the records are given back
  module _ (now : ℕ) (u : View) (same : now ≡ l.start) (t : Tells (orec_commit n l.start ws []) (FindsCommit rule c n l.start ws) v now u) where
    path : u ≡ exchanged t.0 now true
    path = exchange_path now u true (grind (arith, nat_tests)) t

    pub may-release : OwesNothing c (l.start + 1) l u
    may-release = subst (OwesNothing c (l.start + 1) l) (sym path) (record {
      has = record { runs = record { phase = i.phase; algorithm = ap has_records eager; plain = kept.optimistic.ungranted }; inside = kept.inside };
      committed = refl;
      time = refl;
      repaid = refl;
      undone = refl;
      locks = kept.locks;
      places = kept.places;
    })

    module _ (y : View) (q : ReleasesAll u y) where
      abbrev gives : View
      gives = holding_still (exchanged t.0 now true) [] q.more

      y_path : y ≡ gives
      y_path = q.is ∙ ap (λ (x : View). holding_still x [] q.more) path

      pub may-end : CanLeave y
      may-end = subst CanLeave (sym y_path) (record {
        phase = i.phase;
        unlocked = kept.optimistic.unlocked;
        unfixed = kept.optimistic.unfixed;
        disowned = refl;
        unwritten = kept.optimistic.unwritten;
        uncommitted = kept.optimistic.uncommitted;
        ungranted = λ e. kept.optimistic.ungranted;
        plain = λ e. i.unentered;
        unstored = λ e. kept.optimistic.unstored;
        marked = λ e d. absurd (let f : true ≡ false = sym d ∙ i.unentered in cc);
      })

      pub gate-end : y.gate ≡ v.gate
      gate-end = ap (λ (x : View). x.gate) y_path

      pub tells-committed : (o : Own) (z : View) → z ≡ left n y → CommitsAt good c n (l.start + 1) (known_of v o) (known_of z (with_commit false o))
      tells-committed o z is = subst (λ (x : View). CommitsAt good c n (l.start + 1) (known_of v o) (known_of x (with_commit false o))) (sym (is ∙ ap (left n) y_path)) (record {
        ends =
            record {
              idle = (
                refl,
                refl,
                refl,
                refl,
                unlocked-of v.gate.algorithm v.lock.taken v.tml.writer kept.optimistic.unlocked kept.optimistic.unwritten,
              );
              grows = grown;
              alg = refl;
              base = refl;
              installs = refl;
            };
        rises = (let f = kept.optimistic.rises in let d : entry_rise v.gate.algorithm ≡ 1 = ap entry_rise eager in omega arith);
        wrote = wrote_is o;
        made = ap (λ (x : public.Entry). public_history v.history.made ++ x ∷ []) as_entry;
        before = public_history t.0.history;
        seen = ap (λ (x : public.Entry). public_history t.0.history ++ x ∷ []) as_entry;
        legal = legal-public good c (made ∷ t.0.history) (l.start + 1 + 1) enters.below enters.legal;
        later = (let s = i.start in omega arith);
        above = (let f = i.front in omega arith);
        front = refl;
      })
        where
          made : Entry
          made = orec_entry n (l.start + 1) ws v

          enters : Enters rule c made t.0 v
          enters = t.1.enters same

          as_entry : public_entry made ≡ entry (l.start + 1) n (length (public_history v.history.made)) (known_of v o).log
          as_entry = λ j. record { time = l.start + 1; caller = n; number = sym (length-public_history v.history.made) j; reads = items v.attempt.reads; writes = sym (written_is o) j }

          step_trace : (more : List TracedStep) × ((left n gives).steps.step_trace ≡ more ++ gives.steps.step_trace)
          step_trace =
              step_trace-left n gives gives
              (record {
                named = refl;
                base = refl;
                installs = refl;
                fence = refl;
                step_trace = ([], refl);
                unlocked = kept.optimistic.unlocked;
                unwritten = kept.optimistic.unwritten;
              })

          grown : Grows (known_of v o) (known_of (left n gives) (with_commit false o))
          grown = record {
            later = public_entry made ∷ [];
            is = ap (λ (h : List public.Entry). h ++ public_entry made ∷ []) (sym (ap public_history enters.seen));
            ascending = ((let a = i.front in omega arith), tt);
            up_to = (omega arith, tt);
            front_rose = (let a = i.front in omega arith);
            more = step_trace.0 ++ (q.more ++ tried l.start now ∷ []);
            step_trace =
                step_trace.1
                ∙ (ap (λ (s : List TracedStep). step_trace.0 ++ s) (sym (append_assoc q.more (tried l.start now ∷ []) v.steps.step_trace))
                ∙ sym (append_assoc step_trace.0 (q.more ++ tried l.start now ∷ []) v.steps.step_trace));
            reads_limit = refl;
            writes_limit = refl;
            marks_limit = refl;
            fenced = refl;
          }

  -- the attempt stands where its reads are valid at a start, in the middle of its commit or not
  module _ (start : ℕ) (mid : Bool) (seen : List Entry) (loaded : Bool) (check : Validation) (more : List TracedStep) where
    abbrev q : Local
    q = record l { start = start; committing = mid }

    abbrev y : View
    y = readied v seen start v.owned.held loaded check more

    stays-at : Legal rule c seen → Below seen (start + 1) → Explains (word_now seen) v.attempt.reads
        → ((r : ℕ) → touches v.owned.held r ≡ true → over v.owned.held r 0 ≤ start)
        → (c.callers ≡ 1 → start ≡ c.clock + v.steps.rises_at_begin) → IsInside good c n q y
    stays-at legal below sees olds sole = record {
      phase = i.phase;
      named = i.named;
      disowned = i.disowned;
      unentered = i.unentered;
      start = refl;
      front = refl;
      legal = legal;
      below = below;
      sees = sees;
      reads_inside = i.reads_inside;
      looked = λ e. let h = i.looked e in record { low = h.low; seen = h.seen; unseen = h.unseen };
      granted = i.granted;
      steady =
          λ e.
          absurd (let f : (not (asks_at_commit OrecEager) || false) ≡ true = subst
          (λ (b : Bool). (not (asks_at_commit OrecEager) || b) ≡ true) can.plain
          (subst (λ (a : Alg). (not (asks_at_commit a) || l.granted) ≡ true) can.eager e) in
          cc);
      spared = record { is = i.spared.is; fits = i.spared.fits };
      keeps = subst (λ (a : Alg). attempts.Keeps c a l.granted q y) (sym can.eager) (subst (λ (b : Bool). attempts.Keeps c OrecEager b q y) (sym can.plain) (record {
        optimistic =
            record {
              unlocked = kept.optimistic.unlocked;
              unfixed = kept.optimistic.unfixed;
              unwritten = kept.optimistic.unwritten;
              uncommitted = kept.optimistic.uncommitted;
              ungranted = kept.optimistic.ungranted;
              not_quiescent = kept.optimistic.not_quiescent;
              unstored = kept.optimistic.unstored;
              rises = kept.optimistic.rises;
            };
        inside = kept.inside;
        eager = kept.eager;
        open_yet = kept.open_yet;
        unraised = kept.unraised;
        repaid = kept.repaid;
        reads = kept.reads;
        locks = kept.locks;
        writes = kept.writes;
        undo = kept.undo;
        wrote = kept.wrote;
        undoable = kept.undoable;
        words = kept.words;
        small = kept.small;
        old_words = kept.old_words;
        covered = kept.covered;
        shorter = kept.shorter;
        most = kept.most;
        few = kept.few;
        places = kept.places;
        olds = olds;
        below = kept.below;
        committing = λ e. can.wrote;
        marked = kept.marked;
        sole = sole;
      }));
    }

  -- AGAIN: it is in the middle
  pub stays-on : (more : List TracedStep) → IsInside good c n (record l { committing = true }) (record v { steps = record v.steps { step_trace = more ++ v.steps.step_trace } })
  stays-on more =
      subst (IsInside good c n (record l { committing = true })) (λ j.
      record v {
        history = record v.history { front = sym i.front j };
        attempt = record v.attempt { start = sym i.start j };
        steps = record v.steps { step_trace = more ++ v.steps.step_trace };
      })
      (stays-at l.start true v.history.seen v.sample.loaded v.check more i.legal i.below i.sees kept.olds kept.sole)

  -- THE VALIDATION: it wasn't asked for
  pub revalidates-none : l.committing ≡ false → IsRevalidated good c n l v l v
  revalidates-none quiet = record {
    local = refl;
    seen = v.history.seen;
    loaded = v.sample.loaded;
    check = v.check;
    more = [];
    is = λ j. record v { history = record v.history { front = i.front j }; attempt = record v.attempt { start = i.start j } };
    stays = i;
    grows = λ p. grows-same (known_of v p) (known_of v p) refl refl [] refl refl refl refl refl;
    start = inl refl;
    again = λ e. absurd (let f : true ≡ false = sym e ∙ quiet in cc);
  }

  -- or the reads are valid
  pub revalidates-valid : l.committing ≡ true → (m : Local) (w : View) → IsValid c n rule l v m w → IsRevalidated good c n l v m w
  revalidates-valid mid m w h = record {
    local = h.local;
    seen = h.history;
    loaded = false;
    check = no_check;
    more = h.more;
    is = h.is;
    stays = subst (λ (z : View). IsInside good c n m z) (sym h.is) (subst (λ (d : Local). IsInside good c n d y) (sym h.local) stays);
    grows = λ p. subst (λ (z : View). Grows (known_of v p) (known_of z p)) (sym h.is) (grown p);
    start = inr (found, mid);
    again = λ e. found;
  }
    where
      y : View
      y = readied v h.history m.start v.owned.held false no_check h.more

      found : (p : Own) → Found Clock m.start (known_of v p) (known_of w p)
      found p = (h.more, ap (λ (z : View). z.steps.step_trace) h.is, Load, h.found)

      grown : (p : Own) → Grows (known_of v p) (known_of y p)
      grown p = let d = later-seen h.history v.history.front m.start h.moves.below h.moves.front in record {
        later = d.0;
        is = subst (λ (hs : List Entry). public_history h.history ≡ public_history hs ++ d.0) (sym h.moves.seen) d.1;
        ascending = d.2;
        up_to = d.3;
        front_rose = h.moves.front;
        more = h.more;
        step_trace = refl;
        reads_limit = refl;
        writes_limit = refl;
        marks_limit = refl;
        fenced = refl;
      }

      stays : IsInside good c n (record l { start = m.start }) y
      stays = stays-at m.start l.committing h.history false no_check h.more h.moves.legal h.moves.below h.moves.sees h.olds (λ one. h.sole one ∙ ap (λ (t : ℕ). c.clock + t) kept.optimistic.rises)

  -- or one isn't
  pub revalidates-stale : l.committing ≡ true → (cause : causes.the_data) (m : Local) (w : View) → m ≡ l → Refuses c n cause v w → IsOverrun good c n cause l v m w
  revalidates-stale mid (causes.Clock had now) m w same h = absurd h
  revalidates-stale mid (causes.Record index word start) m w same h = record {
    local = same;
    check = w.check;
    more = h.more;
    is = h.is;
    conflicts = λ p q same_mid. subst (λ (z : View). Conflicts c n ToCommit (causes.Record index word start) (known_of v p) (known_of z q)) (sym h.is) (told p q (same_mid ∙ mid) h.why);
    others = many h.why;
  }
    where
      y : View
      y = record v { check = w.check; steps = record v.steps { step_trace = h.more ++ v.steps.step_trace } }

      mine : IsHeldNewer c n index word start v → ⊥
      mine f = let old = kept.olds index f.held in let s = h.start in let b = i.start in let late = f.newer in absurd (omega arith)

      many : IsFoundStale c n index word start h.more v ⊎ IsHeldNewer c n index word start v → 1 < c.callers
      many (inl f) = f.others
      many (inr f) = absurd (mine f)

      told : (p q : Own) → p.committing ≡ true → IsFoundStale c n index word start h.more v ⊎ IsHeldNewer c n index word start v → Conflicts c n ToCommit (causes.Record index word start) (known_of v p) (known_of y q)
      told p q owed (inr f) = absurd (mine f)
      told p q owed (inl f) = (
        ap has_records eager,
        h.start,
        record { early = f.early; act = Load; late = []; step_trace = ap (λ (s : List TracedStep). s ++ v.steps.step_trace) f.last; untouched = untouched-loads (Record index) f.early (early f.last) },
        inr (inl owed, (h.a, h.home, read), subst (λ (s : ℕ). IsStaleAt c n s word) h.start f.stale),
      )
        where
          read : has_item h.a (items v.attempt.reads) ≡ true
          read = ap is_some (item-touched v.attempt.reads h.a h.read)

          early : h.more ≡ load_of (Record index) word ∷ f.early → OnlyLoads f.early
          early e = (subst OnlyLoads e h.loads).1
  revalidates-stale mid (causes.Moved index before after) m w same h = absurd h
  revalidates-stale mid (causes.Filter time bits) m w same h = absurd h
  revalidates-stale mid (causes.Overrun start clock) m w same h = absurd h

  pub revalidates : l.committing ≡ true → (r : Result (Unit {0}) causes.the_data) (m : Local) (w : View) → Validates c n rule r l v m w → Revalidates good c n r l v m w
  revalidates mid (Ok u) m w h = revalidates-valid mid m w h
  revalidates mid (Err cause) m w h = revalidates-stale mid cause m w h.0 h.1

  -- and the attempt is taken back
  pub may-take-overrun : (cause : causes.the_data) (m : Local) (w : View) → IsOverrun good c n cause l v m w → CanAbortEager c m w
  may-take-overrun cause m w h = subst (λ (d : Local). CanAbortEager c d w) (sym h.local) (subst (CanAbortEager c l) (sym h.is) (may-take here l h.check h.more refl refl))

  pub tells-stopped : (o : Own) → o.committing ≡ l.committing → (cause : causes.the_data) (m : Local) (u z : View)
      → IsOverrun good c n cause l v m u → AbortsEager n u z
      → Commits good c n (commits.Conflict cause) (known_of v o) (known_of z (with_commit false o))
  tells-stopped o mid cause m u z h g = let t = proving.ended-by n u z g in (
    proving.quits-back n v u z o eager kept.optimistic.ungranted kept.optimistic.rises (ap (λ (y : View). y.steps.rises) h.is) (λ e. ap (λ (y : View). y.owned.held) h.is ∙ clean here o e) g
        (subst (IsUnmade v) (sym h.is)
        (record {
          carried = record {
            named = refl;
            base = refl;
            installs = refl;
            fence = refl;
            step_trace = (h.more, refl);
            unlocked = kept.optimistic.unlocked;
            unwritten = kept.optimistic.unwritten;
          };
          history = refl;
        })),
    proving.conflicts-later c n ToCommit cause (known_of v o) (known_of u o) (known_of z (with_commit false o)) (ap has_records eager) t.0 t.1 (h.conflicts o o mid),
    h.others,
    wrote_is o,
  )

-- from the call to where it is valid
module _ {good : List ℕ → Type 0} {c : Config} {n : ℕ} {l : Local} {v : View} (can : CanCommitPlaced good c n l v) {m : Local} {w : View} (r : IsRevalidated good c n l v m w) where
  named : v.gate.algorithm ≡ OrecEager
  named = can.inside.named ∙ can.eager

  at_call : IsEager c l v
  at_call = k (here can)

  pub can-ready : CanCommitPlaced good c n m w
  can-ready = record {
    inside = r.stays;
    eager = ap (λ (q : Local). q.algorithm) r.local ∙ can.eager;
    plain = ap (λ (q : Local). q.granted) r.local ∙ can.plain;
    wrote = ap (λ (q : Local). q.wrote) r.local ∙ can.wrote;
    running = ap (λ (q : Local). q.running) r.local ∙ can.running;
    holds = ap (λ (q : Local). q.holds) r.local ∙ (can.holds ∙ sym (ap (λ (y : View). y.gate.holds) r.is));
    lengths = (
      ap (λ (q : Local). q.writes.len) r.local ∙ (can.lengths.0 ∙ sym (ap (λ (q : Local). q.undo.len) r.local)),
      (let a = ap (λ (q : Local). q.locks.len) r.local in let b = can.lengths.1 in let e = ap (λ (q : Local). q.undo.len) r.local in omega arith),
    );
  }

  log_at : (o p : Own) (y : View) → y.gate ≡ v.gate → y.attempt.reads ≡ v.attempt.reads → y.owned.in_place ≡ v.owned.in_place → (known_of y p).log ≡ (known_of v o).log
  log_at o p y gate reads placed = λ j. record { reads = items (reads j); writes = (proving.written c l v at_call named y p gate placed ∙ sym (proving.written c l v at_call named v o refl refl)) j }

  kept_at : (o p : Own) (y : View) → y.gate ≡ v.gate → y.owned.undo ≡ v.owned.undo → (known_of y p).kept ≡ (known_of v o).kept
  kept_at o p y gate same = proving.kept-here c l v at_call named y p gate same ∙ sym (proving.kept-here c l v at_call named v o refl refl)

  begins : v.attempt.start ≤ m.start
  begins = let a = can.inside.start in let b = can.inside.front in let d = (r.grows (own_of l)).front_rose in let f : w.history.front ≡ m.start = ap (λ (y : View). y.history.front) r.is in omega arith

  pub leads-ready : (o : Own) → Leads (known_of v o) (known_of w o)
  leads-ready o = record {
    made = ap (λ (y : View). public_history y.history.made) r.is;
    grows = r.grows o;
    alg = ap (λ (y : View). y.gate.algorithm) r.is;
    base = ap (λ (y : View). y.steps.rises_at_begin) r.is;
    installs = ap (λ (y : View). reverse y.steps.installs) r.is;
    start = (let a = begins in let b : w.attempt.start ≡ m.start = ap (λ (y : View). y.attempt.start) r.is in omega arith);
    log = log_at o o w (ap (λ (y : View). y.gate) r.is) (ap (λ (y : View). y.attempt.reads) r.is) (ap (λ (y : View). y.owned.in_place) r.is);
    granted = ap (λ (y : View). granted_under y.gate.algorithm y.gate y.lock) r.is;
    kept = kept_at o o w (ap (λ (y : View). y.gate) r.is) (ap (λ (y : View). y.owned.undo) r.is);
  }

  pub keeps-ready : (o : Own) → KeepsRule good c n (known_of v o) → KeepsRule good c n (known_of w o)
  keeps-ready o keeps wrote = let a = leads-ready o in subst (λ (g : Log). logs.Keeps good c.words g) (sym a.log) (keeps (ap (λ (g : Log). not (is_empty g.writes)) (sym a.log) ∙ wrote))

  -- the ends after it, as seen from the call
  pub full-call : (o : Own) (clock : ℕ) (u z : View) → CLOCK_LIMIT ≤ m.start → Tells orec_limit (FindsClock c) w clock u → AbortsEager n u z
      → Commits good c n (commits.ClockFull clock) (known_of v o) (known_of z (with_commit false o))
  full-call o clock u z high t g = let q = tells-full can-ready o clock u z high t g in (
    quits-leads (known_of v o) (known_of w o) (known_of z (with_commit false o)) (leads-ready o) q.0,
    ap asks_at_commit named,
    wrote_is can o,
    full-leads (known_of v o) (known_of w o) (known_of z (with_commit false o)) clock (leads-ready o) q.3,
  )

  abbrev placed : List Cell
  placed = w.owned.in_place

  pub committed-call : (o : Own) (now : ℕ) (u y z : View) → now ≡ m.start → (t : Tells (orec_commit n m.start placed []) (FindsCommit (of_words good c.words) c n m.start placed) w now u) → ReleasesAll u y → z ≡ left n y
      → CommitsAt good c n (m.start + 1) (known_of v o) (known_of z (with_commit false o))
  committed-call o now u y z same t q is = commits-leads good c n (m.start + 1) (known_of v o) (known_of w o) (known_of z (with_commit false o)) (leads-ready o) (tells-committed can-ready now u same t y q o z is)

  -- AGAIN: another commit was faster
  module _ (now : ℕ) (u : View) (apart : now ≢ m.start) (t : Tells (orec_commit n m.start placed []) (FindsCommit (of_words good c.words) c n m.start placed) w now u) where
    still_path : u ≡ record w { steps = record w.steps { step_trace = tried m.start now ∷ w.steps.step_trace } }
    still_path = refused_path can-ready now u apart t

    pub stays-again : IsInside good c n (record m { committing = true }) u
    stays-again = subst (IsInside good c n (record m { committing = true })) (sym still_path) (stays-on can-ready (tried m.start now ∷ []))

    pub stands-again : Stands good c n (record m { committing = true }) u
    stands-again = record {
      holds = can-ready.holds ∙ sym (ap (λ (y : View). y.gate.holds) still_path);
      lengths = can-ready.lengths;
      by = subst (λ (b : Bool). StandsBy good c n (record m { committing = true }) b m.holds u) (sym can-ready.running) stays-again;
    }

    pub tells-again : n < c.callers → (o : Own) → o.committing ≡ l.committing → Commits good c n (commits.Again 0 m.start now) (known_of v o) (known_of u (with_commit true o))
    tells-again low o mid = (
      again.goes-on v r.more r.is now still_path c OrecEager o named can.inside.phase begins (r.grows o)
          (again.start-moves v r.more r.is now still_path c o l.start can.inside.start
          (⊎_elim (λ s. inl s) (λ f. inr (f.0 o, inl (mid ∙ f.1))) r.start)),
      refl,
      log_at o p u (ap (λ (y : View). y.gate) path) (ap (λ (y : View). y.attempt.reads) path) (ap (λ (y : View). y.owned.in_place) path),
      kept_at o p u (ap (λ (y : View). y.gate) path) (ap (λ (y : View). y.owned.undo) path),
      opaque-inside good c n (record m { committing = true }) u p stays-again,
      again.is-again v r.more r.is now still_path c n o (ap has_records named) apart (λ g. r.again (sym mid ∙ g) o),
      refused-others can-ready low now u apart t,
      proving.revocable c l v at_call named v o refl,
      wrote_is can o,
    )
      where
        p : Own
        p = with_commit true o

        path : u ≡ readied v r.seen m.start v.owned.held r.loaded r.check (tried m.start now ∷ r.more)
        path = again.path v r.more r.is now still_path
