-- What the first steps of a commit come to: one that wrote nothing, and the try to take the lock.
use Rattle.std.proofs.Common.{ℕ, ◌≡◌, ◌≢◌, ◌<◌, List, [], ◌∷◌, Bool, true, false, refl, sym, ap, ◌∙◌, arith, subst, inl, inr}
use Rattle.std.specs.Prelude.{Some, not, ◌==◌, ◌||◌, if◌then◌else◌}
use Rattle.std.proofs.lemmas.Bool.Decides.{nat_tests}
use Rattle.stm_model.specs.Algorithms.{asks_at_commit}
use Rattle.stm_model.specs.declared.alg.Alg.{Alg}
use Rattle.stm_model.specs.declared.alg.Alg.TheVariants.{RingSw}
use Rattle.stm_model.specs.declared.config.Config.{Config}
use Rattle.rule_base.specs.declared.layout.At.TheVariants.{Clock, Lock}
use Rattle.rule_base.specs.declared.views.Act.TheVariants.{Exchange}
use Rattle.rule_base.specs.declared.views.TracedStep.{TracedStep}
use Rattle.rule_base.specs.declared.views.View.{View}
use Rattle.rule_base.specs.Bridge.{items}
use Rattle.rule_base.specs.Encodings.{taken_lock}
use Rattle.rule_base.specs.StepKinds.{Tells}
use Rattle.rule_ring.specs.RingSteps.{CanRingLock, ring_lock, no_turn}
use Rattle.rule_seq.specs.CglSteps.{fresh_lock}
use Rattle.stm_rule.specs.declared.local.Local.{Local}
use Rattle.stm_rule.specs.Attempts.{IsInside, own_of}
use Rattle.stm_rule.specs.Attempts as attempts
use Rattle.stm_rule.specs.Findings.{FindsLock}
use Rattle.stm_rule.specs.RingKept.{IsRing}
use Rattle.stm_answers.specs.declared.answers.Commit.TheVariants as commits
use Rattle.stm_answers.specs.Answers.{Commits, StartMoves}
use Rattle.stm_answers.specs.Causes.Asked.{ToCommit}
use Rattle.stm_answers.specs.CallerState.{known_of, written_under, is_in, is_closing, wrote}
use Rattle.stm_answers.specs.CallerStateLaws.{grows-same}
use Rattle.stm_gate.proofs.KeptLaws.{kept-same}
use Rattle.stm_gate.specs.Leaving.{left}
use Rattle.stm_gate.specs.LeavingLaws.{unmade-refl, ended-left}
use Rattle.stm_gate.specs.Opacity.{opaque-inside}
use Rattle.stm_gate.proofs.Told.{stands-on}
use Rattle.alg_ring.specs.Calls.{HasAttempt, HasWrites, StandsTold, TookTurn}
use Rattle.alg_ring.proofs.Running as attempt

-- the try of caller n to take the lock
abbrev tried : ℕ → ℕ → TracedStep
tried n found = record { place = Lock; act = Exchange 0 (taken_lock n); found = Some found }

module _ (good : List ℕ → Type 0) (c : Config) (n : ℕ) (l : Local) (v : View) (a : HasAttempt good c n l v) (plain : l.granted ≡ false) where
  i : IsInside good c n l v
  i = attempt.inside good c n l v a

  k : IsRing c l v
  k = attempt.kept good c n l v a plain

  -- NOTHING WAS WRITTEN
  pub tells-read_only : (w : View) → l.wrote ≡ false → w ≡ left n v → Commits good c n (commits.ReadOnly l.start) (known_of v (own_of l)) (known_of w (own_of l))
  tells-read_only w clean is = subst (λ (y : View). Commits good c n (commits.ReadOnly l.start) (known_of v (own_of l)) (known_of y (own_of l))) (sym is) (
    ended-left n good c l.start v v (own_of l) (unmade-refl v k.optimistic.unlocked k.optimistic.unwritten) (sym i.start) (opaque-inside good c n l v (own_of l) i),
    (let r = k.optimistic.rises in omega arith, let r = k.optimistic.rises in omega arith),
    attempt.wrote-is good c n l v a plain ∙ clean,
  )

  -- THE LOCK
  pub may-lock : CanRingLock v
  may-lock = record { has = record { runs = record { phase = i.phase; algorithm = a.named; plain = k.optimistic.ungranted }; inside = k.inside }; free = k.optimistic.unlocked }

  module _ (found : ℕ) (w : View) (t : Tells (ring_lock n) (FindsLock c n) v found w) where
    abbrev locked_at : Bool → View
    locked_at b = record v {
      lock = if b then fresh_lock RingSw else v.lock;
      ring_commit = if b then no_turn else v.ring_commit;
      steps = record v.steps { step_trace = tried n found ∷ v.steps.step_trace };
    }

    -- it was free
    pub took-turn : HasWrites good c n l v → found ≡ 0 → TookTurn good c n v l w
    took-turn has none = record { has = has; more = tried n found ∷ []; is = t.2 ∙ ap locked_at (let e : (found == 0) ≡ true = grind (arith, nat_tests) in e) }

    -- another caller has it
    module _ (some : found ≢ 0) where
      abbrev again_at : View
      again_at = locked_at false

      again-is : w ≡ again_at
      again-is = t.2 ∙ ap locked_at (let e : (found == 0) ≡ false = grind (arith, nat_tests) in e)

      abbrev in_commit : Local
      in_commit = record l { committing = true }

      stays-again : IsInside good c n in_commit again_at
      stays-again = record {
        phase = i.phase;
        named = i.named;
        disowned = i.disowned;
        unentered = i.unentered;
        start = i.start;
        front = i.front;
        legal = i.legal;
        below = i.below;
        sees = i.sees;
        reads_inside = i.reads_inside;
        looked = λ e. let h = i.looked e in record { low = h.low; seen = h.seen; unseen = h.unseen };
        granted = i.granted;
        steady = λ e. absurd (let f : true ≡ false = sym e ∙ (λ j. not (asks_at_commit (attempt.ring good c n l v a j)) || plain j) in cc);
        spared = record { is = i.spared.is; fits = i.spared.fits };
        keeps = subst (λ (b : Alg). attempts.Keeps c b l.granted in_commit again_at) (sym (attempt.ring good c n l v a)) (subst (λ (b : Bool). attempts.Keeps c RingSw b in_commit again_at) (sym plain) kept);
      }
        where
          kept : IsRing c in_commit again_at
          kept = record {
            optimistic = record {
              unlocked = k.optimistic.unlocked;
              unfixed = k.optimistic.unfixed;
              unwritten = k.optimistic.unwritten;
              uncommitted = k.optimistic.uncommitted;
              ungranted = k.optimistic.ungranted;
              not_quiescent = k.optimistic.not_quiescent;
              unstored = k.optimistic.unstored;
              rises = k.optimistic.rises;
            };
            buffers = record { wrote = k.buffers.wrote; once = k.buffers.once; inside = k.buffers.inside; small = k.buffers.small; apart = k.buffers.apart };
            inside = k.inside;
            settled = k.settled;
            loaded = k.loaded;
            stored = k.stored;
            read = k.read;
            marked = k.marked;
            sole = k.sole;
          }

      tells-again : n < c.callers → wrote (known_of v (own_of l)) ≡ true → Commits good c n (commits.Again 1 0 found) (known_of v (own_of l)) (known_of again_at (own_of in_commit))
      tells-again low dirty = (
        record {
          continues = record {
            running = ap is_in i.phase;
            closing = ap is_closing i.phase;
            made = refl;
            grows = grows-same (known_of v (own_of l)) (known_of again_at (own_of in_commit)) refl refl (tried n found ∷ []) refl refl refl refl refl;
            alg = refl;
            fence = refl;
            base = refl;
            rises = (omega arith, omega arith);
            later = omega arith;
            installs = refl;
            depth = refl;
            locked = inl refl;
          };
          start = subst (λ (b : Alg). StartMoves c ToCommit b (known_of v (own_of l)) (known_of again_at (own_of in_commit))) (sym a.named) (inl (refl, (tried n found ∷ [], refl, ((λ e. absurd (let no : Lock ≡ Clock = e in cc)), tt))));
          granted = refl;
          holds = refl;
          checked = refl;
          marks = refl;
        },
        refl,
        (λ j. record { reads = items v.attempt.reads; writes = ((λ h. written_under (a.named h) (k.optimistic.ungranted h) again_at (own_of in_commit)) ∙ sym (attempt.written-is good c n l v a plain)) j }),
        kept-same v.gate.algorithm v again_at (own_of l) (own_of in_commit) refl refl refl,
        opaque-inside good c n in_commit again_at (own_of in_commit) stays-again,
        inr (refl, a.named, refl, ((λ s. some (sym s)), tried n found ∷ [], refl, taken_lock n, (0, omega arith, refl)), t.1 some),
        (let q = t.1 some in let e = q.1 in let d = q.2 in omega arith),
        attempt.irrevocable-is good c n l v a ∙ plain,
        dirty,
      )

      pub waits : n < c.callers → wrote (known_of v (own_of l)) ≡ true → StandsTold good c n (Commits good c n (commits.Again 1 0 found)) l v in_commit w
      waits low dirty = subst (StandsTold good c n (Commits good c n (commits.Again 1 0 found)) l v in_commit) (sym again-is) (record {
        stands = stands-on good c n l in_commit v again_at i.phase a.stands refl refl a.stands.lengths refl stays-again;
        told = tells-again low dirty;
      })
