-- What the steps come to by which an attempt that is alone is promoted.
use Rattle.std.proofs.Common.{ℕ, ◌≡◌, ◌<◌, ◌≤◌, List, [], ◌∷◌, ◌++◌, Bool, true, false, refl, sym, ap, ◌∙◌, arith, subst, append_assoc, inl}
use Rattle.std.specs.Prelude.{Ok, not, ◌&&◌, if◌then◌else◌, reverse}
use Rattle.std.proofs.lemmas.List.{append-nil}
use Rattle.stm_model.specs.Algorithms.{has_records, asks_at_grant, closes_gate, entry_rise, irrevocable_under}
use Rattle.stm_model.specs.declared.alg.Alg.{Alg}
use Rattle.stm_model.specs.declared.alg.Alg.TheVariants.{RingSw}
use Rattle.stm_model.specs.declared.config.Config.{Config}
use Rattle.stm_model.specs.declared.config.TheConstants.{CLOCK_LIMIT}
use Rattle.stm_model.specs.declared.stop.Cause.{Cause}
use Rattle.stm_model.specs.Memories.{is_empty}
use Rattle.rule_base.specs.Encodings.{fenced}
use Rattle.rule_base.specs.declared.entries.Cell.{Cell}
use Rattle.rule_base.specs.declared.layout.At.TheVariants.{Clock}
use Rattle.rule_base.specs.declared.seats.Who.{Who}
use Rattle.rule_base.specs.declared.views.Act.TheVariants.{Load}
use Rattle.rule_base.specs.declared.views.RingRead.{RingRead}
use Rattle.rule_base.specs.declared.views.TracedStep.{TracedStep}
use Rattle.rule_base.specs.declared.views.View.{View}
use Rattle.rule_base.specs.Bridge.{items, public_history}
use Rattle.rule_base.specs.GateSteps.{granted_at}
use Rattle.rule_base.specs.History.{upto, word_now, Explains}
use Rattle.rule_base.specs.InstallSteps.{settle, CanSettle, HasChecked}
use Rattle.rule_base.specs.Own.{Own}
use Rattle.rule_base.specs.StepKinds.{Tells}
use Rattle.rule_ring.specs.RingSteps.{read_in}
use Rattle.stm_rule.specs.declared.local.Local.{Local}
use Rattle.stm_rule.specs.declared.stm.Stm.{Stm}
use Rattle.stm_rule.specs.Attempts.{Keeps, IsInside, own_of}
use Rattle.stm_rule.specs.Callers.{Handle}
use Rattle.stm_rule.specs.Findings.{FindsWithin}
use Rattle.stm_rule.specs.RecordsKept.{Apart, Buffers, cells_of}
use Rattle.stm_rule.specs.RingKept.{IsRing}
use Rattle.stm_answers.specs.declared.answers.Irrev.TheVariants as irrevs
use Rattle.stm_answers.specs.Answers.{Quits, IsOpaque}
use Rattle.stm_answers.specs.Causes.Asked.{ToPromote}
use Rattle.stm_answers.specs.Evidence.{Found}
use Rattle.stm_answers.specs.CallerState.{CallerState, Grows, IsRunning, known_of, fenced_of, granted_under, written_under, is_irrevocable, is_in, is_closing, wrote, locked_under}
use Rattle.stm_answers.specs.CallerStateLaws.{grows-same, grows-trans}
use Rattle.stm_gate.proofs.KeptLaws.{kept-same}
use Rattle.stm_gate.specs.Granting.{IsAlone, Grants}
use Rattle.stm_gate.specs.Knowing.{known, number}
use Rattle.stm_gate.specs.Leaving.{CanLeave, left, last_steps}
use Rattle.stm_gate.specs.LeavingLaws.{quits-left, finds-full, found-left, found-later, found-earlier}
use Rattle.stm_gate.specs.Opacity.{opaque-at}
use Rattle.stm_gate.proofs.Told.{stands-on}
use Rattle.alg_ring.specs.Calls.{HasAttempt, StandsTold, Stores}
use Rattle.alg_ring.proofs.Opening.{Opened, has-attempt}
use Rattle.alg_ring.specs.Checking.{CanCheckToGrant, ChecksToGrant, Fails, passed_at}
use Rattle.alg_ring.proofs.Checked.{passes-grows}
use Rattle.alg_ring.proofs.Entering.{some-cells}
use Rattle.alg_ring.proofs.Finishing.{clock_found}
use Rattle.alg_ring.proofs.Refuting.{refuted}
use Rattle.alg_ring.proofs.Running as attempt

none-written : (ws : List (ℕ × ℕ)) → not (is_empty ws) ≡ false → cells_of ws ≡ []
none-written [] e = refl
none-written (w ∷ ws) e = absurd cc

-- an attempt that is alone and can be cancelled
pub record CanGrant (good : List ℕ → Type 0) (c : Config) (n : ℕ) (l : Local) (v : View) : Type 0 where
  pub attempt : HasAttempt good c n l v
  pub plain : l.granted ≡ false
  pub free : l.committing ≡ false
  pub alone : IsAlone c.callers n v

pub can-grant : {K : Type 0} (good : K → List ℕ → Type 0) (stm : Stm K) {e : Handle K} {who : Who K} {v : View} {n : ℕ} {l : Local}
    → Opened good stm e who v n l → IsRunning (known e) → (known e).alg ≡ RingSw → is_irrevocable (known e) ≡ false
    → IsAlone stm.config.callers (number e) e.view
    → CanGrant (good stm.rule) stm.config n l v
can-grant {K} good stm {e} {who} {v} {n} {l} a running alg revocable alone = let at = has-attempt good stm a running.0 alg in record {
  attempt = at;
  plain = sym (attempt.irrevocable-is (good stm.rule) stm.config n l v at) ∙ (ap is_irrevocable (sym a.knows) ∙ revocable);
  free = ap (λ (k : CallerState). k.committing) (sym a.knows) ∙ running.1;
  alone = subst (λ (w : View). IsAlone stm.config.callers n w) a.view (subst (λ (k : ℕ). IsAlone stm.config.callers k e.view) a.name alone);
}

module _ (good : List ℕ → Type 0) (c : Config) (n : ℕ) (l : Local) (v : View) (can : CanGrant good c n l v) where
  abbrev ws : List Cell
  ws = cells_of l.writes.items

  abbrev o : Own
  o = own_of l

  i : IsInside good c n l v
  i = attempt.inside good c n l v can.attempt

  named : v.gate.algorithm ≡ RingSw
  named = can.attempt.named

  ring : l.algorithm ≡ RingSw
  ring = attempt.ring good c n l v can.attempt

  k : IsRing c l v
  k = attempt.kept good c n l v can.attempt can.plain

  revocable : is_irrevocable (known_of v o) ≡ false
  revocable = attempt.irrevocable-is good c n l v can.attempt ∙ can.plain

  pub kept-writes : Buffers c l
  kept-writes = k.buffers

  pub may-settle : CanSettle c.callers n v
  may-settle = record { holds = can.alone.holds; quiet = can.alone.quiet }

  -- the clock was loaded as the gate's holder
  abbrev settled_at : ℕ → RingRead → List TracedStep → View
  settled_at clock read more = record v {
    gate = record v.gate { quiescent = true; time = clock; rebased = false; completed = false };
    ring_read = read;
    steps = record v.steps { step_trace = more ++ v.steps.step_trace };
  }

  leaves-settled : (clock : ℕ) (read : RingRead) (more : List TracedStep) → CanLeave (settled_at clock read more)
  leaves-settled clock read more = record {
    phase = i.phase;
    unlocked = k.optimistic.unlocked;
    unfixed = k.optimistic.unfixed;
    disowned = i.disowned (ap has_records ring);
    unwritten = k.optimistic.unwritten;
    uncommitted = k.optimistic.uncommitted;
    ungranted = λ e. k.optimistic.ungranted;
    plain = λ e. i.unentered;
    unstored = λ e. k.optimistic.unstored;
    marked = λ e q. absurd (let f : true ≡ false = sym q ∙ i.unentered in cc);
  }

  quits-settled : (clock : ℕ) (read : RingRead) (more : List TracedStep) → Quits (known_of v o) (known_of (left n (settled_at clock read more)) o)
  quits-settled clock read more =
      quits-left n v (settled_at clock read more) o
      (record {
        carried = record {
          named = refl;
          base = refl;
          installs = refl;
          fence = refl;
          step_trace = (more, refl);
          unlocked = k.optimistic.unlocked;
          unwritten = k.optimistic.unwritten;
        };
        history = refl;
      }) (let r = k.optimistic.rises in (omega arith, omega arith)) revocable

  module _ (clock : ℕ) (w : View) (t : Tells settle FindsWithin v clock w) where
    settled-path : w ≡ settled_at clock v.ring_read (clock_found clock ∷ [])
    settled-path = t.2

    -- THE LIMIT
    pub may-leave-full : CanLeave w
    may-leave-full = subst CanLeave (sym settled-path) (leaves-settled clock v.ring_read (clock_found clock ∷ []))

    pub tells-full : CLOCK_LIMIT ≤ clock → (y : View) → y ≡ left n w → Grants good c n (irrevs.ClockFull clock) (known_of v o) (known_of y o)
    tells-full high y end = subst (λ (z : View). Grants good c n (irrevs.ClockFull clock) (known_of v o) (known_of z o)) (sym (end ∙ ap (left n) settled-path)) (
      quits-settled clock v.ring_read (clock_found clock ∷ []),
      ap asks_at_grant named,
      finds-full clock v (left n (settled_at clock v.ring_read (clock_found clock ∷ []))) o o high
          (found-left n Clock clock v (settled_at clock v.ring_read (clock_found clock ∷ [])) o o
          (clock_found clock ∷ [], refl, Load, (0, omega arith, refl))),
    )

    -- THE CHECK
    pub may-check : clock < CLOCK_LIMIT → CanCheckToGrant c l.start l.loaded w
    may-check under = subst (CanCheckToGrant c l.start l.loaded) (sym settled-path) (record {
      grant = record {
        has = record { runs = record { phase = i.phase; algorithm = named; plain = k.optimistic.ungranted }; inside = k.inside };
        quiescent = refl;
        limit = under;
        unlocked = k.optimistic.unlocked;
        uncommitted = k.optimistic.uncommitted;
        unwritten = k.optimistic.unwritten;
      };
      start_is = i.start;
      front_is = i.front;
      watched = k.loaded;
      unentered = i.unentered;
      sole = λ one. (let a = k.sole one in let b = k.optimistic.rises in omega arith);
    })

    -- it failed
    module _ (cause : Cause) (u : View) (f : Fails good c cause l.loaded w u) where
      failed-path : u ≡ settled_at clock f.read (f.more ++ clock_found clock ∷ [])
      failed-path = f.is ∙ (ap (λ (y : View). record y { ring_read = f.read; steps = record y.steps { step_trace = f.more ++ y.steps.step_trace } }) settled-path
          ∙ ap (λ (s : List TracedStep). record (settled_at clock f.read []) { steps = record v.steps { step_trace = s } }) (sym (append_assoc f.more (clock_found clock ∷ []) v.steps.step_trace)))

      pub may-leave-failed : CanLeave u
      may-leave-failed = subst CanLeave (sym failed-path) (leaves-settled clock f.read (f.more ++ clock_found clock ∷ []))

      pub holds-failed : u.gate.holds ≡ v.gate.holds
      holds-failed = ap (λ (y : View). y.gate.holds) failed-path

      pub named-failed : u.gate.algorithm ≡ v.gate.algorithm
      named-failed = ap (λ (y : View). y.gate.algorithm) failed-path

      pub tells-conflict : n < c.callers → (y : View) → y ≡ left n u → Grants good c n (irrevs.Conflict cause) (known_of v o) (known_of y o)
      tells-conflict low y end = subst (λ (z : View). Grants good c n (irrevs.Conflict cause) (known_of v o) (known_of z o)) (sym (end ∙ ap (left n) failed-path)) (
        quits-settled clock f.read (f.more ++ clock_found clock ∷ []),
        refuted c n ToPromote (known_of v o) (known_of (left n (settled_at clock f.read (f.more ++ clock_found clock ∷ []))) o) l.loaded
            w.attempt.start f.clock last f.loads (clock_found clock ∷ []) cause named (sym (ap (λ (z : View). z.attempt.start) settled-path))
            k.read
            (ap (λ (s : List TracedStep). last ++ s) (append_assoc f.more (clock_found clock ∷ []) v.steps.step_trace)
            ∙ ap (λ (m : List TracedStep). last ++ (m ++ clock_found clock ∷ v.steps.step_trace)) f.parts) f.refutes,
        (let d = f.others in omega arith),
      )
        where
          last : List TracedStep
          last = last_steps n v.gate.holds v.gate.fence v.gate.algorithm

    -- it passed: the start is the clock
    module _ (under : clock < CLOCK_LIMIT) (start : ℕ) (u : View) (p : ChecksToGrant good c (Ok start) l.loaded w u) where
      abbrev promoted_at : List Cell → List TracedStep → View
      promoted_at stores more = record v {
        history = record v.history { seen = upto p.0.world.history start; front = start };
        gate = granted_at clock v.gate;
        attempt = record { start = start; reads = v.attempt.reads; stores = stores; entered = v.attempt.entered };
        ring_read = p.0.read;
        steps = record v.steps { step_trace = more ++ v.steps.step_trace };
      }

      start-is : start ≡ clock
      start-is = p.1 ∙ ap (λ (y : View). y.gate.time) settled-path

      passed-path : u ≡ promoted_at [] (p.0.more ++ clock_found clock ∷ [])
      passed-path = p.0.is ∙ (ap (λ (y : View). passed_at p.0.world start (granted_at y.gate.time y.gate) p.0.read p.0.more y) settled-path
          ∙ (λ j. record (promoted_at [] []) {
            attempt =
                record {
                  start = start;
                  reads =
                      if k.settled j then record { at = v.ring_read.from; value = v.ring_read.value } ∷ v.attempt.reads else v.attempt.reads;
                  stores = k.optimistic.unstored j;
                  entered = v.attempt.entered;
                };
            steps = record v.steps { step_trace = sym (append_assoc p.0.more (clock_found clock ∷ []) v.steps.step_trace) j };
          }))

      -- what is stored lies outside the fence that the attempt knows
      pub are-spared : Apart u.gate.fence (cells_of l.writes.items)
      are-spared a t = ap (λ (y : View). fenced y.gate.fence a) passed-path ∙ (ap (λ f. fenced f a) i.spared.is ∙ k.buffers.apart a t)

      pub may-store : u.gate.granted ≡ true
      may-store = ap (λ (y : View). y.gate.granted) passed-path

      sees-promoted : Explains (word_now (upto p.0.world.history start)) v.attempt.reads
      sees-promoted = subst (λ (b : Bool). Explains (word_now (upto p.0.world.history start)) (if b then record { at = v.ring_read.from; value = v.ring_read.value } ∷ v.attempt.reads else v.attempt.reads)) k.settled
          (subst (λ (y : View). Explains (word_now (upto p.0.world.history start)) (read_in y)) settled-path p.0.sees.sees)

      abbrev promoted : Local
      promoted = record l { start = start; granted = true }

      module _ (x : View) (st : Stores l.writes u x) where
        abbrev more : List TracedStep
        more = st.more ++ (p.0.more ++ clock_found clock ∷ [])

        stored-path : x ≡ promoted_at ws more
        stored-path = st.is ∙ (ap (λ (y : View). record y { attempt = record y.attempt { stores = ws ++ y.attempt.stores }; steps = record y.steps { step_trace = st.more ++ y.steps.step_trace } }) passed-path
            ∙ (λ j. record (promoted_at [] []) {
              attempt = record { start = start; reads = v.attempt.reads; stores = append-nil ws j; entered = v.attempt.entered };
              steps = record v.steps { step_trace = sym (append_assoc st.more (p.0.more ++ clock_found clock ∷ []) v.steps.step_trace) j };
            }))

        stays-promoted : IsInside good c n promoted x
        stays-promoted = subst (IsInside good c n promoted) (sym stored-path) (record {
          phase = i.phase;
          named = i.named;
          disowned = i.disowned;
          unentered = i.unentered;
          start = refl;
          front = refl;
          legal = p.0.sees.begins.legal;
          below = p.0.sees.begins.below;
          sees = sees-promoted;
          reads_inside = i.reads_inside;
          looked = λ e. let h = i.looked e in record { low = h.low; seen = h.seen; unseen = h.unseen };
          granted = sym (ap (λ (a : Alg). closes_gate a && true) ring);
          steady = λ e. can.free;
          spared = record { is = i.spared.is; fits = i.spared.fits };
          keeps = subst (λ (a : Alg). Keeps c a true promoted (promoted_at ws more)) (sym ring) (record {
            granted = refl;
            quiescent = refl;
            holds = can.attempt.stands.holds ∙ can.alone.holds;
            clear =
                record {
                  unlocked = k.optimistic.unlocked;
                  unfixed = k.optimistic.unfixed;
                  disowned = i.disowned (ap has_records ring);
                  unwritten = k.optimistic.unwritten;
                  uncommitted = k.optimistic.uncommitted;
                  unentered = i.unentered;
                };
            clean = λ e. none-written l.writes.items (sym k.buffers.wrote ∙ e);
            dirty = λ e. some-cells l.writes.items (sym k.buffers.wrote ∙ e);
            rises = k.optimistic.rises;
            limit = (let a = start-is in let q : entry_rise l.algorithm ≡ 1 = ap entry_rise ring in omega arith);
          });
        })

        holds-promoted : x.gate.holds ≡ v.gate.holds
        holds-promoted = ap (λ (y : View). y.gate.holds) stored-path

        -- what was seen, and found, up to the promotion
        grows-promoted : Grows (known_of v o) (known_of x o)
        grows-promoted = grows-trans (known_of v o) (known_of u o) (known_of x o)
            (grows-trans (known_of v o) (known_of w o) (known_of u o)
            (subst (λ (y : View). Grows (known_of v o) (known_of y o)) (sym settled-path)
            (grows-same (known_of v o) (known_of (settled_at clock v.ring_read (clock_found clock ∷ [])) o) refl refl
            (clock_found clock ∷ []) refl refl refl refl refl))
            (passes-grows good c (granted_at w.gate.time w.gate) start w u p.0 o o refl refl refl))
            (grows-same (known_of u o) (known_of x o) (ap (λ (y : View). public_history y.history.seen) st.is)
            (ap (λ (y : View). y.history.front) st.is) st.more (ap (λ (y : View). y.steps.step_trace) st.is) refl refl refl
            (ap (λ (y : View). fenced_of y.fence) st.is))

        found-promoted : Found Clock start (known_of v o) (known_of x o)
        found-promoted = found-later Clock start (known_of v o) (known_of u o) (known_of x o)
            (found-earlier Clock start (known_of v o) (known_of w o) (known_of u o) (p.2.0, p.2.1, p.2.2.0, p.2.2.1) (clock_found clock ∷ []) (ap (λ (y : View). y.steps.step_trace) settled-path))
            st.more (ap (λ (y : View). y.steps.step_trace) st.is)

        tells-granted : Grants good c n irrevs.Granted (known_of v o) (known_of x o)
        tells-granted = record {
          continues = record {
            running = ap (λ (y : View). is_in y.gate.phase) stored-path ∙ ap is_in i.phase;
            closing = ap (λ (y : View). is_closing y.gate.phase) stored-path ∙ ap is_closing i.phase;
            made = ap (λ (y : View). public_history y.history.made) stored-path;
            grows = grows-promoted;
            alg = ap (λ (y : View). y.gate.algorithm) stored-path;
            fence = ap (λ (y : View). y.gate.fence) stored-path;
            base = ap (λ (y : View). y.steps.rises_at_begin) stored-path;
            rises = (let a : x.steps.rises ≡ v.steps.rises = ap (λ (y : View). y.steps.rises) stored-path in (omega arith, omega arith));
            later =
                (let a : x.attempt.start ≡ start = ap (λ (y : View). y.attempt.start) stored-path in
                let b : w.attempt.start ≡ v.attempt.start = ap (λ (y : View). y.attempt.start) settled-path in
                let d = p.0.later in omega arith);
            installs = ap (λ (y : View). reverse y.steps.installs) stored-path;
            depth = refl;
            locked = inl (ap (λ (y : View). locked_under y.gate.algorithm y.lock.taken y.tml.writer) stored-path);
          };
          still = ap (λ (y : View). y.steps.rises) stored-path;
          uncommitted = can.free;
          log =
              ap (λ (y : View). (known_of y o).log) stored-path
              ∙ ((λ j. record { reads = items v.attempt.reads; writes = written_under (named j) true (promoted_at ws more) o })
              ∙ (λ j. record { reads = items v.attempt.reads; writes = sym (attempt.written-is good c n l v can.attempt can.plain) j }));
          kept = λ e. ap (λ (y : View). (known_of y o).kept) stored-path ∙ (kept-same v.gate.algorithm v (promoted_at ws more) o o refl refl refl ∙ e);
          irrevocable =
              ap (λ (y : View). is_irrevocable (known_of y o)) stored-path
              ∙ ap (λ (a : Alg).
              irrevocable_under a (granted_under a (granted_at clock v.gate) v.lock) (wrote (known_of (promoted_at ws more) o))) named;
          opaque =
              subst (λ (y : View). IsOpaque good c n (known_of y o)) (sym stored-path)
              (opaque-at good c n (promoted_at ws more) o start refl refl p.0.sees.begins.legal p.0.sees.begins.below sees-promoted
              i.reads_inside);
          before = λ e. absurd (let f : true ≡ false = sym e ∙ revocable in cc);
          now = λ e. (
            ap (λ (y : View). granted_under y.gate.algorithm y.gate y.lock) stored-path ∙ ap (λ (a : Alg). granted_under a (granted_at clock v.gate) v.lock) named,
            subst (λ (s : ℕ). Found Clock s (known_of v o) (known_of x o)) (sym (ap (λ (y : View). y.attempt.start) stored-path)) found-promoted,
          );
          alone = λ e q. (ap (λ (y : View). y.gate.holds) stored-path ∙ can.alone.holds, subst (λ (y : View). HasChecked c.callers n y) (sym stored-path) can.alone.quiet);
        }

        -- THE PROMOTION
        pub promotes : StandsTold good c n (Grants good c n irrevs.Granted) l v promoted x
        promotes = record {
          stands = stands-on good c n l promoted v x i.phase can.attempt.stands refl refl can.attempt.stands.lengths holds-promoted stays-promoted;
          told = tells-granted;
        }
