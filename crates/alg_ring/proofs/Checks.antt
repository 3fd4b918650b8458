-- What the steps of a check come to.
use Rattle.std.proofs.Common.{ℕ, ◌≡◌, ◌≢◌, ◌<◌, ◌≤◌, ◌+◌, List, [], ◌∷◌, ◌++◌, Bool, true, false, refl, sym, ap, ◌∙◌, arith, subst, inl, inr, append_assoc}
use Rattle.std.specs.Prelude.{◌==◌, ltb, if◌then◌else◌, max, min, Option, Some, None, Ok, Err}
use Rattle.std.proofs.lemmas.Bool.Decides.{nat_tests}
use Rattle.stm_model.specs.declared.config.Config.{Config}
use Rattle.stm_model.specs.declared.stop.Cause.{Cause}
use Rattle.stm_model.specs.declared.stop.Cause.TheVariants as causes
use Rattle.rule_base.specs.declared.layout.At.TheVariants.{Clock, Done}
use Rattle.rule_base.specs.declared.views.Act.TheVariants.{Load}
use Rattle.rule_base.specs.declared.views.GateView.{GateView}
use Rattle.rule_base.specs.declared.views.SlotWord.{SlotWord}
use Rattle.rule_base.specs.declared.views.TracedStep.{TracedStep}
use Rattle.rule_base.specs.declared.views.View.{View}
use Rattle.rule_base.specs.Bridge.{of_words}
use Rattle.rule_base.specs.GateSteps.{granted_at}
use Rattle.rule_base.specs.History.{upto, word_now, Explains}
use Rattle.rule_base.specs.StepKinds.{Tells, view_after}
use Rattle.rule_base.specs.World.{World}
use Rattle.rule_promoted.specs.PromotedSteps.{ring_look_grant, ring_move_grant}
use Rattle.rule_ring.specs.RingSteps.{HasRing, ring_look, ring_again, ring_move, CanRingMove, AllClear, RingSees, RingMoves, read_in, passed, moved}
use Rattle.rule_ring.specs.SlotFilter.{slot_filter}
use Rattle.alg_ring.specs.RingFindings.{FindsLook, FindsAgain, FindsMove, FindsLevel}
use Rattle.stm_answers.specs.SlotEvidence.{InStepTrace}
use Rattle.alg_ring.specs.Checking.{with_words, CanScan, MeetsOne, OneMeets, Refutes, scanned, Scans, CanCheck, CanCheckToGrant, Passes, Fails, Checks, ChecksToGrant}
use Rattle.alg_ring.proofs.Words.{step_trace-right}

-- where a check moves the start
pub moved-is : (v : View) (start clock done : ℕ) → v.attempt.start ≡ start → v.ring_read.clock ≡ clock → moved v done ≡ max start (min done clock)
moved-is v start clock done e f = (λ i. if ltb (if ltb done (f i) then done else f i) (e i) then e i else (if ltb done (f i) then done else f i)) ∙ by start clock done
  where
    by : (s c d : ℕ) → (if ltb (if ltb d c then d else c) s then s else (if ltb d c then d else c)) ≡ max s (min d c)
    by s c d = grind (arith, nat_tests)

module _ (c : Config) (start clock : ℕ) (filter : List ℕ) where
  module _ (v : View) (can : CanScan start clock filter v) where
    -- the ring doesn't reach back to the start
    pub scans-far : start + c.ring ≤ clock → Scans c start clock (Err (causes.Overrun start clock)) filter v v
    scans-far far = (v.ring_read.words, v.ring_read.sure, [], refl, (refl, far, inl refl))

    module _ (good : List ℕ → Type 0) (w u : View) (later : ℕ) (t : Tells (ring_again c.ring) (FindsAgain (of_words good c.words) c) w later u) where
      again_at : (words : List SlotWord) (more : List TracedStep) → w ≡ with_words v words more
          → u
          ≡ scanned c start clock v words (ltb later (v.attempt.start + c.ring))
          (record { place = Clock; act = Load; found = Some later } ∷ more)
      again_at words more is = t.2 ∙ ap (λ (y : View). view_after (ring_again c.ring) t.0 y later) is

      met-words : (r : Option Cause) → MeetsOne c start clock r filter v w → (words : List SlotWord) × (more : List TracedStep) × (w ≡ with_words v words more)
      met-words None m = (m.0, m.1, m.2)
      met-words (Some cause) m = (m.0, m.1, m.2)

      pub scans-later : (r : Option Cause) → MeetsOne c start clock r filter v w → start + c.ring ≤ later → Scans c start clock (Err (causes.Overrun start later)) filter v u
      scans-later r m far =
          let k = met-words r m in (
            k.0,
            ltb later (v.attempt.start + c.ring),
            record { place = Clock; act = Load; found = Some later } ∷ k.1,
            again_at k.0 k.1 k.2,
            (refl, far, inr (Load, (0, omega arith, refl))),
          )

      one-refutes : (cause : Cause) (more : List TracedStep) → later < start + c.ring → OneMeets c start clock cause filter more
          → Refutes c start clock cause filter (record { place = Clock; act = Load; found = Some later } ∷ more)
      one-refutes (causes.Filter time bits) more near m = (later, more, refl, near, m)
      one-refutes (causes.Clock had now) more near m = m
      one-refutes (causes.Record index word from) more near m = m
      one-refutes (causes.Moved index before after) more near m = m
      one-refutes (causes.Overrun from now) more near m = absurd m

      pub scans-met : (cause : Cause) → later < start + c.ring → MeetsOne c start clock (Some cause) filter v w → Scans c start clock (Err cause) filter v u
      scans-met cause near m = (m.0, ltb later (v.attempt.start + c.ring), record { place = Clock; act = Load; found = Some later } ∷ m.1, again_at m.0 m.1 m.2, one-refutes cause m.1 near m.3)

      pub scans-ok : MeetsOne c start clock None filter v w → later < start + c.ring → (r : Unit {0}) → Scans c start clock (Ok r) filter v u
      scans-ok m near r =
          let path = again_at m.0 m.1 m.2 ∙ ap (λ (b : Bool). scanned c start clock v m.0 b (record { place = Clock; act = Load; found = Some later } ∷ m.1)) sure in
          let clear = subst (AllClear slot_filter) m.2 m.3 in (
            m.0,
            record { place = Clock; act = Load; found = Some later } ∷ m.1,
            path,
            subst (CanRingMove slot_filter) (sym path) (record {
              has = record { runs = record { phase = can.has.runs.phase; algorithm = can.has.runs.algorithm; plain = can.has.runs.plain }; inside = can.has.inside };
              checking = can.checking;
              sure = refl;
              clear = clear;
            }),
          )
        where
          sure : ltb later (v.attempt.start + c.ring) ≡ true
          sure = let e = can.start_is in let k : later < v.attempt.start + c.ring = omega arith in grind (arith, nat_tests)

-- the view after the load of the clock, by whether it is the start
abbrev pub looked_at : View → ℕ → Bool → View
looked_at v clock b = record v {
  attempt = if b then record v.attempt { reads = read_in v } else v.attempt;
  ring_read = if b then passed v.ring_read else record v.ring_read { checking = true; clock = clock; words = []; sure = false };
  steps = record v.steps { step_trace = record { place = Clock; act = Load; found = Some clock } ∷ v.steps.step_trace };
}

module _ (good : List ℕ → Type 0) (c : Config) (start : ℕ) (filter : List ℕ) (v : View) where
  abbrev pub rule : (ℕ → ℕ) → Type 0
  rule = of_words good c.words

  -- the check passes at the first load
  pub passes-at : (m : World) (clock : ℕ) (gate : GateView) (w : View) → v.attempt.start ≡ start → v.history.front ≡ start → HasRing v
      → clock ≡ start → FindsLook rule c m v clock → w ≡ record (looked_at v clock true) { gate = gate } → Passes good c gate start v w
  passes-at m clock gate w start_is front_is has same f is =
      let s : RingSees rule c m v v.attempt.start = f.looks.passes (same ∙ sym start_is) in
      let seen : v.history.seen ≡ upto m.history start = s.begins.seen ∙ ap (upto m.history) front_is in record {
        world = m;
        read = passed v.ring_read;
        more = record { place = Clock; act = Load; found = Some clock } ∷ [];
        is = is ∙ (λ i. record v {
          history = record v.history { seen = seen i; front = front_is i };
          gate = gate;
          attempt = record { start = start_is i; reads = read_in v; stores = v.attempt.stores; entered = v.attempt.entered };
          ring_read = passed v.ring_read;
          steps = record v.steps { step_trace = record { place = Clock; act = Load; found = Some clock } ∷ v.steps.step_trace };
        });
        sees = subst (RingSees rule c m v) start_is s;
        kept = subst (λ (k : ℕ). Explains (word_now (upto m.history k)) v.attempt.reads) start_is f.kept;
        later = (let e = start_is in omega arith);
        inside = has.inside;
        settled = refl;
        watched = refl;
        moves = inl (sym start_is, ((λ e. ap Some (same ∙ sym start_is)), tt));
        sole = λ one. sym start_is;
      }

  -- the check fails
  pub fails-at : (m : World) (clock : ℕ) (cause : Cause) (w u : View) → v.attempt.start ≡ start
      → (c.callers ≡ 1 → start ≡ c.clock + v.steps.rises) → clock ≢ start → FindsLook rule c m v clock → w ≡ looked_at v clock false
      → Scans c start clock (Err cause) filter w u → Fails good c cause filter v u
  fails-at m clock cause w u start_is sole apart f is s = record {
    read = record v.ring_read { checking = true; clock = clock; words = s.0; sure = s.1 };
    more = s.2 ++ record { place = Clock; act = Load; found = Some clock } ∷ [];
    is = s.3 ∙ (ap (λ (y : View). scanned c start clock y s.0 s.1 s.2) is
        ∙ (λ i.
        record v {
          ring_read = record v.ring_read { checking = true; clock = clock; words = s.0; sure = s.1 };
          steps = record v.steps
              { step_trace = sym (append_assoc s.2 (record { place = Clock; act = Load; found = Some clock } ∷ []) v.steps.step_trace) i };
        }));
    others = λ one. apart (f.sole one ∙ sym (sole one));
    clock = clock;
    loads = s.2;
    parts = refl;
    refutes = subst (λ (k : ℕ). Refutes c k clock cause filter s.2) (sym start_is) s.4;
  }

  -- the view before the load of DONE
  scanned-path : (clock : ℕ) (words : List SlotWord) (more : List TracedStep) (w u : View) → w ≡ looked_at v clock false
      → u ≡ scanned c start clock w words true more → u ≡ scanned c start clock (looked_at v clock false) words true more
  scanned-path clock words more w u is e = e ∙ ap (λ (y : View). scanned c start clock y words true more) is

  -- the steps of a check that loads DONE, the latest first
  abbrev pub move_steps : ℕ → ℕ → List TracedStep → List TracedStep
  move_steps clock done more = record { place = Done; act = Load; found = Some done } ∷ (more ++ record { place = Clock; act = Load; found = Some clock } ∷ [])

  -- the check passes with the load of DONE
  pub moves-at : (m n : World) (clock done : ℕ) (gate : GateView) (words : List SlotWord) (more : List TracedStep) (w : View)
      → v.attempt.start ≡ start → HasRing v → clock ≢ start → (c.callers ≡ 1 → start ≡ c.clock + v.steps.rises) → FindsLook rule c m v clock
      → RingMoves rule c n (scanned c start clock (looked_at v clock false) words true more) done
      → Explains (word_now (upto n.history (moved (scanned c start clock (looked_at v clock false) words true more) done))) v.attempt.reads
      → w ≡ record (view_after ring_move n (scanned c start clock (looked_at v clock false) words true more) done) { gate = gate } → Passes good c gate (max start (min done clock)) v w
  moves-at m n clock done gate words more w start_is has apart sole f r kept is = record {
    world = n;
    read = passed (record v.ring_read { checking = true; clock = clock; words = words; sure = true });
    more = move_steps clock done more;
    is = is ∙ (λ i. record v {
      history = record v.history { seen = upto n.history (to i); front = to i };
      gate = gate;
      attempt = record { start = to i; reads = read_in v; stores = v.attempt.stores; entered = v.attempt.entered };
      ring_read = passed (record v.ring_read { checking = true; clock = clock; words = words; sure = true });
      steps =
          record v.steps {
            step_trace = ap (λ (t : List TracedStep). record { place = Done; act = Load; found = Some done } ∷ t)
                (sym (append_assoc more (record { place = Clock; act = Load; found = Some clock } ∷ []) v.steps.step_trace)) i;
          };
    });
    sees =
        subst (RingSees rule c n v) to
        (record {
          value = r.sees.value;
          sees = r.sees.sees;
          begins = record {
            legal = r.sees.begins.legal;
            below = r.sees.begins.below;
            seen = r.sees.begins.seen;
            front = r.sees.begins.front;
            limit = r.sees.begins.limit;
          };
        });
    kept = subst (λ (k : ℕ). Explains (word_now (upto n.history k)) v.attempt.reads) to kept;
    later = (let e = start_is in omega arith);
    inside = has.inside;
    settled = refl;
    watched = refl;
    moves = inr (
      clock,
      done,
      step_trace-right (record { place = Done; act = Load; found = Some done } ∷ [])
          (more ++ record { place = Clock; act = Load; found = Some clock } ∷ []) Clock clock
          (step_trace-right more (record { place = Clock; act = Load; found = Some clock } ∷ []) Clock clock (Load, (0, omega arith, refl))),
      (Load, (0, omega arith, refl)),
      ap (λ (k : ℕ). max k (min done clock)) (sym start_is),
    );
    sole = λ one. absurd (apart (f.sole one ∙ sym (sole one)));
  }
    where
      to : moved (scanned c start clock (looked_at v clock false) words true more) done ≡ max start (min done clock)
      to = moved-is (scanned c start clock (looked_at v clock false) words true more) start clock done start_is refl

  look-path : (clock : ℕ) (w : View) (b : Bool) → (clock == v.attempt.start) ≡ b → Tells ring_look (FindsLook rule c) v clock w → w ≡ looked_at v clock b
  look-path clock w b e t = t.2 ∙ ap (looked_at v clock) e

  -- THE CHECK OF AN ATTEMPT THAT ISN'T TO BE PROMOTED
  module _ (can : CanCheck c start filter v) (clock : ℕ) (w : View) (t : Tells ring_look (FindsLook rule c) v clock w) where
    same-start : clock ≡ start → (clock == v.attempt.start) ≡ true
    same-start e = let s = can.start_is in grind (arith, nat_tests)

    other-start : clock ≢ start → (clock == v.attempt.start) ≡ false
    other-start d = let s = can.start_is in grind (arith, nat_tests)

    pub check-passes : clock ≡ start → Checks good c (Ok start) filter v w
    check-passes e = (
      passes-at t.0 clock v.gate w can.start_is can.front_is can.has e t.1 (look-path clock w true (same-start e) t),
      λ taken early ticked. sym e ∙ t.1.ticked taken ticked,
    )

    pub may-scan : clock ≢ start → CanScan start clock filter w
    may-scan d = subst (CanScan start clock filter) (sym (look-path clock w false (other-start d) t)) (record {
      has = record { runs = record { phase = can.has.runs.phase; algorithm = can.has.runs.algorithm; plain = can.has.runs.plain }; inside = can.has.inside };
      checking = refl;
      unsure = refl;
      start_is = can.start_is;
      clock_is = refl;
      later = (let l = t.1.looks.later in let e = can.start_is in omega arith);
      watched = can.watched;
    })

    pub check-fails : (cause : Cause) (u : View) → clock ≢ start → Scans c start clock (Err cause) filter w u → Checks good c (Err cause) filter v u
    check-fails cause u d s = fails-at t.0 clock cause w u can.start_is can.sole d t.1 (look-path clock w false (other-start d) t) s

    pub check-moves : (r : Unit {0}) (u x : View) (done : ℕ) → clock ≢ start → Scans c start clock (Ok r) filter w u
        → Tells ring_move (FindsMove rule c) u done x → Checks good c (Ok (max start (min done clock))) filter v x
    check-moves r u x done d s k =
        let path = scanned-path clock s.0 s.1 w u (look-path clock w false (other-start d) t) s.2 in
        let f = subst (λ (y : View). FindsMove rule c k.0 y done) path k.1 in (
          moves-at t.0 k.0 clock done v.gate s.0 s.1 x can.start_is can.has d can.sole t.1 f.moves f.kept (k.2 ∙ ap (λ (y : View). view_after ring_move k.0 y done) path),
          λ taken early ticked. let a = f.level taken early ticked can.not_quiescent in let b = t.1.ticked taken ticked in let l = t.1.looks.later in let e = can.start_is in omega arith,
        )

  -- AND OF ONE THAT IS
  abbrev granted_gate : ℕ → Bool → GateView
  granted_gate clock b = if b then granted_at clock v.gate else v.gate

  grant-path : (clock : ℕ) (w : View) (b : Bool) → (clock == v.attempt.start) ≡ b → Tells ring_look_grant (FindsLook rule c) v clock w → w ≡ record (looked_at v clock b) { gate = granted_gate clock b }
  grant-path clock w b e t = t.2 ∙ ap (λ (q : Bool). record (looked_at v clock q) { gate = granted_gate clock q }) e

  module _ (can : CanCheckToGrant c start filter v) (clock : ℕ) (w : View) (t : Tells ring_look_grant (FindsLook rule c) v clock w) where
    same-grant : clock ≡ start → (clock == v.attempt.start) ≡ true
    same-grant e = let s = can.start_is in grind (arith, nat_tests)

    other-grant : clock ≢ start → (clock == v.attempt.start) ≡ false
    other-grant d = let s = can.start_is in grind (arith, nat_tests)

    settled : clock ≡ v.gate.time
    settled = t.1.settled can.grant.quiescent

    pub grant-passes : clock ≡ start → ChecksToGrant good c (Ok start) filter v w
    grant-passes e =
        let path = grant-path clock w true (same-grant e) t in (
          passes-at t.0 clock (granted_at v.gate.time v.gate) w can.start_is can.front_is can.grant.has e t.1 (path ∙ (λ i. record (looked_at v clock true) { gate = granted_at (settled i) v.gate })),
          sym e ∙ settled,
          (
            record { place = Clock; act = Load; found = Some clock } ∷ [],
            ap (λ (y : View). y.steps.step_trace) path,
            subst (λ (k : ℕ). InStepTrace (record { place = Clock; act = Load; found = Some clock } ∷ []) Clock k) e
                (Load, (0, omega arith, refl)),
          ),
        )

    pub grant-fails : (cause : Cause) (u : View) → clock ≢ start → Scans c start clock (Err cause) filter w u → ChecksToGrant good c (Err cause) filter v u
    grant-fails cause u d s = fails-at t.0 clock cause w u can.start_is can.sole d t.1 (grant-path clock w false (other-grant d) t) s

    pub grant-moves : (r : Unit {0}) (u x : View) (done : ℕ) → clock ≢ start → Scans c start clock (Ok r) filter w u
        → Tells ring_move_grant (FindsLevel rule c) u done x → ChecksToGrant good c (Ok (max start (min done clock))) filter v x
    grant-moves r u x done d s k =
        let y : View = scanned c start clock (looked_at v clock false) s.0 true s.1 in
        let path = scanned-path clock s.0 s.1 w u (grant-path clock w false (other-grant d) t) s.2 in
        let f = subst (λ (q : View). FindsLevel rule c k.0 q done) path k.1 in
        let a = f.level can.unentered in
        let l = t.1.looks.later in
        let is_start = can.start_is in
        let is_time : clock ≡ v.gate.time = settled in
        let end : max start (min done clock) ≡ v.gate.time = omega arith in
        let to : moved y done ≡ v.gate.time = moved-is y start clock done is_start refl ∙ end in
        let here : (moved y done == v.gate.time) ≡ true = grind (arith, nat_tests) in
        let last : x ≡ record (view_after ring_move k.0 y done) { gate = granted_at v.gate.time v.gate } = k.2 ∙
        (ap (λ (q : View). view_after ring_move_grant k.0 q done) path
        ∙ ap (λ (b : Bool). record (view_after ring_move k.0 y done) { gate = if b then granted_at v.gate.time v.gate else v.gate }) here)
        in
        let more : List TracedStep = record { place = Done; act = Load; found = Some done } ∷ (s.1 ++ record { place = Clock; act = Load; found = Some clock } ∷ []) in (
          moves-at t.0 k.0 clock done (granted_at v.gate.time v.gate) s.0 s.1 x is_start can.grant.has d can.sole t.1 f.moves f.kept last,
          end,
          (
            more,
            ap (λ (q : View). q.steps.step_trace) last
                ∙ ap (λ (z : List TracedStep). record { place = Done; act = Load; found = Some done } ∷ z)
                (sym (append_assoc s.1 (record { place = Clock; act = Load; found = Some clock } ∷ []) v.steps.step_trace)),
            subst (λ (q : ℕ). InStepTrace more Clock q) (is_time ∙ sym end)
                (step_trace-right (record { place = Done; act = Load; found = Some done } ∷ [])
                (s.1 ++ record { place = Clock; act = Load; found = Some clock } ∷ []) Clock clock
                (step_trace-right s.1 (record { place = Clock; act = Load; found = Some clock } ∷ []) Clock clock
                (Load, (0, omega arith, refl)))),
          ),
        )
