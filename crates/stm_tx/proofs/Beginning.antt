-- What the steps of a try to begin come to.
use Rattle.std.proofs.Common.{ℕ, ◌≡◌, ◌≢◌, ◌<◌, List, [], ◌∷◌, ◌++◌, true, false, refl, sym, ap, ◌∙◌, arith, subst, append_assoc}
use Rattle.std.proofs.lemmas.Bool.Decides.{nat_tests}
use Rattle.std.proofs.lemmas.List.Elements.{Contains-append_left}
use Rattle.std.specs.Prelude.{◌^◌, ◌==◌, if◌then◌else◌, Some, None, reverse}
use Rattle.stm_model.specs.Algorithms.{asks_at_begin}
use Rattle.stm_model.specs.declared.alg.Alg.{Alg}
use Rattle.stm_model.specs.declared.alg.Alg.TheVariants.{Cgl, Tml, OrecLazy, OrecEager, RingSw, Serial}
use Rattle.stm_model.specs.declared.config.Config.{Config}
use Rattle.rule_base.specs.declared.layout.At.{At}
use Rattle.rule_base.specs.declared.layout.At.TheVariants.{Clock, Lock, Gate, Status}
use Rattle.rule_base.specs.declared.views.Act.TheVariants.{Load, Store, Exchange}
use Rattle.rule_base.specs.declared.views.Phase.TheVariants.{In, Turned}
use Rattle.rule_base.specs.declared.views.TracedStep.{TracedStep}
use Rattle.rule_base.specs.declared.views.View.{View}
use Rattle.rule_base.specs.Encodings.{holder_of, alg_of, fence_of, announced, taken_lock}
use Rattle.rule_base.specs.GateSteps.{announce, load_gate, depart, departed}
use Rattle.rule_base.specs.Own.{Own}
use Rattle.rule_base.specs.StepKinds.{Nothing, Tells, view_after}
use Rattle.rule_base.specs.World.{World}
use Rattle.stm_rule.specs.declared.local.Local.{Local}
use Rattle.stm_rule.specs.Attempts.{IsOutside}
use Rattle.stm_rule.specs.Findings.{FindsGate}
use Rattle.stm_answers.specs.declared.answers.Begin.{Begin}
use Rattle.stm_answers.specs.declared.answers.Begin.TheVariants.{Begun, Closed, Held, ClockFull}
use Rattle.stm_answers.specs.Answers.{Begins, BeginsAt, FindsOpen, Stays, IsHeld, start_word}
use Rattle.stm_answers.specs.Causes.{NamesOther}
use Rattle.stm_answers.specs.Evidence.{Found, Exchanged}
use Rattle.stm_answers.specs.CallerState.{CallerState, Grows, known_of, is_in, is_closing}
use Rattle.stm_answers.specs.CallerStateLaws.{grows-same, grows-trans}
use Rattle.stm_gate.specs.InnerLaws.{unlocked-of}
use Rattle.stm_gate.specs.LeavingLaws.{found-later, found-earlier, finds-full}
use Rattle.stm_gate.specs.Starts.{CanBegin, Waits, IsFresh, StartsAt, Refuses}

two : (k n callers : ℕ) → k < callers → n < callers → k ≢ n → 1 < callers
two k n callers a b apart = grind arith

-- an exchange from a later moment on, as seen from before
exchanged-earlier : (p : At) (old new : ℕ) (u v w : CallerState) → Exchanged p old new v w → (more : List TracedStep) → v.step_trace ≡ more ++ u.step_trace → Exchanged p old new u w
exchanged-earlier p old new u v w f more t = (
  f.0 ++ more,
  f.1 ∙ (ap (λ s. f.0 ++ s) t ∙ sym (append_assoc f.0 more u.step_trace)),
  Contains-append_left f.0 more (record { place = p; act = Exchange old new; found = Some old }) f.2,
)

module _ (good : List ℕ → Type 0) (c : Config) (n : ℕ) where
  abbrev pub looked : World → World → View → ℕ → View
  looked m l v gate = view_after load_gate l (view_after (announce n) m v 1) gate

  abbrev pub first_steps : ℕ → List TracedStep
  first_steps gate = record { place = Gate; act = Load; found = Some gate } ∷ record { place = Status n; act = Store announced; found = None } ∷ []

  pub looked-at : (gate : ℕ) (v s t : View) (a : Tells (announce n) Nothing v 1 s) (l : Tells load_gate (FindsGate c n) s gate t) → t ≡ looked a.0 l.0 v gate
  looked-at gate v s t a l = l.2 ∙ ap (λ y. view_after load_gate l.0 y gate) a.2

  pub can-begin : (gate : ℕ) (v s t : View) → IsOutside v → holder_of gate ≡ 0 → Tells (announce n) Nothing v 1 s → Tells load_gate (FindsGate c n) s gate t → CanBegin (alg_of gate) t
  can-begin gate v s t out zero a l = subst (λ (y : View). CanBegin (alg_of gate) y) (sym (looked-at gate v s t a l)) (record {
    phase = ap (λ b. if b then In else Turned) open_gate;
    named = refl;
    reopened = out.reopened;
    ungranted = out.ungranted;
    clear = record { unlocked = out.clear.unlocked; disowned = out.clear.disowned; unwritten = out.clear.unwritten; uncommitted = out.clear.uncommitted; unentered = out.clear.unentered; unfixed = out.clear.unfixed };
    unentered = out.unentered;
    rises = refl;
  })
    where
      open_gate : (holder_of gate == 0) ≡ true
      open_gate = grind (arith, nat_tests)

  -- what the descriptor kept of an earlier attempt is nothing to a begin
  pub begins-fresh : (alg : Alg) (v w : View) (o p : Own) → o.reads_limit ≡ p.reads_limit → o.writes_limit ≡ p.writes_limit → o.marks_limit ≡ p.marks_limit
      → BeginsAt good c n alg (known_of v p) (known_of w p) → BeginsAt good c n alg (known_of v o) (known_of w p)
  begins-fresh alg v w o p reads writes marks b = let g = b.grows in record {
    running = b.running;
    committing = b.committing;
    closing = b.closing;
    made = b.made;
    grows =
        record {
          later = g.later;
          is = g.is;
          ascending = g.ascending;
          up_to = g.up_to;
          front_rose = g.front_rose;
          more = g.more;
          step_trace = g.step_trace;
          reads_limit = g.reads_limit ∙ sym reads;
          writes_limit = g.writes_limit ∙ sym writes;
          marks_limit = g.marks_limit ∙ sym marks;
          fenced = g.fenced;
        };
    gate = b.gate;
    fence = b.fence;
    unfenced = b.unfenced;
    named = b.named;
    sole = b.sole;
    start = b.start;
    fresh = b.fresh;
    log = b.log;
    unmarked = b.unmarked;
    bare = b.bare;
    opaque = b.opaque;
    granted = b.granted;
    holds = b.holds;
    rises = b.rises;
    base = b.base;
    installs = b.installs;
    locked = b.locked;
    took = b.took;
  }

  pub tells-closed : (gate : ℕ) (v s t w : View) (o : Own) → n < c.callers → IsOutside v → holder_of gate ≢ 0 → Tells (announce n) Nothing v 1 s → Tells load_gate (FindsGate c n) s gate t → Tells (depart n) Nothing t 0 w
      → Begins good c n (Closed gate) (known_of v o) (known_of w o)
  tells-closed gate v s t w o low out other a l d = subst (λ (y : View). Begins good c n (Closed gate) (known_of v o) (known_of y o)) (sym path) (
    record {
      idle = (
        ap (λ b. departed (if b then In else Turned)) apart,
        ap (λ b. is_in (departed (if b then In else Turned))) apart,
        ap (λ b. is_closing (departed (if b then In else Turned))) apart,
        out.reopened,
        unlocked-of last.gate.algorithm v.lock.taken v.tml.writer out.clear.unlocked out.clear.unwritten,
      );
      made = refl;
      grows = grows-same (known_of v o) (known_of last o) refl refl (record { place = Status n; act = Store 0; found = None } ∷ first_steps gate) refl refl refl refl refl;
      rises = refl;
      installs = refl;
      sole = λ one. absurd (let many = two who.0 n c.callers who.1 low who.2 in omega arith);
    },
    (record { place = Status n; act = Store 0; found = None } ∷ first_steps gate, refl, Load, (1, omega arith, refl)),
    who,
    two who.0 n c.callers who.1 low who.2,
  )
    where
      apart : (holder_of gate == 0) ≡ false
      apart = grind (arith, nat_tests)

      open_before : s.gate.holds ≡ false
      open_before = ap (λ (y : View). y.gate.holds) a.2 ∙ out.reopened

      who : NamesOther c n (holder_of gate)
      who = l.1.closer open_before other

      last : View
      last = view_after (depart n) d.0 (looked a.0 l.0 v gate) 0

      path : w ≡ last
      path = d.2 ∙ ap (λ y. view_after (depart n) d.0 y 0) (looked-at gate v s t a l)

  -- the first two steps, as the caller knows them
  module _ (gate : ℕ) (v s t : View) (o : Own) (a : Tells (announce n) Nothing v 1 s) (l : Tells load_gate (FindsGate c n) s gate t) where
    same : {A : Type 0} → (f : View → A) → f t ≡ f (looked a.0 l.0 v gate)
    same f = ap f (looked-at gate v s t a l)

    pub grows-looked : Grows (known_of v o) (known_of t o)
    grows-looked =
        subst (λ (y : View). Grows (known_of v o) (known_of y o)) (sym (looked-at gate v s t a l))
        (grows-same (known_of v o) (known_of (looked a.0 l.0 v gate) o) refl refl (first_steps gate) refl refl refl refl refl)

    pub found-gate : Found Gate gate (known_of v o) (known_of t o)
    found-gate = subst (λ (y : View). Found Gate gate (known_of v o) (known_of y o)) (sym (looked-at gate v s t a l)) (first_steps gate, refl, Load, (0, omega arith, refl))

    pub step_trace-looked : (known_of t o).step_trace ≡ first_steps gate ++ (known_of v o).step_trace
    step_trace-looked = same (λ y. y.steps.step_trace)

    -- alone, it knew the algorithm
    knew : c.callers ≡ 1 → alg_of gate ≡ v.gate.algorithm
    knew one = l.1.sole one ∙ ap (λ (y : View). y.gate.algorithm) a.2

    pub tells-begun : (start : ℕ) (w : View) (k : Local) → holder_of gate ≡ 0 → fence_of gate < 2 ^ 48 → k.holds ≡ false → IsFresh o
        → StartsAt good c n (alg_of gate) start t w → BeginsAt good c n (alg_of gate) (known_of v o) (known_of w o)
    tells-begun start w k zero fits free fresh b =
        let i = b.inside (record k { fence = fence_of gate }) (record { is = b.fence ∙ same (λ y. y.gate.fence); fits = fits }) free in
        let q = b.starts o fresh in
        let g = q.keeps.grows in
        let seen = b.fence ∙ same (λ y. y.gate.fence) in record {
          running = ap is_in i.phase;
          committing = fresh.0;
          closing = ap is_closing i.phase;
          made = q.keeps.made ∙ same (λ y. (known_of y o).made);
          grows = grows-trans (known_of v o) (known_of t o) (known_of w o) grows-looked g;
          gate = (gate, found-later Gate gate (known_of v o) (known_of t o) (known_of w o) found-gate g.more g.step_trace, zero, refl);
          fence = (gate, found-later Gate gate (known_of v o) (known_of t o) (known_of w o) found-gate g.more g.step_trace, seen);
          unfenced = λ off. seen ∙ l.1.unfenced off;
          named = i.named;
          sole = knew;
          start =
              subst (λ x. Found (start_word (alg_of gate)) x (known_of v o) (known_of w o)) (sym q.is)
              (found-earlier (start_word (alg_of gate)) start (known_of v o) (known_of t o) (known_of w o) q.found (first_steps gate)
              step_trace-looked);
          fresh = (let f = q.fresh in let s = q.is in let e : t.history.front ≡ v.history.front = same (λ y. y.history.front) in omega arith);
          log = q.log;
          unmarked = (fresh.2, fresh.3);
          bare = q.bare;
          opaque = q.opaque;
          granted = q.granted;
          holds = b.reopened;
          rises = q.keeps.rises ∙ same (λ y. y.steps.rises);
          base = sym b.rises ∙ (q.keeps.rises ∙ same (λ y. y.steps.rises));
          installs = q.keeps.installs ∙ same (λ y. reverse y.steps.installs);
          locked = q.locked;
          took = λ takes. exchanged-earlier Lock 0 (taken_lock n) (known_of v o) (known_of t o) (known_of w o) (q.took takes) (first_steps gate) step_trace-looked;
        }

    -- a refusal, after the caller has departed
    module _ (u w : View) (d : Tells (depart n) Nothing u 0 w) where
      wider : (place : At) (x : ℕ) → Found place x (known_of t o) (known_of u o) → Found place x (known_of v o) (known_of w o)
      wider place x f =
          found-later place x (known_of v o) (known_of u o) (known_of w o)
          (found-earlier place x (known_of v o) (known_of t o) (known_of u o) f (first_steps gate) step_trace-looked)
          (record { place = Status n; act = Store 0; found = None } ∷ []) (ap (λ (y : View). y.steps.step_trace) d.2)

      pub stays : Waits (alg_of gate) t u → Stays c (known_of v o) (known_of w o)
      stays b = let q = b.keeps o in subst (λ (y : View). Stays c (known_of v o) (known_of y o)) (sym d.2) (record {
        idle = (
          ap departed b.can.phase,
          ap (λ p. is_in (departed p)) b.can.phase,
          ap (λ p. is_closing (departed p)) b.can.phase,
          b.can.reopened,
          unlocked-of u.gate.algorithm u.lock.taken u.tml.writer b.can.clear.unlocked b.can.clear.unwritten,
        );
        made = q.made ∙ same (λ y. (known_of y o).made);
        grows = grows-trans (known_of v o) (known_of u o) (known_of (view_after (depart n) d.0 u 0) o) (grows-trans (known_of v o) (known_of t o) (known_of u o) grows-looked q.grows)
            (grows-same (known_of u o) (known_of (view_after (depart n) d.0 u 0) o) refl refl (record { place = Status n; act = Store 0; found = None } ∷ []) refl refl refl refl refl);
        rises = q.rises ∙ same (λ y. y.steps.rises);
        installs = q.installs ∙ same (λ y. reverse y.steps.installs);
        sole = λ one. b.can.named ∙ knew one;
      })

      finds-open : holder_of gate ≡ 0 → Waits (alg_of gate) t u → FindsOpen good c n (alg_of gate) (known_of v o) (known_of w o)
      finds-open zero b = let g = (b.keeps o).grows in (
        gate,
        found-later Gate gate (known_of v o) (known_of u o) (known_of w o)
            (found-later Gate gate (known_of v o) (known_of t o) (known_of u o) found-gate g.more g.step_trace)
            (record { place = Status n; act = Store 0; found = None } ∷ []) (ap (λ (y : View). y.steps.step_trace) d.2),
        zero,
        refl,
      )

      held : (alg : Alg) (word : ℕ) → IsHeld good c n alg word (known_of t o) (known_of u o) → IsHeld good c n alg word (known_of v o) (known_of w o)
      held Cgl word h = (wider Lock word h.0, h.1)
      held Tml word h = (wider Clock word h.0, h.1)
      held OrecLazy word h = absurd h
      held OrecEager word h = absurd h
      held RingSw word h = absurd h
      held Serial word h = (wider Lock word h.0, h.1)

      pub tells-refused : (refusal : Begin) → holder_of gate ≡ 0 → Refuses good c n (alg_of gate) refusal t u → Begins good c n refusal (known_of v o) (known_of w o)
      tells-refused (Begun alg) zero r = absurd r
      tells-refused (Closed word) zero r = absurd r
      tells-refused (Held word) zero r =
          let alg : alg_of gate ≡ w.gate.algorithm = sym (ap (λ (y : View). y.gate.algorithm) d.2 ∙ r.0.can.named) in (
            stays r.0,
            subst (λ k. FindsOpen good c n k (known_of v o) (known_of w o)) alg (finds-open zero r.0),
            r.1,
            subst (λ k. IsHeld good c n k word (known_of v o) (known_of w o)) alg (held (alg_of gate) word (r.2 o)),
            r.3,
          )
      tells-refused (ClockFull clock) zero r =
          let alg : alg_of gate ≡ w.gate.algorithm = sym (ap (λ (y : View). y.gate.algorithm) d.2 ∙ r.0.can.named) in
          (stays r.0, subst (λ k. FindsOpen good c n k (known_of v o) (known_of w o)) alg (finds-open zero r.0), ap asks_at_begin (sym alg) ∙ r.1, finds-full clock v w o o (r.2 o).limit (wider Clock clock (r.2 o).found))
