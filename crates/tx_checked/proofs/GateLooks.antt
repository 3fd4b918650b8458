-- What a look at the gate comes to, and a closing after it.
use Rattle.std.proofs.Common.{ℕ, ◌≡◌, ◌≢◌, ◌<◌, List, [], ◌∷◌, Bool, true, false, refl, sym, ap, ◌∙◌, arith, subst, inl}
use Rattle.std.specs.Prelude.{◌==◌, if◌then◌else◌, Some, None}
use Rattle.stm_model.specs.declared.config.Config.{Config}
use Rattle.rule_base.specs.declared.layout.At.TheVariants.{Gate, Status}
use Rattle.rule_base.specs.declared.views.Act.TheVariants.{Load, Store}
use Rattle.rule_base.specs.declared.views.Phase.TheVariants.{Idle, In, Turned}
use Rattle.rule_base.specs.declared.views.TracedStep.{TracedStep}
use Rattle.rule_base.specs.declared.views.View.{View}
use Rattle.rule_base.specs.Encodings.{announced, fence_of, holder_of}
use Rattle.rule_base.specs.GateSteps.{announce, load_gate, depart, departed, departs, CanDepart}
use Rattle.rule_base.specs.Own.{Own}
use Rattle.rule_base.specs.StepKinds.{Nothing, Tells, view_after}
use Rattle.rule_base.specs.World.{World}
use Rattle.stm_rule.specs.Attempts.{IsOutside}
use Rattle.stm_rule.specs.Findings.{FindsGate}
use Rattle.stm_answers.specs.declared.answers.CloseGate.{CloseGate}
use Rattle.stm_answers.specs.declared.answers.CloseGate.TheVariants.{Closed, Taken}
use Rattle.stm_answers.specs.Answers.{Closes, Stays}
use Rattle.stm_answers.specs.CallerState.{CallerState, known_of, is_in, is_closing}
use Rattle.stm_answers.specs.CallerStateLaws.{grows-same, grows-trans}
use Rattle.stm_gate.specs.InnerLaws.{unlocked-of}
use Rattle.stm_gate.specs.LeavingLaws.{found-earlier}
use Rattle.tx_checked.specs.Alone.{HasClosedBy, HasLookedBy, IsHeldUp, IsTakeRefused, LooksAtGate}
use Rattle.tx_checked.specs.declared.refusal.Refusal.{Refusal}
use Rattle.tx_checked.specs.declared.refusal.Refusal.TheVariants as refusals
use Rattle.tx_checked.specs.Phases.{Any}

two : (k n callers : ℕ) → k < callers → n < callers → k ≢ n → 1 < callers
two k n callers a b apart = grind arith

-- whether it found the gate open or not, it departs
departs-then : (b : Bool) → departs (if b then In else Turned) ≡ true
departs-then true = refl
departs-then false = refl

idle-then : (b : Bool) → departed (if b then In else Turned) ≡ Idle
idle-then true = refl
idle-then false = refl

module _ (c : Config) (n : ℕ) where
  abbrev loaded : World → World → View → ℕ → View
  loaded m l v gate = view_after load_gate l (view_after (announce n) m v 1) gate

  loaded-at : (gate : ℕ) (v s t : View) (a : Tells (announce n) Nothing v 1 s) (l : Tells load_gate (FindsGate c n) s gate t) → t ≡ loaded a.0 l.0 v gate
  loaded-at gate v s t a l = l.2 ∙ ap (λ y. view_after load_gate l.0 y gate) a.2

  left-at : (gate : ℕ) (v s t w : View) (a : Tells (announce n) Nothing v 1 s) (l : Tells load_gate (FindsGate c n) s gate t) (d : Tells (depart n) Nothing t 0 w)
      → w ≡ view_after (depart n) d.0 (loaded a.0 l.0 v gate) 0
  left-at gate v s t w a l d = d.2 ∙ ap (λ y. view_after (depart n) d.0 y 0) (loaded-at gate v s t a l)

  pub can-depart : (gate : ℕ) (v s t : View) → IsOutside v → Tells (announce n) Nothing v 1 s → Tells load_gate (FindsGate c n) s gate t → CanDepart t
  can-depart gate v s t out a l = subst CanDepart (sym (loaded-at gate v s t a l)) (record {
    phase = departs-then (holder_of gate == 0);
    reopened = λ e. out.reopened;
    unlocked = out.clear.unlocked;
    disowned = out.clear.disowned;
    unwritten = out.clear.unwritten;
    uncommitted = out.clear.uncommitted;
    unentered = λ e. out.clear.unentered;
  })

  pub looks : (gate : ℕ) (v s t w : View) (o : Own) → n < c.callers → IsOutside v → Tells (announce n) Nothing v 1 s → Tells load_gate (FindsGate c n) s gate t → Tells (depart n) Nothing t 0 w
      → LooksAtGate c n gate (known_of v o) (known_of w o)
  looks gate v s t w o low out a l d = subst (λ (y : View). LooksAtGate c n gate (known_of v o) (known_of y o)) (sym (left-at gate v s t w a l d)) (record {
    stays =
        record {
          idle = (
            left,
            ap is_in left,
            ap is_closing left,
            out.reopened,
            unlocked-of last.gate.algorithm v.lock.taken v.tml.writer out.clear.unlocked out.clear.unwritten,
          );
          made = refl;
          grows = grows-same (known_of v o) (known_of last o) refl refl steps refl refl refl refl refl;
          rises = refl;
          installs = refl;
          sole = λ one. l.1.sole one ∙ ap (λ (y : View). y.gate.algorithm) a.2;
        };
    steps = steps;
    step_trace = refl;
    found = (1, omega arith, refl);
    untouched = (λ e. absurd (let no : Status n ≡ Gate = e in cc), (λ e. refl, (λ e. absurd (let no : Status n ≡ Gate = e in cc), tt)));
    closer = λ other. let who = l.1.closer (ap (λ (y : View). y.gate.holds) a.2 ∙ out.reopened) other in (who, two who.0 n c.callers who.1 low who.2);
  })
    where
      last : View
      last = view_after (depart n) d.0 (loaded a.0 l.0 v gate) 0

      left : last.gate.phase ≡ Idle
      left = idle-then (holder_of gate == 0)

      steps : List TracedStep
      steps = record { place = Status n; act = Store 0; found = None } ∷ record { place = Gate; act = Load; found = Some gate } ∷ record { place = Status n; act = Store announced; found = None } ∷ []

  stays-after : (u v w : CallerState) → Stays c u v → Stays c v w → Stays c u w
  stays-after u v w a b = record {
    idle = b.idle;
    made = b.made ∙ a.made;
    grows = grows-trans u v w a.grows b.grows;
    rises = b.rises ∙ a.rises;
    installs = b.installs ∙ a.installs;
    sole = λ one. b.sole one ∙ a.sole one;
  }

  -- a closing after a look is one since before it
  pub closes-after : (r : CloseGate) (gate : ℕ) (u v w : CallerState) → LooksAtGate c n gate u v → Closes Any c n r v w → Closes Any c n r u w
  closes-after Closed gate u v w l k = record {
    holds = k.holds;
    made = k.made ∙ l.stays.made;
    grows = grows-trans u v w l.stays.grows k.grows;
    unseen = k.unseen;
    unsettled = k.unsettled;
    rises = k.rises ∙ l.stays.rises;
    installs = k.installs ∙ l.stays.installs;
    gate = (k.gate.0, found-earlier Gate k.gate.0 u v w k.gate.1 l.steps l.step_trace, k.gate.2, k.gate.3);
    sole = λ one. k.sole one ∙ l.stays.sole one;
  }
  closes-after (Taken found) gate u v w l k = (stays-after u v w l.stays k.0, found-earlier Gate found u v w k.1 l.steps l.step_trace, k.2, k.3)

  -- and the closing after one that does
  pub closed-after : (closing : Bool) (u v w : CallerState) → HasLookedBy c n closing u v → HasClosedBy c n closing v w → HasClosedBy c n closing u w
  closed-after true u v w l k = k ∙ l
  closed-after false u v w l k = closes-after Closed l.0 u v w l.1 k

  pub held-up-after : (closing : Bool) (e : Refusal) (u v w : CallerState) → HasLookedBy c n closing u v → IsHeldUp c n closing e v w → IsTakeRefused c n closing e u w
  held-up-after true (refusals.GateClosed gate) u v w l k = absurd (let no : true ≡ false = k.0 in cc)
  held-up-after false (refusals.GateClosed gate) u v w l k = (refl, closes-after (Taken gate) l.0 u v w l.1 k.1)
  held-up-after closing (refusals.Busy caller status) u v w l k = (k.0, closed-after closing u v k.0 l k.1, k.2)
  held-up-after closing (refusals.Conflict cause) u v w l k = absurd k
  held-up-after closing (refusals.Held word) u v w l k = absurd k
  held-up-after closing (refusals.Again word had now) u v w l k = absurd k
  held-up-after closing (refusals.ReadsFull limit) u v w l k = absurd k
  held-up-after closing (refusals.WritesFull limit) u v w l k = absurd k
  held-up-after closing (refusals.ClockFull clock) u v w l k = absurd k
  held-up-after closing refusals.Irrevocable u v w l k = absurd k
  held-up-after closing (refusals.Deep limit) u v w l k = absurd k
  held-up-after closing (refusals.RangeTaken gate) u v w l k = absurd k
