-- What the steps of closing the gate come to.
use Rattle.std.proofs.Common.{ℕ, ◌≡◌, ◌≢◌, ◌<◌, ◌+◌, List, [], ◌∷◌, Bool, true, false, refl, sym, ap, ◌∙◌, arith, subst}
use Rattle.std.proofs.lemmas.Bool.Decides.{nat_tests}
use Rattle.std.specs.Prelude.{◌==◌, if◌then◌else◌, Some, None}
use Rattle.stm_model.specs.declared.alg.Alg.{Alg}
use Rattle.rule_base.specs.declared.layout.At.TheVariants.{Gate, Status}
use Rattle.stm_model.specs.declared.config.Config.{Config}
use Rattle.rule_base.specs.declared.views.GateView.{GateView}
use Rattle.rule_base.specs.declared.views.Phase.TheVariants.{Aiming, Turned}
use Rattle.rule_base.specs.declared.views.View.{View}
use Rattle.rule_base.specs.declared.views.Act.TheVariants.{Load, Store, Exchange}
use Rattle.rule_base.specs.Own.{Own}
use Rattle.rule_base.specs.Encodings.{fence_of, holder_of, alg_of, gate_word, announced}
use Rattle.rule_base.specs.GateSteps.{announce, aim, closed_at, take_gate, depart, departed}
use Rattle.rule_base.specs.StepKinds.{Nothing, Tells, view_after}
use Rattle.rule_base.specs.World.{World}
use Rattle.stm_rule.specs.Attempts.{IsOutside}
use Rattle.stm_rule.specs.Findings.{FindsGate, FindsTaken}
use Rattle.stm_answers.specs.declared.answers.CloseGate.TheVariants.{Closed, Taken}
use Rattle.stm_answers.specs.Answers.{Closes, ClosesGate, Stays}
use Rattle.stm_answers.specs.Causes.{NamesOther}
use Rattle.stm_answers.specs.CallerState.{known_of, is_in, is_closing, is_settled}
use Rattle.stm_answers.specs.CallerStateLaws.{grows-same}
use Rattle.stm_gate.specs.InnerLaws.{ungranted-of, unlocked-of}
use Rattle.rule_base.specs.GateSteps.{reopen}

two : (k n callers : ℕ) → k < callers → n < callers → k ≢ n → 1 < callers
two k n callers a b apart = grind arith

module _ (good : List ℕ → Type 0) (c : Config) (n : ℕ) where
  abbrev looked : World → World → View → ℕ → View
  looked m l v gate = view_after aim l (view_after (announce n) m v 1) gate

  pub tells-taken : (gate : ℕ) (v s t w : View) (o : Own) → n < c.callers → IsOutside v → holder_of gate ≢ 0 → Tells (announce n) Nothing v 1 s → Tells aim (FindsGate c n) s gate t → Tells (depart n) Nothing t 0 w
      → Closes good c n (Taken gate) (known_of v o) (known_of w o)
  tells-taken gate v s t w o low out other a l d = subst (λ (y : View). Closes good c n (Taken gate) (known_of v o) (known_of y o)) (sym path) (
    record {
      idle = (
        ap (λ b. departed (if b then Aiming else Turned)) apart,
        ap (λ b. is_in (departed (if b then Aiming else Turned))) apart,
        ap (λ b. is_closing (departed (if b then Aiming else Turned))) apart,
        out.reopened,
        unlocked-of last.gate.algorithm v.lock.taken v.tml.writer out.clear.unlocked out.clear.unwritten,
      );
      made = refl;
      grows =
          grows-same (known_of v o) (known_of last o) refl refl (record { place = Status n; act = Store 0; found = None }
          ∷ record { place = Gate; act = Load; found = Some gate } ∷ record { place = Status n; act = Store announced; found = None } ∷ [])
          refl refl refl refl refl;
      rises = refl;
      installs = refl;
      sole = λ one. absurd (let many = two who.0 n c.callers who.1 low who.2 in omega arith);
    },
    (record { place = Status n; act = Store 0; found = None } ∷ record { place = Gate; act = Load; found = Some gate } ∷ record { place = Status n; act = Store announced; found = None } ∷ [], refl, Load, (1, omega arith, refl)),
    who,
    two who.0 n c.callers who.1 low who.2,
  )
    where
      apart : (holder_of gate == 0) ≡ false
      apart = grind (arith, nat_tests)

      who : NamesOther c n (holder_of gate)
      who = l.1.closer (ap (λ (y : View). y.gate.holds) a.2 ∙ out.reopened) other

      last : View
      last = view_after (depart n) d.0 (looked a.0 l.0 v gate) 0

      path : w ≡ last
      path = d.2 ∙ ap (λ y. view_after (depart n) d.0 y 0) (l.2 ∙ ap (λ y. view_after aim l.0 y gate) a.2)

  abbrev taken : World → World → World → View → ℕ → ℕ → View
  taken m l k v gate found = view_after (take_gate n gate) k (looked m l v gate) found

  abbrev taken_gate : View → ℕ → Bool → GateView
  taken_gate v gate b = if b then closed_at gate v.gate else record v.gate { phase = Turned }

  pub tells-refused : (gate found : ℕ) (v s t u w : View) (o : Own) → n < c.callers → IsOutside v → found ≢ gate
      → Tells (announce n) Nothing v 1 s → Tells aim (FindsGate c n) s gate t → Tells (take_gate n gate) (FindsTaken c n gate) t found u
      → Tells (depart n) Nothing u 0 w
      → Closes good c n (Taken found) (known_of v o) (known_of w o)
  tells-refused gate found v s t u w o low out other a l k d = subst (λ (y : View). Closes good c n (Taken found) (known_of v o) (known_of y o)) (sym path) (
    record {
      idle = (
        ap (λ b. departed (taken_gate (looked a.0 l.0 v gate) gate b).phase) apart,
        ap (λ b. is_in (departed (taken_gate (looked a.0 l.0 v gate) gate b).phase)) apart,
        ap (λ b. is_closing (departed (taken_gate (looked a.0 l.0 v gate) gate b).phase)) apart,
        ap (λ b. (taken_gate (looked a.0 l.0 v gate) gate b).holds) apart ∙ out.reopened,
        unlocked-of last.gate.algorithm v.lock.taken v.tml.writer out.clear.unlocked out.clear.unwritten,
      );
      made = refl;
      grows =
          grows-same (known_of v o) (known_of last o) refl refl (record { place = Status n; act = Store 0; found = None }
          ∷ record { place = Gate; act = Exchange gate (gate_word (fence_of gate) (1 + n) (alg_of gate)); found = Some found }
          ∷ record { place = Gate; act = Load; found = Some gate } ∷ record { place = Status n; act = Store announced; found = None } ∷ [])
          refl refl refl refl refl;
      rises = refl;
      installs = refl;
      sole = λ one. absurd (let many = two who.0 n c.callers who.1 low who.2 in omega arith);
    },
    (
      record { place = Status n; act = Store 0; found = None }
          ∷ record { place = Gate; act = Exchange gate (gate_word (fence_of gate) (1 + n) (alg_of gate)); found = Some found }
          ∷ record { place = Gate; act = Load; found = Some gate } ∷ record { place = Status n; act = Store announced; found = None } ∷ [],
      refl,
      Exchange gate (gate_word (fence_of gate) (1 + n) (alg_of gate)),
      (1, omega arith, refl),
    ),
    who,
    two who.0 n c.callers who.1 low who.2,
  )
    where
      apart : (found == gate) ≡ false
      apart = grind (arith, nat_tests)

      who : NamesOther c n (holder_of found)
      who = k.1 other

      last : View
      last = view_after (depart n) d.0 (taken a.0 l.0 k.0 v gate found) 0

      path : w ≡ last
      path = d.2 ∙ ap (λ y. view_after (depart n) d.0 y 0) (k.2 ∙ ap (λ y. view_after (take_gate n gate) k.0 y found) (l.2 ∙ ap (λ y. view_after aim l.0 y gate) a.2))

  pub tells-closed : (gate found : ℕ) (v s t u w : View) (o : Own) → IsOutside v → holder_of gate ≡ 0 → found ≡ gate
      → Tells (announce n) Nothing v 1 s → Tells aim (FindsGate c n) s gate t → Tells (take_gate n gate) (FindsTaken c n gate) t found u
      → Tells (depart n) Nothing u 0 w
      → Closes good c n Closed (known_of v o) (known_of w o)
  tells-closed gate found v s t u w o out free same a l k d = subst (λ (y : View). ClosesGate good c n (known_of v o) (known_of y o)) (sym path) (record {
    holds = record {
      phase = ap (λ b. departed (at b).phase) here;
      running = ap (λ b. is_in (departed (at b).phase)) here;
      closing = ap (λ b. is_closing (departed (at b).phase)) here;
      holds = ap (λ b. (at b).holds) here;
      ungranted = ungranted-of last.gate.algorithm last.gate v.lock (ap (λ b. (at b).granted) here ∙ out.ungranted) out.clear.unfixed;
      unlocked = unlocked-of last.gate.algorithm v.lock.taken v.tml.writer out.clear.unlocked out.clear.unwritten;
    };
    made = refl;
    grows =
        grows-same (known_of v o) (known_of last o) refl refl (record { place = Status n; act = Store 0; found = None }
        ∷ record { place = Gate; act = Exchange gate (gate_word (fence_of gate) (1 + n) (alg_of gate)); found = Some found }
        ∷ record { place = Gate; act = Load; found = Some gate } ∷ record { place = Status n; act = Store announced; found = None } ∷ [])
        refl refl refl refl refl;
    unseen = ap (λ b. (at b).checked) here;
    unsettled = ap (λ b. is_settled (at b)) here;
    rises = refl;
    installs = refl;
    gate = (
      gate,
      (
        record { place = Status n; act = Store 0; found = None }
            ∷ record { place = Gate; act = Exchange gate (gate_word (fence_of gate) (1 + n) (alg_of gate)); found = Some found }
            ∷ record { place = Gate; act = Load; found = Some gate } ∷ record { place = Status n; act = Store announced; found = None } ∷ [],
        refl,
        Load,
        (2, omega arith, refl),
      ),
      free,
      sym named,
    );
    sole = λ one. named ∙ (l.1.sole one ∙ ap (λ (y : View). y.gate.algorithm) a.2);
  })
    where
      here : (found == gate) ≡ true
      here = grind (arith, nat_tests)

      at : Bool → GateView
      at b = taken_gate (looked a.0 l.0 v gate) gate b

      last : View
      last = view_after (depart n) d.0 (taken a.0 l.0 k.0 v gate found) 0

      named : last.gate.algorithm ≡ alg_of gate
      named = ap (λ b. (at b).algorithm) here

      path : w ≡ last
      path = d.2 ∙ ap (λ y. view_after (depart n) d.0 y 0) (k.2 ∙ ap (λ y. view_after (take_gate n gate) k.0 y found) (l.2 ∙ ap (λ y. view_after aim l.0 y gate) a.2))

  pub tells-reopened : (fence : ℕ) (alg : Alg) (v w : View) (o : Own) → (known_of v o).locked ≡ false → Tells (reopen fence alg) Nothing v (gate_word fence 0 alg) w → Stays c (known_of v o) (known_of w o)
  tells-reopened fence alg v w o unlocked t = subst (λ (y : View). Stays c (known_of v o) (known_of y o)) (sym t.2) (record {
    idle = (refl, refl, refl, refl, unlocked);
    made = refl;
    grows = grows-same (known_of v o) (known_of (view_after (reopen fence alg) t.0 v (gate_word fence 0 alg)) o) refl refl (record { place = Gate; act = Store (gate_word fence 0 alg); found = None } ∷ []) refl refl refl refl refl;
    rises = refl;
    installs = refl;
    sole = λ one. refl;
  })
