-- What looks come to, one after another.
use Rattle.std.proofs.Common.{ℕ, ◌≡◌, ◌≢◌, ◌<◌, ◌+◌, List, [], ◌∷◌, ◌++◌, Bool, true, false, refl, sym, ap, ◌∙◌, arith, subst, append_assoc}
use Rattle.std.proofs.lemmas.Bool.Decides.{nat_tests}
use Rattle.std.specs.Prelude.{Some, ◌==◌, if◌then◌else◌}
use Rattle.stm_model.specs.declared.config.Config.{Config}
use Rattle.rule_base.specs.declared.layout.At.TheVariants.{Status}
use Rattle.rule_base.specs.declared.views.Act.TheVariants.{Load}
use Rattle.rule_base.specs.declared.views.TracedStep.{TracedStep}
use Rattle.rule_base.specs.declared.views.View.{View}
use Rattle.rule_base.specs.GateSteps.{check}
use Rattle.rule_base.specs.History.{member}
use Rattle.rule_base.specs.StepKinds.{Nothing, Tells}
use Rattle.stm_rule.specs.Attempts.{HasLooked}
use Rattle.stm_rule.specs.Callers.{idle_own}
use Rattle.stm_answers.specs.declared.answers.Look.{Look}
use Rattle.stm_answers.specs.declared.answers.Look.TheVariants.{Quiet, Busy}
use Rattle.stm_answers.specs.Answers.{HoldsClosed, Looked, Looks, OfUnseen}
use Rattle.stm_answers.specs.Evidence.{Found}
use Rattle.stm_answers.specs.CallerState.{known_of}
use Rattle.stm_answers.specs.CallerStateLaws.{grows-same}
use Rattle.rule_base.specs.Own.{Own}
use Rattle.stm_gate.specs.InnerLaws.{granted-same}
use Rattle.stm_gate.specs.LeavingLaws.{found-earlier}
use Rattle.stm_gate.specs.Looking.{looked, LooksOn, LooksUntil, Finds}

pub looks-none : (v : View) → LooksOn v v
looks-none v = record { checked = v.gate.checked; more = []; is = refl; kept = λ k e. e; unseen = tt }

-- who is seen later was not seen before
unseen-before : (k : ℕ) (xs ys : List ℕ) → ((j : ℕ) → member xs j ≡ true → member ys j ≡ true) → member ys k ≡ false → (b : Bool) → member xs k ≡ b → b ≡ false
unseen-before k xs ys more out true e = absurd (let t : true ≡ false = sym (more k e) ∙ out in cc)
unseen-before k xs ys more out false e = refl

of-unseen-before : (xs ys : List ℕ) (is : List TracedStep) → ((j : ℕ) → member xs j ≡ true → member ys j ≡ true) → OfUnseen ys is → OfUnseen xs is
of-unseen-before xs ys [] more h = tt
of-unseen-before xs ys (i ∷ is) more h = ((h.0.0, h.0.1, unseen-before h.0.0 xs ys more h.0.2 (member xs h.0.0) refl), of-unseen-before xs ys is more h.1)

of-unseen-append : (xs : List ℕ) (is js : List TracedStep) → OfUnseen xs is → OfUnseen xs js → OfUnseen xs (is ++ js)
of-unseen-append xs [] js a b = b
of-unseen-append xs (i ∷ is) js a b = (a.0, of-unseen-append xs is js a.1 b)

pub looks-more : (u v w : View) → LooksOn u v → LooksOn v w → LooksOn u w
looks-more u v w a b = subst (λ (x : View). LooksOn u x) (sym path) (record {
  checked = b.checked;
  more = b.more ++ a.more;
  is = refl;
  kept = λ k e. bk k (a.kept k e);
  unseen = of-unseen-append u.gate.checked b.more a.more (of-unseen-before u.gate.checked a.checked b.more a.kept (subst (λ (cs : List ℕ). OfUnseen cs b.more) at b.unseen)) a.unseen;
})
  where
    at : v.gate.checked ≡ a.checked
    at = ap (λ (x : View). x.gate.checked) a.is

    bk : (k : ℕ) → member a.checked k ≡ true → member b.checked k ≡ true
    bk k e = b.kept k (ap (λ (cs : List ℕ). member cs k) at ∙ e)

    path : w ≡ looked u b.checked ((b.more ++ a.more) ++ u.steps.step_trace)
    path = b.is ∙ (ap (λ (x : View). looked x b.checked (b.more ++ x.steps.step_trace)) a.is ∙ ap (looked u b.checked) (sym (append_assoc b.more a.more u.steps.step_trace)))

module _ (c : Config) (n : ℕ) where
  not-seen : (k : ℕ) (v : View) → HasLooked c.callers n k v → (b : Bool) → member v.gate.checked k ≡ b → b ≡ false
  not-seen k v seen true e = absurd (let l = seen.unseen k e in omega arith)
  not-seen k v seen false e = refl

  kept-one : (k : ℕ) (cs : List ℕ) (b : Bool) (j : ℕ) → member cs j ≡ true → member (if b then k ∷ cs else cs) j ≡ true
  kept-one k cs true j e = grind (arith, e)
  kept-one k cs false j e = e

  -- one look
  pub looks-one : (k x : ℕ) (v w : View) → HasLooked c.callers n k v → Tells (check k) Nothing v x w → LooksOn v w
  looks-one k x v w seen t = subst (λ (y : View). LooksOn v y) (sym t.2) (record {
    checked = if x == 0 then k ∷ v.gate.checked else v.gate.checked;
    more = record { place = Status k; act = Load; found = Some x } ∷ [];
    is = refl;
    kept = kept-one k v.gate.checked (x == 0);
    unseen = ((k, refl, not-seen k v seen (member v.gate.checked k) refl), tt);
  })

  pub finds-one : (k x : ℕ) (v w : View) → k < c.callers → k ≢ n → HasLooked c.callers n k v → Tells (check k) Nothing v x w → Finds c n k x v w
  finds-one k x v w low other seen t = record { idle = idle; busy = busy }
    where
      at : (b : Bool) → (x == 0) ≡ b → w.gate.checked ≡ (if b then k ∷ v.gate.checked else v.gate.checked)
      at b e = ap (λ (y : View). y.gate.checked) t.2 ∙ ap (λ (d : Bool). if d then k ∷ v.gate.checked else v.gate.checked) e

      idle : x ≡ 0 → HasLooked c.callers n (k + 1) w
      idle e = let here : (x == 0) ≡ true = grind (arith, nat_tests) in let cs : w.gate.checked ≡ k ∷ v.gate.checked = at true here in record {
        low = omega arith;
        seen = λ j l d. ap (λ (ds : List ℕ). member ds j) cs ∙ more j l d;
        unseen = λ j m. less j (sym (ap (λ (ds : List ℕ). member ds j) cs) ∙ m);
      }
        where
          more : (j : ℕ) → j < k + 1 → j ≢ n → member (k ∷ v.gate.checked) j ≡ true
          more j l d = by (k == j) refl
            where
              by : (b : Bool) → (k == j) ≡ b → (if b then true else member v.gate.checked j) ≡ true
              by true q = refl
              by false q = seen.seen j (let apart : k ≢ j = grind (arith, nat_tests) in omega arith) d

          less : (j : ℕ) → member (k ∷ v.gate.checked) j ≡ true → j < k + 1
          less j m = by (k == j) refl m
            where
              by : (b : Bool) → (k == j) ≡ b → (if b then true else member v.gate.checked j) ≡ true → j < k + 1
              by true q f = let same : k ≡ j = grind (arith, nat_tests) in omega arith
              by false q f = let l = seen.unseen j f in omega arith

      busy : x ≢ 0 → (k ≢ n) × HasLooked c.callers n k w × Found (Status k) x (known_of v (idle_own c)) (known_of w (idle_own c))
      busy b = let apart : (x == 0) ≡ false = grind (arith, nat_tests) in let cs : w.gate.checked ≡ v.gate.checked = at false apart in (
        other,
        record { low = seen.low; seen = λ j l d. ap (λ (ds : List ℕ). member ds j) cs ∙ seen.seen j l d; unseen = λ j m. seen.unseen j (sym (ap (λ (ds : List ℕ). member ds j) cs) ∙ m) },
        (record { place = Status k; act = Load; found = Some x } ∷ [], ap (λ (y : View). y.steps.step_trace) t.2, Load, (0, omega arith, refl)),
      )

  two : (k : ℕ) → k < c.callers → n < c.callers → k ≢ n → 1 < c.callers
  two k a b apart = grind arith

  module _ (good : List ℕ → Type 0) where
    -- looks, the last of which found another caller not idle
    pub looks-busy : (k x : ℕ) (u v w : View) → n < c.callers → k < c.callers → x ≢ 0 → LooksOn u v → LooksOn v w → Finds c n k x v w → LooksUntil c n good (Busy k x) u w
    looks-busy k x u v w own low busy a b found = let h = found.busy busy in (
      looks-more u v w a b,
      record {
        other = (low, h.0, two k low own h.0);
        announced = (let e = busy in omega arith);
        found = found-earlier (Status k) x (known_of u (idle_own c)) (known_of v (idle_own c)) (known_of w (idle_own c)) h.2 a.more (ap (λ (y : View). y.steps.step_trace) a.is);
        before = h.1.seen;
      },
    )

    -- the same for who is closing
    pub looked-closed : (u w : View) (o : Own) → HoldsClosed (known_of u o) → LooksOn u w → Looked good c n (known_of u o) (known_of w o)
    looked-closed u w o h a = subst (λ (y : View). Looked good c n (known_of u o) (known_of y o)) (sym a.is) (record {
      closed = record {
        holds = record { phase = h.phase; running = h.running; closing = h.closing; holds = h.holds; ungranted = granted-same u.gate.algorithm (record u.gate { checked = a.checked }) u.gate u.lock refl ∙ h.ungranted; unlocked = h.unlocked };
        made = refl;
        grows = grows-same (known_of u o) (known_of (looked u a.checked (a.more ++ u.steps.step_trace)) o) refl refl a.more refl refl refl refl refl;
        checked = a.kept;
      };
      steps = (a.more, refl, a.unseen);
      settled = refl;
      alg = refl;
      rises = refl;
      installs = refl;
      fence = refl;
    })

    pub looks-closed : (r : Look) (u w : View) (o p : Own) → p ≡ o → HoldsClosed (known_of u o) → LooksUntil c n good r u w → Looks good c n r (known_of u o) (known_of w p)
    looks-closed r u w o p own h a = subst (λ (q : Own). Looks good c n r (known_of u o) (known_of w q)) (sym own) (by r a)
      where
        by : (r : Look) → LooksUntil c n good r u w → Looks good c n r (known_of u o) (known_of w o)
        by Quiet a = (looked-closed u w o h a.0, a.1)
        by (Busy caller status) a = (looked-closed u w o h a.0, record { other = a.1.other; announced = a.1.announced; found = a.1.found; before = a.1.before })
