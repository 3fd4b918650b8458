-- Laws of what tallies count.
use Rattle.std.proofs.Common.{ℕ, ◌≡◌, ◌∙◌, List, ap, subst, inr}
use Rattle.std.specs.Prelude.{Option, Some, None, IfSome, IfNone}
use Rattle.stm_model.specs.declared.alg.Alg.{Alg}
use Rattle.stm_model.specs.declared.config.Config.{Config}
use Rattle.stm_model.specs.declared.config.TheConstants.{MOST_LOG}
use Rattle.stm_rule.specs.declared.stm.Stm.{Stm}
use Rattle.stm_rule.specs.Callers.{Handle}
use Rattle.stm_tx.specs.Descs.{known, number}
use Rattle.stm_answers.specs.CallerState.{CallerState}
use Rattle.tx_atomic.specs.declared.tally.Tally.{Tally}
use Rattle.tx_atomic.specs.Accounts.{Account}
use Rattle.tx_atomic.specs.AttemptLaws.{same-number}
use Rattle.tx_atomic.specs.Callers.{IsThrough}
use Rattle.tx_atomic.specs.declared.tally.Ended.TheVariants.{ClockFull}
use Rattle.tx_atomic.specs.CourseLaws.{course-again, course-more, course-none, course-ran, course-trans}
use Rattle.tx_atomic.specs.Courses.{HasCourse}
use Rattle.tx_atomic.specs.Switches.{Switches}
use Rattle.tx_atomic.specs.Tries.{Ran, RanAgain}
use Rattle.tx_atomic.specs.TryLaws.{again-most, ran-most}
use Rattle.tx_start.specs.Counts.{Counts, unobserved}

pub counts-none : (good : List ℕ → Type 0) (c : Config) (n : ℕ) (v : CallerState) (t : Tally) → Counts good c n v v t t
counts-none good c n v t = course-none good c n (λ ended at heard. heard) v (unobserved t)

-- of one caller, in one memory
pub counts-trans : {K : Type 0} (good : K → List ℕ → Type 0) (s t : Stm K) (d e f : Handle K) (i j k : Tally) → t ≡ s → IsThrough d e
    → Counts (good s.rule) s.config (number d) (known d) (known e) i j → Counts (good t.rule) t.config (number e) (known e) (known f) j k
    → Counts (good s.rule) s.config (number d) (known d) (known f) i k
counts-trans {K} good s t d e f i j k same through a b =
    let here = subst (λ (m : Stm K). Counts (good m.rule) m.config (number e) (known e) (known f) j k) same b in
    course-trans (good s.rule) s.config (number d) (λ ended at heard. heard) (known d) (known e) (known f) (unobserved i) (unobserved j) (unobserved k) a
    (subst (λ n. Counts (good s.rule) s.config n (known e) (known f) j k) (same-number d e through.same) here)

module _ (good : List ℕ → Type 0) (c : Config) (n : ℕ) (u w : CallerState) where
  -- as it is kept of who is not observed, and whose logs may become as long as logs can be
  unobserved-is : (a : Account (Unit {0})) → a.most ≡ MOST_LOG → a ≡ unobserved a.tally
  unobserved-is a most = ap (λ m. record { tally = a.tally; heard = tt; most = m }) most

  counts : (s t : Account (Unit {0})) → s.most ≡ MOST_LOG → t.most ≡ MOST_LOG → HasCourse good c n (λ ended at heard. heard) u w s t → Counts good c n u w s.tally t.tally
  counts s t before after h =
      subst (λ (a : Account (Unit {0})). HasCourse good c n (λ ended at heard. heard) u w a (unobserved t.tally)) (unobserved-is s before)
      (subst (λ (a : Account (Unit {0})). HasCourse good c n (λ ended at heard. heard) u w s a) (unobserved-is t after) h)

  -- of each call of a caller
  pub counts-ran : {A : Type 0} (answer : Option A) (s t : Account (Unit {0})) → s.most ≡ MOST_LOG → IfSome answer (λ _. Ran good c n (λ ended at heard. heard) None u w s t)
      → IfNone answer (Ran good c n (λ ended at heard. heard) (Some ClockFull) u w s t) → (t.most ≡ MOST_LOG) × Counts good c n u w s.tally t.tally
  counts-ran None s t most some none =
      let after = ran-most good c n (λ ended at heard. heard) (Some ClockFull) u w s t none ∙ most in
      (after, counts s t most after (course-ran good c n (λ ended at heard. heard) (Some ClockFull) u w s t none))
  counts-ran (Some a) s t most some none =
      let after = ran-most good c n (λ ended at heard. heard) None u w s t some ∙ most in
      (after, counts s t most after (course-ran good c n (λ ended at heard. heard) None u w s t some))

  pub counts-again : {A : Type 0} (answer : Option A) (s t : Account (Unit {0})) → s.most ≡ MOST_LOG → IfSome answer (λ _. RanAgain good c n (λ ended at heard. heard) None u w s t)
      → IfNone answer (RanAgain good c n (λ ended at heard. heard) (Some ClockFull) u w s t) → (t.most ≡ MOST_LOG) × Counts good c n u w s.tally t.tally
  counts-again None s t most some none =
      let after = again-most good c n (λ ended at heard. heard) (Some ClockFull) u w s t none ∙ most in
      (after, counts s t most after (course-again good c n (λ ended at heard. heard) (Some ClockFull) u w s t none))
  counts-again (Some a) s t most some none =
      let after = again-most good c n (λ ended at heard. heard) None u w s t some ∙ most in
      (after, counts s t most after (course-again good c n (λ ended at heard. heard) None u w s t some))

  pub counts-switch : (s t : Tally) (alg : Alg) (looks : ℕ) → t ≡ s → Switches good c n alg looks u w → Counts good c n u w s t
  counts-switch s t alg looks same h =
      course-more good c n (λ ended at heard. heard) u u w (unobserved s) (unobserved s) (unobserved t) (course-none good c n (λ ended at heard. heard) u (unobserved s))
      (inr (alg, looks, h, ap unobserved same))
