-- Laws of what a caller did.
use Rattle.std.proofs.Common.{ℕ, zero, suc, List, refl, sym, subst, inl}
use Rattle.std.specs.Prelude.{Option, None}
use Rattle.stm_model.specs.declared.config.Config.{Config}
use Rattle.stm_answers.specs.CallerState.{CallerState}
use Rattle.tx_atomic.specs.declared.tally.Ended.{Ended}
use Rattle.tx_atomic.specs.Accounts.{Account}
use Rattle.tx_atomic.specs.Courses.{Called, CalledTimes, HasCourse}
use Rattle.tx_atomic.specs.Tries.{HaveRun, Ran, RanAgain}

module _ (good : List ℕ → Type 0) (c : Config) (n : ℕ) {H : Type 0} (hears : Ended → Option ℕ → H → H) where
  pub course-none : (v : CallerState) (s : Account H) → HasCourse good c n hears v v s s
  course-none v s = (0, (refl, refl))

  -- a call more
  pub course-more : (u v w : CallerState) (s r t : Account H) → HasCourse good c n hears u v s r → Called good c n hears v w r t → HasCourse good c n hears u w s t
  course-more u v w s r t h call = (suc h.0, (v, r, h.1, call))

  -- one course after another
  joined : (k : ℕ) (u v w : CallerState) (s r t : Account H) → HasCourse good c n hears u v s r → CalledTimes good c n hears k v w r t → HasCourse good c n hears u w s t
  joined zero u v w s r t h more = subst (λ (x : CallerState). HasCourse good c n hears u x s t) (sym more.0) (subst (λ (a : Account H). HasCourse good c n hears u v s a) (sym more.1) h)
  joined (suc k) u v w s r t h more = course-more u more.0 w s more.1 t (joined k u v more.0 s r more.1 h more.2) more.3

  pub course-trans : (u v w : CallerState) (s r t : Account H) → HasCourse good c n hears u v s r → HasCourse good c n hears v w r t → HasCourse good c n hears u w s t
  course-trans u v w s r t h more = joined more.0 u v w s r t h more.1

  -- one call
  pub course-ran : (last : Option Ended) (u w : CallerState) (s t : Account H) → Ran good c n hears last u w s t → HasCourse good c n hears u w s t
  course-ran last u w s t ran = course-more u u w s s t (course-none u s) (inl (last, ran))

  have-run : (k : ℕ) (u w : CallerState) (s t : Account H) → HaveRun good c n hears k u w s t → HasCourse good c n hears u w s t
  have-run zero u w s t h = (0, h)
  have-run (suc k) u w s t h = course-more u h.0 w s h.1 t (have-run k u h.0 s h.1 h.2) (inl (None, h.3))

  -- runs until one answered
  pub course-again : (last : Option Ended) (u w : CallerState) (s t : Account H) → RanAgain good c n hears last u w s t → HasCourse good c n hears u w s t
  course-again last u w s t h = course-more u h.since w s h.account t (have-run h.before u h.since s h.account h.runs) (inl (last, h.ran))
