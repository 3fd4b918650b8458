-- What a program may conclude from its callers' stories.
use Rattle.std.proofs.Common.{ℕ, ◌≡◌, ◌<◌, List, [], ◌∷◌, Result, Ok, Err, length, get_or, refl, ap, arith}
use Rattle.std.specs.Prelude.{IfOk}
use Rattle.stm_model.specs.declared.alg.Alg.{Alg}
use Rattle.stm_model.specs.declared.config.Config.{Config}
use Rattle.tx_jobs.specs.Known.{Known}
use Rattle.tx_jobs.specs.Stories.{Past, IsStory, Came}

-- the story of caller i, with its answer
pub story : {V : Type 0} {good : List ℕ → Type 0} {c : Config} {alg : Alg} {tells : ℕ → V → Known → Known → Type 0} {words : List ℕ} {answers : List V} {past : Past}
    → Came good c alg tells words answers past → (i : ℕ) → i < c.callers → (value : V) × IsStory alg (tells i) past i value
story {V} {good} {c} {alg} {tells} {words} {answers} {past} came i lt = by answers refl
  where
    by : (xs : List V) → answers ≡ xs → (value : V) × IsStory alg (tells i) past i value
    by [] none = absurd (let same = ap length none in let count = came.each in omega (arith, lt, count, same))
    by (x ∷ xs) is = (get_or answers i x, came.stories i x lt)

-- what follows from what came of a memory
pub by-came : {A E : Type 0} {Is P : A → Type 0} (r : Result A E) → IfOk r Is → ((came : A) → Is came → P came) → IfOk r P
by-came (Err e) is then = tt
by-came (Ok came) is then = then came is
