-- What jobs come to, where each counts so much: over deeds, over hands, and over a plan.
use Rattle.std.proofs.Common.{ℕ, zero, suc, ◌≡◌, ◌≤◌, ◌+◌, ◌-◌, ◌*◌, ◌∙◌, List, ◌++◌, map, refl, ap, arith}
use Rattle.std.specs.Prelude.{sum_by}
use Rattle.std.specs.List.{range_with_len}
use Rattle.std.proofs.lemmas.Bool.Decides.{nat_tests}
use Rattle.std.proofs.lemmas.List.Sums.{sum_by-append, sum_by-cons, sum_by_push}
use Rattle.tx_jobs.specs.Jobs.{over, sum-mapped, sum-nothing, times, times-range}
use Rattle.example_queue_jobs.specs.declared.plan.Plan.{Plan}
use Rattle.example_queue_jobs.specs.Days.{Deed, Given, Taken, Moves, quota, first_job}

module _ (f : ℕ → ℕ) where
  -- what a deed brings to those that wait, and what it takes
  abbrev pub brings : Deed → ℕ
  brings (Given job) = f job
  brings (Taken job) = 0

  abbrev pub takes : Deed → ℕ
  takes (Given job) = 0
  takes (Taken job) = f job

  pub moved : (d : Deed) (a b : List ℕ) → Moves d a b → sum_by f a + brings d ≡ takes d + sum_by f b
  moved (Given x) a b is = let all = ap (sum_by f) is ∙ sum_by_push f a x in omega (arith, all)
  moved (Taken x) a b is = let all = ap (sum_by f) is ∙ sum_by-cons f x b in omega (arith, all)

  -- of jobs that were given, and others that were taken
  pub brought : (xs ts : List ℕ) → sum_by brings (map Given xs ++ map Taken ts) ≡ sum_by f xs
  brought xs ts = omega (arith, sum_by-append brings (map Given xs) (map Taken ts), sum-mapped brings Given xs, sum-mapped brings Taken ts, sum-nothing ts)

  pub took : (xs ts : List ℕ) → sum_by takes (map Given xs ++ map Taken ts) ≡ sum_by f ts
  took xs ts = omega (arith, sum_by-append takes (map Given xs) (map Taken ts), sum-mapped takes Given xs, sum-mapped takes Taken ts, sum-nothing xs)

  -- a range in two parts
  parts : (a n k : ℕ) → sum_by f (range_with_len a (n + k)) ≡ sum_by f (range_with_len a n) + sum_by f (range_with_len (a + n) k)
  parts a zero k =
      let same : 0 + k ≡ k = omega arith in
      let at : a + 0 ≡ a = omega arith in
      let none : sum_by f (range_with_len a 0) ≡ 0 = refl in
      let left = ap (λ (j : ℕ). sum_by f (range_with_len a j)) same in
      let right = ap (λ (j : ℕ). sum_by f (range_with_len j k)) at in
      omega (arith, none, left, right)
  parts a (suc n) k =
      let next : suc n + k ≡ suc (n + k) = omega arith in
      let at : a + 1 + n ≡ a + suc n = omega arith in
      let left = ap (λ (j : ℕ). sum_by f (range_with_len a j)) next in
      let whole = sum_by-cons f a (range_with_len (a + 1) (n + k)) in
      let first = sum_by-cons f a (range_with_len (a + 1) n) in
      let more = parts (a + 1) n k in
      let right = ap (λ (j : ℕ). sum_by f (range_with_len j k)) at in
      omega (arith, left, whole, first, more, right)

  pub shorter : (a n k : ℕ) → n ≤ k → sum_by f (range_with_len a n) ≤ sum_by f (range_with_len a k)
  shorter a n k le =
      let is : n + (k - n) ≡ k = omega (arith, le) in
      let all = parts a n (k - n) in
      let whole = ap (λ (j : ℕ). sum_by f (range_with_len a j)) is in
      omega (arith, all, whole)

  -- the jobs of all callers of a plan are all jobs
  module _ (plan : Plan) where
    abbrev owned : ℕ → ℕ
    owned n = sum_by f (range_with_len (first_job plan n) (quota plan n))

    of-producers : (k : ℕ) → k ≤ plan.producers → over k owned ≡ sum_by f (range_with_len 1 (k * plan.each))
    of-producers zero le = let none : 0 ≡ 0 * plan.each = omega arith in ap (λ (j : ℕ). sum_by f (range_with_len 1 j)) none
    of-producers (suc k) le =
        let more = of-producers k (omega (arith, le)) in
        let here : quota plan k ≡ plan.each = grind (arith, nat_tests, le) in
        let own = ap (λ (j : ℕ). sum_by f (range_with_len (k * plan.each + 1) j)) here in
        let at : 1 + k * plan.each ≡ k * plan.each + 1 = omega arith in
        let next = parts 1 (k * plan.each) plan.each in
        let last = ap (λ (j : ℕ). sum_by f (range_with_len j plan.each)) at in
        let many : k * plan.each + plan.each ≡ suc k * plan.each = omega arith in
        let whole = ap (λ (j : ℕ). sum_by f (range_with_len 1 j)) many in
        omega (arith, more, own, next, last, whole)

    pub all-jobs : (others : ℕ) → over (plan.producers + others) owned ≡ sum_by f (range_with_len 1 (plan.producers * plan.each))
    all-jobs zero = let at : plan.producers + 0 ≡ plan.producers = omega arith in ap (λ (k : ℕ). over k owned) at ∙ of-producers plan.producers (omega arith)
    all-jobs (suc k) =
        let at : plan.producers + suc k ≡ suc (plan.producers + k) = omega arith in
        let more = all-jobs k in
        let here : quota plan (plan.producers + k) ≡ 0 = grind (arith, nat_tests) in
        let none : owned (plan.producers + k) ≡ 0 = ap (λ (j : ℕ). sum_by f (range_with_len (first_job plan (plan.producers + k)) j)) here in
        let all = ap (λ (j : ℕ). over j owned) at in
        omega (arith, more, none, all)

-- a range has each number once at most
pub once-at-most : (x a n : ℕ) → times x (range_with_len a n) ≤ 1
once-at-most x a n = let is = times-range x a n in grind (arith, nat_tests, is)
