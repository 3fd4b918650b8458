use Rattle.std.proofs.Common.{ℕ, suc, ◌≡◌, ◌<◌, ◌≤◌, ◌+◌, ◌*◌, ◌^◌, ◌++◌, true, map, ap, arith, ltb, refl, subst, sym}
use Rattle.std.specs.List.{range_with_len}
use Rattle.std.proofs.lemmas.Bool.Decides.{nat_tests}
use Rattle.std.proofs.lemmas.Nat.{mul-le}
use Rattle.std.proofs.Math.Nat.{suc-mul}
use Rattle.example_queue_jobs.specs.declared.plan.Plan.{Plan}
use Rattle.tx_jobs.specs.Jobs.{Known, HasDone, done-none, done-then, gathered-did}
use Rattle.example_queue_jobs.specs.Days.{IsPlan, first_job, quota, Did, Given, Taken}
use Rattle.example_queue_jobs.proofs.hands.ShiftJobJobs.work.Goals as goal

-- a producer's jobs are among those that the plan has numbers for
own-jobs : (plan : Plan) (n : ℕ) → IsPlan plan → n < plan.producers → n * plan.each + plan.each + 1 < 2 ^ 32
own-jobs plan n well lt =
    let all = mul-le (suc n) plan.each plan.producers plan.each (omega (arith, lt)) (omega arith) in
    let next = suc-mul n plan.each in
    let few = well.jobs in
    omega (arith, all, next, few)

pub overflow_cast-first : goal.overflow_cast-first
overflow_cast-first g c = let few = c.requires.precondition.1.callers.1 in let lt = c.if-number-self.true in omega (arith, few, lt)

pub overflow_mul-first : goal.overflow_mul-first
overflow_mul-first g c = let own = own-jobs c.args.self.now.plan c.number-number.result c.requires.precondition.1 c.if-number-self.true in omega (arith, own)

pub overflow_add-first : goal.overflow_add-first
overflow_add-first g c = let own = own-jobs c.args.self.now.plan c.number-number.result c.requires.precondition.1 c.if-number-self.true in omega (arith, own)

pub give_all-gave-requires-clause-numbers : goal.give_all-gave-requires-clause-numbers
give_all-gave-requires-clause-numbers g c = let own = own-jobs c.args.self.now.plan c.number-number.result c.requires.precondition.1 c.if-number-self.true in omega (arith, own)

pub returns-then-number-self-clause-postcondition : goal.returns-then-number-self-clause-postcondition
returns-then-number-self-clause-postcondition g c =
    let plan = c.args.self.now.plan in
    let s = g.C.Calls.seat c.args.caller.now in
    let n = c.number-number.result in
    let gave = c.give_all-gave.result in
    let a = (g.C.Calls.known c.args.caller.now).made in
    let b = (g.C.Calls.known c.give_all-gave.new.caller).made in
    let lt = c.if-number-self.true in
    let is : ltb n plan.producers ≡ true = grind (arith, nat_tests, lt) in
    let own : gave ≤ quota plan n = rw is c.give_all-gave.ensures.count in
    let none = subst (λ ts. HasDone (Did s.rule.waiting s.words) (map Taken ts) b b) (sym c.new-took.ensures.items) (done-none refl) in
    let did = done-then {does = Did s.rule.waiting s.words} c.give_all-gave.ensures.gave none in
    subst (λ k. (gave ≤ quota plan k) × HasDone (Did s.rule.waiting s.words) (map Given (range_with_len (first_job plan k) gave) ++ map Taken c.new-took.result.items) a b) c.number-number.ensures.is (own, did)

pub returns-in-Ok-clause-postcondition : goal.returns-in-Ok-clause-postcondition
returns-in-Ok-clause-postcondition g c = ((omega arith), gathered-did Taken (λ k answer v w told. told) c.in-Ok.ensures.gathered)

pub returns-in-Err-clause-postcondition : goal.returns-in-Err-clause-postcondition
returns-in-Err-clause-postcondition g c =
    let s = g.C.Calls.seat c.args.caller.now in
    let a = (g.C.Calls.known c.args.caller.now).made in
    let b = (g.C.Calls.known c.gather.new.caller).made in (
      (omega arith),
      subst (λ ts. HasDone (Did s.rule.waiting s.words) (map Taken ts) a b) (sym c.new.ensures.items) (done-none (ap (λ (k : Known). k.made) c.in-Err.ensures.refused)),
    )
