use Rattle.std.proofs.Common.{ℕ, ◌≡◌, ◌<◌, ◌≤◌, ◌+◌, ◌-◌, ◌∙◌, List, [], ◌∷◌, length, get_or, refl, arith}
use Rattle.stm_model.specs.Memories.{written}
use Rattle.tx_transaction.specs.RangeLaws.{sum_steps, sum_facts}
use Rattle.tx_transaction.specs.WordLaws.{known, does-write, keeps-written}
use Rattle.example_bucket_jobs.specs.declared.bucket.Limiter.{Limiter}
use Rattle.example_bucket_jobs.specs.Buckets.{IsFair}
use Rattle.example_bucket_jobs.proofs.bucket.WishTransactionLimiter.run.Goals as goal

handed-keeps : (limiter : Limiter) (m : List ℕ) (client tokens given handed counted : ℕ) → length m ≡ 33 → client < 16 → tokens ≤ limiter.capacity
    → get_or m client 0 ≡ handed → get_or m 32 0 ≡ counted → IsFair limiter m
    → IsFair limiter (written m ((16 + client, tokens - given) ∷ (client, handed + given) ∷ (32, counted + given) ∷ []))
handed-keeps limiter m client tokens given handed counted long low fits is total was =
    ((λ other at. let full = was.0 other at in grind sum_steps), (let sum = was.1 in omega sum_facts))

pub overflow_add-handed : goal.overflow_add-handed
overflow_add-handed g c =
    known c.requires.good c.requires.fresh c.in_ok-found.ensures.found (λ m s small ex.
    let long = s.1 in
    let room = c.granted-given.ensures.within.1 in
    grind (sum_steps, ex.1.0, ex.1.1.0, s.0.1, c.requires.precondition))

pub returns-clause-postcondition : goal.returns-clause-postcondition
returns-clause-postcondition g c =
    does-write c.requires.good c.requires.fresh c.in_ok-found.ensures.found c.in_ok-write_words.ensures.wrote
    (λ m s ex. rw (ex.0, ex.1.0, ex.1.1.0, c.granted-given.ensures.is, c.min.ensures) refl)

pub returns-clause-kept : goal.returns-clause-kept
returns-clause-kept g c =
    keeps-written c.requires.good c.requires.fresh c.in_ok-found.ensures.found c.in_ok-write_words.ensures.wrote
    (λ m s small ex.
    let low = c.requires.precondition in
    let fits = s.0.0 c.args.self.now.client low.1 in
    handed-keeps c.args.limiter.now m _ _ _ _ _ (s.1 ∙ low.0) low.1 (let min = c.min.ensures in omega (arith, ex.0)) ex.1.0 ex.1.1.0 s.0)
