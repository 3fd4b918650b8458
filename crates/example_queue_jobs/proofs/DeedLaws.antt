-- The transactions are deeds.
use Rattle.std.proofs.Common.{ℕ, ◌≡◌, ◌<◌, ◌∙◌, List, [], ◌∷◌, Bool, true, false, Some, None, length, length-append, refl, sym, ap, arith, subst, inl, inr}
use Rattle.std.specs.Prelude.{◌==◌, ◌^◌, leb, if◌then◌else◌, not}
use Rattle.data_effects.specs.Effects.{Does, unchanged, changed}
use Rattle.data_effects.specs.FreshLaws.{nothing}
use Rattle.data_queue.specs.declared.queue.Put.TheVariants.{Added, NoRoom}
use Rattle.data_queue.specs.declared.queue.Queue.{Queue}
use Rattle.data_queue.specs.Queues.{IsQueue, QueueFits, contents, count, front, cell, enqueued, dequeued, put_in, got_in}
use Rattle.data_queue.specs.Statements.{Puts, Gets}
use Rattle.data_queue.specs.QueueLaws.{replies-tell}
use Rattle.tx_jobs.specs.Jobs.{Log, Effect, DoesOver, Known, Took, stood, MadeOne, HasDone, did}
use Rattle.example_queue_jobs.specs.Days.{Deed, Given, Taken, Moves, Did}

-- no deed leaves the jobs as they were
changes : (d : Deed) (jobs : List ℕ) → Moves d jobs jobs → ⊥
changes (Given x) jobs moved = let more = ap length moved in let long = length-append jobs (x ∷ []) in omega (arith, more, long)
changes (Taken x) jobs moved = let less = ap length moved in omega (arith, less)

module _ (q : Queue) (words : ℕ) (fits : QueueFits q words) where
  -- a reply tells what was done
  is-given : (job : ℕ) → job < 2 ^ 32 → (log : Log) → DoesOver (IsQueue q) words (put_in q job) nothing Added log → Did q words (Given job) log
  is-given job small log does m well long read =
      let d = does m well long read in
      let told = ((replies-tell q m well (subst (QueueFits q) (sym long) fits)).0 job small).1 in
      ap (contents q) d.left ∙ subst (λ put. Puts q job put m (put_in q job m).memory) (sym d.replied) told

  is-taken : (job : ℕ) (log : Log) → DoesOver (IsQueue q) words (got_in q) nothing (Some job) log → Did q words (Taken job) log
  is-taken job log does m well long read =
      let d = does m well long read in
      let told = (replies-tell q m well (subst (QueueFits q) (sym long) fits)).2 in
      subst (λ o. Gets q o m (got_in q m).memory) (sym d.replied) told ∙ ap (λ n. job ∷ contents q n) (sym d.left)

  module _ {u w : Known} where
    pub gave : (job : ℕ) → job < 2 ^ 32 → Took (IsQueue q) words (DoesOver (IsQueue q) words (put_in q job) nothing Added) u w → HasDone (Did q words) (Given job ∷ []) u.made w.made
    gave job small = did (contents q) Moves (Given job) (changes (Given job)) (is-given job small)

    pub took : (job : ℕ) → Took (IsQueue q) words (DoesOver (IsQueue q) words (got_in q) nothing (Some job)) u w → HasDone (Did q words) (Taken job ∷ []) u.made w.made
    took job = did (contents q) Moves (Taken job) (changes (Taken job)) (is-taken job)

module _ (q : Queue) (words : ℕ) {u w : Known} where
  -- one that writes nowhere where it replies so is none
  none : {A : Type 0} (effect : List ℕ → Effect A) (reply : A) → ((m : List ℕ) → reply ≡ (effect m).reply → (effect m).wrote ≡ false)
      → Took (IsQueue q) words (DoesOver (IsQueue q) words effect nothing reply) u w → w.made ≡ u.made
  none effect reply reads t = by t.made
    where
      by : MadeOne t.log u.made w.made → w.made ≡ u.made
      by (inl k) = k.1
      by (inr k) =
          let s = stood t in
          let does : Does effect s.0 nothing reply t.log = t.told s.0 s.1 s.2 s.3 in
          absurd (let yes : true ≡ false = sym (ap not k.0) ∙ (does.wrote ∙ reads s.0 does.replied) in cc)

  pub no-room : (job : ℕ) → Took (IsQueue q) words (DoesOver (IsQueue q) words (put_in q job) nothing NoRoom) u w → w.made ≡ u.made
  no-room job = none (put_in q job) NoRoom (λ m. by m (leb q.cells (count q m)))
    where
      by : (m : List ℕ) (b : Bool) → NoRoom ≡ (if b then unchanged NoRoom m else changed Added (enqueued q job m)).reply → (if b then unchanged NoRoom m else changed Added (enqueued q job m)).wrote ≡ false
      by m true is = refl
      by m false is = absurd cc

  pub no-job : Took (IsQueue q) words (DoesOver (IsQueue q) words (got_in q) nothing None) u w → w.made ≡ u.made
  no-job = none (got_in q) None (λ m. by m (count q m == 0))
    where
      by : (m : List ℕ) (b : Bool) → None ≡ (if b then unchanged None m else changed (Some (cell q m (front q m))) (dequeued q m)).reply
          → (if b then unchanged None m else changed (Some (cell q m (front q m))) (dequeued q m)).wrote ≡ false
      by m true is = refl
      by m false is = absurd cc
