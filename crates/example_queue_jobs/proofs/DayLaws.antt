-- A day of work, from what each caller did.
use Rattle.std.proofs.Common.{ℕ, ◌≡◌, ◌<◌, ◌≤◌, ◌+◌, ◌*◌, ◌∙◌, List, [], ◌∷◌, ◌++◌, length, get_or, refl, sym, ap, arith, subst, append-nil, append_assoc}
use Rattle.std.specs.Prelude.{◌==◌, if◌then◌else◌, sum, sum_by}
use Rattle.std.specs.List.{range_with_len}
use Rattle.std.proofs.lemmas.Bool.Decides.{nat_tests}
use Rattle.data_queue.specs.Queues.{IsQueue, contents, count, front, values_from}
use Rattle.data_queue.specs.Statements.{ZerosAreEmpty}
use Rattle.tx_jobs.specs.declared.closed.ClosedMemory.{ClosedMemory}
use Rattle.tx_jobs.specs.Jobs.{Alg, Config, Entry, Leads, over, InOneOrder, in-one-order, conserved, Came, Past, times, over-same, over-most, over-list}
use Rattle.example_queue_jobs.specs.declared.hands.Hand.{Hand}
use Rattle.example_queue_jobs.specs.declared.plan.Plan.{Plan}
use Rattle.example_queue_jobs.specs.Days.{IsPlan, IsWhole, IsDay, EachTakenOnce, queue_of, quota, first_job, given_by, Deed, Given, Taken, Moves, Did, done_by, TellsIn, given, taken, left_in, sum_taken, times_taken}
use Rattle.example_queue_jobs.proofs.CountLaws.{brings, takes, moved, brought, took, shorter, all-jobs, once-at-most}

-- jobs are taken in the order in which they were given
in-order : (ds : List Deed) (from to : List ℕ) → Leads Moves ds from to → from ++ given ds ≡ taken ds ++ to
in-order [] from to leads = append-nil from ∙ leads
in-order (Given x ∷ ds) from to leads = sym (append_assoc from (x ∷ []) (given ds)) ∙ (ap (λ l. l ++ given ds) (sym leads.1) ∙ in-order ds leads.0 to leads.2)
in-order (Taken x ∷ ds) from to leads = ap (λ l. l ++ given ds) leads.1 ∙ ap (λ l. x ∷ l) (in-order ds leads.0 to leads.2)

module _ {P : Type 0} (plan : Plan) (day : ClosedMemory Hand P) (whole : IsWhole plan day) where
  abbrev hands : List Hand
  hands = day.answers.items

  abbrev callers : ℕ
  callers = plan.producers + plan.workers

  abbrev Order : List Entry → Type 0
  Order history = InOneOrder (Did (queue_of plan) (plan.room + 2)) Moves (done_by plan) callers hands history [] (left_in plan day)

  -- what was given was taken, or waits
  balance : (f : ℕ → ℕ) (history : List Entry) (a : Hand) → Order history
      → sum_by (λ (h : Hand). sum_by f h.took.items) hands + sum_by f (left_in plan day) ≡ over callers (λ n. sum_by f (given_by plan n (get_or hands n a)))
  balance f history a order =
      let hand : ℕ → Hand = λ n. get_or hands n a in
      let kept = conserved Moves (sum_by f) (brings f) (takes f) (moved f) order.deeds [] (left_in plan day) order.leads in
      let none : sum_by f [] ≡ 0 = refl in
      let gave = order.sums (brings f) a ∙ over-same callers (λ n. sum_by (brings f) (done_by plan n (hand n))) (λ n. sum_by f (given_by plan n (hand n))) (λ n lt. brought f (given_by plan n (hand n)) (hand n).took.items) in
      let had = order.sums (takes f) a ∙ over-same callers (λ n. sum_by (takes f) (done_by plan n (hand n))) (λ n. sum_by f (hand n).took.items) (λ n lt. took f (given_by plan n (hand n)) (hand n).took.items) in
      let list = ap (λ (k : ℕ). over k (λ n. sum_by f (hand n).took.items)) (sym whole.1) ∙ over-list (λ (h : Hand). sum_by f h.took.items) a hands in
      omega (arith, kept, none, gave, had, list)

  -- no job is there twice, in what was taken and what waits
  once : (history : List Entry) (a : Hand) → Order history → ((n : ℕ) → n < callers → (get_or hands n a).gave ≤ quota plan n) → (job : ℕ) → times_taken job hands + times job (left_in plan day) ≤ 1
  once history a order own job =
      let f : ℕ → ℕ = λ x. if x == job then 1 else 0 in
      let all = balance f history a order in
      let most = over-most callers (λ n. sum_by f (given_by plan n (get_or hands n a))) (λ n. sum_by f (range_with_len (first_job plan n) (quota plan n)))
      (λ n lt. shorter f (first_job plan n) (get_or hands n a).gave (quota plan n) (own n lt)) in
      let jobs = all-jobs f plan plan.workers in
      let one = once-at-most job 1 (plan.producers * plan.each) in
      omega (arith, all, most, jobs, one)

  -- where all was given and nothing waits, what was taken comes to what all jobs come to
  taken-all : (f : ℕ → ℕ) (history : List Entry) → IsPlan plan → IsDay plan day history → count (queue_of plan) day.words.items ≡ 0
      → ((i : ℕ) (a : Hand) → i < plan.producers → (get_or hands i a).gave ≡ plan.each)
      → sum_by (λ (h : Hand). sum_by f h.took.items) hands ≡ sum_by f (range_with_len 1 (plan.producers * plan.each))
  taken-all f history well d none full = by hands refl
    where
      each : (a : Hand) (n : ℕ) → n < callers → (get_or hands n a).gave ≡ quota plan n
      each a n lt =
          let most = d.own n a (omega (arith, lt, whole.1)) in
          let all = full n a in
          grind (arith, nat_tests, most, all)

      at : (a : Hand) → sum_by (λ (h : Hand). sum_by f h.took.items) hands ≡ sum_by f (range_with_len 1 (plan.producers * plan.each))
      at a =
          let empty : left_in plan day ≡ [] = ap (values_from (queue_of plan) day.words.items (front (queue_of plan) day.words.items)) none in
          let nothing : sum_by f (left_in plan day) ≡ 0 = ap (sum_by f) empty in
          let all = balance f history a d.order in
          let same = over-same callers (λ n. sum_by f (given_by plan n (get_or hands n a))) (λ n. sum_by f (range_with_len (first_job plan n) (quota plan n)))
          (λ n lt. ap (λ (k : ℕ). sum_by f (range_with_len (first_job plan n) k)) (each a n lt)) in
          let jobs = all-jobs f plan plan.workers in
          omega (arith, nothing, all, same, jobs)

      by : (hs : List Hand) → hands ≡ hs → sum_by (λ (h : Hand). sum_by f h.took.items) hands ≡ sum_by f (range_with_len 1 (plan.producers * plan.each))
      by [] is = absurd (let long = ap length is in let many = whole.1 in let some = well.callers.0 in omega (arith, long, many, some))
      by (a ∷ hs) is = at a

  -- each job was taken once, and their numbers add up
  pub taken-once : (history : List Entry) → IsPlan plan → IsDay plan day history → count (queue_of plan) day.words.items ≡ 0
      → ((i : ℕ) (a : Hand) → i < plan.producers → (get_or hands i a).gave ≡ plan.each) → EachTakenOnce plan day
  taken-once history well d none full job = taken-all (λ x. if x == job then 1 else 0) history well d none full

  pub taken-sum : (history : List Entry) → IsPlan plan → IsDay plan day history → count (queue_of plan) day.words.items ≡ 0
      → ((i : ℕ) (a : Hand) → i < plan.producers → (get_or hands i a).gave ≡ plan.each) → sum_taken hands ≡ sum (range_with_len 1 (plan.producers * plan.each))
  taken-sum history well d none full = taken-all (λ x. x) history well d none full

-- a memory of the plan's sizes
module _ {P : Type 0} {alg : Alg} (plan : Plan) {config : Config} (words : config.words ≡ plan.room + 2) (callers : config.callers ≡ plan.producers + plan.workers)
    (day : ClosedMemory Hand P) {past : Past} (came : Came (IsQueue (queue_of plan)) config alg (TellsIn (queue_of plan) config.words plan) day.words.items day.answers.items past) where
  pub closed-whole : IsWhole plan day
  closed-whole = (came.count ∙ words, came.each ∙ callers)

  pub closed-day : IsPlan plan → ZerosAreEmpty → IsDay plan day past.history
  closed-day well zeros = by day.answers.items refl
    where
      order : InOneOrder (Did (queue_of plan) (plan.room + 2)) Moves (done_by plan) (plan.producers + plan.workers) day.answers.items past.history [] (left_in plan day)
      order = subst (λ from. InOneOrder (Did (queue_of plan) (plan.room + 2)) Moves (done_by plan) (plan.producers + plan.workers) day.answers.items past.history from (left_in plan day)) (zeros (queue_of plan) (plan.room + 2)).1
          (in-one-order (IsQueue (queue_of plan)) (contents (queue_of plan)) Moves (done_by plan) (λ k. TellsIn (queue_of plan) k plan) (plan.room + 2) (plan.producers + plan.workers) words callers (λ n v u w told. told.1) came)

      own : (n : ℕ) (a : Hand) → n < config.callers → (get_or day.answers.items n a).gave ≤ quota plan n
      own n a lt = (came.stories n a lt).told.0

      at : Hand → IsDay plan day past.history
      at a = record {
        order = order;
        in_order = in-order order.deeds [] (left_in plan day) order.leads;
        own = λ n a lt. own n a (omega (arith, lt, came.each));
        once = once plan day closed-whole past.history a order (λ n lt. own n a (omega (arith, lt, callers)));
      }

      by : (hs : List Hand) → day.answers.items ≡ hs → IsDay plan day past.history
      by [] is = absurd (let long = ap length is in let many = closed-whole.1 in let some = well.callers.0 in omega (arith, long, many, some))
      by (a ∷ hs) is = at a
