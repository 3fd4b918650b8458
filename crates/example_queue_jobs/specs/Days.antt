-- What callers do to the queue, and what a day of work comes to.
use Rattle.std.specs.Prelude.{ℕ, ◌≡◌, ◌<◌, ◌≤◌, ◌+◌, ◌*◌, ◌^◌, ltb, if◌then◌else◌, List, [], ◌∷◌, ◌++◌, length, map, sum, sum_by, slice_index_or}
use Rattle.std.specs.List.{range_with_len}
use Rattle.data_queue.specs.declared.queue.Queue.{Queue}
use Rattle.data_queue.specs.Queues.{IsQueue, contents}
use Rattle.tx_jobs.specs.declared.closed.ClosedMemory.{ClosedMemory}
use Rattle.tx_jobs.specs.Jobs.{Entry, Log, Known, IsDeed, HasDone, InOneOrder, times}
use Rattle.example_queue_jobs.specs.declared.hands.Hand.{Hand}
use Rattle.example_queue_jobs.specs.declared.plan.Plan.{Plan}

-- a memory can be opened for it, and each job has a number below 2^32
pub record IsPlan (plan : Plan) : Type 0 where
  pub room : (0 < plan.room) × (plan.room + 2 ≤ 1048576)
  pub callers : (0 < plan.workers) × (plan.producers + plan.workers ≤ 254)
  pub jobs : plan.producers * plan.each + 1 < 2 ^ 32

-- the queue is the whole memory
abbrev pub queue_of : Plan → Queue
queue_of plan = record { at = 0; cells = plan.room }

-- as many jobs caller n may give
abbrev pub quota : Plan → ℕ → ℕ
quota plan n = if ltb n plan.producers then plan.each else 0

-- the first job of caller n
abbrev pub first_job : Plan → ℕ → ℕ
first_job plan n = n * plan.each + 1

abbrev pub given_by : Plan → ℕ → Hand → List ℕ
given_by plan n hand = range_with_len (first_job plan n) hand.gave

-- A DEED: this job was given, after those that wait, or taken, the first of them
pub data Deed : Type 0 where
  Given : ℕ → Deed
  Taken : ℕ → Deed

abbrev pub Moves : Deed → List ℕ → List ℕ → Type 0
Moves (Given job) a b = b ≡ a ++ job ∷ []
Moves (Taken job) a b = a ≡ job ∷ b

abbrev pub Did : Queue → ℕ → Deed → Log → Type 0
Did q words = IsDeed (IsQueue q) words (contents q) Moves

-- what caller n did, by what it answers
abbrev pub done_by : Plan → ℕ → Hand → List Deed
done_by plan n hand = map Given (given_by plan n hand) ++ map Taken hand.took.items

-- what a caller tells in a memory of so many words: it gave no more jobs than are its own
abbrev pub TellsIn : Queue → ℕ → Plan → ℕ → Hand → Known → Known → Type 0
TellsIn q words plan n hand before after = (hand.gave ≤ quota plan n) × HasDone (Did q words) (done_by plan n hand) before.made after.made

-- the jobs of the deeds that give, and of those that take
abbrev pub given : List Deed → List ℕ
given [] = []
given (Given job ∷ ds) = job ∷ given ds
given (Taken job ∷ ds) = given ds

abbrev pub taken : List Deed → List ℕ
taken [] = []
taken (Given job ∷ ds) = taken ds
taken (Taken job ∷ ds) = job ∷ taken ds

-- the numbers of the jobs that were taken, added up
abbrev pub sum_taken : List Hand → ℕ
sum_taken hands = sum_by (λ (a : Hand). sum a.took.items) hands

-- what waits in the queue at the end
abbrev pub left_in : {P : Type 0} → Plan → ClosedMemory Hand P → List ℕ
left_in plan day = contents (queue_of plan) day.words.items

-- all words are there, and an answer of each caller
abbrev pub IsWhole : {P : Type 0} → Plan → ClosedMemory Hand P → Type 0
IsWhole plan day = (length day.words.items ≡ plan.room + 2) × (length day.answers.items ≡ plan.producers + plan.workers)

-- how often a job was taken
abbrev pub times_taken : ℕ → List Hand → ℕ
times_taken job hands = sum_by (λ (a : Hand). times job a.took.items) hands

-- The history is one of jobs that were given and taken, and those of each caller are what it answers, in its order.
-- From no job they lead to those that wait: so the jobs that were taken are the first of those that were given, in the
-- same order, and the others wait. No job was taken twice, or taken and waits.
pub record IsDay {P : Type 0} (plan : Plan) (day : ClosedMemory Hand P) (history : List Entry) : Type 0 where
  pub order : InOneOrder (Did (queue_of plan) (plan.room + 2)) Moves (done_by plan) (plan.producers + plan.workers) day.answers.items history [] (left_in plan day)
  pub in_order : given order.deeds ≡ taken order.deeds ++ left_in plan day
  pub own : (n : ℕ) (a : Hand) → n < length day.answers.items → (slice_index_or day.answers.items n a).gave ≤ quota plan n
  pub once : (job : ℕ) → times_taken job day.answers.items + times job (left_in plan day) ≤ 1

-- each of the jobs was taken once, and nothing else was taken
abbrev pub EachTakenOnce : {P : Type 0} → Plan → ClosedMemory Hand P → Type 0
EachTakenOnce plan day = (job : ℕ) → times_taken job day.answers.items ≡ times job (range_with_len 1 (plan.producers * plan.each))
