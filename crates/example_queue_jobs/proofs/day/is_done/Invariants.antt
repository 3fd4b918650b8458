use Rattle.std.proofs.Common.{◌≡◌, ◌<◌, ℕ, true, get_or}
use Rattle.example_queue_jobs.specs.declared.hands.Hand.{Hand}
use Rattle.example_queue_jobs.proofs.day.is_done.Given as goal

abbrev pub invariant-loop-i : goal.invariant-loop-i
invariant-loop-i g l = l.done ≡ true → (get_or l.fn.day.words.items 1 0 ≡ 0) × ((n : ℕ) (a : Hand) → n < l.i → (get_or l.fn.day.answers.items n a).gave ≡ l.fn.plan.each)
