use Rattle.std.proofs.Common.{ℕ, rules, arith, get_or, ◌+◌}
use Rattle.std.proofs.lemmas.List.Sorted.{answers_always}
use Rattle.work_script.specs.declared.report.Row.{Row}
use Rattle.work_script.specs.Reports.{code}
use Rattle.work_driver.proofs.OrderLaws.{neighbours, ordered-from}
use Rattle.work_driver.proofs.order.order.Goals as goal

key_of : Row → ℕ × ℕ × ℕ × ℕ
key_of r = (r.place, code r.kind, r.caller, r.seq)

pub returns-clause-ordered : goal.returns-clause-ordered
unfolding key_of
returns-clause-ordered c =
    let sorted = c.sort_unstable_by_key.ensures.sorted key_of (answers_always _ _ _ (λ f a r f' q. search rules)) in
    ordered-from c.sort_unstable_by_key.new.self (λ k d lt. neighbours (get_or c.sort_unstable_by_key.new.self k d) (get_or c.sort_unstable_by_key.new.self (k + 1) d) (sorted k d (omega arith) lt))
