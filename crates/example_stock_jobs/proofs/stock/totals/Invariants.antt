use Rattle.std.proofs.Common.{◌≡◌}
use Rattle.example_stock_jobs.proofs.stock.totals.Given as goal

abbrev pub invariant-loop-item : goal.invariant-loop-item
invariant-loop-item l = l.supplied ≡ l.there
