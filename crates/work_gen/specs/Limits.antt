-- The numbers of generated workloads.
use Rattle.std.specs.Prelude.{◌≡◌}
use Rattle.work_gen.specs.declared.generate.TheConstants.{MOST_TRANSACTIONS, ACCOUNTS, DEPOSIT, KEYS, MOST_MOVED, STRIPES, SWITCH_EVERY}

pub record LimitsAre : Type 0 where
  -- the greatest number of transactions
  pub transactions : MOST_TRANSACTIONS ≡ 50000
  -- how many accounts there are, what each has at first, and what a move takes less than
  pub accounts : ACCOUNTS ≡ 64
  pub deposit : DEPOSIT ≡ 1000
  pub moved : MOST_MOVED ≡ 100
  -- how many stripes and keys are used
  pub stripes : STRIPES ≡ 4
  pub keys : KEYS ≡ 24
  -- how many transactions there are between two switches
  pub switches : SWITCH_EVERY ≡ 16
