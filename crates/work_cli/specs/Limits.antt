-- The numbers of the command line: those that `gen` takes.
use Rattle.std.specs.Prelude.{◌≡◌}
use Rattle.stm_model.specs.declared.config.TheConstants.{MAX_CALLERS}
use Rattle.work_cli.specs.declared.command.TheConstants.{MOST_TRANSACTIONS}

pub record LimitsAre : Type 0 where
  pub transactions : MOST_TRANSACTIONS ≡ 50000
  pub callers : MAX_CALLERS ≡ 32
