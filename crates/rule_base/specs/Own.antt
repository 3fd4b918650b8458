-- What a descriptor has beside its seat, as contracts see it: calls change it without a step.
use Rattle.std.specs.Prelude.{ℕ, Bool, List}
use Rattle.rule_base.specs.declared.entries.Cell.{Cell}

pub record Own : Type 0 where
  -- the attempt is in the middle of its commit, which answered Again
  pub committing : Bool
  -- the length of its read log, and of its write and undo logs
  pub reads_limit : ℕ
  pub writes_limit : ℕ
  -- how many marks may stand
  pub marks_limit : ℕ
  -- what it wrote that is not yet stored in the heap, the latest first
  pub buffered : List Cell
  -- how many marks stand; and while the attempt can be taken back, what it had written at each, the oldest first
  pub depth : ℕ
  pub marks : List (List (ℕ × ℕ))
