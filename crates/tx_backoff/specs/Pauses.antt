-- Where a caller's pauses begin.
use Rattle.std.specs.Prelude.{◌≡◌}
use Rattle.tx_backoff.specs.declared.Backoff.{Backoff}
use Rattle.tx_backoff.specs.declared.TheConstants.{SHORTEST, SHORTEST_AT_COMMIT}

-- the next pause is the shortest of its kind, and nothing was waited for yet
pub record IsRested (b : Backoff) : Type 0 where
  pub next : b.next ≡ SHORTEST
  pub at_commit : b.at_commit ≡ SHORTEST_AT_COMMIT
  pub long : b.long ≡ 0
