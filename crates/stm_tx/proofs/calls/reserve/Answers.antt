use Rattle.std.proofs.Common.{rules}
use Rattle.stm_tx.proofs.calls.reserve.Goals.{then-len-writes, else-len-writes, then-len-reads, else-len-reads}
use Rattle.stm_tx.proofs.calls.reserve.Goals as goal

-- each log, by whether it becomes longer
pub invariant_of-desc : goal.invariant_of-desc
invariant_of-desc g c = elim c.if-len-reads.branch [ then-len-reads x ↦ search rules | else-len-reads x ↦ search rules ]

pub invariant_of-desc-else-len-writes : goal.invariant_of-desc-else-len-writes
invariant_of-desc-else-len-writes g c = elim c.if-len-reads.branch [ then-len-reads x ↦ search rules | else-len-reads x ↦ search rules ]

pub returns-clause-same : goal.returns-clause-same
returns-clause-same g c =
    elim c.if-len-writes.branch [
      | then-len-writes w ↦ elim c.if-len-reads.branch [ then-len-reads x ↦ search rules | else-len-reads x ↦ search rules ]
      | else-len-writes w ↦ elim c.if-len-reads.branch [ then-len-reads x ↦ search rules | else-len-reads x ↦ search rules ]
    ]

pub returns-clause-view : goal.returns-clause-view
returns-clause-view g c =
    elim c.if-len-writes.branch [
      | then-len-writes w ↦ elim c.if-len-reads.branch [ then-len-reads x ↦ search rules | else-len-reads x ↦ search rules ]
      | else-len-writes w ↦ elim c.if-len-reads.branch [ then-len-reads x ↦ search rules | else-len-reads x ↦ search rules ]
    ]

pub returns-clause-reserves : goal.returns-clause-reserves
returns-clause-reserves g c =
    elim c.if-len-writes.branch [
      | then-len-writes w ↦ elim c.if-len-reads.branch [ then-len-reads x ↦ search rules | else-len-reads x ↦ search rules ]
      | else-len-writes w ↦ elim c.if-len-reads.branch [ then-len-reads x ↦ search rules | else-len-reads x ↦ search rules ]
    ]
