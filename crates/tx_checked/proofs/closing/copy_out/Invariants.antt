use Rattle.std.proofs.Common.{ℕ, ◌≡◌, ◌<◌, ◌≤◌, length, []}
use Rattle.std.specs.Prelude.{slice_index}
use Rattle.stm_model.specs.Histories.{memory_after}
use Rattle.stm_rule.specs.Callers.{IsSameCaller}
use Rattle.stm_tx.specs.Descs.{known}
use Rattle.stm_answers.specs.CallerState.{IsIdle, zeros}
use Rattle.tx_checked.specs.Ranges.{GrowsBeside}
use Rattle.tx_checked.proofs.closing.copy_out.Given as goal

abbrev pub invariant-loop-a : goal.invariant-loop-a
invariant-loop-a l = record {
  same : IsSameCaller l.fn.desc l.desc;
  idle : IsIdle (known l.desc);
  range : (known l.desc).fenced ≡ record (known l.fn.desc).fenced { log = (known l.desc).fenced.log };
  unchanged : (known l.desc).fenced.log.writes ≡ [];
  grew : GrowsBeside (known l.fn.desc) (known l.desc);
  beyond : (k : ℕ) → l.stm.config.words ≤ k → slice_index l.words k ≡ slice_index l.fn.words k;
  made : (known l.desc).made ≡ (known l.fn.desc).made;
  installs : (known l.desc).installs ≡ (known l.fn.desc).installs;
  long : length l.words ≡ length l.fn.words;
  words : (k : ℕ) → k < l.a → slice_index l.words k ≡ slice_index (memory_after (known l.fn.desc).fenced.seen (zeros l.stm.config.words)) k;
}
