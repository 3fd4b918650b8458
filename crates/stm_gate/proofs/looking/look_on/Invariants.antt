use Rattle.std.proofs.Common.{◌≡◌, true}
use Rattle.stm_rule.specs.Attempts.{HasLooked}
use Rattle.stm_rule.specs.Callers.{BelongsTo, IsSameCaller}
use Rattle.stm_rule.specs.Counting.{TakesAtMost}
use Rattle.stm_gate.specs.Knowing.{number}
use Rattle.stm_gate.specs.Looking.{LooksOn}
use Rattle.stm_gate.proofs.looking.look_on.Given as goal

abbrev pub invariant-loop-other : goal.invariant-loop-other
invariant-loop-other g l = record {
  of : BelongsTo l.desc l.stm.table.shared.table_id l.stm.config l.stm.rule;
  same : IsSameCaller l.fn.desc l.desc;
  own : l.desc.own ≡ l.fn.desc.own;
  holds : l.desc.view.gate.holds ≡ true;
  looked : HasLooked l.stm.config.callers (number l.fn.desc) l.other l.desc.view;
  looks : LooksOn l.fn.desc.view l.desc.view;
  steps : TakesAtMost l.other l.fn.desc.view l.desc.view;
}
