use Rattle.std.proofs.Common.{◌≡◌, ◌-◌, ◌+◌, None, length, take, ℕ}
use Rattle.stm_model.specs.Logs.{SameMemories, IsExplained}
use Rattle.data_effects.specs.Effects.{Under}
use Rattle.data_regions.specs.Regions.{AllWellFormed}
use Rattle.work_script.specs.Outputs.{HasRoom}
use Rattle.work_script.specs.Scripts.{run}
use Rattle.work_script.specs.ScriptLaws.{GaveOver}
use Rattle.work_script.specs.Operations.{ScriptFits}
use Rattle.work_script.proofs.interpret.perform_all.Given as goal

abbrev pub invariant-loop-op : goal.invariant-loop-op
invariant-loop-op g l = record {
  going : g.A.Access.stopped l.acc ≡ None;
  words : g.A.Access.words l.acc ≡ g.A.Access.words l.fn.acc;
  good : SameMemories (g.A.Access.good l.fn.acc) (g.A.Access.good l.acc);
  keeps : g.A.Access.keeps l.fn.acc l.acc;
  within : ScriptFits l.regions (g.A.Access.words l.fn.acc) l.ops;
  well : Under (g.A.Access.good l.acc) (g.A.Access.words l.acc) (g.A.Access.log l.acc) (AllWellFormed l.regions);
  kept_room : l.out.room ≡ l.fn.out.room;
  room : HasRoom l.out (length l.ops - l.op-index);
  left : (n : ℕ) → HasRoom l.fn.out (length l.ops + n) → HasRoom l.out (length l.ops - l.op-index + n);
  explained : IsExplained (g.A.Access.good l.fn.acc) (g.A.Access.words l.fn.acc) (g.A.Access.log l.fn.acc) → IsExplained (g.A.Access.good l.acc) (g.A.Access.words l.acc) (g.A.Access.log l.acc);
  gave : GaveOver (g.A.Access.good l.fn.acc) (g.A.Access.words l.fn.acc) (run l.regions (take l.op-index l.ops)) (g.A.Access.log l.fn.acc) l.fn.out (g.A.Access.log l.acc) l.out;
}
