use Rattle.std.proofs.Common.{◌≡◌, None, take}
use Rattle.stm_model.specs.Logs.{SameMemories, IsExplained}
use Rattle.tx_parts.specs.Laying.{Lays}
use Rattle.tx_parts.proofs.overlay.write_through.Given as goal

abbrev pub invariant-loop-i : goal.invariant-loop-i
invariant-loop-i g l = record {
  going : g.A.Access.stopped l.memory ≡ None;
  words : g.A.Access.words l.memory ≡ g.A.Access.words l.fn.memory;
  good : SameMemories (g.A.Access.good l.fn.memory) (g.A.Access.good l.memory);
  keeps : g.A.Access.keeps l.fn.memory l.memory;
  explained : IsExplained (g.A.Access.good l.memory) (g.A.Access.words l.memory) (g.A.Access.log l.memory);
  lays : Lays (take l.i l.room.items) (g.A.Access.log l.fn.memory) (g.A.Access.log l.memory);
}
