use Rattle.std.proofs.Common.{◌≡◌, ◌≤◌, ◌-◌, length, vec_len}
use Rattle.work_io.specs.Ends.{Took}
use Rattle.work_io.proofs.whole.read_all.Given as goal

abbrev pub invariant-loop-chunk : goal.invariant-loop-chunk
invariant-loop-chunk g l = record {
  chunk : length l.chunk ≡ 65536;
  within : vec_len l.text ≤ l.limit;
  taken : Took (g.S.Source.left l.fn.source) (g.S.Source.left l.source) l.text.items;
  calm : g.S.Source.faults l.source ≡ g.S.Source.faults l.fn.source;
}

abbrev pub decreases-loop-chunk : goal.decreases-loop-chunk
decreases-loop-chunk g l = l.limit - vec_len l.text
