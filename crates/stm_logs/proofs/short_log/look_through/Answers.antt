use Rattle.std.proofs.Common.{arith}
use Rattle.stm_logs.proofs.ItemLemmas.{none-where}
use Rattle.stm_logs.proofs.short_log.look_through.Goals as goal

pub returns : goal.returns
returns c = record {
  within = omega arith;
  there = λ l. absurd (omega arith);
  none = λ e. none-where c.args.items.now c.args.a (λ k b. c.loop-i.invariant k (omega (arith, c.loop-i-test.false)));
}
