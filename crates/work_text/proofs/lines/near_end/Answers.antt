use Rattle.std.proofs.Common.{rules, arith, w64}
use Rattle.std.proofs.lemmas.Nat.Bits.{bit_at-trailing_zeros}
use Rattle.work_text.proofs.ReadingLaws.{first-end}
use Rattle.work_text.proofs.lines.near_end.Goals as goal

pub returns : goal.returns
returns c =
    let m = c.ends-ends.result in
    let h = bit_at-trailing_zeros w64 m (omega (arith, c.if-ends-eq0.false)) (search rules) in
    first-end c.args.s.now m _ (omega (arith, c.if-s-lt-LANES.false)) c.ends-ends.ensures h.1 h.2
