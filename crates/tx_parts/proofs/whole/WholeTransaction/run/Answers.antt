use Rattle.std.proofs.Common.{◌≡◌, ap}
use Rattle.stm_logs.specs.LogStates.{LogState}
use Rattle.tx_parts.proofs.FirstLaws.{first-read, comes-first}
use Rattle.tx_parts.proofs.whole.WholeTransaction.run.Goals as goal

pub returns-clause-postcondition : goal.returns-clause-postcondition
returns-clause-postcondition g c =
    let a = g.A.Access in
    let it = c.args.self.now in
    let z0 = c.args.memory.now in
    let z1 = c.read.new.self in
    let v = c.in_ok-read.field-0 in
    let len : c.in-Ok.room.len ≡ it.room = ap (λ (l : LogState). l.len) c.in-Ok.ensures in
    comes-first c.wholly.result (g.K.MemRule.good c.args.rule.now) (a.words z1) (a.words z0) it.first v c.in-Ok.room.len it.room (g.P.Part.postcondition it.part c.args.rule.now) (a.log z1) (a.log c.wholly.new.memory)
    c.in_ok-read.ensures.words (first-read it.first v (a.log z0) (a.log z1) c.requires.fresh c.in_ok-read.ensures.value) len c.wholly.ensures.comes
