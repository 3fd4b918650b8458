use Rattle.example_buffer.proofs.DayLaws.{looked, looks-keep, saw}
use Rattle.example_buffer.proofs.buffer.LookTransactionBuffer.run.Goals as goal

pub returns-clause-postcondition : goal.returns-clause-postcondition
returns-clause-postcondition g c =
    let first = c.in_ok-first.ensures in
    let last = c.in_ok-last.ensures in
    let end = g.A.Access.log c.read-2.new.self in
    let does = looked (g.A.Access.log c.args.memory.now) (g.A.Access.log c.read.new.self) end c.in_ok-first.first c.in_ok-last.last c.requires.fresh first.value last.value in
    saw (g.A.Access.good c.read-2.new.self) (g.A.Access.words c.read-2.new.self) end
    (record { first = c.in_ok-first.first; last = c.in_ok-last.last })
    (λ m fine. (c.requires.good m).0 ((first.good m).1 ((last.good m).1 fine))) last.explained does.0

pub returns-clause-kept : goal.returns-clause-kept
returns-clause-kept g c =
    let end = g.A.Access.log c.read-2.new.self in
    let does = looked (g.A.Access.log c.args.memory.now) (g.A.Access.log c.read.new.self) end c.in_ok-first.first c.in_ok-last.last c.requires.fresh c.in_ok-first.ensures.value c.in_ok-last.ensures.value in
    looks-keep _ (g.A.Access.words c.args.memory.now) end does.1

pub returns-clause-keeps : goal.returns-clause-keeps
returns-clause-keeps g c = g.met.A.Access.keeps_trans _ _ _ c.in_ok-first.ensures.keeps c.in_ok-last.ensures.keeps
