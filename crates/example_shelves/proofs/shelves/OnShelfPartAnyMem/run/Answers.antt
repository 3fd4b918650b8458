use Rattle.std.proofs.Common.{ℕ, subst, arith}
use Rattle.nekchhaul.specs.Logs.{Writes}
use Rattle.example_shelves.proofs.ShelfLaws.{full-there, lands-there}
use Rattle.example_shelves.proofs.shelves.OnShelfPartAnyMem.run.Goals as goal

pub returns-then-count-self-clause-postcondition : goal.returns-then-count-self-clause-postcondition
returns-then-count-self-clause-postcondition g c =
    let log = g.N.Access.log in
    let it = c.args.self.now in
    let z0 = c.args.memory.now in
    let z1 = c.read.new.self in
    let z2 = c.write.new.self in
    let z3 = c.read-2.new.self in
    let taken = subst (λ (v : ℕ). Writes (log z1) 0 v (log z2)) c.saturating_sub.ensures c.in_ok-write.ensures.value in
    full-there (g.N.Access.words z0) (log z0) (log z1) (log z2) (log z3) it.shelf it.room c.in_ok-pile.pile c.in_ok-count.count
    c.requires.precondition.0 c.requires.precondition.1 c.in_ok-pile.ensures.value taken c.in_ok-count.ensures.value
    (omega (arith, c.if-count-self.true))

pub returns-clause-postcondition : goal.returns-clause-postcondition
returns-clause-postcondition g c =
    let log = g.N.Access.log in
    let it = c.args.self.now in
    let z0 = c.args.memory.now in
    let z1 = c.read.new.self in
    let z2 = c.write.new.self in
    let z3 = c.read-2.new.self in
    let taken = subst (λ (v : ℕ). Writes (log z1) 0 v (log z2)) c.saturating_sub.ensures c.in_ok-write.ensures.value in
    lands-there (g.N.Access.words z0) (log z0) (log z1) (log z2) (log z3) it.shelf it.room c.in_ok-pile.pile c.in_ok-count.count
    c.requires.precondition.0 c.requires.precondition.1 c.in_ok-pile.ensures.value taken c.in_ok-count.ensures.value
    (log c.write-2.new.self) (omega (arith, c.if-count-self.false)) c.in_ok-write-2.ensures.value
