use Rattle.std.proofs.Common.{ℕ, ◌<◌, List, sym, subst, arith}
use Rattle.nekchhaul.specs.CallerState.{no_log}
use Rattle.example_shelves.specs.declared.shelves.Stored.TheVariants.{On, Nowhere}
use Rattle.example_shelves.specs.Shelves.{Told, IsStored}
use Rattle.example_shelves.proofs.ShelfLaws.{on-shelf, nowhere}
use Rattle.example_shelves.proofs.shelves.StoreTransactionAnyMem.run.Goals as goal

pub returns-in-Done-clause-postcondition : goal.returns-in-Done-clause-postcondition
returns-in-Done-clause-postcondition g c =
    let log = g.A.Access.log in
    let words = g.A.Access.words in
    let z0 = c.args.memory.now in
    let z1 = c.read.new.self in
    let z2 = c.wholly.new.memory in
    let s = c.in-Done.shelf in
    let same = c.in_ok-read.ensures.words in
    let low : 0 < words z1 = subst (λ (w : ℕ). 0 < w) (sym same) (omega (arith, c.requires.precondition)) in
    let came = rw c.in-Done.is at c.in_ok-shelf.ensures.comes in
    subst (λ (w : ℕ). Told w (IsStored (On s)) no_log (log z2)) same
    (on-shelf (words z1) low (log z0) (log z1) c.in_ok-read.field-0 c.requires.fresh c.in_ok-read.ensures.value _ 0 (log z2) s
    (omega (arith, c.if-branch-eq0.false)) came)

pub returns-in-GaveWay-clause-postcondition : goal.returns-in-GaveWay-clause-postcondition
returns-in-GaveWay-clause-postcondition g c =
    let log = g.A.Access.log in
    let words = g.A.Access.words in
    let z0 = c.args.memory.now in
    let z1 = c.read.new.self in
    let z2 = c.wholly.new.memory in
    let same = c.in_ok-read.ensures.words in
    let low : 0 < words z1 = subst (λ (w : ℕ). 0 < w) (sym same) (omega (arith, c.requires.precondition)) in
    let came = rw c.in-GaveWay.is at c.in_ok-shelf.ensures.comes in
    subst (λ (w : ℕ). Told w (IsStored Nowhere) no_log (log z2)) same
    (nowhere (words z1) low (log z0) (log z1) c.in_ok-read.field-0 c.requires.fresh c.in_ok-read.ensures.value (λ (m : List ℕ). Unit {0}) 0
    (log z2) (omega (arith, c.if-branch-eq0.false)) came)
