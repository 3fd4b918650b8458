use Rattle.std.proofs.Common.{◌<◌, length, sym, ap, arith, subst}
use Rattle.work_script.specs.Reports.{regions_of}
use Rattle.work_check.specs.Standing.{IsAt}
use Rattle.work_check.proofs.StandingLaws.{some-next, none-next, scripts-none}
use Rattle.work_check.proofs.replay.next_of.Goals as goal

pub returns-then-len-row-clause-none : goal.returns-then-len-row-clause-none
returns-then-len-row-clause-none c = λ next lt.
    let w = c.args.workload.now in
    let high = c.if-len-row.true in
    let n = c.len.ensures in
    let k = c.requires.stands.callers in
    let none = scripts-none (regions_of w.header) w.header c.args.row.now.caller w.items (omega arith) c.requires.items in
    let e = ap length none in
    absurd (omega arith)

within : (c : goal.After-next_script) → c.args.row.now.caller < c.args.workload.now.header.callers
within c = let low = c.if-len-row.false in let n = c.len.ensures in let k = c.requires.stands.callers in omega arith

at : (c : goal.After-next_script) → IsAt c.args.workload.now.items c.args.above.now c.args.row.now.caller c.index-cursor.result.now
at c = subst (IsAt c.args.workload.now.items c.args.above.now c.args.row.now.caller) (sym c.index-cursor.ensures) (c.requires.stands.each c.args.row.now.caller c.index-cursor.result.now (within c))

pub returns-clause-some : goal.returns-clause-some
returns-clause-some c =
    some-next (λ n. n.0) (λ n. n.1.now) c.next_script.result c.args.workload.now c.args.above.now c.args.row.now c.index-cursor.result.now c.as_slice.result.now c.as_slice.ensures
    c.requires.items (within c) (at c) c.if-cursor-row.false c.next_script.ensures.within c.next_script.ensures.script

pub returns-clause-none : goal.returns-clause-none
returns-clause-none c =
    none-next (λ n. n.0) (λ n. n.1.now) c.next_script.result c.args.workload.now c.args.above.now c.args.row.now c.index-cursor.result.now c.as_slice.result.now c.as_slice.ensures
    (at c) c.if-cursor-row.false c.next_script.ensures.script
