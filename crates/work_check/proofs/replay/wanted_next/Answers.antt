use Rattle.std.proofs.Common.{ℕ, ◌≡◌, ◌∷◌, ◌<◌, ◌≤◌, length, sym, ap, ◌∙◌, arith, subst, drop}
use Rattle.work_script.specs.Reports.{regions_of, rows_of, scripts_of}
use Rattle.work_check.specs.Standing.{IsAt}
use Rattle.work_check.proofs.StandingLaws.{none-left, scripts-none, some-left}
use Rattle.work_check.proofs.replay.wanted_next.Goals as goal

pub returns-then-len-row : goal.returns-then-len-row
returns-then-len-row c = λ m.
    let w = c.args.workload.now in
    let r = c.args.row.now in
    let high = c.if-len-row.true in
    let n = c.len.ensures in
    let k = c.requires.stands.callers in
    let none = ap length (scripts-none (regions_of w.header) w.header r.caller w.items (omega arith) c.requires.items) in
    let rows = ap length (c.requires.stands.others r.caller (omega arith)) in
    (sym rows, (omega arith))

pub returns-in-Some : goal.returns-in-Some
returns-in-Some c = λ m.
    let w = c.args.workload.now in
    let r = c.args.row.now in
    let cursor = c.index-cursor.result.now in
    let low = c.if-len-row.false in
    let n = c.len.ensures in
    let k = c.requires.stands.callers in
    let here : IsAt w.items c.args.above.now r.caller cursor = subst (IsAt w.items c.args.above.now r.caller) (sym c.index-cursor.ensures) (c.requires.stands.each r.caller cursor (omega arith)) in
    let script = c.in-Some.field-0.1.now in
    let rest = scripts_of r.caller (drop c.in-Some.field-0.0 c.as_slice.result.now) in
    let found : scripts_of r.caller (drop cursor.item w.items) ≡ script ∷ rest = subst (λ l. scripts_of r.caller (drop cursor.item l) ≡ script ∷ rest) c.as_slice.ensures c.in-Some.ensures.script in
    let lt : length (rows_of r.caller c.args.above.now) < length (scripts_of r.caller w.items) = some-left w c.args.above.now r.caller cursor script rest here found in
    let had = here.rows in
    (had, (omega arith), λ same. c.requires.wrong (same ∙ had) (let e : r.seq ≡ cursor.seq = same in omega arith))

pub returns-in-None : goal.returns-in-None
returns-in-None c = λ m.
    let w = c.args.workload.now in
    let r = c.args.row.now in
    let cursor = c.index-cursor.result.now in
    let low = c.if-len-row.false in
    let n = c.len.ensures in
    let k = c.requires.stands.callers in
    let here : IsAt w.items c.args.above.now r.caller cursor = subst (IsAt w.items c.args.above.now r.caller) (sym c.index-cursor.ensures) (c.requires.stands.each r.caller cursor (omega arith)) in
    let none = none-left w c.args.above.now r.caller cursor here (subst (λ l. scripts_of r.caller (drop cursor.item l) ≡ _) c.as_slice.ensures c.in-None.ensures.script) in
    let had = here.rows in
    (had, (omega arith))
