use Rattle.std.proofs.Common.{ℕ, ◌≡◌, ◌<◌, List, length, get_or, sym, ap, ◌∙◌, arith}
use Rattle.std.specs.Prelude.{Option, Some, drop}
use Rattle.std.proofs.lemmas.List.{drop_more}
use Rattle.work_script.specs.declared.op.Op.{Op}
use Rattle.work_script.specs.declared.op.Op.TheVariants.{Irrev}
use Rattle.work_script.specs.Reports.{scripts_of}
use Rattle.draw_core.specs.Turns.{Stand, past_next}
use Rattle.draw_core.specs.Walks.{opened}
use Rattle.draw_core.proofs.Walking.{past-open}
use Rattle.draw_core.proofs.cursor.next_op.Goals as goal

pub returns-clause-past : goal.returns-clause-past
returns-clause-past c =
    let items = c.args.items.now in
    let scripts : List (List Op) = scripts_of c.args.caller (drop c.args.cursor.item items) in
    let script : List Op = c.in_ok-script.script.now in
    let done : ℕ = c.in_ok-done.done in
    let was = c.in_ok-done.was in
    let at : c.args.cursor.done ≡ Some done = cc in
    let same : c.as_slice-ops.result.now ≡ script = c.as_slice-ops.ensures in
    let long = ap (λ (l : List Op). length l) same in
    let less = c.if-ops-done.false in
    let lt : done < length script = omega (arith, less, long) in
    let past = past-open scripts (scripts_of c.args.caller (drop c.in_ok-script.field-0-0 items)) script done (get_or script done Irrev) c.in_ok-script.ensures.script (drop_more script done Irrev lt) in
    ap (λ (x : Option (List Op)). (let s : Stand = record { scripts = scripts; attempt = x } in s)) (past ∙ ap (λ (x : Option ℕ). past_next (opened scripts x)) (sym at))
