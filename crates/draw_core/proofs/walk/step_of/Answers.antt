use Rattle.std.proofs.Common.{◌≡◌, ◌<◌, length, sym, ap, ◌∙◌, arith}
use Rattle.std.specs.Prelude.{slice_set}
use Rattle.work_trace.specs.declared.line.Line.TheVariants.{Of}
use Rattle.draw_core.specs.Walks.{deed_of, goes, stand_of, stands_of}
use Rattle.draw_core.proofs.Walking.{length-stands, stand-of, set-stand, within-at, within-set, goes-out, goes-none, goes-some, none-goes, step-same}
use Rattle.draw_core.proofs.walk.step_of.Goals as goal

pub returns-then-cursors-caller-clause-is : goal.returns-then-cursors-caller-clause-is
returns-then-cursors-caller-clause-is c =
    let stands = stands_of c.args.items.now 0 c.args.cursors.now in
    let is = c.in-Of.is in
    let line : c.args.line ≡ Of c.in-Of.caller c.in-Of.said = cc in
    let same = length-stands c.args.items.now 0 c.args.cursors.now in
    let high = c.if-cursors-caller.true in
    ap (goes c.args.version stands) line ∙ goes-out c.args.version stands c.in-Of.caller c.in-Of.said (omega (arith, same, high))

pub after-requires : goal.after-requires
after-requires c = let lt = c.if-cursors-caller.false in within-at c.args.items.now c.in-Of.caller c.args.cursors.now _ c.requires (omega (arith, lt))

pub returns-in_err-cursor-in-Of-clause-is : goal.returns-in_err-cursor-in-Of-clause-is
returns-in_err-cursor-in-Of-clause-is c =
    let n = c.in-Of.caller in
    let cs = c.args.cursors.now in
    let stands = stands_of c.args.items.now 0 cs in
    let is = c.in-Of.is in
    let line : c.args.line ≡ Of n c.in-Of.said = cc in
    let same = length-stands c.args.items.now 0 cs in
    let low = c.if-cursors-caller.false in
    let lt : n < length cs = omega (arith, low) in
    let in-range : n < length stands = omega (arith, same, lt) in
    none-goes c.from_residual.result c.args.version stands stands c.args.line c.from_residual.ensures
    (ap (goes c.args.version stands) line
    ∙ goes-none c.args.version stands n c.in-Of.said _ in-range (stand-of c.args.items.now n cs _ lt) c.turn_of.result c.turn_of.ensures c.in_err-cursor-in-Of.ensures.is)

pub returns-in_ok-cursor-in-Of-clause-is : goal.returns-in_ok-cursor-in-Of-clause-is
returns-in_ok-cursor-in-Of-clause-is c =
    let n = c.in-Of.caller in
    let cs = c.args.cursors.now in
    let stands = stands_of c.args.items.now 0 cs in
    let is = c.in-Of.is in
    let line : c.args.line ≡ Of n c.in-Of.said = cc in
    let same = length-stands c.args.items.now 0 cs in
    let low = c.if-cursors-caller.false in
    let lt : n < length cs = omega (arith, low) in
    let in-range : n < length stands = omega (arith, same, lt) in
    let to = c.in_ok-cursor-in-Of.cursor in
    let op = c.in_ok-cursor-in-Of.op in
    ap (goes c.args.version stands) line
    ∙ (goes-some c.args.version stands n c.in-Of.said _ in-range (stand-of c.args.items.now n cs _ lt) c.turn_of.result
    (stand_of c.args.items.now n to) op c.turn_of.ensures c.in_ok-cursor-in-Of.ensures.is c.in_ok-cursor-in-Of.ensures.told
    ∙ step-same (Of n c.in-Of.said) (deed_of c.args.version op) c.deed_of.result (slice_set stands n (stand_of c.args.items.now n to))
    (stands_of c.args.items.now 0 (slice_set cs n to)) (sym c.deed_of.ensures) (set-stand c.args.items.now n cs to))

pub returns-in_ok-cursor-in-Of-clause-within : goal.returns-in_ok-cursor-in-Of-clause-within
returns-in_ok-cursor-in-Of-clause-within c =
    within-set c.args.items.now c.in-Of.caller c.args.cursors.now c.in_ok-cursor-in-Of.cursor c.requires c.in_ok-cursor-in-Of.ensures.within
