use Rattle.std.proofs.Common.{◌<◌, length, sym, ◌∙◌, arith}
use Rattle.draw_core.specs.Walks.{stands_of}
use Rattle.draw_core.proofs.Misfitting.{misfit-among, misfit-out}
use Rattle.draw_core.proofs.Walking.{length-stands, stand-of, within-at}
use Rattle.draw_core.proofs.misfit.misfit_in.Goals as goal

pub returns-then-cursors-caller : goal.returns-then-cursors-caller
returns-then-cursors-caller c =
    let items = c.args.items.now in
    let cs = c.args.cursors.now in
    let same = length-stands items 0 cs in
    let high = c.if-cursors-caller.true in
    misfit-out c.args.version (stands_of items 0 cs) c.args.caller (length cs) (sym same) (omega (arith, same, high))

pub misfit_at-requires : goal.misfit_at-requires
misfit_at-requires c = let lt = c.if-cursors-caller.false in within-at c.args.items.now c.args.caller c.args.cursors.now _ c.requires (omega (arith, lt))

pub returns : goal.returns
returns c =
    let items = c.args.items.now in
    let cs = c.args.cursors.now in
    let same = length-stands items 0 cs in
    let low = c.if-cursors-caller.false in
    let lt : c.args.caller < length cs = omega (arith, low) in
    c.misfit_at.ensures ∙ misfit-among c.args.version (stands_of items 0 cs) c.args.caller _ (omega (arith, same, lt)) (stand-of items c.args.caller cs _ lt)
