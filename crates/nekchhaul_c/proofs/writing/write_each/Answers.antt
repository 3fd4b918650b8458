use Rattle.std.proofs.Common.{◌∙◌, get_or, sym, subst, arith}
use Rattle.std.specs.Prelude.{Result, Ok}
use Rattle.stm_answers.specs.declared.answers.Write.{Write}
use Rattle.stm_answers.specs.declared.answers.Write.TheVariants.{Done}
use Rattle.tx_checked.specs.declared.misuse.Misuse.{Misuse}
use Rattle.nekchhaul_c.specs.Writes.{WriteTells}
use Rattle.nekchhaul_c.proofs.WritesInTurn.{is-done, same-after-write, stopped-write, write-more}
use Rattle.nekchhaul_c.proofs.writing.write_each.Goals as goal

pub returns-then-number-ne-OK : goal.returns-then-number-ne-OK
returns-then-number-ne-OK c =
    let at = c.loop-i.invariant in
    stopped-write c.loop-i.i c.args.addresses.now c.args.values.now c.of_write-number.result c.write.result c.args.looping_caller.now
    c.loop-i.looping_caller c.write.new.self c.loop-i-test.true c.requires.enough at.same at.wrote c.write.ensures
    c.of_write-number.ensures c.if-number-ne-OK.true

pub loop-i-preserved : goal.loop-i-preserved
loop-i-preserved c =
    let at = c.loop-i.invariant in
    let i = c.loop-i.i in
    let k = c.loop-i.looping_caller in
    let o = c.write.new.self in
    let a = get_or c.args.addresses.now i 0 in
    let x = get_or c.args.values.now i 0 in
    let none = c.if-number-ne-OK.false in
    let tells : WriteTells a x (Ok Done) k o = subst (λ (r : Result Write Misuse). WriteTells a x r k o) (is-done c.write.result (sym c.of_write-number.ensures ∙ none)) c.write.ensures in
    let low = c.loop-i-test.true in
    let enough = c.requires.enough in
    record {
      same = same-after-write a x (Ok Done) c.args.looping_caller.now k o at.same tells;
      wrote = write-more i c.args.addresses.now c.args.values.now c.args.looping_caller.now k o low (omega (arith, low, enough)) at.wrote tells;
    }
