use Rattle.std.proofs.Common.{◌∙◌}
use Rattle.std.proofs.lemmas.Result.{err_from_is_err_and}
use Rattle.alg_orec.proofs.Passing as passing
use Rattle.alg_orec.proofs.Seats.{seat-on}
use Rattle.alg_orec.proofs.CountingLaws.{takes-trans}
use Rattle.alg_orec.proofs.validate.pass_before.Goals as goal

pub returns-in_err-pass_read-clause-passes : goal.returns-in_err-pass_read-clause-passes
returns-in_err-pass_read-clause-passes g c =
    let f = c.args.stm.now.config in
    let v = c.args.seat.now.me.0.view in
    let u = c.loop-i.seat.me.0.view in
    let w = c.pass_read.new.seat.me.0.view in
    let p = err_from_is_err_and c.from_residual.result c.from_residual.ensures.1 in
    rw (p.1, p.2) (passing.refused-next f c.args.caller c.requires.caller c.args.local.now v c.requires.view c.loop-i.i u c.loop-i.invariant.passed _ w c.in_err-pass_read.ensures.passes)

pub loop-i-preserved : goal.loop-i-preserved
loop-i-preserved g c =
    let f = c.args.stm.now.config in
    let i = c.loop-i.invariant in
    let first = c.args.seat.now.me.0 in
    let s = c.loop-i.seat.me.0 in
    let t = c.pass_read.new.seat.me.0 in
    let i' = c.loop-i.i in
    let same = c.pass_read.ensures.same in
    record {
      table = same.0.0 ∙ i.table;
      id = same.0.1 ∙ i.id;
      bare = same.0.2 ∙ i.bare;
      seat = seat-on first s t t.view i.seat same.1;
      steps = takes-trans i' 1 first.view s.view t.view i.steps c.pass_read.ensures.steps;
      passed = passing.passed-next f c.args.caller c.requires.caller c.args.local.now first.view c.requires.view c.loop-i.i s.view i.passed t.view c.in_ok-pass_read.ensures.passes;
    }
