use Rattle.std.proofs.Common.{◌≤◌, ◌++◌, arith, length, length-append, length-take, take}
use Rattle.std.proofs.lemmas.Result.{err_from_is_err_and}
use Rattle.work_io.proofs.Laws.{Took-append}
use Rattle.work_io.proofs.whole.read_all.Goals as goal

pub returns-in_err-extend_from_slice-in-Ok-clause-lost :
    goal.returns-in_err-extend_from_slice-in-Ok-clause-lost
returns-in_err-extend_from_slice-in-Ok-clause-lost g c =
    let error = err_from_is_err_and c.from_residual.result c.from_residual.ensures.1 in
    let text = c.loop-chunk.text.items in
    let piece = take c.in-Ok.count c.take.new.buf in
    let items = c.loop-chunk.text.ok.0 in
    let long : length (text ++ piece) ≤ c.args.limit = omega (arith, length-append text piece, length-take c.in-Ok.count c.take.new.buf, length-take c.min-size.result c.loop-chunk.chunk, c.in-Ok.ensures.count, items) in
    rw error.1 (text ++ piece, long, Took-append _ _ _ text piece c.loop-chunk.invariant.taken c.in-Ok.ensures.taken)
