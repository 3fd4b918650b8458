use Rattle.std.proofs.Common.{arith}
use Rattle.std.specs.Prelude.{None}
use Rattle.stm_logs.proofs.BucketLemmas.{home-open, index-taken}
use Rattle.stm_logs.proofs.index.take.Goals.{then-index-at, else-index-at}
use Rattle.stm_logs.proofs.index.take.Goals as goal

pub returns-clause-indexed : goal.returns-clause-indexed
returns-clause-indexed c v =
    let g = c.args.generation in
    let xs = c.args.items.now in
    let bs = c.args.index.now in
    let r = c.requires in
    elim c.if-index-at.branch [
      | then-index-at w ↦ rw w.at-is (index-taken g xs bs c.args.a v w.look_up-at.result r.indexed r.room w.look_up-at.ensures r.new)
      | else-index-at w ↦
          rw w.at-is
          (index-taken g xs bs c.args.a v (record { at = c.home-at.result; distance = 0; item = None }) r.indexed r.room
          (home-open g xs bs c.args.a c.home-at.result r.indexed (omega (arith, r.room)) c.home-at.ensures.is w.if-index-at.false) r.new)
    ]
