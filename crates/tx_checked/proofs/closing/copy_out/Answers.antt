use Rattle.std.proofs.Common.{◌≢◌, refl, rules, arith, get_or-set_other}
use Rattle.stm_tx.specs.Descs.{known}
use Rattle.tx_checked.proofs.Beside.{beside-same, beside-stays, beside-trans}
use Rattle.tx_checked.proofs.closing.copy_out.Goals as goal

pub loop-a-init : goal.loop-a-init
loop-a-init c = let v = known c.args.desc.now in let grew = beside-same v v refl in search (rules, grew)

pub loop-a-preserved : goal.loop-a-preserved
loop-a-preserved c =
    let at = c.loop-a.invariant in
    let v = known c.loop-a.desc in
    let w = known c.direct_read.new.desc in
    let low = c.loop-a-test.true in
    record {
      same = search rules;
      idle = search rules;
      range = search rules;
      unchanged = search rules;
      grew = beside-trans (known c.args.desc.now) v w at.grew (beside-stays v w c.direct_read.ensures.reads.stays);
      beyond = λ k le. let ne : k ≢ c.loop-a.a = omega (arith, le, low) in rw get_or-set_other (at.beyond k le);
      made = search rules;
      installs = search rules;
      long = search rules;
      words = search rules;
    }
