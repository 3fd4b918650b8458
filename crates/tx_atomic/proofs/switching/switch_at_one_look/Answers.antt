use Rattle.std.proofs.Common.{subst}
use Rattle.stm_answers.specs.Answers.{Looks}
use Rattle.stm_answers.specs.CallerStateLaws.{grows-trans}
use Rattle.stm_tx.specs.Descs.{known, number}
use Rattle.tx_atomic.specs.AttemptLaws.{same-number}
use Rattle.tx_atomic.proofs.switching.switch_at_one_look.Goals as goal

pub returns-in-Quiet-clause-grew : goal.returns-in-Quiet-clause-grew
returns-in-Quiet-clause-grew g c =
    let u = known c.args.desc.now in
    let looked = grows-trans u (known c.close_gate.new.desc) (known c.look.new.desc) c.in-Closed.ensures.closes.grows c.in-Quiet.ensures.looks.0.closed.grows in
    let installed = grows-trans u (known c.look.new.desc) (known c.install.new.desc) looked c.install.ensures.installs.closed.grows in
    grows-trans u (known c.install.new.desc) (known c.reopen.new.desc) installed c.reopen.ensures.reopens.grows

pub returns-in-Busy-clause-grew : goal.returns-in-Busy-clause-grew
returns-in-Busy-clause-grew g c =
    let u = known c.args.desc.now in
    let looked = grows-trans u (known c.close_gate.new.desc) (known c.look.new.desc) c.in-Closed.ensures.closes.grows c.in-Busy.ensures.looks.0.closed.grows in
    grows-trans u (known c.look.new.desc) (known c.reopen-in-Busy.new.desc) looked c.reopen-in-Busy.ensures.reopens.grows

pub returns-in-Busy-clause-hindered : goal.returns-in-Busy-clause-hindered
returns-in-Busy-clause-hindered g c =
    let stm = c.args.stm.now in
    let good = g.K.MemRule.good stm.rule in
    let v = known c.close_gate.new.desc in
    let w = known c.look.new.desc in
    let here = subst (λ n. Looks good stm.config n c.look.result v w) (same-number c.args.desc.now c.close_gate.new.desc c.close_gate.ensures.same) c.look.ensures.looks in
    (v, c.in-Closed.ensures.closes, w, subst (λ r. Looks good stm.config (number c.args.desc.now) r v w) c.in-Busy.is here, c.reopen-in-Busy.ensures.reopens)
