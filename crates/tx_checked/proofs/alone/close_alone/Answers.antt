use Rattle.std.proofs.Common.{ℕ, subst}
use Rattle.stm_tx.specs.Descs.{known, number}
use Rattle.stm_answers.specs.Answers.{Looks}
use Rattle.stm_answers.specs.CallerStateLaws.{grows-trans}
use Rattle.tx_atomic.specs.AttemptLaws.{same-number}
use Rattle.tx_checked.specs.Phases.{Any}
use Rattle.tx_checked.proofs.alone.close_alone.Goals as goal

pub returns-in-Quiet-clause-grew : goal.returns-in-Quiet-clause-grew
returns-in-Quiet-clause-grew c =
    grows-trans (known c.args.desc.now) (known c.close.new.desc) (known c.look.new.desc) c.close.ensures.grew c.in-Quiet.ensures.looks.0.closed.grows

pub returns-in-Busy-clause-grew : goal.returns-in-Busy-clause-grew
returns-in-Busy-clause-grew c =
    grows-trans (known c.args.desc.now) (known c.close.new.desc) (known c.look.new.desc) c.close.ensures.grew c.in-Busy.ensures.looks.0.closed.grows

pub returns-in-Quiet-clause-alone : goal.returns-in-Quiet-clause-alone
returns-in-Quiet-clause-alone c =
    let d = c.args.desc.now in
    let e = c.close.new.desc in
    let looked = subst (λ (n : ℕ). Looks Any c.args.stm.now.config n c.look.result (known e) (known c.look.new.desc)) (same-number d e c.close.ensures.same) c.look.ensures.looks in
    (known e, c.in_ok-close.ensures.by, subst (λ r. Looks Any c.args.stm.now.config (number d) r (known e) (known c.look.new.desc)) c.in-Quiet.is looked)

pub returns-in-Busy-clause-held_up : goal.returns-in-Busy-clause-held_up
returns-in-Busy-clause-held_up c =
    let d = c.args.desc.now in
    let e = c.close.new.desc in
    let looked = subst (λ (n : ℕ). Looks Any c.args.stm.now.config n c.look.result (known e) (known c.look.new.desc)) (same-number d e c.close.ensures.same) c.look.ensures.looks in
    (known e, c.in_ok-close.ensures.by, subst (λ r. Looks Any c.args.stm.now.config (number d) r (known e) (known c.look.new.desc)) c.in-Busy.is looked)
