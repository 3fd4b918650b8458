use Rattle.std.proofs.Common.{ℕ, subst}
use Rattle.std.proofs.lemmas.Result.{err_from_is_err_and}
use Rattle.stm_tx.specs.Descs.{known, number}
use Rattle.stm_answers.specs.CallerStateLaws.{grows-trans}
use Rattle.tx_atomic.specs.AttemptLaws.{same-number}
use Rattle.tx_checked.specs.Alone.{HasClosedBy, IsHeldUp}
use Rattle.tx_checked.proofs.GateLooks.{closed-after, held-up-after}
use Rattle.tx_checked.proofs.alone_for_range.close_without_range.Goals as goal

pub returns-in_err-close-clause-grew : goal.returns-in_err-close-clause-grew
returns-in_err-close-clause-grew c = grows-trans (known c.args.desc.now) (known c.see_no_range.new.desc) (known c.close.new.desc) c.see_no_range.ensures.grew c.close.ensures.grew

pub returns-in_err-close-clause-refused : goal.returns-in_err-close-clause-refused
returns-in_err-close-clause-refused c =
    let d = c.args.desc.now in
    let e = c.see_no_range.new.desc in
    let refused = c.in_err-close.field-0.0 in
    let p = err_from_is_err_and c.from_residual-in_err-close.result c.from_residual-in_err-close.ensures.1 in
    rw (p.1, p.2) (held-up-after c.args.stm.now.config (number d) c.args.closing refused (known d) (known e) (known c.close.new.desc) c.in_ok-see_no_range.ensures.looked
    (subst (λ (n : ℕ). IsHeldUp c.args.stm.now.config n c.args.closing refused (known e) (known c.close.new.desc)) (same-number d e c.see_no_range.ensures.same) c.in_err-close.ensures.held_up))

pub returns-in-None-clause-grew : goal.returns-in-None-clause-grew
returns-in-None-clause-grew c = grows-trans (known c.args.desc.now) (known c.see_no_range.new.desc) (known c.close.new.desc) c.see_no_range.ensures.grew c.close.ensures.grew

pub returns-in-None-clause-by : goal.returns-in-None-clause-by
returns-in-None-clause-by c =
    let d = c.args.desc.now in
    let e = c.see_no_range.new.desc in
    closed-after c.args.stm.now.config (number d) c.args.closing (known d) (known e) (known c.close.new.desc) c.in_ok-see_no_range.ensures.looked
    (subst (λ (n : ℕ). HasClosedBy c.args.stm.now.config n c.args.closing (known e) (known c.close.new.desc)) (same-number d e c.see_no_range.ensures.same) c.in_ok-close.ensures.by)

pub returns-in-Some-clause-grew : goal.returns-in-Some-clause-grew
returns-in-Some-clause-grew c =
    let u = known c.args.desc.now in
    let w = known c.close.new.desc in
    grows-trans u w (known c.reopen.new.desc) (grows-trans u (known c.see_no_range.new.desc) w c.see_no_range.ensures.grew c.close.ensures.grew) c.reopen.ensures.reopens.grows
