use Rattle.std.proofs.Common.{ℕ, suc, refl, rules, subst, ◌∙◌}
use Rattle.stm_answers.specs.Answers.{Closes}
use Rattle.stm_answers.specs.CallerStateLaws.{carries-refl, grows-trans}
use Rattle.stm_tx.specs.Descs.{known, number}
use Rattle.tx_atomic.specs.AttemptLaws.{same-number}
use Rattle.tx_atomic.specs.Switches.{FindsTaken, SeesLeave}
use Rattle.tx_atomic.proofs.switching.close_alone.Goals as goal

pub loop-init : goal.loop-init
loop-init g c =
    let stm = c.args.stm.now in
    let u = known c.args.desc.now in
    let grew = (carries-refl u).grows in
    let taken : (refused : ℕ) × FindsTaken (g.K.MemRule.good stm.rule) stm.config (number c.args.desc.now) refused u u = (0, refl) in
    search (rules, grew, taken)

pub loop-preserved : goal.loop-preserved
loop-preserved g c =
    let stm = c.args.stm.now in
    let good = g.K.MemRule.good stm.rule in
    let v = known c.loop.desc in
    let w = known c.close_gate.new.desc in
    let grew = grows-trans (known c.args.desc.now) v w c.loop.invariant.grew c.in-Taken.ensures.closes.0.grows in
    let here = subst (λ n. Closes good stm.config n c.close_gate.result v w) (same-number c.args.desc.now c.loop.desc c.loop.invariant.same) c.close_gate.ensures.closes in
    let before = c.loop.invariant.taken in
    let taken : (refused : ℕ) × FindsTaken good stm.config (number c.args.desc.now) refused (known c.args.desc.now) w =
    (suc before.0, (v, before.1, c.in-Taken.gate, subst (λ r. Closes good stm.config (number c.args.desc.now) r v w) c.in-Taken.is here)) in
    search (rules, grew, taken)

pub returns-in-Closed-clause-grew : goal.returns-in-Closed-clause-grew
returns-in-Closed-clause-grew g c =
    let u = known c.args.desc.now in
    let closed = grows-trans u (known c.loop.desc) (known c.close_gate.new.desc) c.loop.invariant.grew c.in-Closed.ensures.closes.grows in
    grows-trans u (known c.close_gate.new.desc) (known c.see_others_leave.new.desc) closed c.see_others_leave.ensures.grew

pub returns-in-Closed-clause-looks : goal.returns-in-Closed-clause-looks
returns-in-Closed-clause-looks g c =
    let stm = c.args.stm.now in
    let good = g.K.MemRule.good stm.rule in
    let v = known c.loop.desc in
    let w = known c.close_gate.new.desc in
    let first = same-number c.args.desc.now c.loop.desc c.loop.invariant.same in
    let here = subst (λ n. Closes good stm.config n c.close_gate.result v w) first c.close_gate.ensures.closes in
    record {
      refused = c.loop.invariant.taken.0;
      opened = v;
      taken = c.loop.invariant.taken.1;
      closed = w;
      closes = subst (λ r. Closes good stm.config (number c.args.desc.now) r v w) c.in-Closed.is here;
      leave = subst (λ n. SeesLeave good stm.config n c.see_others_leave.result w (known c.see_others_leave.new.desc))
          (same-number c.loop.desc c.close_gate.new.desc c.close_gate.ensures.same ∙ first) c.see_others_leave.ensures.looks;
    }
