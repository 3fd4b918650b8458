use Rattle.std.proofs.Common.{ℕ, suc, ◌≡◌, ◌-◌, ◌^◌, min, refl, arith, rules, subst}
use Rattle.stm_answers.specs.Answers.{Looks}
use Rattle.stm_answers.specs.CallerStateLaws.{carries-refl, grows-trans}
use Rattle.stm_tx.specs.Descs.{known, number}
use Rattle.tx_atomic.specs.AttemptLaws.{same-number}
use Rattle.tx_atomic.specs.Switches.{FindsInside}
use Rattle.tx_atomic.proofs.switching.see_others_leave.Goals as goal

pub loop-init : goal.loop-init
loop-init g c =
    let stm = c.args.stm.now in
    let u = known c.args.desc.now in
    let grew = (carries-refl u).grows in
    let looked : (busy : ℕ) × (0 ≡ min busy (2 ^ 64 - 1)) × FindsInside (g.K.MemRule.good stm.rule) stm.config (number c.args.desc.now) busy u u =
    (0, refl, refl) in
    search (rules, grew, looked)

pub loop-preserved : goal.loop-preserved
loop-preserved g c =
    let stm = c.args.stm.now in
    let good = g.K.MemRule.good stm.rule in
    let v = known c.loop.desc in
    let w = known c.look.new.desc in
    let grew = grows-trans (known c.args.desc.now) v w c.loop.invariant.grew c.in-Busy.ensures.looks.0.closed.grows in
    let here = subst (λ n. Looks good stm.config n c.look.result v w) (same-number c.args.desc.now c.loop.desc c.loop.invariant.same) c.look.ensures.looks in
    let before = c.loop.invariant.looked in
    let looked : (busy : ℕ) × (c.saturating_add-looks.result ≡ min busy (2 ^ 64 - 1))
    × FindsInside good stm.config (number c.args.desc.now) busy (known c.args.desc.now) w = (
      suc before.0,
      omega (arith, before.1, c.saturating_add-looks.ensures),
      (v, before.2, c.in-Busy.caller, c.in-Busy.status, subst (λ r. Looks good stm.config (number c.args.desc.now) r v w) c.in-Busy.is here),
    ) in
    search (rules, grew, looked)

pub returns-in-Quiet-clause-grew : goal.returns-in-Quiet-clause-grew
returns-in-Quiet-clause-grew g c =
    grows-trans (known c.args.desc.now) (known c.loop.desc) (known c.look.new.desc) c.loop.invariant.grew c.in-Quiet.ensures.looks.0.closed.grows

pub returns-in-Quiet-clause-looks : goal.returns-in-Quiet-clause-looks
returns-in-Quiet-clause-looks g c =
    let stm = c.args.stm.now in
    let good = g.K.MemRule.good stm.rule in
    let v = known c.loop.desc in
    let w = known c.look.new.desc in
    let here = subst (λ n. Looks good stm.config n c.look.result v w) (same-number c.args.desc.now c.loop.desc c.loop.invariant.same) c.look.ensures.looks in
    let before = c.loop.invariant.looked in
    record {
      busy = before.0;
      counted = omega (arith, before.1, c.saturating_add-looks.ensures);
      last = v;
      inside = before.2;
      quiet = subst (λ r. Looks good stm.config (number c.args.desc.now) r v w) c.in-Quiet.is here;
    }
