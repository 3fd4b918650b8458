use Rattle.std.proofs.Common.{ℕ, ◌≡◌, subst, sym, ap, refl, false, rules, length, arith}
use Rattle.stm_rule.specs.declared.local.Local.{Local}
use Rattle.stm_rule.specs.Attempts.{own_of}
use Rattle.stm_answers.specs.declared.answers.Cancel.TheVariants.{Cancelled}
use Rattle.stm_answers.specs.Answers.{Cancels}
use Rattle.stm_answers.specs.CallerState.{CallerState, known_of}
use Rattle.stm_gate.proofs.Opening.{Opened, opened, tells-of}
use Rattle.alg_orec.proofs.CommitOpening.{Unpromoted, unpromoted, irrevocable-known}
use Rattle.alg_orec.proofs.Eager.EagerCommitLaws as laws
use Rattle.alg_orec.proofs.Eager.EagerProving.{held-within}
use Rattle.alg_orec.proofs.orec_eager.OrecEagerAlgorithm.cancel.Goals.{After-desc}
use Rattle.alg_orec.proofs.orec_eager.OrecEagerAlgorithm.cancel.Goals as goal

opens : (g : _) (c : After-desc g) → Opened g.K.MemRule.good c.args.stm.now c.args.desc.now c.desc.inside.seat.me.0.who
    c.desc.inside.seat.me.0.view c.desc.inside.number c.desc.inside.local
opens g c = opened g.K.MemRule.good c.args.stm.now c.desc.inside.number c.desc.inside.local c.desc.view_is refl
    c.desc.invariant.0.named c.desc.invariant.0.low c.desc.invariant.1 c.requires.stm

here : (g : _) (c : After-desc g) → c.desc.inside.local.granted ≡ false → Unpromoted
    (g.K.MemRule.good c.args.stm.now.rule) c.args.stm.now.config c.desc.inside.number c.desc.inside.local
    c.desc.inside.seat.me.0.view
here g c plain = unpromoted g.K.MemRule.good c.args.stm.now (opens g c) c.requires.running c.requires.algorithm plain

pub returns-then-desc-clause-cancels : goal.returns-then-desc-clause-cancels
returns-then-desc-clause-cancels g c =
    let a = (goal.at.returns-then-desc-clause-cancels g c).After-desc in (
      refl,
      irrevocable-known g.K.MemRule.good c.args.stm.now (opens g a) c.requires.running c.requires.algorithm
          (search rules),
    )

pub abort-requires-clause-view : goal.abort-requires-clause-view
abort-requires-clause-view g c = laws.may-take-here (here g (goal.at.abort-requires-clause-view g c).After-desc
    (search rules))

pub abort-requires-clause-named : goal.abort-requires-clause-named
abort-requires-clause-named g c = sym (here g (goal.at.abort-requires-clause-named g c).After-desc
    (search rules)).inside.named

pub returns-clause-cancels : goal.returns-clause-cancels
returns-clause-cancels g c =
    let a = (goal.at.returns-clause-cancels g c).After-desc in
    let f = c.args.stm.now.config in
    let good = g.K.MemRule.good c.args.stm.now.rule in
    let d = c.desc.inside in
    let w = c.abort.new.seat.me.0.view in
    tells-of g.K.MemRule.good c.args.stm.now (opens g a)
    (λ (n : ℕ) (v w : CallerState). Cancels good f n (Cancelled d.local.start) v w)
    (known_of w (own_of c.abort.new.local))
    (subst (λ (m : Local). Cancels good f d.number (Cancelled d.local.start)
    (known_of d.seat.me.0.view (own_of d.local)) (known_of w (own_of m))) (sym c.abort.ensures.idle)
    (laws.tells-cancelled (here g a (search rules)) w (own_of d.local) c.abort.ensures.aborts))

pub returns-clause-steps : goal.returns-clause-steps
returns-clause-steps g c =
    let a = (goal.at.returns-clause-steps g c).After-desc in
    let within = held-within _ _ _ (laws.k (here g a (search rules))) in
    let first = ap (λ (k : CallerState). length k.step_trace) (opens g a).knows in
    let words = ap (λ (k : CallerState). k.writes_limit) (opens g a).knows in
    let back = c.abort.ensures.steps in
    omega arith
