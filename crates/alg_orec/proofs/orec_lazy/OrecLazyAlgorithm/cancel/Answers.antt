use Rattle.std.proofs.Common.{ℕ, ◌≡◌, subst, sym, ap, refl, false, rules, length, ◌∙◌, arith}
use Rattle.stm_model.specs.declared.alg.Alg.TheVariants.{OrecLazy}
use Rattle.stm_rule.specs.declared.local.Local.{Local}
use Rattle.stm_rule.specs.Attempts.{IsInside, own_of}
use Rattle.stm_answers.specs.declared.answers.Cancel.TheVariants.{Cancelled}
use Rattle.stm_answers.specs.Answers.{Cancels}
use Rattle.stm_answers.specs.CallerState.{CallerState, known_of, is_irrevocable}
use Rattle.stm_gate.proofs.Opening.{Opened, opened, tells-of}
use Rattle.alg_orec.proofs.CommitOpening as opening
use Rattle.alg_orec.proofs.Lazy.LazyEndingLaws as laws
use Rattle.alg_orec.proofs.Proving.{lazy-of}
use Rattle.alg_orec.proofs.orec_lazy.OrecLazyAlgorithm.cancel.Goals.{After-desc}
use Rattle.alg_orec.proofs.orec_lazy.OrecLazyAlgorithm.cancel.Goals as goal

opens : (g : _) (c : After-desc g) → Opened g.K.MemRule.good c.args.stm.now c.args.desc.now c.desc.inside.seat.me.0.who
    c.desc.inside.seat.me.0.view c.desc.inside.number c.desc.inside.local
opens g c = opened g.K.MemRule.good c.args.stm.now c.desc.inside.number c.desc.inside.local c.desc.view_is refl
    c.desc.invariant.0.named c.desc.invariant.0.low c.desc.invariant.1 c.requires.stm

inside : (g : _) (c : After-desc g) → IsInside (g.K.MemRule.good c.args.stm.now.rule) c.args.stm.now.config
    c.desc.inside.number c.desc.inside.local c.desc.inside.seat.me.0.view
inside g c = opening.inside g.K.MemRule.good c.args.stm.now (opens g c) c.requires.running

lazy : (g : _) (c : After-desc g) → c.desc.inside.seat.me.0.view.gate.algorithm ≡ OrecLazy
lazy g c = opening.named g.K.MemRule.good c.args.stm.now (opens g c) OrecLazy c.requires.algorithm

pub returns-then-desc-clause-cancels : goal.returns-then-desc-clause-cancels
returns-then-desc-clause-cancels g c =
    let a = (goal.at.returns-then-desc-clause-cancels g c).After-desc in (
      refl,
      ap is_irrevocable (opens g a).knows ∙ laws.irrevocable-granted _ _ _ _ _ (inside g a) (lazy g a)
          (own_of c.desc.inside.local) (search rules),
    )

pub abort-requires-clause-view : goal.abort-requires-clause-view
abort-requires-clause-view g c =
    let a = (goal.at.abort-requires-clause-view g c).After-desc in
    laws.may-abort _ _ _ _ _ (inside g a) (lazy g a) (search rules)

pub abort-requires-clause-named : goal.abort-requires-clause-named
abort-requires-clause-named g c = sym (inside g (goal.at.abort-requires-clause-named g c).After-desc).named

pub returns-clause-cancels : goal.returns-clause-cancels
returns-clause-cancels g c =
    let a = (goal.at.returns-clause-cancels g c).After-desc in
    let d = c.desc.inside in
    let w = c.abort.new.seat.me.0.view in
    let P = λ (n : ℕ) (v w : CallerState). Cancels (g.K.MemRule.good c.args.stm.now.rule) c.args.stm.now.config n
    (Cancelled d.local.start) v w in
    tells-of g.K.MemRule.good c.args.stm.now (opens g a) P (known_of w (own_of c.abort.new.local))
    (subst (λ (m : Local). P d.number (known_of d.seat.me.0.view (own_of d.local)) (known_of w (own_of m)))
    (sym c.abort.ensures.idle)
    (laws.tells-cancelled _ _ _ _ _ (inside g a) (lazy g a) (search rules) w (own_of d.local)
    c.abort.ensures.gives_up))

pub returns-clause-steps : goal.returns-clause-steps
returns-clause-steps g c =
    let a = (goal.at.returns-clause-steps g c).After-desc in
    let plain : c.desc.inside.local.granted ≡ false = search rules in
    let few = (lazy-of _ _ _ _ _ (inside g a) (sym (inside g a).named ∙ lazy g a) plain).few in
    let lengths = c.desc.invariant.1.lengths.0 in
    let first = ap (λ (k : CallerState). length k.step_trace) (opens g a).knows in
    let words = ap (λ (k : CallerState). k.writes_limit) (opens g a).knows in
    let back = c.abort.ensures.steps in
    omega arith
