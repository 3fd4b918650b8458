use Rattle.std.proofs.Common.{ℕ, ◌≤◌, refl, subst, rules, arith}
use Rattle.std.specs.Prelude.{nat_lt}
use Rattle.stm_model.specs.declared.alg.Alg.TheVariants.{OrecLazy}
use Rattle.stm_rule.specs.Attempts.{own_of}
use Rattle.stm_answers.specs.declared.answers.Roll.TheVariants.{Rolled}
use Rattle.stm_answers.specs.Answers.{Rolls}
use Rattle.stm_answers.specs.CallerState.{CallerState, known_of}
use Rattle.stm_gate.proofs.MarkLaws.{some-by}
use Rattle.stm_gate.proofs.Opening.{opened, tells-of}
use Rattle.alg_orec.proofs.Lazy.LazyNestingLaws as laws
use Rattle.alg_orec.proofs.NestingOpening.{goes-on, goes-on-of, irrevocable-now}
use Rattle.alg_orec.proofs.orec_lazy.OrecLazyAlgorithm.roll_to.Goals as goal

pub returns-then-desc-clause-rolls : goal.returns-then-desc-clause-rolls
returns-then-desc-clause-rolls g c =
    let k = goes-on g.K.MemRule.good c.desc.inside.number c.desc.inside.local c.desc.view_is refl c.requires.running c.desc.invariant.1 in
    (refl, irrevocable-now k OrecLazy refl c.requires.algorithm (search rules))

pub roll_to-requires-clause-high : goal.roll_to-requires-clause-high
roll_to-requires-clause-high g c =
    let k = goes-on g.K.MemRule.good c.desc.inside.number c.desc.inside.local c.desc.view_is refl c.requires.running c.desc.invariant.1 in
    let count = (laws.kept k c.requires.algorithm (search rules)).marked.count in
    let high : c.args.depth ≤ c.desc.inside.local.depth = subst (λ (q : CallerState). c.args.depth ≤ q.depth) k.knows c.requires.high in
    omega arith

pub invariant_of-desc : goal.invariant_of-desc
invariant_of-desc g c =
    let k = goes-on g.K.MemRule.good c.desc.inside.number c.desc.inside.local c.desc.view_is refl c.requires.running c.desc.invariant.1 in
    let high : c.args.depth ≤ c.desc.inside.local.depth = subst (λ (q : CallerState). c.args.depth ≤ q.depth) k.knows c.requires.high in
    let some = some-by c.roll_to.new.self.items c.count.result c.count.ensures.count in
    (c.desc.invariant.0, laws.stands-rolled k c.requires.algorithm (search rules) c.roll_to.new.self (nat_lt 0 c.count.result) c.args.depth c.requires.low high c.roll_to.ensures.rolled some)

pub returns-clause-rolls : goal.returns-clause-rolls
returns-clause-rolls g c =
    let a = opened g.K.MemRule.good c.args.stm.now c.desc.inside.number c.desc.inside.local c.desc.view_is refl c.desc.invariant.0.named c.desc.invariant.0.low c.desc.invariant.1 c.requires.stm in
    let k = goes-on-of g.K.MemRule.good c.args.stm.now a c.requires.running in
    let high : c.args.depth ≤ c.desc.inside.local.depth = subst (λ (q : CallerState). c.args.depth ≤ q.depth) k.knows c.requires.high in
    let some = some-by c.roll_to.new.self.items c.count.result c.count.ensures.count in
    tells-of _ _ a (λ (n : ℕ) (v w : CallerState). Rolls (g.K.MemRule.good c.args.stm.now.rule) c.args.stm.now.config n c.args.depth Rolled v w)
    (known_of c.desc.inside.seat.me.0.view (own_of (record c.desc.inside.local { writes = c.roll_to.new.self; wrote = nat_lt 0 c.count.result; depth = c.args.depth })))
    (laws.rolls-back k c.requires.algorithm (search rules) c.roll_to.new.self (nat_lt 0 c.count.result) c.args.depth c.requires.low high c.roll_to.ensures.rolled some)
