use Rattle.std.proofs.Common.{ℕ, refl, rules}
use Rattle.rule_base.specs.StepKinds.{Nothing}
use Rattle.rule_seq.specs.TmlSteps.{tml_store}
use Rattle.stm_rule.proofs.StandLemmas.{tells-of}
use Rattle.stm_answers.specs.declared.answers.Write.TheVariants as writes
use Rattle.stm_answers.specs.Answers as answers
use Rattle.stm_answers.specs.CallerState.{CallerState}
use Rattle.stm_gate.proofs.Opening.{opened, shows}
use Rattle.alg_seq.proofs.TmlLaws as laws
use Rattle.alg_seq.proofs.TmlOpening.{plain-of}
use Rattle.alg_seq.proofs.tml.TmlAlgorithm.write.Goals as goal

pub returns-clause-write : goal.returns-clause-write
returns-clause-write g c =
    let a = opened g.K.MemRule.good c.args.stm.now c.desc.inside.number c.desc.inside.local c.desc.view_is refl c.desc.invariant.0.named c.desc.invariant.0.low c.desc.invariant.1 c.requires.stm in
    shows _ _ a (λ (n : ℕ) (v w : CallerState). answers.HasWritten (g.K.MemRule.good c.args.stm.now.rule) c.args.stm.now.config n c.args.a c.args.x writes.Done v w) c.tml_store.new.seat.me.0.view c.desc.inside.local refl
    (laws.tells-stored _ _ _ (plain-of g.K.MemRule.good c.args.stm.now a c.requires.running.0 c.requires.algorithm c.requires.unpromoted)
    c.args.a c.args.x c.tml_store.new.seat.me.0.view (search rules)
    (tells-of (tml_store c.args.a c.args.x) Nothing _ c.args.x _ c.tml_store.ensures.step))
