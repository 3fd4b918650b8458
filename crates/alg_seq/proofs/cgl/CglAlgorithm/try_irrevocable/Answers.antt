use Rattle.std.proofs.Common.{◌≡◌, true, subst, sym, ap, ◌∙◌}
use Rattle.stm_model.specs.Algorithms.{irrevocable_under}
use Rattle.stm_model.specs.declared.alg.Alg.{Alg}
use Rattle.stm_rule.specs.Attempts.{own_of}
use Rattle.stm_rule.specs.Callers.{Handle, handle_of}
use Rattle.stm_gate.specs.Knowing.{known, number}
use Rattle.stm_gate.proofs.Standing.{runs-of}
use Rattle.stm_answers.specs.Answers.{TriesIrrevocable}
use Rattle.stm_answers.specs.CallerState.{caller_of, is_irrevocable, wrote}
use Rattle.alg_seq.proofs.Locked.{stays-irrevocable}
use Rattle.alg_seq.proofs.cgl.CglAlgorithm.try_irrevocable.Goals as goal

pub returns-clause-irrevs : goal.returns-clause-irrevs
returns-clause-irrevs g c =
    let o = own_of c.desc.inside.local in
    subst (λ (h : Handle g.row.K.Denot). TriesIrrevocable (g.K.MemRule.good c.args.stm.now.rule) c.args.stm.now.config (number h) (known h) (known h)) c.desc.view_is
    (subst (λ k.
    TriesIrrevocable (g.K.MemRule.good c.args.stm.now.rule) c.args.stm.now.config k (known (handle_of c.desc.inside.seat o))
    (known (handle_of c.desc.inside.seat o))) (sym (ap caller_of c.desc.invariant.0.named))
    (stays-irrevocable _ _ _ _ _ o
    (runs-of g.K.MemRule.good c.args.stm.now.config c.args.stm.now.rule (handle_of c.desc.inside.seat o) c.args.desc.now
    c.desc.inside.number c.desc.inside.local c.desc.view_is c.requires.stm.config c.requires.stm.rule c.requires.running.0
    c.desc.invariant.1) (ap (λ (p : Handle g.row.K.Denot). (known p).committing) c.desc.view_is ∙ c.requires.running.1)
    (subst (λ (h : Handle g.row.K.Denot). is_irrevocable (known h) ≡ true) (sym c.desc.view_is)
    (ap (λ (a : Alg). irrevocable_under a (known c.args.desc.now).granted (wrote (known c.args.desc.now))) c.requires.algorithm))))
