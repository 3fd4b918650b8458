use Rattle.std.proofs.Common.{◌≡◌, sym, ap, subst, ◌∙◌}
use Rattle.std.specs.Prelude.{◌&&◌}
use Rattle.stm_rule.specs.Attempts.{good_by, own_of, StandsBy}
use Rattle.stm_rule.specs.Callers.{Handle, handle_of}
use Rattle.stm_gate.specs.Knowing.{known}
use Rattle.stm_answers.specs.CallerState.{is_in, is_irrevocable}
use Rattle.stm_gate.proofs.Irrevocable.{irrevocable-of}
use Rattle.stm_tx.proofs.calls.is_irrevocable.Goals as goal

pub returns-then-desc : goal.returns-then-desc
returns-then-desc g c =
    let d = c.desc.inside in
    let s = d.seat.me.0 in
    let f = s.who.config in
    let good = good_by g.K.MemRule.good s.who.rule in
    let o = own_of d.local in
    let i = subst (λ b. StandsBy good f d.number d.local b d.local.holds s.view) c.if-desc.true c.desc.invariant.1.by in
    subst (λ (h : Handle g.row.K.Denot). c.irrevocable_under.result ≡ (is_in h.view.gate.phase && is_irrevocable (known h))) c.desc.view_is
    (c.irrevocable_under.ensures ∙ (sym (irrevocable-of good f d.number d.local s.view o i) ∙ ap (λ p. is_in p && is_irrevocable (known (handle_of d.seat o))) (sym i.phase)))
