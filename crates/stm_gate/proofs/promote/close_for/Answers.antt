use Rattle.std.proofs.Common.{ℕ, ◌≡◌, ◌<◌, subst, sym, ap, ◌∙◌, true, false, rules}
use Rattle.std.specs.Prelude.{Some, None}
use Rattle.stm_model.specs.Algorithms.{closes_gate}
use Rattle.stm_model.specs.declared.config.Config.{Config}
use Rattle.rule_base.specs.declared.seats.Who.{Who}
use Rattle.rule_base.specs.Encodings.{gate_word}
use Rattle.rule_base.specs.GateSteps.{look_gate, seize}
use Rattle.stm_rule.specs.Attempts.{own_of, good_by, Stands}
use Rattle.stm_rule.specs.Callers.{Handle, handle_of}
use Rattle.stm_rule.specs.Findings.{FindsGate, FindsTaken}
use Rattle.stm_rule.proofs.StandLemmas.{tells-of}
use Rattle.stm_answers.specs.Answers.{IsOpaque}
use Rattle.stm_answers.specs.CallerState.{caller_of, is_irrevocable}
use Rattle.stm_gate.specs.Knowing.{known, number}
use Rattle.stm_gate.specs.Opacity.{opaque-inside}
use Rattle.stm_gate.specs.Promoting.{ClosesFor}
use Rattle.stm_gate.proofs.PromotingLaws.{takes-refl, looks-taken, seizes-taken, seizes-won, takes-won, seized-stands}
use Rattle.stm_gate.proofs.Standing.{runs-of, who-of}
use Rattle.stm_gate.proofs.promote.close_for.Goals as goal

pub returns-then-desc-clause-opaque : goal.returns-then-desc-clause-opaque
returns-then-desc-clause-opaque g c =
    subst (λ (p : Handle g.row.K.Denot). IsOpaque (g.K.MemRule.good c.args.stm.now.rule) c.args.stm.now.config (number p) (known p))
    c.desc.view_is (subst (λ (k : ℕ).
    IsOpaque (g.K.MemRule.good c.args.stm.now.rule) c.args.stm.now.config k
    (known (handle_of c.desc.inside.seat (own_of c.desc.inside.local)))) (sym (ap caller_of c.desc.invariant.0.named))
    (opaque-inside _ _ _ _ _ (own_of c.desc.inside.local) (runs-of g.K.MemRule.good _ _ _ _ _ _ c.desc.view_is c.requires.stm.config
    c.requires.stm.rule c.requires.running.0 c.desc.invariant.1)))

pub returns-then-holder_of-ne0-clause-opaque : goal.returns-then-holder_of-ne0-clause-opaque
returns-then-holder_of-ne0-clause-opaque g c =
    subst (λ (p : Handle g.row.K.Denot). IsOpaque (g.K.MemRule.good c.args.stm.now.rule) c.args.stm.now.config (number p) (known p))
    c.desc.view_is (subst (λ (k : ℕ).
    IsOpaque (g.K.MemRule.good c.args.stm.now.rule) c.args.stm.now.config k
    (known (handle_of c.desc.inside.seat (own_of c.desc.inside.local)))) (sym (ap caller_of c.desc.invariant.0.named))
    (opaque-inside _ _ _ _ _ (own_of c.desc.inside.local) (runs-of g.K.MemRule.good _ _ _ _ _ _ c.desc.view_is c.requires.stm.config
    c.requires.stm.rule c.requires.running.0 c.desc.invariant.1)))

pub returns-then-found-gate_word-clause-opaque : goal.returns-then-found-gate_word-clause-opaque
returns-then-found-gate_word-clause-opaque g c =
    subst (λ (p : Handle g.row.K.Denot). IsOpaque (g.K.MemRule.good c.args.stm.now.rule) c.args.stm.now.config (number p) (known p))
    c.desc.view_is (subst (λ (k : ℕ).
    IsOpaque (g.K.MemRule.good c.args.stm.now.rule) c.args.stm.now.config k
    (known (handle_of c.desc.inside.seat (own_of c.desc.inside.local)))) (sym (ap caller_of c.desc.invariant.0.named))
    (opaque-inside _ _ _ _ _ (own_of c.desc.inside.local) (runs-of g.K.MemRule.good _ _ _ _ _ _ c.desc.view_is c.requires.stm.config
    c.requires.stm.rule c.requires.running.0 c.desc.invariant.1)))

pub returns-clause-opaque : goal.returns-clause-opaque
returns-clause-opaque g c =
    subst (λ (p : Handle g.row.K.Denot). IsOpaque (g.K.MemRule.good c.args.stm.now.rule) c.args.stm.now.config (number p) (known p))
    c.desc.view_is (subst (λ (k : ℕ).
    IsOpaque (g.K.MemRule.good c.args.stm.now.rule) c.args.stm.now.config k
    (known (handle_of c.desc.inside.seat (own_of c.desc.inside.local)))) (sym (ap caller_of c.desc.invariant.0.named))
    (opaque-inside _ _ _ _ _ (own_of c.desc.inside.local) (runs-of g.K.MemRule.good _ _ _ _ _ _ c.desc.view_is c.requires.stm.config
    c.requires.stm.rule c.requires.running.0 c.desc.invariant.1)))

pub returns-then-desc-clause-closes : goal.returns-then-desc-clause-closes
returns-then-desc-clause-closes g c =
    subst (λ (p : Handle g.row.K.Denot). ClosesFor c.args.stm.now.config (number p) None p.view p.view) c.desc.view_is (takes-refl c.desc.inside.seat.me.0.view (sym c.desc.invariant.1.holds ∙ (search rules)))

pub returns-then-holder_of-ne0-clause-closes : goal.returns-then-holder_of-ne0-clause-closes
returns-then-holder_of-ne0-clause-closes g c =
    subst (λ (p : Handle g.row.K.Denot).
    ClosesFor c.args.stm.now.config (number p) (Some c.look_gate-gate.result) p.view c.look_gate-gate.new.seat.me.0.view) c.desc.view_is
    (subst (λ (k : ℕ).
    ClosesFor c.args.stm.now.config k (Some c.look_gate-gate.result) c.desc.inside.seat.me.0.view c.look_gate-gate.new.seat.me.0.view)
    (sym (ap caller_of c.desc.invariant.0.named))
    (looks-taken c.args.stm.now.config c.desc.inside.number c.look_gate-gate.result c.desc.inside.seat.me.0.view
    c.look_gate-gate.new.seat.me.0.view
    (subst (λ (q : Config). c.desc.inside.number < q.callers)
    (subst (λ (p : Handle g.row.K.Denot). p.who.config ≡ c.args.stm.now.config) (sym c.desc.view_is) c.requires.stm.config)
    c.desc.invariant.0.low) (sym c.desc.invariant.1.holds ∙ (search rules)) (search rules)
    (tells-of look_gate (FindsGate c.args.stm.now.config c.desc.inside.number) _ _ _ c.look_gate-gate.ensures.step)))

pub returns-then-found-gate_word-clause-closes : goal.returns-then-found-gate_word-clause-closes
returns-then-found-gate_word-clause-closes g c =
    subst (λ (p : Handle g.row.K.Denot).
    ClosesFor c.args.stm.now.config (number p) (Some c.seize-found.result) p.view c.seize-found.new.seat.me.0.view) c.desc.view_is
    (subst
    (λ (k : ℕ). ClosesFor c.args.stm.now.config k (Some c.seize-found.result) c.desc.inside.seat.me.0.view c.seize-found.new.seat.me.0.view)
    (sym (ap caller_of c.desc.invariant.0.named))
    (seizes-taken c.args.stm.now.config c.desc.inside.number c.desc.inside.local.fence c.desc.inside.local.algorithm c.look_gate-gate.result
    c.seize-found.result c.desc.inside.seat.me.0.view c.look_gate-gate.new.seat.me.0.view c.seize-found.new.seat.me.0.view
    (subst (λ (q : Config). c.desc.inside.number < q.callers)
    (subst (λ (p : Handle g.row.K.Denot). p.who.config ≡ c.args.stm.now.config) (sym c.desc.view_is) c.requires.stm.config)
    c.desc.invariant.0.low)
    (search rules) (tells-of look_gate (FindsGate c.args.stm.now.config c.desc.inside.number) _ _ _ c.look_gate-gate.ensures.step)
    (tells-of (seize c.desc.inside.number c.desc.inside.local.fence c.desc.inside.local.algorithm)
    (FindsTaken c.args.stm.now.config c.desc.inside.number (gate_word c.desc.inside.local.fence 0 c.desc.inside.local.algorithm)) _ _ _
    c.seize-found.ensures.step)))

pub returns-clause-closes : goal.returns-clause-closes
returns-clause-closes g c =
    subst (λ (p : Handle g.row.K.Denot). ClosesFor c.args.stm.now.config (number p) None p.view c.seize-found.new.seat.me.0.view)
    c.desc.view_is (subst (λ (k : ℕ). ClosesFor c.args.stm.now.config k None c.desc.inside.seat.me.0.view c.seize-found.new.seat.me.0.view)
    (sym (ap caller_of c.desc.invariant.0.named))
    (takes-won c.args.stm.now.config c.desc.inside.number c.desc.inside.local.fence c.desc.inside.local.algorithm c.look_gate-gate.result
    c.seize-found.result c.desc.inside.seat.me.0.view c.look_gate-gate.new.seat.me.0.view c.seize-found.new.seat.me.0.view (search rules)
    (tells-of look_gate (FindsGate c.args.stm.now.config c.desc.inside.number) _ _ _ c.look_gate-gate.ensures.step)
    (tells-of (seize c.desc.inside.number c.desc.inside.local.fence c.desc.inside.local.algorithm)
    (FindsTaken c.args.stm.now.config c.desc.inside.number (gate_word c.desc.inside.local.fence 0 c.desc.inside.local.algorithm)) _ _ _
    c.seize-found.ensures.step)))

pub invariant_of-desc-2 : goal.invariant_of-desc-2
invariant_of-desc-2 g c = (
  search rules,
  (subst (λ (q : Who g.row.K.Denot). Stands (good_by g.K.MemRule.good q.rule) q.config c.desc.inside.number (record c.desc.inside.local { holds = true; next = 0 }) c.seize-found.new.seat.me.0.view)
      (sym (who-of (seize c.desc.inside.number c.desc.inside.local.fence c.desc.inside.local.algorithm)
      (FindsTaken c.args.stm.now.config c.desc.inside.number (gate_word c.desc.inside.local.fence 0 c.desc.inside.local.algorithm))
      c.look_gate-gate.new.seat.me.0 c.seize-found.result c.seize-found.new.seat.me.0 c.seize-found.ensures.step
      ∙ who-of look_gate (FindsGate c.args.stm.now.config c.desc.inside.number) c.desc.inside.seat.me.0 c.look_gate-gate.result
      c.look_gate-gate.new.seat.me.0 c.look_gate-gate.ensures.step))
      (seized-stands c.desc.inside.seat.me.0.who.config c.desc.inside.number (good_by g.K.MemRule.good c.desc.inside.seat.me.0.who.rule)
      c.desc.inside.local c.desc.inside.seat.me.0.view c.seize-found.new.seat.me.0.view (own_of c.desc.inside.local) _
      (seizes-won c.args.stm.now.config c.desc.inside.number c.desc.inside.local.fence c.desc.inside.local.algorithm c.look_gate-gate.result
      c.seize-found.result c.desc.inside.seat.me.0.view c.look_gate-gate.new.seat.me.0.view c.seize-found.new.seat.me.0.view (search rules)
      (tells-of look_gate (FindsGate c.args.stm.now.config c.desc.inside.number) _ _ _ c.look_gate-gate.ensures.step)
      (tells-of (seize c.desc.inside.number c.desc.inside.local.fence c.desc.inside.local.algorithm)
      (FindsTaken c.args.stm.now.config c.desc.inside.number (gate_word c.desc.inside.local.fence 0 c.desc.inside.local.algorithm)) _ _ _
      c.seize-found.ensures.step))
      (runs-of g.K.MemRule.good _ _ _ _ _ _ c.desc.view_is c.requires.stm.config c.requires.stm.rule c.requires.running.0 c.desc.invariant.1).phase (subst (λ (p : Handle g.row.K.Denot). closes_gate (known p).alg ≡ true) (sym c.desc.view_is) c.requires.closes) (subst (λ (p : Handle g.row.K.Denot). is_irrevocable (known p) ≡ false) (sym c.desc.view_is) c.requires.revocable) c.desc.invariant.1)),
)
