use Rattle.std.proofs.Common.{subst, sym, ap, ◌∙◌, ◌≡◌, ◌≢◌, rules}
use Rattle.rule_base.specs.GateSteps.{check}
use Rattle.rule_base.specs.StepKinds.{Nothing}
use Rattle.stm_rule.specs.Attempts.{HasLooked}
use Rattle.stm_rule.specs.Callers.{Handle}
use Rattle.stm_rule.proofs.StandLemmas.{tells-of}
use Rattle.stm_answers.specs.CallerState.{caller_of}
use Rattle.stm_gate.specs.Knowing.{number}
use Rattle.stm_gate.specs.Looking.{Finds, LooksOn}
use Rattle.stm_gate.proofs.LookingLaws.{looks-none, looks-one, finds-one}
use Rattle.stm_gate.proofs.looking.look_at.Goals as goal

pub returns-then-other-caller-clause-looks : goal.returns-then-other-caller-clause-looks
returns-then-other-caller-clause-looks g c =
    subst (λ (p : Handle g.row.K.Denot). LooksOn p.view c.desc.inside.seat.me.0.view) c.desc.view_is (looks-none c.desc.inside.seat.me.0.view)

pub returns-then-status-eq0-clause-looks : goal.returns-then-status-eq0-clause-looks
returns-then-status-eq0-clause-looks g c =
    subst (λ (p : Handle g.row.K.Denot). LooksOn p.view c.check-status.new.seat.me.0.view) c.desc.view_is
    (looks-one c.args.stm.now.config (caller_of c.desc.inside.seat.me.0.who.role) c.args.other c.check-status.result
    c.desc.inside.seat.me.0.view c.check-status.new.seat.me.0.view (subst
    (λ (p : Handle g.row.K.Denot). HasLooked c.args.stm.now.config.callers (number p) c.args.other p.view) (sym c.desc.view_is)
    c.requires.looked) (tells-of (check c.args.other) Nothing _ _ _ c.check-status.ensures.step))

pub returns-else-status-eq0-clause-looks : goal.returns-else-status-eq0-clause-looks
returns-else-status-eq0-clause-looks g c =
    subst (λ (p : Handle g.row.K.Denot). LooksOn p.view c.check-status.new.seat.me.0.view) c.desc.view_is
    (looks-one c.args.stm.now.config (caller_of c.desc.inside.seat.me.0.who.role) c.args.other c.check-status.result
    c.desc.inside.seat.me.0.view c.check-status.new.seat.me.0.view (subst
    (λ (p : Handle g.row.K.Denot). HasLooked c.args.stm.now.config.callers (number p) c.args.other p.view) (sym c.desc.view_is)
    c.requires.looked) (tells-of (check c.args.other) Nothing _ _ _ c.check-status.ensures.step))

pub returns-else-status-eq0-clause-found : goal.returns-else-status-eq0-clause-found
returns-else-status-eq0-clause-found g c =
    let f = c.args.stm.now.config in
    let s = c.desc.inside.seat.me.0 in
    let n = caller_of s.who.role in
    let k = c.args.other in
    let x = c.check-status.result in
    let w = c.check-status.new.seat.me.0 in
    let seen = subst (λ (p : Handle g.row.K.Denot). HasLooked f.callers (number p) k p.view) (sym c.desc.view_is) c.requires.looked in
    let t = tells-of (check k) Nothing s x w c.check-status.ensures.step in
    let apart : k ≢ c.desc.inside.number = search rules in
    let name : n ≡ c.desc.inside.number = ap caller_of c.desc.invariant.0.named in
    subst (λ (p : Handle g.row.K.Denot). Finds f (number p) k x p.view w.view) c.desc.view_is (finds-one f n k x s.view w.view c.requires.other (λ e. apart (e ∙ name)) seen t)
