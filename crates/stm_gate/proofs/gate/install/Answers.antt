use Rattle.std.proofs.Common.{ℕ, ◌≡◌, ◌+◌, ◌<◌, ◌∙◌, refl, subst, sym, ap}
use Rattle.rule_base.specs.declared.seats.SeatView.{SeatView}
use Rattle.rule_base.specs.declared.seats.Who.{Who}
use Rattle.rule_base.specs.Encodings.{gate_word}
use Rattle.rule_base.specs.InstallSteps.{store_base, store_done, install}
use Rattle.rule_base.specs.StepKinds.{Nothing}
use Rattle.stm_rule.specs.Attempts.{good_by, own_of, Stands}
use Rattle.stm_rule.specs.Callers.{Handle, handle_of}
use Rattle.stm_rule.proofs.StandLemmas.{tells-of, closing-of}
use Rattle.stm_answers.specs.Answers.{HoldsClosed, Installs, SeesQuiet}
use Rattle.stm_answers.specs.CallerState.{CallerState, caller_of}
use Rattle.stm_gate.specs.Knowing.{known, number}
use Rattle.stm_gate.proofs.Standing.{shown-of, who-of}
use Rattle.stm_gate.proofs.InstallLaws.{tells-installed, closing-installed, closing-flags, stands-closing}
use Rattle.stm_gate.proofs.gate.install.Goals as goal

pub returns-clause-installs : goal.returns-clause-installs
returns-clause-installs g c =
    let good = g.K.MemRule.good c.args.stm.now.rule in
    let holds = subst (λ (p : Handle g.row.K.Denot). HoldsClosed (known p)) (sym c.desc.view_is) c.requires.closing in
    let closing = closing-of (good_by g.K.MemRule.good c.desc.inside.seat.me.0.who.rule) c.desc.inside.seat.me.0.who.config
    c.desc.inside.number c.desc.inside.local c.desc.inside.seat.me.0.view holds.phase c.desc.invariant.1 in
    let name : caller_of c.desc.inside.seat.me.0.who.role ≡ c.desc.inside.number = ap caller_of c.desc.invariant.0.named in
    shown-of (λ (n : ℕ) (v w : CallerState). Installs good c.args.stm.now.config n c.args.alg v w) _ _ _ c.install.new.seat.me.0.view c.desc.inside.local c.desc.inside.local c.desc.view_is refl name
    (tells-installed good c.args.stm.now.config c.desc.inside.number c.desc.inside.local.fence c.args.alg c.settle_for-clock.result
    c.desc.inside.seat.me.0.view c.settle_for-clock.new.seat.me.0.view c.store_base.new.seat.me.0.view c.store_done.new.seat.me.0.view
    c.install.new.seat.me.0.view (own_of c.desc.inside.local) holds
    (subst (λ (k : ℕ). SeesQuiet good c.args.stm.now.config k (known (handle_of c.desc.inside.seat (own_of c.desc.inside.local)))) name
    (subst (λ (p : Handle g.row.K.Denot). SeesQuiet good c.args.stm.now.config (number p) (known p)) (sym c.desc.view_is) c.requires.quiet))
    closing.ungranted closing.clear c.settle_for-clock.ensures.settles
    (tells-of (store_base c.settle_for-clock.result) Nothing _ c.settle_for-clock.result _ c.store_base.ensures.step)
    (tells-of (store_done c.settle_for-clock.result) Nothing _ c.settle_for-clock.result _ c.store_done.ensures.step) (tells-of
    (install c.desc.inside.number c.desc.inside.local.fence c.args.alg) Nothing _
    (gate_word c.desc.inside.local.fence (1 + c.desc.inside.number) c.args.alg) _ c.install.ensures.step))

pub invariant_of-desc : goal.invariant_of-desc
invariant_of-desc g c =
    let word = gate_word c.desc.inside.local.fence (1 + c.desc.inside.number) c.args.alg in
    let holds = subst (λ (p : Handle g.row.K.Denot). HoldsClosed (known p)) (sym c.desc.view_is) c.requires.closing in
    let who : c.install.new.seat.me.0.who ≡ c.desc.inside.seat.me.0.who = who-of
    (install c.desc.inside.number c.desc.inside.local.fence c.args.alg) Nothing c.store_done.new.seat.me.0 word c.install.new.seat.me.0
    c.install.ensures.step ∙ (who-of (store_done c.settle_for-clock.result) Nothing c.store_base.new.seat.me.0 c.settle_for-clock.result
    c.store_done.new.seat.me.0 c.store_done.ensures.step
    ∙ (who-of (store_base c.settle_for-clock.result) Nothing c.settle_for-clock.new.seat.me.0 c.settle_for-clock.result
    c.store_base.new.seat.me.0 c.store_base.ensures.step ∙ ap (λ (p : SeatView g.row.K.Denot). p.who) c.settle_for-clock.ensures.rest)) in
    let bare : c.install.new.seat.me.0.gathered ≡ c.desc.inside.seat.me.0.gathered = ap (λ (p : SeatView g.row.K.Denot). p.gathered)
    c.install.ensures.step.3 ∙ (ap (λ (p : SeatView g.row.K.Denot). p.gathered) c.store_done.ensures.step.3
    ∙ (ap (λ (p : SeatView g.row.K.Denot). p.gathered) c.store_base.ensures.step.3
    ∙ ap (λ (p : SeatView g.row.K.Denot). p.gathered) c.settle_for-clock.ensures.rest)) in
    let after = closing-installed c.desc.inside.seat.me.0.who.config.callers c.desc.inside.number c.desc.inside.local.fence c.args.alg
    c.desc.inside.local c.settle_for-clock.result c.desc.inside.seat.me.0.view c.settle_for-clock.new.seat.me.0.view
    c.store_base.new.seat.me.0.view c.store_done.new.seat.me.0.view c.install.new.seat.me.0.view
    (closing-of (good_by g.K.MemRule.good c.desc.inside.seat.me.0.who.rule) c.desc.inside.seat.me.0.who.config c.desc.inside.number
    c.desc.inside.local c.desc.inside.seat.me.0.view holds.phase c.desc.invariant.1) c.settle_for-clock.ensures.settles
    (tells-of (store_base c.settle_for-clock.result) Nothing _ c.settle_for-clock.result _ c.store_base.ensures.step)
    (tells-of (store_done c.settle_for-clock.result) Nothing _ c.settle_for-clock.result _ c.store_done.ensures.step)
    (tells-of (install c.desc.inside.number c.desc.inside.local.fence c.args.alg) Nothing _ word _ c.install.ensures.step) in (
      record {
        named = ap (λ (p : Who g.row.K.Denot). p.role) who ∙ c.desc.invariant.0.named;
        low = subst (λ (p : Who g.row.K.Denot). c.desc.inside.number < p.config.callers) (sym who) c.desc.invariant.0.low;
        bare = bare ∙ c.desc.invariant.0.bare;
        empty = c.install.ensures.same.2 ∙ (c.store_done.ensures.same.2 ∙ (c.store_base.ensures.same.2 ∙ (c.settle_for-clock.ensures.same.2 ∙ c.desc.invariant.0.empty)));
      },
      subst (λ (p : Who g.row.K.Denot). Stands (good_by g.K.MemRule.good p.rule) p.config c.desc.inside.number (record c.desc.inside.local { algorithm = c.args.alg }) c.install.new.seat.me.0.view) (sym who)
          (stands-closing (good_by g.K.MemRule.good c.desc.inside.seat.me.0.who.rule) c.desc.inside.seat.me.0.who.config
          c.desc.inside.number (record c.desc.inside.local { algorithm = c.args.alg }) c.install.new.seat.me.0.view
          c.desc.inside.local.running c.desc.inside.local.holds (closing-flags (good_by g.K.MemRule.good c.desc.inside.seat.me.0.who.rule)
          c.desc.inside.seat.me.0.who.config c.desc.inside.number c.desc.inside.local c.desc.inside.seat.me.0.view holds.phase
          c.desc.invariant.1) c.desc.invariant.1.lengths after),
    )
