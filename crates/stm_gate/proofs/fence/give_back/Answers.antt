use Rattle.std.proofs.Common.{ℕ, List, ◌≡◌, ◌+◌, true, ap, refl, subst, sym, rules}
use Rattle.stm_model.specs.declared.config.Config.{Config}
use Rattle.stm_model.specs.Memories.{is_empty}
use Rattle.rule_base.specs.Bridge.{items}
use Rattle.rule_base.specs.declared.entries.Cell.{Cell}
use Rattle.rule_base.specs.Encodings.{gate_word}
use Rattle.rule_base.specs.FenceSteps.{fence_commit, FenceCommits, unfence}
use Rattle.rule_base.specs.InstallSteps.{settle, store_base, store_done}
use Rattle.rule_base.specs.StepKinds.{Nothing}
use Rattle.stm_rule.specs.Attempts.{good_by, own_of, IsClosing}
use Rattle.stm_rule.specs.Callers.{Handle, handle_of}
use Rattle.stm_rule.specs.FenceFindings.{FindsEven}
use Rattle.stm_rule.specs.Kept.{good_of}
use Rattle.stm_rule.proofs.StandLemmas.{tells-of, closing-of}
use Rattle.stm_answers.specs.declared.answers.Give.TheVariants.{Committed, Unchanged, ClockFull}
use Rattle.stm_answers.specs.Answers.{HoldsClosed, SeesQuiet}
use Rattle.stm_answers.specs.Fences.{KeepsFenced, Gives}
use Rattle.stm_answers.specs.CallerState.{CallerState, caller_of}
use Rattle.stm_gate.specs.Knowing.{known, number}
use Rattle.stm_gate.proofs.Standing.{shown-of}
use Rattle.stm_gate.specs.Logging.{wrote-some}
use Rattle.stm_gate.proofs.FenceLaws.{can-unfence, can-commit, tells-unchanged, tells-full, tells-given}
use Rattle.stm_gate.proofs.fence.give_back.Goals as goal

pub unfence-requires-clause-view : goal.unfence-requires-clause-view
unfence-requires-clause-view g c =
    can-unfence (g.K.MemRule.good c.args.stm.now.rule) c.args.stm.now.config c.desc.inside.number c.desc.inside.local
    c.desc.inside.seat.me.0.view (subst
    (λ (q : Config). IsClosing q.callers c.desc.inside.number c.desc.inside.local c.desc.inside.seat.me.0.view)
    (subst (λ (p : Handle g.row.K.Denot). p.who.config ≡ c.args.stm.now.config) (sym c.desc.view_is) c.requires.stm.config)
    (closing-of (good_by g.K.MemRule.good c.desc.inside.seat.me.0.who.rule) c.desc.inside.seat.me.0.who.config c.desc.inside.number
    c.desc.inside.local c.desc.inside.seat.me.0.view
    (subst (λ (p : Handle g.row.K.Denot). HoldsClosed (known p)) (sym c.desc.view_is) c.requires.closing).phase c.desc.invariant.1))
    (subst (λ (k : ℕ).
    SeesQuiet (g.K.MemRule.good c.args.stm.now.rule) c.args.stm.now.config k
    (known (handle_of c.desc.inside.seat (own_of c.desc.inside.local)))) (ap caller_of c.desc.invariant.0.named)
    (subst (λ (p : Handle g.row.K.Denot). SeesQuiet (g.K.MemRule.good c.args.stm.now.rule) c.args.stm.now.config (number p) (known p))
    (sym c.desc.view_is) c.requires.quiet))
    (subst (λ (p : Handle g.row.K.Denot). (known p).fenced.held ≡ true) (sym c.desc.view_is) c.requires.held)
    (c.own_fence-stored.ensures.clean (search rules))

pub returns-then-not-stored-clause-gives : goal.returns-then-not-stored-clause-gives
returns-then-not-stored-clause-gives g c =
    shown-of (λ (n : ℕ) (v w : CallerState). Gives (g.K.MemRule.good c.args.stm.now.rule) c.args.stm.now.config n Unchanged v w) _ _ _
    c.unfence.new.seat.me.0.view c.desc.inside.local (record c.desc.inside.local { fence = 0 }) c.desc.view_is refl
    (ap caller_of c.desc.invariant.0.named)
    (tells-unchanged _ _ _ c.desc.inside.local.algorithm c.desc.inside.seat.me.0.view c.unfence.new.seat.me.0.view
    (own_of c.desc.inside.local) (subst (λ (p : Handle g.row.K.Denot). HoldsClosed (known p)) (sym c.desc.view_is) c.requires.closing)
    (ap (λ (cs : List Cell). is_empty (items cs)) (c.own_fence-stored.ensures.clean (search rules)))
    (tells-of (unfence c.desc.inside.number c.desc.inside.local.algorithm) Nothing c.desc.inside.seat.me.0
    (gate_word 0 (1 + c.desc.inside.number) c.desc.inside.local.algorithm) c.unfence.new.seat.me.0 c.unfence.ensures.step))

pub returns-then-clock-ge-CLOCK_LIMIT-clause-gives : goal.returns-then-clock-ge-CLOCK_LIMIT-clause-gives
returns-then-clock-ge-CLOCK_LIMIT-clause-gives g c =
    shown-of (λ (n : ℕ) (v w : CallerState).
    Gives (g.K.MemRule.good c.args.stm.now.rule) c.args.stm.now.config n (ClockFull c.settle_back-clock.result) v w) _ _ _
    c.settle_back-clock.new.seat.me.0.view c.desc.inside.local c.desc.inside.local c.desc.view_is refl
    (ap caller_of c.desc.invariant.0.named)
    (tells-full _ _ _ c.settle_back-clock.result c.desc.inside.local.algorithm c.desc.inside.seat.me.0.view
    c.settle_back-clock.new.seat.me.0.view (own_of c.desc.inside.local)
    (subst (λ (p : Handle g.row.K.Denot). HoldsClosed (known p)) (sym c.desc.view_is) c.requires.closing)
    (wrote-some c.desc.inside.seat.me.0.view.fence.stores (c.own_fence-stored.ensures.dirty (search rules))) (search rules)
    (tells-of settle (FindsEven c.desc.inside.local.algorithm) _ _ _ c.settle_back-clock.ensures.step))

pub fence_commit-requires-clause-view : goal.fence_commit-requires-clause-view
fence_commit-requires-clause-view g c =
    can-commit (g.K.MemRule.good c.args.stm.now.rule) c.args.stm.now.config c.desc.inside.number c.settle_back-clock.result
    (c.settle_back-clock.result + c.entry_rise.result) c.desc.inside.local c.desc.inside.seat.me.0.view
    c.settle_back-clock.new.seat.me.0.view (own_of c.desc.inside.local)
    (subst (λ (q : Config). IsClosing q.callers c.desc.inside.number c.desc.inside.local c.desc.inside.seat.me.0.view)
    (subst (λ (p : Handle g.row.K.Denot). p.who.config ≡ c.args.stm.now.config) (sym c.desc.view_is) c.requires.stm.config)
    (closing-of (good_by g.K.MemRule.good c.desc.inside.seat.me.0.who.rule) c.desc.inside.seat.me.0.who.config c.desc.inside.number
    c.desc.inside.local c.desc.inside.seat.me.0.view
    (subst (λ (p : Handle g.row.K.Denot). HoldsClosed (known p)) (sym c.desc.view_is) c.requires.closing).phase c.desc.invariant.1))
    (subst (λ (p : Handle g.row.K.Denot). (known p).fenced.held ≡ true) (sym c.desc.view_is) c.requires.held)
    (wrote-some c.desc.inside.seat.me.0.view.fence.stores (c.own_fence-stored.ensures.dirty (search rules)))
    (subst (λ (k : ℕ).
    KeepsFenced (g.K.MemRule.good c.args.stm.now.rule) c.args.stm.now.config k
    (known (handle_of c.desc.inside.seat (own_of c.desc.inside.local)))) (ap caller_of c.desc.invariant.0.named)
    (subst (λ (p : Handle g.row.K.Denot). KeepsFenced (g.K.MemRule.good c.args.stm.now.rule) c.args.stm.now.config (number p) (known p))
    (sym c.desc.view_is) c.requires.keeps))
    (search rules) (ap (λ (k : ℕ). c.settle_back-clock.result + k) c.entry_rise.ensures)
    (tells-of settle (FindsEven c.desc.inside.local.algorithm) c.desc.inside.seat.me.0 c.settle_back-clock.result
    c.settle_back-clock.new.seat.me.0 c.settle_back-clock.ensures.step)

pub returns-clause-gives : goal.returns-clause-gives
returns-clause-gives g c =
    let holds = subst (λ (p : Handle g.row.K.Denot). HoldsClosed (known p)) (sym c.desc.view_is) c.requires.closing in
    let time = c.settle_back-clock.result + c.entry_rise.result in
    shown-of (λ (n : ℕ) (v w : CallerState). Gives (g.K.MemRule.good c.args.stm.now.rule) c.args.stm.now.config n (Committed time) v w) _ _
    _ c.unfence-2.new.seat.me.0.view c.desc.inside.local (record c.desc.inside.local { fence = 0 }) c.desc.view_is refl
    (ap caller_of c.desc.invariant.0.named)
    (tells-given _ _ _ c.settle_back-clock.result time c.desc.inside.local c.desc.inside.seat.me.0.view
    c.settle_back-clock.new.seat.me.0.view c.fence_commit.new.seat.me.0.view c.store_base.new.seat.me.0.view c.store_done.new.seat.me.0.view
    c.unfence-2.new.seat.me.0.view (own_of c.desc.inside.local)
    (subst (λ (q : Config). IsClosing q.callers c.desc.inside.number c.desc.inside.local c.desc.inside.seat.me.0.view)
    (subst (λ (p : Handle g.row.K.Denot). p.who.config ≡ c.args.stm.now.config) (sym c.desc.view_is) c.requires.stm.config)
    (closing-of (good_by g.K.MemRule.good c.desc.inside.seat.me.0.who.rule) c.desc.inside.seat.me.0.who.config c.desc.inside.number
    c.desc.inside.local c.desc.inside.seat.me.0.view holds.phase c.desc.invariant.1)) holds
    (wrote-some c.desc.inside.seat.me.0.view.fence.stores (c.own_fence-stored.ensures.dirty (search rules)))
    (tells-of settle (FindsEven c.desc.inside.local.algorithm) _ c.settle_back-clock.result _ c.settle_back-clock.ensures.step)
    (tells-of (fence_commit c.desc.inside.number c.desc.inside.local.algorithm time)
    (FenceCommits (good_of g.K.MemRule.good c.args.stm.now.config c.args.stm.now.rule) c.args.stm.now.config c.desc.inside.number time) _
    time _ c.fence_commit.ensures.step)
    (tells-of (store_base time) Nothing _ time _ c.store_base.ensures.step)
    (tells-of (store_done time) Nothing _ time _ c.store_done.ensures.step)
    (tells-of (unfence c.desc.inside.number c.desc.inside.local.algorithm) Nothing c.store_done.new.seat.me.0
    (gate_word 0 (1 + c.desc.inside.number) c.desc.inside.local.algorithm) c.unfence-2.new.seat.me.0 c.unfence-2.ensures.step))
