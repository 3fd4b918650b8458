use Rattle.std.proofs.Common.{ℕ, List, length, arith, ◌≡◌, refl, ap, sym, true, false, rules, ◌∙◌}
use Rattle.stm_model.specs.Memories.{put}
use Rattle.rule_base.specs.Bridge.{items}
use Rattle.rule_base.specs.declared.entries.Cell.{Cell}
use Rattle.rule_base.specs.Encodings.{fenced}
use Rattle.stm_rule.specs.Attempts.{own_of}
use Rattle.stm_rule.specs.Callers.{handle_of}
use Rattle.stm_answers.specs.declared.answers.Write.TheVariants as writes
use Rattle.stm_answers.specs.Answers.{HasWritten}
use Rattle.stm_answers.specs.CallerState.{CallerState, known_of}
use Rattle.stm_logs.specs.LogStates.{LogState}
use Rattle.stm_gate.proofs.Opening.{of-view, shows, tells-of}
use Rattle.alg_orec.proofs.Lazy.LazyLaws as laws
use Rattle.alg_orec.proofs.Lazy.LazyOpening.{LazyOpening, opens-lazy}
use Rattle.alg_orec.proofs.ReadCalls as calls
use Rattle.alg_orec.proofs.RecordOpening.{stays-tied}
use Rattle.alg_orec.proofs.orec_lazy.OrecLazyAlgorithm.write.Goals.{After-desc}
use Rattle.alg_orec.proofs.orec_lazy.OrecLazyAlgorithm.write.Goals as goal

opened : (g : _) (c : After-desc g) → LazyOpening g.K.MemRule.good c.args.stm.now c.args.desc.now c.desc.inside.seat.me c.desc.inside.number c.desc.inside.local
opened g c =
    opens-lazy g.K.MemRule.good c.args.stm.now c.desc.inside.number c.desc.inside.local c.desc.inside.seat.me
    (handle_of c.desc.inside.seat (own_of c.desc.inside.local)) c.desc.view_is c.desc.invariant.0 c.desc.invariant.1 c.requires.stm
    c.requires.running c.requires.algorithm c.requires.unpromoted

pub returns-in-Full-clause-write : goal.returns-in-Full-clause-write
returns-in-Full-clause-write g c =
    let o = opened g (goal.at.returns-in-Full-clause-write g c).After-desc in
    shows _ _ o.call.opening
    (λ (n : ℕ) (v w : CallerState).
    HasWritten (g.K.MemRule.good c.args.stm.now.rule) c.args.stm.now.config n c.args.a c.args.x (writes.Full c.in-Full.limit) v w)
    c.abort.new.seat.me.0.view c.abort.new.local
    (calls.ended-full c.desc.inside.local c.abort.new.local c.push.new.self o.quiet c.in-Full.ensures.3 c.abort.ensures.idle)
    (laws.writes-refused _ _ _ _ _ o.inside o.lazy o.plain o.quiet o.kept c.args.a c.args.x c.in-Full.limit
    (put c.args.a c.args.x c.desc.inside.local.writes.items) c.push.new.self _ c.desc.invariant.1.lengths.0 c.in-Full.ensures
    c.abort.ensures.gives_up)

pub invariant_of-desc-2 : goal.invariant_of-desc-2
invariant_of-desc-2 g c =
    let o = opened g (goal.at.invariant_of-desc-2 g c).After-desc in
    let is = c.in_default.ensures.1 in
    let lengths = o.call.opening.stands.lengths in
    stays-tied _ _ o.call (record c.desc.inside.local { writes = c.push.new.self; wrote = true }) c.desc.inside.seat.me refl refl refl refl (ap (λ (y : LogState). y.len) is ∙ lengths.0, lengths.1) refl
    (laws.stays-written _ _ _ _ _ o.inside o.lazy o.plain o.quiet o.kept c.args.a c.args.x c.push.new.self c.requires.inside
    (of-view _ _ o.call.opening (λ (n : ℕ) (v : CallerState). fenced v.fence c.args.a ≡ false) c.requires.spared) (search rules) is)

pub returns-clause-write : goal.returns-clause-write
returns-clause-write g c =
    let o = opened g (goal.at.returns-clause-write g c).After-desc in
    let pushed = c.in_default.ensures in
    tells-of _ _ o.call.opening
    (λ (n : ℕ) (v w : CallerState).
    HasWritten (g.K.MemRule.good c.args.stm.now.rule) c.args.stm.now.config n c.args.a c.args.x writes.Done v w)
    (known_of c.desc.inside.seat.me.0.view (own_of (record c.desc.inside.local { writes = c.push.new.self; wrote = true })))
    (laws.writes-done _ _ _ _ _ o.inside o.lazy o.plain o.quiet o.kept c.args.a c.args.x c.push.new.self c.requires.inside (search rules) pushed.1
    (laws.room-of _ _ _ _ _ o.inside o.lazy o.plain o.quiet o.kept c.args.a (put c.args.a c.args.x c.desc.inside.local.writes.items) c.push.new.self c.desc.invariant.1.lengths.0 pushed))

pub returns-in-Full-clause-steps : goal.returns-in-Full-clause-steps
returns-in-Full-clause-steps g c =
    let o = opened g (goal.at.returns-in-Full-clause-steps g c).After-desc in
    let none : length c.desc.inside.local.locks.items ≡ 0 = ap length o.kept.locks ∙ ap (λ (cs : List Cell). length (items cs)) (o.kept.open_handed o.quiet) in
    let few = c.abort.ensures.steps in
    let first = ap (λ (k : CallerState). length k.step_trace) (sym o.call.opening.knows) in
    omega arith
