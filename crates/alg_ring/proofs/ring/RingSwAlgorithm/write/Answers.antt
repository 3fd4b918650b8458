use Rattle.std.proofs.Common.{ℕ, ◌≡◌, ap, refl, sym, subst, ◌∙◌, true, false, rules}
use Rattle.std.specs.Prelude.{Some}
use Rattle.stm_model.specs.Memories.{put}
use Rattle.rule_base.specs.Encodings.{fenced}
use Rattle.stm_model.specs.declared.alg.Alg.TheVariants.{RingSw}
use Rattle.stm_logs.specs.LogStates.{LogState}
use Rattle.stm_rule.specs.Attempts.{HasRoom, own_of}
use Rattle.stm_rule.specs.Callers.{Handle, handle_of}
use Rattle.stm_answers.specs.declared.answers.Write.TheVariants as writes
use Rattle.stm_answers.specs.Answers.{HasWritten}
use Rattle.stm_answers.specs.CallerState.{CallerState, caller_of}
use Rattle.stm_gate.specs.Knowing.{known}
use Rattle.stm_gate.proofs.Standing.{stands-of, runs-of, shown-of}
use Rattle.stm_gate.proofs.Told.{stands-on, stands-back}
use Rattle.alg_ring.proofs.Ending.{plain-of, ring-of}
use Rattle.alg_ring.proofs.Writing as laws
use Rattle.alg_ring.proofs.ring.RingSwAlgorithm.write.Goals as goal

pub returns-in-Full-clause-write : goal.returns-in-Full-clause-write
returns-in-Full-clause-write g c =
    let i = runs-of g.K.MemRule.good _ _ _ _ _ _ c.desc.view_is c.requires.stm.config c.requires.stm.rule c.requires.running.0 c.desc.invariant.1 in
    let name : caller_of c.desc.inside.seat.me.0.who.role ≡ c.desc.inside.number = ap caller_of c.desc.invariant.0.named in
    let named = subst (λ (p : Handle g.row.K.Denot). (known p).alg ≡ RingSw) (sym c.desc.view_is) c.requires.algorithm in
    let plain = plain-of _ _ _ _ _ i named (own_of c.desc.inside.local) (subst (λ (p : Handle g.row.K.Denot). (known p).granted ≡ false) (sym c.desc.view_is) c.requires.unpromoted) in
    shown-of (λ (n : ℕ) (v w : CallerState).
    HasWritten (g.K.MemRule.good c.args.stm.now.rule) c.args.stm.now.config n c.args.a c.args.x (writes.Full c.in-Full.limit) v w) _ _ _
    c.leave.new.seat.me.0.view c.desc.inside.local c.leave.new.local c.desc.view_is
    (ap own_of c.leave.ensures.idle ∙ ap (λ (log : LogState). own_of (record c.desc.inside.local { writes = log })) c.in-Full.ensures.3)
    name
    (laws.writes-refused _ _ _ c.args.a c.desc.inside.local c.desc.inside.seat.me.0.view i named plain
    (ap (λ (p : Handle g.row.K.Denot). (known p).committing) c.desc.view_is ∙ c.requires.running.1) (ring-of _ _ _ _ _ i named plain)
    c.args.x c.in-Full.limit (put c.args.a c.args.x c.desc.inside.local.writes.items) c.push.new.self c.leave.new.seat.me.0.view
    c.desc.invariant.1.lengths.0 c.in-Full.ensures (ap (λ q. q.view) c.leave.ensures.left))

pub invariant_of-desc-2 : goal.invariant_of-desc-2
invariant_of-desc-2 g c =
    let i = runs-of g.K.MemRule.good _ _ _ _ _ _ c.desc.view_is c.requires.stm.config c.requires.stm.rule c.requires.running.0 c.desc.invariant.1 in
    let named = subst (λ (p : Handle g.row.K.Denot). (known p).alg ≡ RingSw) (sym c.desc.view_is) c.requires.algorithm in
    let plain = plain-of _ _ _ _ _ i named (own_of c.desc.inside.local) (subst (λ (p : Handle g.row.K.Denot). (known p).granted ≡ false) (sym c.desc.view_is) c.requires.unpromoted) in
    let config = subst (λ (p : Handle g.row.K.Denot). p.who.config ≡ c.args.stm.now.config) (sym c.desc.view_is) c.requires.stm.config in
    let value = subst (λ (p : Handle g.row.K.Denot). p.who.rule ≡ Some c.args.stm.now.rule) (sym c.desc.view_is) c.requires.stm.rule in
    let stands = stands-of g.K.MemRule.good c.args.stm.now.config c.args.stm.now.rule c.desc.inside.seat.me.0.who c.desc.inside.number c.desc.inside.local c.desc.inside.seat.me.0.view config value c.desc.invariant.1 in
    let m = record c.desc.inside.local { writes = c.push.new.self; stored = c.add.new.self; wrote = true } in
    let lengths : HasRoom m = (ap (λ (log : LogState). log.len) c.in_default.ensures.1 ∙ stands.lengths.0, stands.lengths.1) in (
      c.desc.invariant.0,
      stands-back g.K.MemRule.good c.args.stm.now.config c.args.stm.now.rule c.desc.inside.seat.me.0.who c.desc.inside.number m
          c.desc.inside.seat.me.0.view config value
          (stands-on _ _ _ c.desc.inside.local m c.desc.inside.seat.me.0.view c.desc.inside.seat.me.0.view i.phase stands refl refl lengths refl
          (laws.stays-written _ _ _ c.args.a c.desc.inside.local c.desc.inside.seat.me.0.view i named plain
          (ap (λ (p : Handle g.row.K.Denot). (known p).committing) c.desc.view_is ∙ c.requires.running.1) (ring-of _ _ _ _ _ i named plain)
          c.args.x c.push.new.self c.add.new.self c.in_default.ensures.1 c.requires.inside
          (subst (λ (p : Handle g.row.K.Denot). fenced (known p).fence c.args.a ≡ false) (sym c.desc.view_is) c.requires.spared) (search rules)
          c.add.ensures.words)),
    )

pub returns-clause-write : goal.returns-clause-write
returns-clause-write g c =
    let good = g.K.MemRule.good c.args.stm.now.rule in
    let i = runs-of g.K.MemRule.good _ _ _ _ _ _ c.desc.view_is c.requires.stm.config c.requires.stm.rule c.requires.running.0 c.desc.invariant.1 in
    let name : caller_of c.desc.inside.seat.me.0.who.role ≡ c.desc.inside.number = ap caller_of c.desc.invariant.0.named in
    let named = subst (λ (p : Handle g.row.K.Denot). (known p).alg ≡ RingSw) (sym c.desc.view_is) c.requires.algorithm in
    let plain = plain-of _ _ _ _ _ i named (own_of c.desc.inside.local) (subst (λ (p : Handle g.row.K.Denot). (known p).granted ≡ false) (sym c.desc.view_is) c.requires.unpromoted) in
    let quiet = ap (λ (p : Handle g.row.K.Denot). (known p).committing) c.desc.view_is ∙ c.requires.running.1 in
    let k = ring-of good c.args.stm.now.config c.desc.inside.number c.desc.inside.local c.desc.inside.seat.me.0.view i named plain in
    let m = record c.desc.inside.local { writes = c.push.new.self; stored = c.add.new.self; wrote = true } in
    subst (λ (q : Handle g.row.K.Denot). HasWritten good c.args.stm.now.config (caller_of q.who.role) c.args.a c.args.x writes.Done (known q) (known (handle_of c.desc.inside.seat (own_of m)))) c.desc.view_is
    (subst (λ (n : ℕ).
    HasWritten good c.args.stm.now.config n c.args.a c.args.x writes.Done
    (known (handle_of c.desc.inside.seat (own_of c.desc.inside.local))) (known (handle_of c.desc.inside.seat (own_of m)))) (sym name)
    (laws.writes-done good c.args.stm.now.config c.desc.inside.number c.args.a c.desc.inside.local c.desc.inside.seat.me.0.view i named
    plain quiet k c.args.x c.push.new.self c.add.new.self c.in_default.ensures.1
    (laws.room-of good c.args.stm.now.config c.desc.inside.number c.args.a c.desc.inside.local c.desc.inside.seat.me.0.view i named plain
    quiet k (put c.args.a c.args.x c.desc.inside.local.writes.items) c.push.new.self c.desc.invariant.1.lengths.0 c.in_default.ensures)))
