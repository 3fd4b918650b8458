use Rattle.std.proofs.Common.{◌≡◌, ◌<◌, ◌∙◌, true, false, refl, subst, sym, ap, arith}
use Rattle.stm_model.specs.declared.alg.Alg.TheVariants.{Serial}
use Rattle.rule_base.specs.declared.seats.SeatView.{SeatView}
use Rattle.rule_base.specs.declared.views.GateView.{GateView}
use Rattle.rule_base.specs.declared.views.View.{View}
use Rattle.rule_base.specs.StepKinds.{Nothing}
use Rattle.rule_base.specs.Encodings.{fenced}
use Rattle.stm_rule.specs.declared.local.Local.{Local}
use Rattle.rule_base.specs.declared.seats.Who.{Who}
use Rattle.stm_rule.specs.Attempts.{HasRoom, own_of, good_by, IsInside}
use Rattle.stm_rule.specs.Callers.{Handle, handle_of}
use Rattle.stm_rule.proofs.StandLemmas.{tells-of}
use Rattle.stm_gate.specs.Knowing.{known}
use Rattle.stm_gate.proofs.Standing.{runs-of}
use Rattle.stm_answers.specs.CallerState.{CallerState, known_of}
use Rattle.stm_gate.proofs.Told.{told, running-by, stands-in}
use Rattle.alg_seq.proofs.Keeping.{known-kept}
use Rattle.rule_seq.specs.CglSteps.{store_heap}
use Rattle.stm_answers.specs.declared.answers.Write.TheVariants.{Done}
use Rattle.stm_answers.specs.Answers.{HasWritten}
use Rattle.alg_seq.proofs.serial.SerialAlgorithm.write.Goals as goal

pub invariant_of-desc : goal.invariant_of-desc
invariant_of-desc g c =
    let named = subst (λ (h : Handle g.row.K.Denot). (known h).alg ≡ Serial) (sym c.desc.view_is) c.requires.algorithm in
    let who = ap (λ (y : SeatView g.row.K.Denot). y.who) c.store_heap.ensures.step.3 ∙ ap (λ (y : SeatView g.row.K.Denot). y.who) c.keep_old.ensures.same.1 in
    let undo = c.in-Ok.ensures.keeps.undo_len in
    let locks = ap (λ (m : Local). m.locks.len) c.in-Ok.ensures.keeps.is in
    let lengths : HasRoom (record c.keep_old.new.local { wrote = true }) = (c.in-Ok.ensures.keeps.writes_len ∙ (c.desc.invariant.1.lengths.0 ∙ sym undo), (let h = c.desc.invariant.1.lengths.1 in omega arith)) in
    let inside = c.in-Ok.ensures.keeps.may.inside c.store_heap.ensures.step.0 in (
      record {
        named = ap (λ (q : Who g.row.K.Denot). q.role) who ∙ c.desc.invariant.0.named;
        low = subst (λ (q : Who g.row.K.Denot). c.desc.inside.number < q.config.callers) (sym who) c.desc.invariant.0.low;
        bare = ap (λ (y : SeatView g.row.K.Denot). y.gathered) c.store_heap.ensures.step.3 ∙ (ap (λ (y : SeatView g.row.K.Denot). y.gathered) c.keep_old.ensures.same.1 ∙ c.desc.invariant.0.bare);
        empty = c.store_heap.ensures.same.2 ∙ (c.keep_old.ensures.same.0.2 ∙ c.desc.invariant.0.empty);
      },
      stands-in g.K.MemRule.good c.args.stm.now.config c.args.stm.now.rule c.store_heap.new.seat.me.0.who c.desc.inside.number
          (record c.keep_old.new.local { wrote = true }) c.store_heap.new.seat.me.0.view
          (ap (λ (q : Who g.row.K.Denot). q.config) who
          ∙ (ap (λ (q : Handle g.row.K.Denot). q.who.config) c.desc.view_is ∙ c.requires.stm.config))
          (ap (λ (q : Who g.row.K.Denot). q.rule) who ∙ (ap (λ (q : Handle g.row.K.Denot). q.who.rule) c.desc.view_is ∙ c.requires.stm.rule))
          (ap (λ (m : Local). m.running) c.in-Ok.ensures.keeps.is
          ∙ running-by (good_by g.K.MemRule.good c.desc.inside.seat.me.0.who.rule) c.desc.inside.seat.me.0.who.config c.desc.inside.number
          c.desc.inside.local c.desc.inside.seat.me.0.view
          (runs-of g.K.MemRule.good c.args.stm.now.config c.args.stm.now.rule (handle_of c.desc.inside.seat (own_of c.desc.inside.local))
          c.args.desc.now c.desc.inside.number c.desc.inside.local c.desc.view_is c.requires.stm.config c.requires.stm.rule
          c.requires.running.0 c.desc.invariant.1).phase c.desc.invariant.1)
          (ap (λ (m : Local). m.holds) c.in-Ok.ensures.keeps.is
          ∙ (c.desc.invariant.1.holds
          ∙ (sym (c.in-Ok.ensures.keeps.may.written (own_of c.desc.inside.local) (
            (ap (λ (p : Handle g.row.K.Denot). (known p).committing) c.desc.view_is ∙ c.requires.running.1),
            sym c.in-Ok.ensures.keeps.undo_len,
          ) c.store_heap.ensures.step.0).0.holds
          ∙ sym (ap (λ (y : SeatView g.row.K.Denot). y.view.gate.holds) c.store_heap.ensures.step.3)))) lengths
          (subst (λ (y : View).
          IsInside (g.K.MemRule.good c.args.stm.now.rule) c.args.stm.now.config c.desc.inside.number
          (record c.keep_old.new.local { wrote = true }) y) (sym (ap (λ (y : SeatView g.row.K.Denot). y.view) c.store_heap.ensures.step.3))
          inside),
    )

pub returns-in-Ok-clause-write : goal.returns-in-Ok-clause-write
returns-in-Ok-clause-write g c =
    let o = own_of c.desc.inside.local in
    let t = tells-of (store_heap c.args.a c.args.x) Nothing c.keep_old.new.seat.me.0 c.args.x c.store_heap.new.seat.me.0 c.store_heap.ensures.step in
    told (λ n v w. HasWritten (g.K.MemRule.good c.args.stm.now.rule) c.args.stm.now.config n c.args.a c.args.x Done v w)
    (handle_of c.desc.inside.seat o) c.args.desc.now c.desc.inside.number c.store_heap.new.seat.me.0
    (record c.keep_old.new.local { wrote = true }) c.desc.view_is
    (ap (λ (y : SeatView g.row.K.Denot). y.who) c.store_heap.ensures.step.3
    ∙ ap (λ (y : SeatView g.row.K.Denot). y.who) c.keep_old.ensures.same.1) c.desc.invariant.0.named
    (subst (λ (k : CallerState).
    HasWritten (g.K.MemRule.good c.args.stm.now.rule) c.args.stm.now.config c.desc.inside.number c.args.a c.args.x Done
    (known_of c.desc.inside.seat.me.0.view o) k)
    (sym (known-kept c.desc.inside.local c.keep_old.new.local c.store_heap.new.seat.me.0.view
    (ap (λ (y : View). y.gate.algorithm) t.2
    ∙ (ap (λ (q : GateView). q.algorithm) c.in-Ok.ensures.keeps.may.gate
    ∙ (subst (λ (h : Handle g.row.K.Denot). (known h).alg ≡ Serial) (sym c.desc.view_is) c.requires.algorithm))) c.in-Ok.ensures.keeps.is
    c.in-Ok.ensures.keeps.undo_len c.in-Ok.ensures.keeps.marks c.in-Ok.ensures.keeps.marks_limit))
    (subst (λ (y : View).
    HasWritten (g.K.MemRule.good c.args.stm.now.rule) c.args.stm.now.config c.desc.inside.number c.args.a c.args.x Done
    (known_of c.desc.inside.seat.me.0.view o) (known_of y o)) (sym t.2)
    (c.in-Ok.ensures.keeps.may.written o
    ((ap (λ (p : Handle g.row.K.Denot). (known p).committing) c.desc.view_is ∙ c.requires.running.1), sym c.in-Ok.ensures.keeps.undo_len)
    t.0)))

pub returns-in-Err-clause-write : goal.returns-in-Err-clause-write
returns-in-Err-clause-write g c =
    told (λ n v w. HasWritten (g.K.MemRule.good c.args.stm.now.rule) c.args.stm.now.config n c.args.a c.args.x c.in-Err.refusal v w)
    (handle_of c.desc.inside.seat (own_of c.desc.inside.local)) c.args.desc.now c.desc.inside.number c.keep_old.new.seat.me.0
    c.keep_old.new.local c.desc.view_is (ap (λ (y : SeatView g.row.K.Denot). y.who) c.keep_old.ensures.same.1) c.desc.invariant.0.named
    (subst (λ (m : Local).
    HasWritten (g.K.MemRule.good c.args.stm.now.rule) c.args.stm.now.config c.desc.inside.number c.args.a c.args.x c.in-Err.refusal
    (known_of c.desc.inside.seat.me.0.view (own_of c.desc.inside.local)) (known_of c.keep_old.new.seat.me.0.view (own_of m)))
    (sym c.in-Err.ensures.keeps.0)
    (c.in-Err.ensures.keeps.2 (own_of c.desc.inside.local)
    ((ap (λ (p : Handle g.row.K.Denot). (known p).committing) c.desc.view_is ∙ c.requires.running.1), refl)))

pub store_heap-requires-clause-spared : goal.store_heap-requires-clause-spared
store_heap-requires-clause-spared g c =
    ap (λ (q : GateView). fenced q.fence c.args.a) c.in-Ok.ensures.keeps.may.gate
    ∙ subst (λ (h : Handle g.row.K.Denot). fenced (known h).fence c.args.a ≡ false) (sym c.desc.view_is) c.requires.spared
