use Rattle.std.proofs.Common.{false, ◌≡◌, ◌≢◌, ◌<◌, ◌∙◌, refl, subst, sym, ap, rules}
use Rattle.std.specs.Prelude.{◌^◌, Ok, Err}
use Rattle.rule_base.specs.declared.seats.SeatView.{SeatView}
use Rattle.rule_base.specs.declared.views.Phase.TheVariants.{Idle}
use Rattle.rule_base.specs.Encodings.{alg_of, holder_of}
use Rattle.rule_base.specs.GateSteps.{announce, load_gate, depart}
use Rattle.rule_base.specs.StepKinds.{Nothing}
use Rattle.stm_model.specs.declared.alg.Alg.{Alg}
use Rattle.stm_rule.specs.declared.local.Local.{Local}
use Rattle.stm_rule.specs.Attempts.{Stands, IsInside, begun, own_of, good_by}
use Rattle.stm_rule.specs.Callers.{Handle, handle_of}
use Rattle.stm_rule.specs.Findings.{FindsGate}
use Rattle.stm_rule.proofs.StandLemmas.{tells-of, outside-of}
use Rattle.stm_gate.proofs.Standing.{who-of, shown-of}
use Rattle.stm_answers.specs.declared.answers.Begin.TheVariants.{Begun, Closed}
use Rattle.stm_answers.specs.Answers.{Begins}
use Rattle.stm_answers.specs.CallerState.{known_of, caller_of}
use Rattle.stm_gate.specs.Starts.{CanBegin, Starts}
use Rattle.stm_rule.specs.RecordsKept.{cells_of}
use Rattle.stm_gate.proofs.Told.{stands-in}
use Rattle.rule_base.specs.declared.views.View.{View}
use Rattle.rule_base.specs.declared.seats.Who.{Who}
use Rattle.stm_tx.proofs.Beginning.{begins-fresh, can-begin, tells-closed, tells-begun, tells-refused}
use Rattle.stm_tx.proofs.calls.try_begin_as.Goals as goal

pub returns-then-holder_of-ne0-clause-begins : goal.returns-then-holder_of-ne0-clause-begins
returns-then-holder_of-ne0-clause-begins g c =
    let f = c.args.stm.now.config in
    let good = g.K.MemRule.good c.args.stm.now.rule in
    let d = c.desc.inside in
    let v = d.seat.me.0 in
    let s = c.announce.new.seat.me.0 in
    let gate = c.load_gate-gate.result in
    let t = c.load_gate-gate.new.seat.me.0 in
    let w = c.depart.new.seat.me.0 in
    let o = own_of d.local in
    let out = outside-of (good_by g.K.MemRule.good v.who.rule) v.who.config d.number d.local v.view
    (subst (λ (h : Handle g.row.K.Denot). h.view.gate.phase ≡ Idle) (sym c.desc.view_is) c.requires.idle.0) c.desc.invariant.1 in
    let other : holder_of gate ≢ 0 = search rules in
    let low : d.number < f.callers = search rules in
    let who = who-of (depart d.number) Nothing t 0 w c.depart.ensures.step ∙
    (who-of load_gate (FindsGate f d.number) s gate t c.load_gate-gate.ensures.step
    ∙ who-of (announce d.number) Nothing v 1 s c.announce.ensures.step) in
    shown-of (λ n v w. Begins good f n (Closed gate) v w) (handle_of d.seat o) c.args.desc.now d.number w.view d.local d.local c.desc.view_is refl (ap caller_of c.desc.invariant.0.named)
    (tells-closed good f d.number gate v.view s.view t.view w.view o low out other
    (tells-of (announce d.number) Nothing v 1 s c.announce.ensures.step)
    (tells-of load_gate (FindsGate f d.number) s gate t c.load_gate-gate.ensures.step)
    (tells-of (depart d.number) Nothing t 0 w c.depart.ensures.step))

pub begin_as-requires-clause-view : goal.begin_as-requires-clause-view
begin_as-requires-clause-view g c =
    let f = c.args.stm.now.config in
    let d = c.desc.inside in
    let v = d.seat.me.0 in
    let s = c.announce.new.seat.me.0 in
    let gate = c.load_gate-gate.result in
    let t = c.load_gate-gate.new.seat.me.0 in
    let out = outside-of (good_by g.K.MemRule.good v.who.rule) v.who.config d.number d.local v.view
    (subst (λ (h : Handle g.row.K.Denot). h.view.gate.phase ≡ Idle) (sym c.desc.view_is) c.requires.idle.0) c.desc.invariant.1 in
    let zero : holder_of gate ≡ 0 = search rules in
    subst (λ (a : Alg). CanBegin a t.view) (sym c.alg_of-algorithm.ensures)
    (can-begin (g.K.MemRule.good c.args.stm.now.rule) f d.number gate v.view s.view t.view out zero
    (tells-of (announce d.number) Nothing v 1 s c.announce.ensures.step)
    (tells-of load_gate (FindsGate f d.number) s gate t c.load_gate-gate.ensures.step))

pub returns-in-Ok-clause-begins : goal.returns-in-Ok-clause-begins
returns-in-Ok-clause-begins g c =
    let f = c.args.stm.now.config in
    let good = g.K.MemRule.good c.args.stm.now.rule in
    let d = c.desc.inside in
    let v = d.seat.me.0 in
    let s = c.announce.new.seat.me.0 in
    let gate = c.load_gate-gate.result in
    let t = c.load_gate-gate.new.seat.me.0 in
    let w = c.begin_as.new.seat.me.0 in
    let o = own_of d.local in
    let p = own_of c.begin.new.self in
    let out = outside-of (good_by g.K.MemRule.good v.who.rule) v.who.config d.number d.local v.view
    (subst (λ (h : Handle g.row.K.Denot). h.view.gate.phase ≡ Idle) (sym c.desc.view_is) c.requires.idle.0) c.desc.invariant.1 in
    let zero : holder_of gate ≡ 0 = search rules in
    let a = c.alg_of-algorithm.result in
    let e = c.alg_of-algorithm.ensures in
    let starts = subst (λ (k : Alg). Starts good f d.number k (Ok c.in-Ok.start) t.view w.view) e c.in-Ok.ensures.begins in
    let who = ap (λ (y : SeatView g.row.K.Denot). y.who) c.in-Ok.ensures.same.1 ∙
    (who-of load_gate (FindsGate f d.number) s gate t c.load_gate-gate.ensures.step
    ∙ who-of (announce d.number) Nothing v 1 s c.announce.ensures.step) in
    shown-of (λ n v w. Begins good f n (Begun a) v w) (handle_of d.seat o) c.args.desc.now d.number w.view c.begin.new.self c.begin.new.self c.desc.view_is refl (ap caller_of c.desc.invariant.0.named)
    (subst (λ (k : Alg). Begins good f d.number (Begun k) (known_of v.view o) (known_of w.view p)) (sym e)
    (begins-fresh good f d.number (alg_of gate) v.view w.view o p (sym (ap (λ (l : Local). l.reads.len) c.begin.ensures)) (sym (ap (λ (l : Local). l.undo.len) c.begin.ensures)) (sym (ap (λ (l : Local). l.writes.marks_limit) c.begin.ensures))
    (tells-begun good f d.number gate v.view s.view t.view p (tells-of (announce d.number) Nothing v 1 s c.announce.ensures.step) (tells-of load_gate (FindsGate f d.number) s gate t c.load_gate-gate.ensures.step)
    c.in-Ok.start w.view d.local zero (subst (λ k. k < 2 ^ 48) c.fence_of-desc-inside.ensures.fence c.fence_of-desc-inside.ensures.fits)
    (c.desc.invariant.1.holds ∙ out.reopened) (
      ap (λ (l : Local). l.committing) c.begin.ensures,
      ap (λ (l : Local). cells_of l.writes.items) c.begin.ensures,
      ap (λ (l : Local). l.depth) c.begin.ensures,
      ap (λ (l : Local). l.writes.marks) c.begin.ensures,
    ) starts)))

pub returns-in-Err-clause-begins : goal.returns-in-Err-clause-begins
returns-in-Err-clause-begins g c =
    let f = c.args.stm.now.config in
    let good = g.K.MemRule.good c.args.stm.now.rule in
    let d = c.desc.inside in
    let v = d.seat.me.0 in
    let s = c.announce.new.seat.me.0 in
    let gate = c.load_gate-gate.result in
    let t = c.load_gate-gate.new.seat.me.0 in
    let u = c.begin_as.new.seat.me.0 in
    let w = c.depart-in-Err.new.seat.me.0 in
    let o = own_of d.local in
    let zero : holder_of gate ≡ 0 = search rules in
    let e = c.alg_of-algorithm.ensures in
    let refuses = subst (λ (k : Alg). Starts good f d.number k (Err c.in-Err.refusal) t.view u.view) e c.in-Err.ensures.begins in
    let who = who-of (depart d.number) Nothing u 0 w c.depart-in-Err.ensures.step ∙
    (ap (λ (y : SeatView g.row.K.Denot). y.who) c.in-Err.ensures.same.1
    ∙ (who-of load_gate (FindsGate f d.number) s gate t c.load_gate-gate.ensures.step
    ∙ who-of (announce d.number) Nothing v 1 s c.announce.ensures.step)) in
    shown-of (λ n v w. Begins good f n c.in-Err.refusal v w) (handle_of d.seat o) c.args.desc.now d.number w.view d.local d.local c.desc.view_is refl (ap caller_of c.desc.invariant.0.named)
    (tells-refused good f d.number gate v.view s.view t.view o (tells-of (announce d.number) Nothing v 1 s c.announce.ensures.step) (tells-of load_gate (FindsGate f d.number) s gate t c.load_gate-gate.ensures.step)
    u.view w.view (tells-of (depart d.number) Nothing u 0 w c.depart-in-Err.ensures.step) c.in-Err.refusal zero refuses)

pub invariant_of-desc-in-Ok : goal.invariant_of-desc-in-Ok
invariant_of-desc-in-Ok g c =
    let f = c.args.stm.now.config in
    let good = g.K.MemRule.good c.args.stm.now.rule in
    let d = c.desc.inside in
    let v = d.seat.me.0 in
    let s = c.announce.new.seat.me.0 in
    let gate = c.load_gate-gate.result in
    let t = c.load_gate-gate.new.seat.me.0 in
    let w = c.begin_as.new.seat.me.0 in
    let tied = c.desc.invariant.0 in
    let out = outside-of (good_by g.K.MemRule.good v.who.rule) v.who.config d.number d.local v.view
    (subst (λ (h : Handle g.row.K.Denot). h.view.gate.phase ≡ Idle) (sym c.desc.view_is) c.requires.idle.0) c.desc.invariant.1 in
    let a = c.alg_of-algorithm.result in
    let e = c.alg_of-algorithm.ensures in
    let start = c.in-Ok.start in
    let starts = subst (λ (k : Alg). Starts good f d.number k (Ok start) t.view w.view) e c.in-Ok.ensures.begins in
    let who = ap (λ (y : SeatView g.row.K.Denot). y.who) c.in-Ok.ensures.same.1 ∙
    (who-of load_gate (FindsGate f d.number) s gate t c.load_gate-gate.ensures.step
    ∙ who-of (announce d.number) Nothing v 1 s c.announce.ensures.step) in
    let config = ap (λ (y : Who g.row.K.Denot). y.config) who ∙ (ap (λ (q : Handle g.row.K.Denot). q.who.config) c.desc.view_is ∙ c.requires.stm.config) in
    let value = ap (λ (y : Who g.row.K.Denot). y.rule) who ∙ (ap (λ (q : Handle g.row.K.Denot). q.who.rule) c.desc.view_is ∙ c.requires.stm.rule) in
    let found = c.fence_of-desc-inside.ensures in
    let looked = (tells-of load_gate (FindsGate f d.number) s gate t c.load_gate-gate.ensures.step).2 in
    let l = record d.local { fence = c.fence_of-desc-inside.result } in
    let free : d.local.holds ≡ false = c.desc.invariant.1.holds ∙ out.reopened in
    let inside = starts.inside l (record { is = starts.fence ∙ (ap (λ (y : View). y.gate.fence) looked ∙ sym found.fence); fits = found.fits }) free in (
      record {
        named = ap (λ (q : Who g.row.K.Denot). q.role) who ∙ tied.named;
        low = subst (λ (q : Who g.row.K.Denot). d.number < q.config.callers) (sym who) tied.low;
        bare =
            ap (λ (y : SeatView g.row.K.Denot). y.gathered) c.in-Ok.ensures.same.1
            ∙ (ap (λ (y : SeatView g.row.K.Denot). y.gathered) c.load_gate-gate.ensures.step.3
            ∙ (ap (λ (y : SeatView g.row.K.Denot). y.gathered) c.announce.ensures.step.3 ∙ tied.bare));
        empty = c.in-Ok.ensures.same.0.2 ∙ (c.load_gate-gate.ensures.same.2 ∙ (c.announce.ensures.same.2 ∙ tied.empty));
      },
      subst (λ (m : Local). Stands (good_by g.K.MemRule.good w.who.rule) w.who.config d.number m w.view) (sym c.begin.ensures)
          (stands-in g.K.MemRule.good f c.args.stm.now.rule w.who d.number (begun a start l) w.view config value refl (free ∙ sym starts.reopened) c.desc.invariant.1.lengths
          (subst (λ (k : Alg). IsInside good f d.number (begun k start l) w.view) (sym e) inside)),
    )
