use Rattle.std.proofs.Common.{◌≡◌, ◌∙◌, subst, sym, ap, arith}
use Rattle.stm_model.specs.Algorithms.{takes_lock}
use Rattle.stm_model.specs.declared.alg.Alg.TheVariants.{Serial}
use Rattle.rule_base.specs.declared.seats.SeatView.{SeatView}
use Rattle.rule_base.specs.declared.views.View.{View}
use Rattle.stm_rule.specs.declared.local.Local.{Local}
use Rattle.stm_rule.specs.Attempts.{own_of}
use Rattle.stm_rule.specs.Callers.{Handle, handle_of}
use Rattle.stm_gate.specs.Knowing.{known}
use Rattle.stm_gate.proofs.Standing.{runs-of}
use Rattle.stm_answers.specs.CallerState.{known_of}
use Rattle.stm_gate.proofs.Told.{told}
use Rattle.stm_answers.specs.declared.answers.Cancel.TheVariants.{Cancelled}
use Rattle.stm_answers.specs.Answers.{Cancels}
use Rattle.alg_seq.proofs.Locked.{locked}
use Rattle.alg_seq.proofs.Keeping.{ended-back, irrevocable-by, revocable-by}
use Rattle.alg_seq.proofs.serial.SerialAlgorithm.cancel.Goals as goal

pub returns-clause-cancels : goal.returns-clause-cancels
returns-clause-cancels g c =
    let good = g.K.MemRule.good c.args.stm.now.rule in
    let o = own_of c.desc.inside.local in
    let i = runs-of g.K.MemRule.good c.args.stm.now.config c.args.stm.now.rule (handle_of c.desc.inside.seat o) c.args.desc.now
    c.desc.inside.number c.desc.inside.local c.desc.view_is c.requires.stm.config c.requires.stm.rule c.requires.running c.desc.invariant.1
    in
    let named = subst (λ (h : Handle g.row.K.Denot). (known h).alg ≡ Serial) (sym c.desc.view_is) c.requires.algorithm in
    let serial : c.desc.inside.local.algorithm ≡ Serial = sym i.named ∙ named in
    let last : c.abort.new.seat.me.0.view.steps.rises ≡ c.desc.inside.seat.me.0.view.steps.rises_at_begin = ap (λ (y : View). y.steps.rises)
    c.abort.ensures.gives_up.is ∙
    (c.abort.ensures.gives_up.rises
    ∙
    (locked good c.args.stm.now.config c.desc.inside.number c.desc.inside.local c.desc.inside.seat.me.0.view (ap takes_lock named) i).rises)
    in
    told (λ n v w. Cancels good c.args.stm.now.config n (Cancelled c.desc.inside.local.start) v w) (handle_of c.desc.inside.seat o)
    c.args.desc.now c.desc.inside.number c.abort.new.seat.me.0 c.abort.new.local c.desc.view_is
    (ap (λ (y : SeatView g.row.K.Denot). y.who) c.abort.ensures.same.1) c.desc.invariant.0.named
    (subst (λ (m : Local).
    Cancels good c.args.stm.now.config c.desc.inside.number (Cancelled c.desc.inside.local.start) (known_of c.desc.inside.seat.me.0.view o)
    (known_of c.abort.new.seat.me.0.view (own_of m))) (sym c.abort.ensures.ended) (
      ended-back good c.args.stm.now.config c.desc.inside.number c.desc.inside.local c.desc.inside.seat.me.0.view i serial c.abort.new.seat.me.0.view o c.abort.ensures.gives_up,
      omega arith,
      omega arith,
      revocable-by good c.args.stm.now.config c.desc.inside.number c.desc.inside.local c.desc.inside.seat.me.0.view i serial o
          ∙ (irrevocable-by good c.args.stm.now.config c.desc.inside.number c.desc.inside.local c.desc.inside.seat.me.0.view i serial
          ∙ c.if-desc.false),
    ))
