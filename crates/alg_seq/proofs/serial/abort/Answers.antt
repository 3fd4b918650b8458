use Rattle.std.proofs.Common.{◌∷◌, length, refl, sym, ap, ◌∙◌, subst, arith}
use Rattle.std.specs.Prelude.{None}
use Rattle.stm_model.specs.Algorithms.{takes_lock}
use Rattle.rule_base.specs.declared.layout.At.TheVariants.{Lock}
use Rattle.rule_base.specs.declared.seats.SeatView.{SeatView}
use Rattle.rule_base.specs.declared.views.Act.TheVariants.{Store}
use Rattle.rule_base.specs.declared.views.View.{View}
use Rattle.rule_base.specs.StepKinds.{Nothing, view_after}
use Rattle.rule_seq.specs.CglSteps.{free_lock, HasLock}
use Rattle.stm_gate.specs.LeavingLaws.{IsUnmade}
use Rattle.stm_gate.proofs.Peeling.{no-items}
use Rattle.stm_rule.proofs.StandLemmas.{tells-of}
use Rattle.alg_seq.proofs.CountingLaws.{takes-left}
use Rattle.alg_seq.proofs.Locked.{locked}
use Rattle.alg_seq.proofs.RollingLaws.{has-olds, writes-few}
use Rattle.alg_seq.proofs.serial.abort.Goals as goal

pub store_back-requires-clause-olds : goal.store_back-requires-clause-olds
store_back-requires-clause-olds g c =
    has-olds (g.K.MemRule.good c.args.stm.now.rule) c.args.stm.now.config c.args.caller c.args.local.now c.args.seat.now.me.0.view
    c.requires.attempt (c.requires.attempt.named ∙ c.requires.serial.0) c.requires.serial.1

pub free_lock-requires-clause-view : goal.free_lock-requires-clause-view
free_lock-requires-clause-view g c =
    let locks = ap takes_lock (c.requires.attempt.named ∙ c.requires.serial.0) in
    record {
      has =
          subst (λ (y : View). HasLock y) (sym c.store_back.ensures.back.is)
          (record {
            phase = c.requires.attempt.phase;
            algorithm = locks;
            taken = (locked (g.K.MemRule.good c.args.stm.now.rule) c.args.stm.now.config c.args.caller c.args.local.now
                c.args.seat.now.me.0.view locks c.requires.attempt).taken;
          });
      unstored = no-items c.store_back.new.seat.me.0.view.attempt.stores c.store_back.ensures.back.stores;
    }

pub returns-clause-gives_up : goal.returns-clause-gives_up
returns-clause-gives_up g c =
    let t = tells-of free_lock Nothing _ 0 _ c.free_lock.ensures.step in
    let is = c.store_back.ensures.back.is in
    record {
      outside = c.leave.ensures.outside;
      before = c.free_lock.new.seat.me.0.view;
      unmade =
          subst (λ (y : View). IsUnmade c.args.seat.now.me.0.view y) (sym (t.2 ∙ ap (λ (y : View). view_after free_lock t.0 y 0) is))
          (record {
            carried = record {
              named = refl;
              base = refl;
              installs = refl;
              fence = refl;
              step_trace = (record { place = Lock; act = Store 0; found = None } ∷ c.store_back.ensures.back.more, refl);
              unlocked = refl;
              unwritten = (locked (g.K.MemRule.good c.args.stm.now.rule) c.args.stm.now.config c.args.caller c.args.local.now
                  c.args.seat.now.me.0.view (ap takes_lock (c.requires.attempt.named ∙ c.requires.serial.0)) c.requires.attempt).unwritten;
            };
            history = refl;
          });
      rises = ap (λ (y : View). y.steps.rises) (t.2 ∙ ap (λ (y : View). view_after free_lock t.0 y 0) is);
      is = ap (λ (y : SeatView g.row.K.Denot). y.view) c.leave.ensures.left;
    }

pub returns-clause-steps : goal.returns-clause-steps
returns-clause-steps g c =
    let e = ap (λ (y : SeatView g.row.K.Denot). length y.view.steps.step_trace) c.leave.ensures.left in
    let last = takes-left c.args.caller c.free_lock.new.seat.me.0.view
    (ap (λ (y : SeatView g.row.K.Denot). y.view.gate.holds) c.free_lock.ensures.step.3
    ∙ (ap (λ (y : View). y.gate.holds) c.store_back.ensures.back.is ∙ c.requires.free.1)) in
    let one = ap (λ (y : SeatView g.row.K.Denot). length y.view.steps.step_trace) c.free_lock.ensures.step.3 in
    let few = writes-few (g.K.MemRule.good c.args.stm.now.rule) c.args.stm.now.config c.args.caller c.args.local.now
    c.args.seat.now.me.0.view c.requires.attempt (c.requires.attempt.named ∙ c.requires.serial.0) c.requires.serial.1 in
    let words = c.store_back.ensures.steps in
    omega arith
