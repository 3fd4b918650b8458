use Rattle.std.proofs.Common.{ap, ◌∙◌}
use Rattle.rule_base.specs.declared.views.View.{View}
use Rattle.rule_base.specs.declared.seats.SeatView.{SeatView}
use Rattle.alg_orec.proofs.Eager.EagerBackLaws as laws
use Rattle.alg_orec.proofs.eager_ending.abort.Goals as goal

pub give_back-requires-clause-view : goal.give_back-requires-clause-view
give_back-requires-clause-view g c = c.requires.view.gives

pub leave-requires-clause-view : goal.leave-requires-clause-view
leave-requires-clause-view g c = laws.may-leave c.args.stm.now.config c.args.local.now c.args.seat.now.me.0.view c.requires.view c.give_back.new.seat.me.0.view c.give_back.ensures.gives_back

pub leave-requires-clause-fence : goal.leave-requires-clause-fence
leave-requires-clause-fence g c = record { is = ap (λ (y : View). y.gate.fence) c.give_back.ensures.gives_back.is ∙ c.requires.fence.is; fits = c.requires.fence.fits }

pub returns-clause-aborts : goal.returns-clause-aborts
returns-clause-aborts g c =
    laws.takes-back c.args.stm.now.config c.args.local.now c.args.seat.now.me.0.view c.requires.view c.give_back.new.seat.me.0.view
    c.give_back.ensures.gives_back c.args.caller c.leave.new.seat.me.0.view c.leave.ensures.outside
    (ap (λ (y : SeatView g.row.K.Denot). y.view) c.leave.ensures.left)
