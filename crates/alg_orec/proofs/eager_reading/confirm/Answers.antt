use Rattle.std.proofs.Common.{ℕ, ap, refl, rules, arith, length}
use Rattle.std.specs.Prelude.{◌%◌}
use Rattle.stm_model.specs.declared.stop.Cause.TheVariants as causes
use Rattle.rule_base.specs.declared.seats.SeatView.{SeatView}
use Rattle.rule_base.specs.declared.views.View.{View}
use Rattle.rule_base.specs.StepKinds.{Tells}
use Rattle.rule_orec.specs.OrecSteps.{orec_confirm}
use Rattle.stm_rule.specs.Attempts.{own_of}
use Rattle.stm_rule.specs.Callers.{handle_of}
use Rattle.stm_rule.specs.Kept.{good_of}
use Rattle.stm_rule.proofs.StandLemmas.{tells-of}
use Rattle.alg_orec.specs.RecordFindings.{FindsAgain}
use Rattle.stm_answers.specs.declared.answers.Read.TheVariants as reads
use Rattle.stm_answers.specs.CallerState.{CallerState}
use Rattle.stm_gate.proofs.Opening.{of-view, of-seen}
use Rattle.alg_orec.proofs.Eager.EagerOpening.{EagerOpening, answers-read, counts, opens-eager, stays-read}
use Rattle.alg_orec.proofs.RecordOpening.{answers-ended, place-here}
use Rattle.alg_orec.proofs.Eager.EagerReadLaws as laws
use Rattle.alg_orec.specs.EagerReading.{IsNew, IsLoaded, Confirms}
use Rattle.alg_orec.proofs.eager_reading.confirm.Goals.{After-desc, After-confirm-after}
use Rattle.alg_orec.proofs.eager_reading.confirm.Goals as goal

opened : (g : _) (c : After-desc g) → EagerOpening g.K.MemRule.good c.args.stm.now c.args.desc.now c.desc.inside.seat.me c.desc.inside.number c.desc.inside.local
opened g c =
    opens-eager g.K.MemRule.good c.args.stm.now c.desc.inside.number c.desc.inside.local c.desc.inside.seat.me
    (handle_of c.desc.inside.seat (own_of c.desc.inside.local)) c.desc.view_is c.desc.invariant.0 c.desc.invariant.1 c.requires.stm
    c.requires.running c.requires.algorithm c.requires.revocable

fresh : (g : _) (c : After-desc g) → laws.IsUnread c.desc.inside.local c.args.a
fresh g c = laws.unread-new _ _ _ _ _ (opened g c).runs c.args.a (of-view _ _ (opened g c).call.opening (λ n v. IsNew c.args.a v) c.requires.fresh)

loaded : (g : _) (c : After-desc g) → IsLoaded c.args.stm.now.config c.args.a c.args.word c.args.x c.desc.inside.seat.me.0.view
loaded g c = of-seen _ _ (opened g c).call.opening (λ (n : ℕ) (v : View). IsLoaded c.args.stm.now.config c.args.a c.args.word c.args.x v) c.requires.loaded

again : (g : _) (c : After-confirm-after g)
    → Tells (orec_confirm (c.args.a % c.args.stm.now.config.records))
    (FindsAgain (good_of g.K.MemRule.good c.args.stm.now.config c.args.stm.now.rule) c.args.stm.now.config c.desc.inside.number
    (c.args.a % c.args.stm.now.config.records))
    c.desc.inside.seat.me.0.view c.confirm-after.result c.confirm-after.new.seat.me.0.view
again g c =
    let r = c.args.a % c.args.stm.now.config.records in
    tells-of (orec_confirm r) (FindsAgain (good_of g.K.MemRule.good c.args.stm.now.config c.args.stm.now.rule) c.args.stm.now.config c.desc.inside.number r) _ _ _ c.confirm-after.ensures.step

pub confirm-after-requires-clause-view : goal.confirm-after-requires-clause-view
confirm-after-requires-clause-view g c =
    let at = (goal.at.confirm-after-requires-clause-view g c).After-desc in
    laws.may-confirm _ _ _ _ _ (opened g at).runs _ _ _ c.requires.inside (loaded g at)

pub abort-requires-clause-view : goal.abort-requires-clause-view
abort-requires-clause-view g c =
    let at = goal.at.abort-requires-clause-view g c in
    laws.may-take-moved _ _ _ _ _ (opened g at.After-desc).runs _ _ _ c.requires.inside (loaded g at.After-desc) c.confirm-after.result _ (again g at.After-confirm-after) (search rules)

pub returns-then-after-word-clause-confirms : goal.returns-then-after-word-clause-confirms
returns-then-after-word-clause-confirms g c =
    let at = goal.at.returns-then-after-word-clause-confirms g c in
    let o = opened g at.After-desc in
    let cause = causes.Moved (c.args.a % c.args.stm.now.config.records) c.args.word c.confirm-after.result in
    rw c.requires.record (answers-ended _ _ o.call
    (λ (n : ℕ) (v w : CallerState).
    Confirms (g.K.MemRule.good c.args.stm.now.rule) c.args.stm.now.config n c.args.a c.args.word c.args.x (reads.Conflict cause) v w)
    c.abort.new.seat.me.0.view _ c.abort.ensures.idle
    (laws.finds-moved _ _ _ _ _ o.runs _ _ _ c.requires.inside (loaded g at.After-desc) c.confirm-after.result _ (again g at.After-confirm-after) (search rules) o.call.opening.low _ c.abort.ensures.aborts))

pub push_at-requires-clause-place : goal.push_at-requires-clause-place
push_at-requires-clause-place g c =
    let o = opened g (goal.at.push_at-requires-clause-place g c).After-desc in
    place-here _ _ o.call c.args.a c.args.place c.requires.place

pub push_at-requires-clause-new : goal.push_at-requires-clause-new
push_at-requires-clause-new g c = (fresh g (goal.at.push_at-requires-clause-new g c).After-desc).unread

pub push_at-requires-clause-room : goal.push_at-requires-clause-room
push_at-requires-clause-room g c = (fresh g (goal.at.push_at-requires-clause-room g c).After-desc).room

pub invariant_of-desc-2 : goal.invariant_of-desc-2
invariant_of-desc-2 g c =
    let at = goal.at.invariant_of-desc-2 g c in
    let o = opened g at.After-desc in
    stays-read _ _ o c.args.a _ c.confirm-after.new.seat.me _ c.requires.inside (fresh g at.After-desc) c.push_at.ensures
    (laws.loads-same _ _ _ _ _ o.runs _ _ _ c.requires.inside (loaded g at.After-desc) c.confirm-after.result _
    (again g at.After-confirm-after) (search rules)) c.confirm-after.ensures.step.3 c.confirm-after.ensures.same.2

pub returns-clause-confirms : goal.returns-clause-confirms
returns-clause-confirms g c =
    let at = goal.at.returns-clause-confirms g c in
    let o = opened g at.After-desc in (
      refl,
      answers-read _ _ o c.args.a _ c.confirm-after.new.seat.me _ c.requires.inside (fresh g at.After-desc) c.push_at.ensures
          (laws.loads-same _ _ _ _ _ o.runs _ _ _ c.requires.inside (loaded g at.After-desc) c.confirm-after.result _ (again g at.After-confirm-after) (search rules)) (search rules),
    )

pub returns-then-after-word-clause-steps : goal.returns-then-after-word-clause-steps
returns-then-after-word-clause-steps g c =
    let k = counts _ _ (opened g (goal.at.returns-then-after-word-clause-steps g c).After-desc) in
    let step = ap (λ (y : SeatView g.row.K.Denot). length y.view.steps.step_trace) c.confirm-after.ensures.step.3 in
    let back = c.abort.ensures.steps in
    omega arith
