use Rattle.std.proofs.Common.{ℕ, ◌≡◌, ◌≢◌, ◌≤◌, length, sym, ap, rules, ◌∙◌, arith, false, true}
use Rattle.std.specs.Prelude.{None}
use Rattle.stm_model.specs.Memories.{item_at}
use Rattle.rule_base.specs.Encodings.{fenced}
use Rattle.rule_base.specs.History.{member}
use Rattle.rule_base.specs.declared.views.GateView.{GateView}
use Rattle.stm_rule.specs.declared.local.Local.{Local}
use Rattle.stm_rule.specs.Attempts.{own_of}
use Rattle.stm_rule.specs.Callers.{handle_of}
use Rattle.stm_answers.specs.declared.answers.Write.TheVariants as writes
use Rattle.stm_answers.specs.Answers.{HasWritten}
use Rattle.stm_answers.specs.CallerState.{CallerState}
use Rattle.stm_gate.proofs.Opening.{is-known, of-view}
use Rattle.alg_orec.proofs.Eager.EagerCalls.{RunsEager}
use Rattle.alg_orec.proofs.Eager.EagerLaws as reading
use Rattle.alg_orec.proofs.Eager.EagerOpening.{EagerOpening, answers-stored, counts, opens-eager, stays-stored}
use Rattle.alg_orec.proofs.RecordOpening.{answers-ended, answers-moved, unwritten}
use Rattle.alg_orec.proofs.Eager.EagerWriteLaws as laws
use Rattle.alg_orec.proofs.orec_eager.first_write.Goals.{After-desc, After-store_first, In-Err}
use Rattle.alg_orec.proofs.orec_eager.first_write.Goals as goal

opened : (g : _) (c : After-desc g) → EagerOpening g.K.MemRule.good c.args.stm.now c.args.desc.now c.desc.inside.seat.me c.desc.inside.number c.desc.inside.local
opened g c =
    opens-eager g.K.MemRule.good c.args.stm.now c.desc.inside.number c.desc.inside.local c.desc.inside.seat.me
    (handle_of c.desc.inside.seat (own_of c.desc.inside.local)) c.desc.view_is c.desc.invariant.0 c.desc.invariant.1 c.requires.stm
    c.requires.running c.requires.algorithm c.requires.revocable

unlogged : (g : _) (c : After-desc g) → item_at c.args.a c.desc.inside.local.writes.items ≡ None
unlogged g c = unwritten _ _ (opened g c).call c.args.a c.requires.unwritten

pub write_again-requires-clause-saved : goal.write_again-requires-clause-saved
write_again-requires-clause-saved g c =
    let o = opened g (goal.at.write_again-requires-clause-saved g c).After-desc in
    is-known _ _ o.call.opening (λ (n : ℕ) (v : CallerState). member v.kept c.args.a ≡ true) (laws.is-kept _ _ _ _ _ o.runs c.args.a ∙ search rules)

-- where the record wasn't taken, only the start moved
refused : (g : _) (c : In-Err g) → RunsEager (g.K.MemRule.good c.args.stm.now.rule) c.args.stm.now.config c.desc.inside.number c.desc.inside.local c.desc.inside.seat.me.0.view
    → (c.take_record.new.local ≡ record c.desc.inside.local { start = c.take_record.new.local.start }) × (c.take_record.new.seat.me.0.view.gate ≡ c.desc.inside.seat.me.0.view.gate)
refused g c runs = laws.refused-local _ _ _ _ _ runs c.args.a c.in-Err.refusal _ _ c.in-Err.ensures.takes

stores : (g : _) (c : After-store_first g)
    → RunsEager (g.K.MemRule.good c.args.stm.now.rule) c.args.stm.now.config c.desc.inside.number c.desc.inside.local
    c.desc.inside.seat.me.0.view → item_at c.args.a c.desc.inside.local.writes.items ≡ None
    → item_at c.args.a c.desc.inside.local.undo.items ≡ None
    → laws.Stores (g.K.MemRule.good c.args.stm.now.rule) c.args.stm.now.config c.desc.inside.number c.desc.inside.local
    c.desc.inside.seat.me.0.view c.args.a c.args.x c.store_first.new.local c.store_first.new.seat.me.0.view
stores g c runs none new =
    let room : length c.desc.inside.local.undo.items ≢ c.desc.inside.local.undo.len = search rules in
    let most : length c.desc.inside.local.undo.items ≤ c.desc.inside.local.undo.len = search rules in
    laws.stores-first _ _ _ _ _ runs c.args.a c.args.x _ _ _ _ c.requires.inside none new (grind (arith, room, most)) c.in_default.ensures.takes c.store_first.ensures.stores

pub returns-then-count-limit-clause-write : goal.returns-then-count-limit-clause-write
returns-then-count-limit-clause-write g c =
    let at = (goal.at.returns-then-count-limit-clause-write g c).After-desc in
    let o = opened g at in
    answers-ended _ _ o.call
    (λ (n : ℕ) (v w : CallerState).
    HasWritten (g.K.MemRule.good c.args.stm.now.rule) c.args.stm.now.config n c.args.a c.args.x (writes.Full c.len-limit.result) v w)
    c.abort.new.seat.me.0.view _ c.abort.ensures.idle
    (rw c.len-limit.ensures (laws.writes-full _ _ _ _ _ o.runs c.args.a c.args.x _ (search rules) (search rules) c.abort.ensures.aborts))

pub abort-requires-clause-view : goal.abort-requires-clause-view
abort-requires-clause-view g c = reading.may-take-here _ _ _ _ _ (opened g (goal.at.abort-requires-clause-view g c).After-desc).runs

pub take_record-requires-clause-view : goal.take_record-requires-clause-view
take_record-requires-clause-view g c =
    let at = (goal.at.take_record-requires-clause-view g c).After-desc in
    let o = opened g at in
    laws.may-take _ _ _ _ _ o.runs c.args.a c.requires.inside (search rules) o.lengths (unlogged g at) (search rules)

pub abort-requires-in-Err-clause-view : goal.abort-requires-in-Err-clause-view
abort-requires-in-Err-clause-view g c = laws.may-take-refusal _ _ _ _ _ (opened g (goal.at.abort-requires-in-Err-clause-view g c).After-desc).runs c.args.a c.in-Err.refusal _ _ c.in-Err.ensures.takes

pub abort-requires-in-Err-clause-holds : goal.abort-requires-in-Err-clause-holds
abort-requires-in-Err-clause-holds g c =
    let at = goal.at.abort-requires-in-Err-clause-holds g c in
    let r = refused g at.In-Err (opened g at.After-desc).runs in
    ap (λ (y : Local). y.holds) r.0 ∙ (c.desc.invariant.1.holds ∙ sym (ap (λ (y : GateView). y.holds) r.1))

pub abort-requires-in-Err-clause-named : goal.abort-requires-in-Err-clause-named
abort-requires-in-Err-clause-named g c =
    let at = goal.at.abort-requires-in-Err-clause-named g c in
    let runs = (opened g at.After-desc).runs in
    let r = refused g at.In-Err runs in
    ap (λ (y : Local). y.algorithm) r.0 ∙ (sym runs.inside.named ∙ sym (ap (λ (y : GateView). y.algorithm) r.1))

pub returns-in-Err-clause-write : goal.returns-in-Err-clause-write
returns-in-Err-clause-write g c =
    let at = goal.at.returns-in-Err-clause-write g c in
    let o = opened g at.After-desc in
    answers-moved _ _ o.call
    (λ (n : ℕ) (v w : CallerState).
    HasWritten (g.K.MemRule.good c.args.stm.now.rule) c.args.stm.now.config n c.args.a c.args.x c.in-Err.refusal v w)
    c.take_record.new.local c.abort-in-Err.new.seat.me.0.view _ (refused g at.In-Err o.runs).0 c.abort-in-Err.ensures.idle
    (laws.writes-refusal _ _ _ _ _ o.runs c.args.a c.args.x c.in-Err.refusal _ c.take_record.new.seat.me.0.view _ (search rules) (search rules) c.in-Err.ensures.takes c.abort-in-Err.ensures.aborts)

pub store_first-requires-clause-view : goal.store_first-requires-clause-view
store_first-requires-clause-view g c =
    let at = (goal.at.store_first-requires-clause-view g c).After-desc in
    let o = opened g at in
    laws.may-store _ _ _ _ _ o.runs c.args.a _ _
    (of-view _ _ o.call.opening (λ (n : ℕ) (v : CallerState). fenced v.fence c.args.a ≡ false) c.requires.spared) o.lengths (unlogged g at)
    (search rules) (search rules) c.in_default.ensures.takes

pub invariant_of-desc-2 : goal.invariant_of-desc-2
invariant_of-desc-2 g c =
    let at = goal.at.invariant_of-desc-2 g c in
    let o = opened g at.After-desc in
    stays-stored _ _ o c.args.a c.args.x _ c.store_first.new.seat.me (stores g at.After-store_first o.runs (unlogged g at.After-desc) (search rules)) c.requires.inside (search rules)
    (laws.seat-then c.desc.inside.seat.me.0 c.take_record.new.seat.me.0 c.store_first.new.seat.me.0 c.take_record.ensures.same.1
    c.store_first.ensures.same.1) (c.store_first.ensures.same.0.2 ∙ c.take_record.ensures.same.0.2)

pub returns-clause-write : goal.returns-clause-write
returns-clause-write g c =
    let at = goal.at.returns-clause-write g c in
    let o = opened g at.After-desc in
    let none = unlogged g at.After-desc in
    answers-stored _ _ o c.args.a c.args.x _ c.store_first.new.seat.me (stores g at.After-store_first o.runs none (search rules)) (laws.room-free _ _ _ _ _ o.runs c.args.a (search rules) (search rules))

pub returns-then-count-limit-clause-steps : goal.returns-then-count-limit-clause-steps
returns-then-count-limit-clause-steps g c =
    let k = counts _ _ (opened g (goal.at.returns-then-count-limit-clause-steps g c).After-desc) in
    let back = c.abort.ensures.steps in
    omega arith

pub returns-in-Err-clause-steps : goal.returns-in-Err-clause-steps
returns-in-Err-clause-steps g c =
    let at = goal.at.returns-in-Err-clause-steps g c in
    let o = opened g at.After-desc in
    let k = counts _ _ o in
    let m = (refused g at.In-Err o.runs).0 in
    let locks = ap (λ (x : Local). length x.locks.items) m in
    let undo = ap (λ (x : Local). x.undo.len) m in
    let taken = c.take_record.ensures.steps in
    let back = c.abort-in-Err.ensures.steps in
    omega arith
