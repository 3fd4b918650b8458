use Rattle.std.proofs.Common.{ℕ, ◌≡◌, ◌≢◌, length, subst, sym, ap, true, rules, ◌∙◌, refl, arith}
use Rattle.std.specs.Prelude.{None}
use Rattle.std.specs.Option.{is_some}
use Rattle.stm_model.specs.Memories.{item_at}
use Rattle.rule_base.specs.declared.views.View.{View}
use Rattle.stm_rule.specs.declared.local.Local.{Local}
use Rattle.stm_rule.specs.Attempts.{own_of}
use Rattle.stm_rule.specs.Callers.{handle_of}
use Rattle.stm_answers.specs.declared.answers.Read.TheVariants as reads
use Rattle.stm_answers.specs.Answers.{HasRead}
use Rattle.stm_answers.specs.CallerState.{CallerState, known_of}
use Rattle.stm_gate.proofs.Opening.{is-known, shows}
use Rattle.alg_orec.proofs.Eager.EagerLaws as eager
use Rattle.alg_orec.proofs.Eager.EagerOpening.{EagerOpening, counts, opens-eager}
use Rattle.alg_orec.proofs.RecordOpening.{answers-ended, answers-moved, stays-tied, unread, unwritten}
use Rattle.alg_orec.proofs.Eager.EagerReadLaws as laws
use Rattle.alg_orec.proofs.Eager.EagerTakingLaws as taking
use Rattle.alg_orec.proofs.RecordReads as records
use Rattle.alg_orec.specs.EagerReading.{IsNew, HoldsRecord, FindsFree}
use Rattle.alg_orec.proofs.eager_reading.sample.Goals.{After-desc}
use Rattle.alg_orec.proofs.eager_reading.sample.Goals as goal

opened : (g : _) (c : After-desc g) → EagerOpening g.K.MemRule.good c.args.stm.now c.args.desc.now c.desc.inside.seat.me c.desc.inside.number c.desc.inside.local
opened g c =
    opens-eager g.K.MemRule.good c.args.stm.now c.desc.inside.number c.desc.inside.local c.desc.inside.seat.me
    (handle_of c.desc.inside.seat (own_of c.desc.inside.local)) c.desc.view_is c.desc.invariant.0 c.desc.invariant.1 c.requires.stm
    c.requires.running c.requires.algorithm c.requires.revocable

unlogged : (g : _) (c : After-desc g) → (item_at c.args.a c.desc.inside.local.writes.items ≡ None) × (item_at c.args.a c.desc.inside.local.reads.items ≡ None)
unlogged g c = (unwritten _ _ (opened g c).call c.args.a c.requires.unwritten, unread _ _ (opened g c).call c.args.a c.requires.unread)

fresh : (g : _) (c : After-desc g) → length c.desc.inside.local.reads.items ≢ c.desc.inside.local.reads.len → IsNew c.args.a (known_of c.desc.inside.seat.me.0.view (own_of c.desc.inside.local))
fresh g c room = laws.new-of _ _ _ _ _ (opened g c).runs c.args.a (unlogged g c).0 (unlogged g c).1 room

pub returns-then-count-limit-clause-samples : goal.returns-then-count-limit-clause-samples
returns-then-count-limit-clause-samples g c =
    let at = (goal.at.returns-then-count-limit-clause-samples g c).After-desc in
    let o = opened g at in
    answers-ended _ _ o.call
    (λ (n : ℕ) (v w : CallerState).
    HasRead (g.K.MemRule.good c.args.stm.now.rule) c.args.stm.now.config n c.args.a (reads.Full c.len-limit.result) v w)
    c.abort.new.seat.me.0.view _ c.abort.ensures.idle
    (rw c.len-limit.ensures (records.reads-full (eager.reading _ _ _ _ _ o.runs) c.args.a _ (unlogged g at).0 (unlogged g at).1 (search rules) (eager.quits-here _ _ _ _ _ o.runs _ c.abort.ensures.aborts)))

pub abort-requires-clause-view : goal.abort-requires-clause-view
abort-requires-clause-view g c = eager.may-take-here _ _ _ _ _ (opened g (goal.at.abort-requires-clause-view g c).After-desc).runs

pub abort-requires-clause-named : goal.abort-requires-clause-named
abort-requires-clause-named g c = sym (opened g (goal.at.abort-requires-clause-named g c).After-desc).runs.inside.named

pub returns-then-is_some-clause-samples : goal.returns-then-is_some-clause-samples
returns-then-is_some-clause-samples g c =
    let at = (goal.at.returns-then-is_some-clause-samples g c).After-desc in
    let o = opened g at in
    let some : is_some (item_at c.args.r c.desc.inside.local.locks.items) ≡ true = search rules in
    let its = subst (λ (r : ℕ). is_some (item_at r c.desc.inside.local.locks.items) ≡ true) c.requires.record some in (
      refl,
      subst (λ (v : View). HoldsRecord c.args.stm.now.config c.args.a v) (sym o.call.opening.view) (taking.held-where _ _ _ o.runs.kept.locks its),
      is-known _ _ o.call.opening (λ (n : ℕ) (v : CallerState). IsNew c.args.a v) (fresh g at (search rules)),
    )

pub sample_valid-requires-clause-view : goal.sample_valid-requires-clause-view
sample_valid-requires-clause-view g c =
    let at = (goal.at.sample_valid-requires-clause-view g c).After-desc in
    let none : item_at c.args.r c.desc.inside.local.locks.items ≡ None = search rules in
    laws.may-sample _ _ _ _ _ (opened g at).runs c.args.a c.requires.inside (unlogged g at).0 (subst (λ (r : ℕ). item_at r c.desc.inside.local.locks.items ≡ None) c.requires.record none)

pub invariant_of-desc-in-Ok : goal.invariant_of-desc-in-Ok
invariant_of-desc-in-Ok g c =
    let o = opened g (goal.at.invariant_of-desc-in-Ok g c).After-desc in
    let sampled = c.in-Ok.ensures.samples in
    let undo = ap (λ (y : Local). y.undo.len) sampled.local in
    let locks = ap (λ (y : Local). y.locks.len) sampled.local in
    stays-tied _ _ o.call c.sample_valid.new.local c.sample_valid.new.seat.me c.sample_valid.ensures.same.1 c.sample_valid.ensures.same.0.2
    (ap (λ (y : Local). y.running) sampled.local) (ap (λ (y : Local). y.holds) sampled.local)
    (ap (λ (y : Local). y.writes.len) sampled.local ∙ (o.lengths.0 ∙ sym undo), (let r = o.lengths.1 in omega arith)) (ap (λ (y : View). y.gate.holds) sampled.is)
    (laws.stays-sampled _ _ _ _ _ o.runs c.args.a c.in-Ok.word _ _ sampled)

pub returns-in-Ok-clause-samples : goal.returns-in-Ok-clause-samples
returns-in-Ok-clause-samples g c =
    let at = (goal.at.returns-in-Ok-clause-samples g c).After-desc in
    let o = opened g at in
    let sampled = c.in-Ok.ensures.samples in (
      shows _ _ o.call.opening
          (λ (n : ℕ) (v w : CallerState). FindsFree (g.K.MemRule.good c.args.stm.now.rule) c.args.stm.now.config n c.args.a c.in-Ok.word v w)
          c.sample_valid.new.seat.me.0.view c.sample_valid.new.local (ap own_of sampled.local)
          (laws.finds-free _ _ _ _ _ o.runs c.args.a c.in-Ok.word _ _ sampled (fresh g at (search rules))),
      laws.is-sampled _ _ _ _ _ o.runs c.args.a c.in-Ok.word _ _ sampled,
    )

pub abort-requires-in-Err-clause-view : goal.abort-requires-in-Err-clause-view
abort-requires-in-Err-clause-view g c = eager.may-take-refused _ _ _ _ _ (opened g (goal.at.abort-requires-in-Err-clause-view g c).After-desc).runs c.args.a c.in-Err.cause _ _ c.in-Err.ensures.samples

pub returns-in-Err-clause-samples : goal.returns-in-Err-clause-samples
returns-in-Err-clause-samples g c =
    let at = (goal.at.returns-in-Err-clause-samples g c).After-desc in
    let o = opened g at in
    let refused = c.in-Err.ensures.samples in
    answers-moved _ _ o.call
    (λ (n : ℕ) (v w : CallerState).
    HasRead (g.K.MemRule.good c.args.stm.now.rule) c.args.stm.now.config n c.args.a (reads.Conflict c.in-Err.cause) v w)
    c.sample_valid.new.local c.abort-in-Err.new.seat.me.0.view _ refused.local c.abort-in-Err.ensures.idle
    (eager.reads-refused _ _ _ _ _ o.runs c.args.a c.in-Err.cause _ _ _ (unlogged g at).0 (unlogged g at).1 (search rules) refused c.abort-in-Err.ensures.aborts)

pub returns-then-count-limit-clause-steps : goal.returns-then-count-limit-clause-steps
returns-then-count-limit-clause-steps g c =
    let k = counts _ _ (opened g (goal.at.returns-then-count-limit-clause-steps g c).After-desc) in
    let back = c.abort.ensures.steps in
    omega arith

pub returns-in-Err-clause-steps : goal.returns-in-Err-clause-steps
returns-in-Err-clause-steps g c =
    let k = counts _ _ (opened g (goal.at.returns-in-Err-clause-steps g c).After-desc) in
    let m = c.in-Err.ensures.samples.local in
    let locks = ap (λ (x : Local). length x.locks.items) m in
    let undo = ap (λ (x : Local). x.undo.len) m in
    let sampled = c.sample_valid.ensures.steps in
    let back = c.abort-in-Err.ensures.steps in
    omega arith
