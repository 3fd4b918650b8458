use Rattle.std.proofs.Common.{ℕ, List, ◌≡◌, ◌≢◌, ◌*◌, [], ◌∷◌, ◌++◌, length, subst, sym, ap, rules, ◌∙◌, arith}
use Rattle.std.specs.Prelude.{None}
use Rattle.stm_model.specs.Memories.{item_at}
use Rattle.rule_base.specs.declared.entries.Cell.{Cell}
use Rattle.rule_base.specs.declared.views.View.{View}
use Rattle.rule_base.specs.Bridge.{items}
use Rattle.stm_rule.specs.declared.local.Local.{Local}
use Rattle.stm_rule.specs.Attempts.{own_of}
use Rattle.stm_rule.specs.Callers.{handle_of}
use Rattle.stm_answers.specs.declared.answers.Read.TheVariants as reads
use Rattle.stm_answers.specs.Answers.{HasRead}
use Rattle.stm_answers.specs.CallerState.{CallerState}
use Rattle.stm_gate.specs.Knowing.{known}
use Rattle.stm_gate.proofs.Opening.{shows}
use Rattle.stm_logs.specs.LogStates.{LogState}
use Rattle.stm_logs.specs.Probing.{IsPlace}
use Rattle.alg_orec.proofs.Lazy.LazyLaws as laws
use Rattle.alg_orec.proofs.Lazy.LazyOpening.{LazyOpening, opens-lazy}
use Rattle.alg_orec.proofs.ReadCalls.{own-read}
use Rattle.alg_orec.proofs.RecordOpening.{answers-ended, answers-moved, place-here, stays-tied, unread, unwritten}
use Rattle.alg_orec.proofs.orec_lazy.first_read.Goals.{After-desc}
use Rattle.alg_orec.proofs.orec_lazy.first_read.Goals as goal

opened : (g : _) (c : After-desc g) → LazyOpening g.K.MemRule.good c.args.stm.now c.args.desc.now c.desc.inside.seat.me c.desc.inside.number c.desc.inside.local
opened g c =
    opens-lazy g.K.MemRule.good c.args.stm.now c.desc.inside.number c.desc.inside.local c.desc.inside.seat.me
    (handle_of c.desc.inside.seat (own_of c.desc.inside.local)) c.desc.view_is c.desc.invariant.0 c.desc.invariant.1 c.requires.stm
    c.requires.running c.requires.algorithm c.requires.revocable

not-written : (g : _) (c : After-desc g) → item_at c.args.a c.desc.inside.local.writes.items ≡ None
not-written g c = unwritten _ _ (opened g c).call c.args.a c.requires.unwritten

not-read : (g : _) (c : After-desc g) → item_at c.args.a c.desc.inside.local.reads.items ≡ None
not-read g c = unread _ _ (opened g c).call c.args.a c.requires.unread

-- what bounds its steps: it holds no record
counts : (g : _) (c : After-desc g)
    → (length c.desc.inside.seat.me.0.view.steps.step_trace ≡ length (known c.args.desc.now).step_trace)
    × (c.desc.inside.local.reads.len ≡ (known c.args.desc.now).reads_limit) × (length c.desc.inside.local.locks.items ≡ 0)
counts g c =
    let o = opened g c in
    let knows = o.call.opening.knows in (
      ap (λ (k : CallerState). length k.step_trace) (sym knows),
      ap (λ (k : CallerState). k.reads_limit) (sym knows),
      ap length o.kept.locks ∙ ap (λ (cs : List Cell). length (items cs)) (o.kept.open_handed o.quiet),
    )

-- the log with the read: only the start moved before
logged : (l m : Local) (a x : ℕ) (log : LogState) → m ≡ record l { start = m.start }
    → log ≡ record m.reads { items = m.reads.items ++ (a, x) ∷ [] } → log ≡ record l.reads { items = l.reads.items ++ (a, x) ∷ [] }
logged l m a x log moved is = is ∙ ap (λ (q : Local). record q.reads { items = q.reads.items ++ (a, x) ∷ [] }) moved

pub returns-then-count-limit-clause-read : goal.returns-then-count-limit-clause-read
returns-then-count-limit-clause-read g c =
    let at = (goal.at.returns-then-count-limit-clause-read g c).After-desc in
    let o = opened g at in
    answers-ended _ _ o.call
    (λ (n : ℕ) (v w : CallerState).
    HasRead (g.K.MemRule.good c.args.stm.now.rule) c.args.stm.now.config n c.args.a (reads.Full c.len-limit.result) v w)
    c.abort.new.seat.me.0.view _ c.abort.ensures.idle
    (rw c.len-limit.ensures (laws.reads-full _ _ _ _ _ o.inside o.lazy o.plain o.quiet o.kept c.args.a _ (not-written g at) (not-read g at) (search rules) c.abort.ensures.gives_up))

pub push_at-requires-clause-place : goal.push_at-requires-clause-place
push_at-requires-clause-place g c =
    let o = opened g (goal.at.push_at-requires-clause-place g c).After-desc in
    subst (λ (q : Local). IsPlace (2 * q.reads.len) q.reads.items c.args.a c.args.place) (sym c.in-Ok.ensures.loads.local) (place-here _ _ o.call c.args.a c.args.place c.requires.place)

pub push_at-requires-clause-new : goal.push_at-requires-clause-new
push_at-requires-clause-new g c =
    ap (λ (q : Local). item_at c.args.a q.reads.items) c.in-Ok.ensures.loads.local ∙ not-read g (goal.at.push_at-requires-clause-new g c).After-desc

pub push_at-requires-clause-room : goal.push_at-requires-clause-room
push_at-requires-clause-room g c =
    let room : length c.desc.inside.local.reads.items ≢ c.desc.inside.local.reads.len = search rules in
    subst (λ (q : Local). length q.reads.items ≢ q.reads.len) (sym c.in-Ok.ensures.loads.local) room

pub invariant_of-desc-in-Ok : goal.invariant_of-desc-in-Ok
invariant_of-desc-in-Ok g c =
    let at = goal.at.invariant_of-desc-in-Ok g c in
    let o = opened g at.After-desc in
    let loaded = c.in-Ok.ensures.loads in
    let m = c.load_valid.new.local in
    let lengths = o.call.opening.stands.lengths in
    let undo = ap (λ (y : Local). y.undo.len) loaded.local in
    let locks = ap (λ (y : Local). y.locks.len) loaded.local in
    stays-tied _ _ o.call (record m { reads = c.push_at.new.self }) c.load_valid.new.seat.me c.load_valid.ensures.same.1 c.load_valid.ensures.same.0.2
    (ap (λ (y : Local). y.running) loaded.local) (ap (λ (y : Local). y.holds) loaded.local)
    (ap (λ (y : Local). y.writes.len) loaded.local ∙ (lengths.0 ∙ sym undo), (let r = lengths.1 in omega arith)) (ap (λ (y : View). y.gate.holds) loaded.is)
    (laws.stays-read _ _ _ _ _ o.inside o.lazy o.plain o.quiet o.kept c.args.a c.in-Ok.x m c.load_valid.new.seat.me.0.view c.push_at.new.self c.requires.inside
    (not-read g at.After-desc) (logged c.desc.inside.local m c.args.a c.in-Ok.x _ loaded.local c.push_at.ensures) loaded)

pub returns-in-Ok-clause-read : goal.returns-in-Ok-clause-read
returns-in-Ok-clause-read g c =
    let at = goal.at.returns-in-Ok-clause-read g c in
    let o = opened g at.After-desc in
    let loaded = c.in-Ok.ensures.loads in
    shows _ _ o.call.opening
    (λ (n : ℕ) (v w : CallerState).
    HasRead (g.K.MemRule.good c.args.stm.now.rule) c.args.stm.now.config n c.args.a (reads.Value c.in-Ok.x) v w)
    c.load_valid.new.seat.me.0.view (record c.load_valid.new.local { reads = c.push_at.new.self }) (own-read c.desc.inside.local c.load_valid.new.local c.args.a c.in-Ok.x c.push_at.new.self loaded.local (logged c.desc.inside.local c.load_valid.new.local c.args.a c.in-Ok.x _ loaded.local c.push_at.ensures))
    (laws.reads-new _ _ _ _ _ o.inside o.lazy o.plain o.quiet o.kept c.args.a c.in-Ok.x c.load_valid.new.local c.load_valid.new.seat.me.0.view (search rules) c.requires.inside
    (not-written g at.After-desc) (not-read g at.After-desc) (search rules) loaded)

pub returns-in-Err-clause-read : goal.returns-in-Err-clause-read
returns-in-Err-clause-read g c =
    let at = (goal.at.returns-in-Err-clause-read g c).After-desc in
    let o = opened g at in
    let refused = c.in-Err.ensures.loads in
    answers-moved _ _ o.call
    (λ (n : ℕ) (v w : CallerState).
    HasRead (g.K.MemRule.good c.args.stm.now.rule) c.args.stm.now.config n c.args.a (reads.Conflict c.in-Err.cause) v w)
    c.load_valid.new.local c.abort-in-Err.new.seat.me.0.view _ refused.local c.abort-in-Err.ensures.idle
    (laws.reads-refused _ _ _ _ _ o.inside o.lazy o.plain o.quiet o.kept c.args.a c.in-Err.cause c.load_valid.new.local c.load_valid.new.seat.me.0.view _
    (not-written g at) (not-read g at) (search rules) refused c.abort-in-Err.ensures.gives_up)

pub returns-then-count-limit-clause-steps : goal.returns-then-count-limit-clause-steps
returns-then-count-limit-clause-steps g c =
    let k = counts g (goal.at.returns-then-count-limit-clause-steps g c).After-desc in
    let few = c.abort.ensures.steps in
    omega arith

pub returns-in-Err-clause-steps : goal.returns-in-Err-clause-steps
returns-in-Err-clause-steps g c =
    let k = counts g (goal.at.returns-in-Err-clause-steps g c).After-desc in
    let same = ap (λ (x : Local). length x.locks.items) c.in-Err.ensures.loads.local in
    let loaded = c.load_valid.ensures.steps in
    let few = c.abort-in-Err.ensures.steps in
    omega arith
