use Rattle.std.proofs.Common.{ℕ, rules}
use Rattle.rule_base.specs.declared.views.View.{View}
use Rattle.rule_orec.specs.OrecSteps.{orec_own_load, OrecOwnLoads}
use Rattle.stm_rule.specs.Attempts.{own_of}
use Rattle.stm_rule.specs.Callers.{handle_of}
use Rattle.stm_rule.specs.Kept.{good_of}
use Rattle.stm_rule.proofs.StandLemmas.{tells-of}
use Rattle.stm_gate.proofs.Opening.{of-view, of-seen}
use Rattle.alg_orec.proofs.Eager.EagerLaws as eager
use Rattle.alg_orec.proofs.Eager.EagerOpening.{EagerOpening, answers-read, opens-eager, stays-read}
use Rattle.alg_orec.proofs.RecordOpening.{place-here}
use Rattle.alg_orec.proofs.Eager.EagerReadLaws as laws
use Rattle.alg_orec.proofs.Eager.EagerTakingLaws as taking
use Rattle.alg_orec.specs.EagerReading.{IsNew, HoldsRecord}
use Rattle.alg_orec.specs.EagerTaking.{CanLoadWord}
use Rattle.alg_orec.specs.Loading.{HasLoaded}
use Rattle.alg_orec.proofs.orec_eager.read_held.Goals.{After-desc, After-own_load-x}
use Rattle.alg_orec.proofs.orec_eager.read_held.Goals as goal

opened : (g : _) (c : After-desc g) → EagerOpening g.K.MemRule.good c.args.stm.now c.args.desc.now c.desc.inside.seat.me c.desc.inside.number c.desc.inside.local
opened g c =
    opens-eager g.K.MemRule.good c.args.stm.now c.desc.inside.number c.desc.inside.local c.desc.inside.seat.me
    (handle_of c.desc.inside.seat (own_of c.desc.inside.local)) c.desc.view_is c.desc.invariant.0 c.desc.invariant.1 c.requires.stm
    c.requires.running c.requires.algorithm c.requires.revocable

fresh : (g : _) (c : After-desc g) → laws.IsUnread c.desc.inside.local c.args.a
fresh g c = laws.unread-new _ _ _ _ _ (opened g c).runs c.args.a (of-view _ _ (opened g c).call.opening (λ n v. IsNew c.args.a v) c.requires.fresh)

may-load : (g : _) (c : After-desc g) → CanLoadWord c.args.stm.now.config c.args.a c.desc.inside.local c.desc.inside.seat.me.0.view
may-load g c = eager.may-load _ _ _ _ _ (opened g c).runs c.args.a c.requires.inside (fresh g c).unwritten

loaded : (g : _) (c : After-own_load-x g) → CanLoadWord c.args.stm.now.config c.args.a c.desc.inside.local c.desc.inside.seat.me.0.view
    → HasLoaded (good_of g.K.MemRule.good c.args.stm.now.config c.args.stm.now.rule) c.args.stm.now.config c.desc.inside.number c.args.a
    c.own_load-x.result c.desc.inside.local c.desc.inside.seat.me.0.view c.desc.inside.local c.own_load-x.new.seat.me.0.view
loaded g c can =
    let rule = good_of g.K.MemRule.good c.args.stm.now.config c.args.stm.now.rule in
    taking.loads-own rule _ c.desc.inside.number c.args.a _ _ can _ _ (tells-of (orec_own_load c.args.a) (OrecOwnLoads rule c.args.stm.now.config c.args.a) _ _ _ c.own_load-x.ensures.step)

pub own_load-x-requires-clause-view : goal.own_load-x-requires-clause-view
own_load-x-requires-clause-view g c =
    let at = (goal.at.own_load-x-requires-clause-view g c).After-desc in
    taking.may-own_load (good_of g.K.MemRule.good c.args.stm.now.config c.args.stm.now.rule) _ c.desc.inside.number _ _ _ (may-load g at)
    (of-seen _ _ (opened g at).call.opening (λ (n : ℕ) (v : View). HoldsRecord c.args.stm.now.config c.args.a v) c.requires.held)

pub push_at-requires-clause-place : goal.push_at-requires-clause-place
push_at-requires-clause-place g c =
    let o = opened g (goal.at.push_at-requires-clause-place g c).After-desc in
    place-here _ _ o.call c.args.a c.args.place c.requires.place

pub push_at-requires-clause-new : goal.push_at-requires-clause-new
push_at-requires-clause-new g c = (fresh g (goal.at.push_at-requires-clause-new g c).After-desc).unread

pub push_at-requires-clause-room : goal.push_at-requires-clause-room
push_at-requires-clause-room g c = (fresh g (goal.at.push_at-requires-clause-room g c).After-desc).room

pub invariant_of-desc : goal.invariant_of-desc
invariant_of-desc g c =
    let at = goal.at.invariant_of-desc g c in
    let first = at.After-desc in
    stays-read _ _ (opened g first) c.args.a _ c.own_load-x.new.seat.me _ c.requires.inside (fresh g first) c.push_at.ensures
    (loaded g at.After-own_load-x (may-load g first)) c.own_load-x.ensures.step.3 c.own_load-x.ensures.same.2

pub returns-clause-read : goal.returns-clause-read
returns-clause-read g c =
    let at = goal.at.returns-clause-read g c in
    let first = at.After-desc in
    answers-read _ _ (opened g first) c.args.a _ c.own_load-x.new.seat.me _ c.requires.inside (fresh g first) c.push_at.ensures (loaded g at.After-own_load-x (may-load g first)) (search rules)
