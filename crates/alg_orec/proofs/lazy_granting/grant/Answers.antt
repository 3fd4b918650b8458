use Rattle.std.proofs.Common.{ℕ, refl, ap, true, rules, ◌∙◌}
use Rattle.stm_model.specs.declared.alg.Alg.TheVariants.{OrecLazy}
use Rattle.rule_base.specs.declared.seats.SeatView.{SeatView}
use Rattle.stm_rule.specs.declared.local.Local.{Local}
use Rattle.stm_rule.specs.Attempts.{emptied, own_of}
use Rattle.stm_answers.specs.declared.answers.Irrev.TheVariants as irrevs
use Rattle.stm_answers.specs.CallerState.{CallerState, known_of}
use Rattle.stm_gate.specs.Granting.{Grants}
use Rattle.stm_gate.proofs.Opening.{opened, stands-after, tells-of}
use Rattle.alg_orec.proofs.Lazy.LazyGrantLaws as laws
use Rattle.alg_orec.proofs.GrantOpening.{can-grant, fence-kept, holds-kept, named-kept}
use Rattle.alg_orec.proofs.lazy_granting.grant.Goals as goal

pub grant_reads-requires-clause-attempt : goal.grant_reads-requires-clause-attempt
grant_reads-requires-clause-attempt g c =
    let a = opened g.K.MemRule.good c.args.stm.now c.desc.inside.number c.desc.inside.local c.desc.view_is refl c.desc.invariant.0.named c.desc.invariant.0.low c.desc.invariant.1 c.requires.stm in
    let can = can-grant g.K.MemRule.good c.args.stm.now a c.requires.running OrecLazy refl c.requires.algorithm c.requires.revocable c.requires.alone in
    laws.may-promote can

pub abort-requires-clause-view : goal.abort-requires-clause-view
abort-requires-clause-view g c =
    let a = opened g.K.MemRule.good c.args.stm.now c.desc.inside.number c.desc.inside.local c.desc.view_is refl c.desc.invariant.0.named c.desc.invariant.0.low c.desc.invariant.1 c.requires.stm in
    let can = can-grant g.K.MemRule.good c.args.stm.now a c.requires.running OrecLazy refl c.requires.algorithm c.requires.revocable c.requires.alone in
    laws.may-abort can c.in-Err.ensures.promotes

pub abort-requires-clause-holds : goal.abort-requires-clause-holds
abort-requires-clause-holds g c =
    let a = opened g.K.MemRule.good c.args.stm.now c.desc.inside.number c.desc.inside.local c.desc.view_is refl c.desc.invariant.0.named c.desc.invariant.0.low c.desc.invariant.1 c.requires.stm in
    let can = can-grant g.K.MemRule.good c.args.stm.now a c.requires.running OrecLazy refl c.requires.algorithm c.requires.revocable c.requires.alone in
    holds-kept can refl c.in-Err.ensures.promotes c.desc.invariant.1.holds

pub abort-requires-clause-named : goal.abort-requires-clause-named
abort-requires-clause-named g c =
    let a = opened g.K.MemRule.good c.args.stm.now c.desc.inside.number c.desc.inside.local c.desc.view_is refl c.desc.invariant.0.named c.desc.invariant.0.low c.desc.invariant.1 c.requires.stm in
    let can = can-grant g.K.MemRule.good c.args.stm.now a c.requires.running OrecLazy refl c.requires.algorithm c.requires.revocable c.requires.alone in
    named-kept can refl c.in-Err.ensures.promotes

pub abort-requires-clause-fence : goal.abort-requires-clause-fence
abort-requires-clause-fence g c =
    let a = opened g.K.MemRule.good c.args.stm.now c.desc.inside.number c.desc.inside.local c.desc.view_is refl c.desc.invariant.0.named c.desc.invariant.0.low c.desc.invariant.1 c.requires.stm in
    let can = can-grant g.K.MemRule.good c.args.stm.now a c.requires.running OrecLazy refl c.requires.algorithm c.requires.revocable c.requires.alone in
    fence-kept can refl c.in-Err.ensures.promotes

pub returns-in-Err-clause-grants : goal.returns-in-Err-clause-grants
returns-in-Err-clause-grants g c =
    let a = opened g.K.MemRule.good c.args.stm.now c.desc.inside.number c.desc.inside.local c.desc.view_is refl c.desc.invariant.0.named c.desc.invariant.0.low c.desc.invariant.1 c.requires.stm in
    let can = can-grant g.K.MemRule.good c.args.stm.now a c.requires.running OrecLazy refl c.requires.algorithm c.requires.revocable c.requires.alone in
    tells-of _ _ a (λ (n : ℕ) (v w : CallerState). Grants (g.K.MemRule.good c.args.stm.now.rule) c.args.stm.now.config n c.in-Err.refusal v w) (known_of c.abort.new.seat.me.0.view (own_of c.abort.new.local))
    (laws.tells-refused can c.in-Err.ensures.promotes _ _ c.abort.ensures.idle c.abort.ensures.gives_up)

pub store_all-requires-clause-view : goal.store_all-requires-clause-view
store_all-requires-clause-view g c =
    let a = opened g.K.MemRule.good c.args.stm.now c.desc.inside.number c.desc.inside.local c.desc.view_is refl c.desc.invariant.0.named c.desc.invariant.0.low c.desc.invariant.1 c.requires.stm in
    let can = can-grant g.K.MemRule.good c.args.stm.now a c.requires.running OrecLazy refl c.requires.algorithm c.requires.revocable c.requires.alone in
    laws.may-store can c.in_default.ensures.promotes

pub returns-clause-grants : goal.returns-clause-grants
returns-clause-grants g c =
    let a = opened g.K.MemRule.good c.args.stm.now c.desc.inside.number c.desc.inside.local c.desc.view_is refl c.desc.invariant.0.named c.desc.invariant.0.low c.desc.invariant.1 c.requires.stm in
    let can = can-grant g.K.MemRule.good c.args.stm.now a c.requires.running OrecLazy refl c.requires.algorithm c.requires.revocable c.requires.alone in
    let m : Local = record c.grant_reads.new.local { writes = c.clear.new.self; granted = true } in
    let whole = (λ j. record c.grant_reads.new.local { writes = c.clear.ensures j; granted = true }) ∙ ap (λ (x : Local). record x { writes = emptied x.writes; granted = true }) c.in_default.ensures.promotes.local in
    tells-of _ _ a (λ (n : ℕ) (v w : CallerState). Grants (g.K.MemRule.good c.args.stm.now.rule) c.args.stm.now.config n irrevs.Granted v w) (known_of c.store_all.new.seat.me.0.view (own_of m))
    (laws.tells-granted can c.in_default.ensures.promotes c.store_all.ensures.stores m whole)

pub invariant_of-desc-2 : goal.invariant_of-desc-2
invariant_of-desc-2 g c =
    let a = opened g.K.MemRule.good c.args.stm.now c.desc.inside.number c.desc.inside.local c.desc.view_is refl c.desc.invariant.0.named c.desc.invariant.0.low c.desc.invariant.1 c.requires.stm in
    let can = can-grant g.K.MemRule.good c.args.stm.now a c.requires.running OrecLazy refl c.requires.algorithm c.requires.revocable c.requires.alone in
    let m : Local = record c.grant_reads.new.local { writes = c.clear.new.self; granted = true } in
    let whole = (λ j. record c.grant_reads.new.local { writes = c.clear.ensures j; granted = true }) ∙ ap (λ (x : Local). record x { writes = emptied x.writes; granted = true }) c.in_default.ensures.promotes.local in
    let who = ap (λ (y : SeatView g.row.K.Denot). y.who) c.store_all.ensures.same.1 ∙ ap (λ (y : SeatView g.row.K.Denot). y.who) c.grant_reads.ensures.same.1 in
    (search rules, stands-after _ _ a c.store_all.new.seat.me.0 m who (laws.stands-promoted can c.in_default.ensures.promotes c.store_all.ensures.stores m whole a.stands))
