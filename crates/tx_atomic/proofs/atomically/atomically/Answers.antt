use Rattle.std.proofs.Common.{ℕ, ◌≡◌, ◌≢◌, ◌∙◌, Bool, true, false, List, rules, refl, leb, ap, sym, subst}
use Rattle.stm_model.specs.declared.config.Config.{Config}
use Rattle.rule_base.specs.declared.views.View.{View}
use Rattle.rule_base.specs.Bridge.{public_history}
use Rattle.stm_rule.specs.Callers.{Handle, IsSameCaller}
use Rattle.stm_answers.specs.CallerState.{CallerState}
use Rattle.stm_tx.specs.Descs.{known, number}
use Rattle.tx_atomic.specs.Attempts.{TookEffect}
use Rattle.tx_atomic.specs.AttemptLaws.{same-number, took-since}
use Rattle.std.specs.Prelude.{Option, Some, None}
use Rattle.tx_atomic.specs.declared.tally.Ended.{Ended}
use Rattle.tx_atomic.specs.declared.tally.Ended.TheVariants.{ClockFull}
use Rattle.tx_atomic.specs.Accounts.{Account, account, ended_in}
use Rattle.tx_atomic.specs.Extends.{Extends}
use Rattle.tx_atomic.specs.ExtendsLaws.{extends-refl, extends-trans, grows-extends, lengthens-extends}
use Rattle.tx_atomic.specs.Tallies.{failed_after}
use Rattle.tx_atomic.specs.Tries.{Failing, Prepares, Tried}
use Rattle.tx_atomic.specs.TryLaws.{failing-none, failing-more, ran, tried-full, full-earlier}
use Rattle.tx_atomic.proofs.atomically.atomically.Goals as goal

pub returns-in-Ok-clause-ran : goal.returns-in-Ok-clause-ran
returns-in-Ok-clause-ran g c =
    let stm = c.args.stm.now in
    let good = g.K.MemRule.good stm.rule in
    let n = number c.args.desc.now in
    let u = known c.args.desc.now in
    let s = (account g.O.Observer.heard c.args.pace.now) in
    let ran = ran good stm.config n g.O.Observer.hears 0 false None u u (known c.attempt.new.desc) s s (account g.O.Observer.heard c.attempt.new.pace) refl (failing-none good stm.config n g.O.Observer.hears u s) c.in-Ok.ensures.tried in
    search (rules, ran)

pub loop-init : goal.loop-init
loop-init g c =
    let stm = c.args.stm.now in
    let good = g.K.MemRule.good stm.rule in
    let n = number c.args.desc.now in
    let u = known c.args.desc.now in
    let s = (account g.O.Observer.heard c.args.pace.now) in
    let failing : (v : CallerState) × (r : Account g.O.Observer.Heard) × Extends u v × Failing good stm.config n g.O.Observer.hears 0 u v s r
    × Tried good stm.config n g.O.Observer.hears (leb 16 0) (Some c.attempt.new.pace.last) v (known c.attempt.new.desc) r (account g.O.Observer.heard c.attempt.new.pace) =
    (u, s, extends-refl u, failing-none good stm.config n g.O.Observer.hears u s, c.in_default.ensures.tried) in
    let grew = grows-extends u (known c.attempt.new.desc) c.attempt.ensures.grew in
    search (rules, grew, failing)

-- the attempts that failed, with the last of them counted, and what was done after it
failed_so : {H : Type 0} (hears : Ended → Option ℕ → H → H) (good : List ℕ → Type 0) (config : Config) (n failed failed' : ℕ) (e : Ended) (u v w : CallerState)
    (s t t' : Account H) → e ≢ ClockFull → t' ≡ ended_in (Some e) t
    → (lengthened : Bool) × Prepares t.most lengthened (Some e) v w × (failed' ≡ failed_after lengthened failed e)
    → (x : CallerState) × (r : Account H) × Extends u x × Failing good config n hears failed u x s r × Tried good config n hears (leb 16 failed) (Some e) x v r t
    → Failing good config n hears failed' u w s t'
failed_so {H} hears good config n failed failed' e u v w s t t' apart noted' p h =
    subst (λ (q : Account H). Failing good config n hears failed' u w s q) (sym noted')
    (failing-more good config n hears failed failed' (leb 16 failed) p.0 e u h.0 v w s h.1 t apart refl p.2 h.3 h.4 p.1)

-- what was known before is known
prepared : (most : ℕ) (b : Bool) (o : Option Ended) (u v w : CallerState) → Extends u v → Prepares most b o v w → Extends u w
prepared most true o u v w grew p = extends-trans u v w grew (lengthens-extends most v w p.1)
prepared most false o u v w grew p = subst (Extends u) (sym p) grew

same-through : {K : Type 0} (d e f : Handle K) → IsSameCaller d e → IsSameCaller e f → IsSameCaller d f
same-through d e f a b = record { table = b.table ∙ a.table; who = b.who ∙ a.who }

pub loop-preserved : goal.loop-preserved
loop-preserved g c =
    let stm = c.args.stm.now in
    let good = g.K.MemRule.good stm.rule in
    let n = number c.args.desc.now in
    let u = known c.args.desc.now in
    let v = known c.prepare-failed.new.desc in
    let w = known c.attempt-in-loop.new.desc in
    let s = (account g.O.Observer.heard c.args.pace.now) in
    let r = (account g.O.Observer.heard c.prepare-failed.new.pace) in
    let inv = c.loop.invariant in
    let p = c.prepare-failed.ensures.prepares in
    let failed = c.prepare-failed.result in
    let last = c.attempt-in-loop.new.pace.last in
    let went = prepared c.loop.pace.growth.most p.0 (Some c.loop.pace.last) u (known c.loop.desc) v inv.grew p.1 in
    let grew = extends-trans u v w went (grows-extends v w c.attempt-in-loop.ensures.grew) in
    let before = failed_so g.O.Observer.hears good stm.config n c.loop.failed failed c.loop.pace.last u (known c.loop.desc) v s (account g.O.Observer.heard c.loop.pace) r c.in_default-last.not-ClockFull c.prepare-failed.ensures.noted p inv.failing in
    let tried = subst (λ m. Tried good stm.config m g.O.Observer.hears (leb 16 failed) (Some last) v w r (account g.O.Observer.heard c.attempt-in-loop.new.pace)) (same-number c.args.desc.now c.prepare-failed.new.desc (same-through c.args.desc.now c.loop.desc c.prepare-failed.new.desc c.loop.invariant.same c.prepare-failed.ensures.same)) c.in_default-attempt.ensures.tried in
    let failing : (x : CallerState) × (q : Account g.O.Observer.Heard) × Extends u x × Failing good stm.config n g.O.Observer.hears failed u x s q
    × Tried good stm.config n g.O.Observer.hears (leb 16 failed) (Some last) x w q (account g.O.Observer.heard c.attempt-in-loop.new.pace) =
    (v, r, went, before, tried) in
    search (rules, grew, failing)

pub returns-in-Ok-attempt-clause-ran : goal.returns-in-Ok-attempt-clause-ran
returns-in-Ok-attempt-clause-ran g c =
    let stm = c.args.stm.now in
    let good = g.K.MemRule.good stm.rule in
    let n = number c.args.desc.now in
    let u = known c.args.desc.now in
    let v = known c.prepare-failed.new.desc in
    let w = known c.attempt-in-loop.new.desc in
    let s = (account g.O.Observer.heard c.args.pace.now) in
    let r = (account g.O.Observer.heard c.prepare-failed.new.pace) in
    let t = (account g.O.Observer.heard c.attempt-in-loop.new.pace) in
    let inv = c.loop.invariant in
    let failed = c.prepare-failed.result in
    let before = failed_so g.O.Observer.hears good stm.config n c.loop.failed failed c.loop.pace.last u (known c.loop.desc) v s (account g.O.Observer.heard c.loop.pace) r c.in_default-last.not-ClockFull c.prepare-failed.ensures.noted c.prepare-failed.ensures.prepares inv.failing in
    let tried = subst (λ m. Tried good stm.config m g.O.Observer.hears (leb 16 failed) None v w r t) (same-number c.args.desc.now c.prepare-failed.new.desc (same-through c.args.desc.now c.loop.desc c.prepare-failed.new.desc c.loop.invariant.same c.prepare-failed.ensures.same)) c.in-Ok-attempt.ensures.tried in
    let ran = ran good stm.config n g.O.Observer.hears failed (leb 16 failed) None u v w s r t refl before tried in
    search (rules, ran)

pub returns-in-ClockFull-clause-gave_up : goal.returns-in-ClockFull-clause-gave_up
returns-in-ClockFull-clause-gave_up g c =
    let stm = c.args.stm.now in
    let good = g.K.MemRule.good stm.rule in
    let n = number c.args.desc.now in
    let w = known c.loop.desc in
    let h = c.loop.invariant.failing in
    let tried = subst (λ e. Tried good stm.config n g.O.Observer.hears (leb 16 c.loop.failed) (Some e) h.0 w h.1 (account g.O.Observer.heard c.loop.pace)) c.in-ClockFull.is h.4 in
    let ran = ran good stm.config n g.O.Observer.hears c.loop.failed (leb 16 c.loop.failed) (Some ClockFull) (known c.args.desc.now) h.0 w
    (account g.O.Observer.heard c.args.pace.now) h.1 (account g.O.Observer.heard c.loop.pace) refl h.3 tried in
    search (rules, ran)

pub returns-in-ClockFull-clause-full : goal.returns-in-ClockFull-clause-full
returns-in-ClockFull-clause-full g c =
    let stm = c.args.stm.now in
    let good = g.K.MemRule.good stm.rule in
    let n = number c.args.desc.now in
    let w = known c.loop.desc in
    let h = c.loop.invariant.failing in
    let tried = subst (λ e. Tried good stm.config n g.O.Observer.hears (leb 16 c.loop.failed) (Some e) h.0 w h.1 (account g.O.Observer.heard c.loop.pace)) c.in-ClockFull.is h.4 in
    let found = tried-full good stm.config n g.O.Observer.hears (leb 16 c.loop.failed) h.1 (account g.O.Observer.heard c.loop.pace) h.0 w tried in
    (found.0, full-earlier found.0 (known c.args.desc.now) h.0 w h.2 found.1)

pub returns-in-Ok-attempt-clause-grew : goal.returns-in-Ok-attempt-clause-grew
returns-in-Ok-attempt-clause-grew g c =
    let u = known c.args.desc.now in
    let v = known c.prepare-failed.new.desc in
    let p = c.prepare-failed.ensures.prepares in
    let went = prepared c.loop.pace.growth.most p.0 (Some c.loop.pace.last) u (known c.loop.desc) v c.loop.invariant.grew p.1 in
    extends-trans u v (known c.attempt-in-loop.new.desc) went (grows-extends v (known c.attempt-in-loop.new.desc) c.attempt-in-loop.ensures.grew)

pub returns-in-Ok-attempt-clause-took : goal.returns-in-Ok-attempt-clause-took
returns-in-Ok-attempt-clause-took g c =
    let stm = c.args.stm.now in
    let good = g.K.MemRule.good stm.rule in
    let inv = c.loop.invariant in
    let u = known c.args.desc.now in
    let v = known c.prepare-failed.new.desc in
    let w = known c.attempt-in-loop.new.desc in
    let p = c.prepare-failed.ensures.prepares in
    let went = prepared c.loop.pace.growth.most p.0 (Some c.loop.pace.last) u (known c.loop.desc) v inv.grew p.1 in
    let postcondition = g.T.Transaction.postcondition c.args.transaction.now stm.rule stm.config.words c.in-Ok-attempt.output in
    let now = subst (λ n. TookEffect good stm.config n postcondition v.front v w) (same-number c.args.desc.now c.prepare-failed.new.desc (same-through c.args.desc.now c.loop.desc c.prepare-failed.new.desc c.loop.invariant.same c.prepare-failed.ensures.same)) c.in-Ok-attempt.ensures.took in
    took-since good stm.config (number c.args.desc.now) postcondition v.front u.front u v w (ap (λ (x : View). public_history x.history.made) c.prepare-failed.ensures.view ∙ inv.made) went went.front_rose now
