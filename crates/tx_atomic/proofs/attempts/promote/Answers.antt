use Rattle.std.proofs.Common.{ℕ, suc, ◌≡◌, ◌∙◌, List, rules, true, refl, ap, sym, subst}
use Rattle.std.specs.Prelude.{Option, Some, None}
use Rattle.stm_model.specs.declared.config.Config.{Config}
use Rattle.stm_answers.specs.CallerStateLaws.{carries-refl}
use Rattle.stm_tx.specs.Descs.{known, number}
use Rattle.tx_atomic.specs.AttemptLaws.{same-number, still-revocable, cancels-grow, cancels-idle, cancels-made, irrevs-grow}
use Rattle.stm_answers.specs.declared.answers.Irrev.TheVariants as grants
use Rattle.stm_answers.specs.Answers.{Irrevs}
use Rattle.stm_answers.specs.CallerState.{CallerState}
use Rattle.tx_atomic.specs.declared.tally.Ended.{Ended}
use Rattle.tx_atomic.specs.declared.tally.Ended.TheVariants as ends
use Rattle.tx_atomic.specs.declared.tally.Ended.TheVariants.{Busy}
use Rattle.tx_atomic.specs.Accounts.{Account, account, ended_in, met, met_times, promoted_in, told}
use Rattle.tx_atomic.specs.Tries.{FindsBusy, EndsPromotion, Asks}
use Rattle.tx_atomic.specs.TryLaws.{busy-more, grant-taken, grant-full}
use Rattle.tx_atomic.proofs.attempts.promote.Goals as goal

pub returns-in-Taken-clause-over : goal.returns-in-Taken-clause-over
returns-in-Taken-clause-over g c =
    let stm = c.args.stm.now in
    let v = known c.try_irrevocable.new.desc in
    let waits = c.in-Taken.ensures.irrevs.0 in
    let revocable = still-revocable (known c.loop.desc) v waits.continues.alg waits.granted waits.log waits.revocable in
    cancels-idle (g.K.MemRule.good stm.rule) stm.config (number c.try_irrevocable.new.desc) c.cancel.result v (known c.cancel.new.desc) revocable c.cancel.ensures.cancels

pub returns-in-Taken-clause-made : goal.returns-in-Taken-clause-made
returns-in-Taken-clause-made g c =
    let stm = c.args.stm.now in
    cancels-made (g.K.MemRule.good stm.rule) stm.config (number c.try_irrevocable.new.desc) c.cancel.result
    (known c.try_irrevocable.new.desc) (known c.cancel.new.desc) c.cancel.ensures.cancels
    ∙ (c.in-Taken.ensures.irrevs.0.continues.made ∙ c.loop.invariant.made)

pub loop-init : goal.loop-init
loop-init g c =
    let grew = (carries-refl (known c.args.desc.now)).grows in
    let busy : (k : ℕ) × FindsBusy (g.K.MemRule.good c.args.stm.now.rule) c.args.stm.now.config (number c.args.desc.now) k
    (known c.args.desc.now) (known c.args.desc.now) × (account g.O.Observer.heard c.args.pace.now ≡ met_times g.O.Observer.hears k Busy (account g.O.Observer.heard c.args.pace.now)) =
    (0, refl, refl) in
    search (rules, grew, busy)

pub loop-preserved : goal.loop-preserved
loop-preserved g c =
    let stm = c.args.stm.now in
    let good = g.K.MemRule.good stm.rule in
    let n = number c.args.desc.now in
    let u = known c.args.desc.now in
    let v = known c.loop.desc in
    let w = known c.try_irrevocable.new.desc in
    let inv = c.loop.invariant in
    let grew = irrevs-grow good stm.config (number c.loop.desc) c.try_irrevocable.result u v w inv.grew c.try_irrevocable.ensures.irrevs in
    let waits = c.in-Busy.ensures.irrevs.0 in
    let more = busy-more good stm.config n inv.busy.0 (number c.loop.desc) c.try_irrevocable.result _ _ u v w (same-number c.args.desc.now c.loop.desc inv.same) inv.busy.1 c.in-Busy.is c.try_irrevocable.ensures.irrevs in
    let met = ap (met g.O.Observer.hears Busy) inv.busy.2 in
    let tells = ap (ended_in (Some Busy)) c.tell.ensures in
    let busy : (k : ℕ) × FindsBusy good stm.config n k u w × (account g.O.Observer.heard c.wait.new.self ≡ met_times g.O.Observer.hears k Busy (account g.O.Observer.heard c.args.pace.now)) =
    (suc inv.busy.0, more, c.wait.ensures.noted ∙ (tells ∙ met)) in
    search (rules, grew, waits, busy)

-- what came of the calls, and the last of them, which the pacing keeps
asks : {H : Type 0} (hears : Ended → Option ℕ → H → H) (good : List ℕ → Type 0) (config : Config) (n m : ℕ) (e last : Ended) (u v w : CallerState)
    (s t t' : Account H) → last ≡ e → t' ≡ told hears (Some e) None t → m ≡ n
    → (k : ℕ) × FindsBusy good config n k u v × (t ≡ met_times hears k Busy s) → EndsPromotion good config m e v w
    → Asks good config n hears (Some last) u w s t'
asks hears good config n m e last u v w s t t' is told' same busy h =
    subst (λ (d : Ended). Asks good config n hears (Some d) u w s t') (sym is)
    (record {
      busy = busy.0;
      asked = v;
      waits = busy.1;
      last = subst (λ i. EndsPromotion good config i e v w) same h;
      counted = told' ∙ ap (told hears (Some e) None) busy.2;
    })

pub returns-in-Granted-clause-asks : goal.returns-in-Granted-clause-asks
returns-in-Granted-clause-asks g c =
    let stm = c.args.stm.now in
    let good = g.K.MemRule.good stm.rule in
    let inv = c.loop.invariant in
    let v = known c.loop.desc in
    let w = known c.try_irrevocable.new.desc in
    record {
      busy = inv.busy.0;
      asked = v;
      waits = inv.busy.1;
      last = subst (λ i. Irrevs good stm.config i grants.Granted v w) (same-number c.args.desc.now c.loop.desc inv.same) c.in-Granted.ensures.irrevs;
      counted = c.promote.ensures ∙ ap (promoted_in true) inv.busy.2;
    }

pub returns-in-Taken-clause-asks : goal.returns-in-Taken-clause-asks
returns-in-Taken-clause-asks g c =
    let stm = c.args.stm.now in
    let good = g.K.MemRule.good stm.rule in
    let v = known c.try_irrevocable.new.desc in
    let left = cancels-grow good stm.config (number c.try_irrevocable.new.desc) c.cancel.result v v (known c.cancel.new.desc) (carries-refl v).grows c.cancel.ensures.cancels in
    asks g.O.Observer.hears good stm.config (number c.args.desc.now) (number c.loop.desc) ends.Taken c.refuse.new.self.last (known c.args.desc.now)
    (known c.loop.desc) (known c.cancel.new.desc) (account g.O.Observer.heard c.args.pace.now) (account g.O.Observer.heard c.loop.pace) (account g.O.Observer.heard c.refuse.new.self) c.refuse.ensures.last
    c.refuse.ensures.told (same-number c.args.desc.now c.loop.desc c.loop.invariant.same) c.loop.invariant.busy
    (grant-taken good stm.config (number c.loop.desc) c.try_irrevocable.result _ (known c.loop.desc) v (known c.cancel.new.desc)
    c.in-Taken.is c.try_irrevocable.ensures.irrevs left)

pub returns-in-Conflict-clause-asks : goal.returns-in-Conflict-clause-asks
returns-in-Conflict-clause-asks g c =
    let stm = c.args.stm.now in
    asks g.O.Observer.hears (g.K.MemRule.good stm.rule) stm.config (number c.args.desc.now) (number c.loop.desc) (ends.Conflict c.in-Conflict.cause)
    c.refuse-in-Conflict.new.self.last (known c.args.desc.now) (known c.loop.desc) (known c.try_irrevocable.new.desc) (account g.O.Observer.heard c.args.pace.now)
    (account g.O.Observer.heard c.loop.pace) (account g.O.Observer.heard c.refuse-in-Conflict.new.self) c.refuse-in-Conflict.ensures.last c.refuse-in-Conflict.ensures.told
    (same-number c.args.desc.now c.loop.desc c.loop.invariant.same) c.loop.invariant.busy c.in-Conflict.ensures.irrevs

pub returns-in-ClockFull-clause-asks : goal.returns-in-ClockFull-clause-asks
returns-in-ClockFull-clause-asks g c =
    let stm = c.args.stm.now in
    asks g.O.Observer.hears (g.K.MemRule.good stm.rule) stm.config (number c.args.desc.now) (number c.loop.desc) ends.ClockFull
    c.refuse-in-ClockFull.new.self.last (known c.args.desc.now) (known c.loop.desc) (known c.try_irrevocable.new.desc) (account g.O.Observer.heard c.args.pace.now)
    (account g.O.Observer.heard c.loop.pace) (account g.O.Observer.heard c.refuse-in-ClockFull.new.self) c.refuse-in-ClockFull.ensures.last c.refuse-in-ClockFull.ensures.told
    (same-number c.args.desc.now c.loop.desc c.loop.invariant.same) c.loop.invariant.busy
    (grant-full (g.K.MemRule.good stm.rule) stm.config (number c.loop.desc) c.try_irrevocable.result _ (known c.loop.desc)
    (known c.try_irrevocable.new.desc) c.in-ClockFull.is c.try_irrevocable.ensures.irrevs)

pub returns-in-Granted-clause-grew : goal.returns-in-Granted-clause-grew
returns-in-Granted-clause-grew g c =
    irrevs-grow (g.K.MemRule.good c.args.stm.now.rule) c.args.stm.now.config (number c.loop.desc) c.try_irrevocable.result
    (known c.args.desc.now) (known c.loop.desc) (known c.try_irrevocable.new.desc) c.loop.invariant.grew c.try_irrevocable.ensures.irrevs

pub returns-in-Taken-clause-grew : goal.returns-in-Taken-clause-grew
returns-in-Taken-clause-grew g c =
    let grew = irrevs-grow (g.K.MemRule.good c.args.stm.now.rule) c.args.stm.now.config (number c.loop.desc) c.try_irrevocable.result
    (known c.args.desc.now) (known c.loop.desc) (known c.try_irrevocable.new.desc) c.loop.invariant.grew c.try_irrevocable.ensures.irrevs in
    cancels-grow (g.K.MemRule.good c.args.stm.now.rule) c.args.stm.now.config (number c.try_irrevocable.new.desc) c.cancel.result
    (known c.args.desc.now) (known c.try_irrevocable.new.desc) (known c.cancel.new.desc) grew c.cancel.ensures.cancels

pub returns-in-Conflict-clause-grew : goal.returns-in-Conflict-clause-grew
returns-in-Conflict-clause-grew g c =
    irrevs-grow (g.K.MemRule.good c.args.stm.now.rule) c.args.stm.now.config (number c.loop.desc) c.try_irrevocable.result
    (known c.args.desc.now) (known c.loop.desc) (known c.try_irrevocable.new.desc) c.loop.invariant.grew c.try_irrevocable.ensures.irrevs

pub returns-in-ClockFull-clause-grew : goal.returns-in-ClockFull-clause-grew
returns-in-ClockFull-clause-grew g c =
    irrevs-grow (g.K.MemRule.good c.args.stm.now.rule) c.args.stm.now.config (number c.loop.desc) c.try_irrevocable.result
    (known c.args.desc.now) (known c.loop.desc) (known c.try_irrevocable.new.desc) c.loop.invariant.grew c.try_irrevocable.ensures.irrevs
