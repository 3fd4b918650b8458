use Rattle.stm_tx.specs.Descs.{known, number}
use Rattle.std.proofs.Common.{ℕ, ◌≡◌, ◌≢◌, List, Bool, true, false, sym, subst}
use Rattle.std.specs.Prelude.{◌==◌, ◌&&◌, not, if◌then◌else◌, Option, Some, None, is_some}
use Rattle.rule_base.specs.Encodings.{fence_from, fence_count}
use Rattle.stm_answers.specs.CallerState.{CallerState}
use Rattle.stm_answers.specs.CallerStateLaws.{carries-refl}
use Rattle.stm_tx.specs.Fencing.{fence_seen}
use Rattle.tx_atomic.specs.Accounts.{Account, account, told}
use Rattle.tx_atomic.specs.declared.tally.Ended.TheVariants as ends
use Rattle.stm_model.specs.declared.config.Config.{Config}
use Rattle.tx_atomic.specs.AttemptLaws.{commits-grow}
use Rattle.tx_atomic.specs.declared.tally.Ended.{Ended}
use Rattle.tx_atomic.specs.Tries.{EndsBegin, IsTurnedBack}
use Rattle.tx_atomic.specs.TryLaws.{begin-closed, begin-held, begin-full, begin-fenced}
use Rattle.tx_atomic.proofs.attempts.begin.Goals as goal

pub returns-then-is_some-clause-grew : goal.returns-then-is_some-clause-grew
returns-then-is_some-clause-grew g c =
    let stm = c.args.stm.now in
    commits-grow (g.K.MemRule.good stm.rule) stm.config (number c.try_begin_as.new.desc) c.turn_back.ensures.commits.0 (known c.args.desc.now)
    (known c.try_begin_as.new.desc) (known c.turn_back.new.desc) c.in-Begun.ensures.begins.grows c.turn_back.ensures.commits.1

-- it was turned back so, which the pacing keeps
turned-back : {H : Type 0} (hears : Ended → Option ℕ → H → H) (good : List ℕ → Type 0) (config : Config) (n : ℕ) (e last : Ended) (u w : CallerState)
    (s t : Account H) → last ≡ e → t ≡ told hears (Some e) None s → EndsBegin good config n e u w → IsTurnedBack good config n hears last u w s t
turned-back hears good config n e last u w s t is counted h =
    subst (λ (d : Ended). IsTurnedBack good config n hears d u w s t) (sym is) (record { last = h; counted = counted })

-- who sees a range knows of a fence
seen : (v : CallerState) → is_some {T = ℕ × ℕ} (fence_seen v) ≡ true → v.fence ≢ 0
seen v some none = by v.running v.fence none some where
  by : (running : Bool) (fence : ℕ) → fence ≡ 0 → is_some {T = ℕ × ℕ} (if running && not (fence == 0) then Some (fence_from fence, fence_count fence) else None) ≡ true → ⊥
  by true fence none some = let s = subst (λ (f : ℕ). is_some {T = ℕ × ℕ} (if true && not (f == 0) then Some (fence_from f, fence_count f) else None) ≡ true) none some in cc
  by false fence none some = absurd cc

pub returns-then-is_some-clause-refused : goal.returns-then-is_some-clause-refused
returns-then-is_some-clause-refused g c =
    let stm = c.args.stm.now in
    let good = g.K.MemRule.good stm.rule in
    let v = known c.try_begin_as.new.desc in
    let w = known c.turn_back.new.desc in
    let some : is_some {T = ℕ × ℕ} (fence_seen v) ≡ true = let found = c.fence_seen.ensures in let tested = c.is_some.ensures in let yes = c.if-is_some.true in cc in
    let refused = begin-fenced good stm.config (number c.args.desc.now) c.try_begin_as.result _ (known c.args.desc.now) v w c.in-Begun.is
    c.try_begin_as.ensures.begins (seen v some)
    (commits-grow good stm.config (number c.try_begin_as.new.desc) c.turn_back.ensures.commits.0 v v w (carries-refl v).grows
    c.turn_back.ensures.commits.1) in
    turned-back g.O.Observer.hears good stm.config (number c.args.desc.now) ends.Fenced c.turn_back.new.pace.last (known c.args.desc.now) w
    (account g.O.Observer.heard c.args.pace.now) (account g.O.Observer.heard c.turn_back.new.pace) c.turn_back.ensures.last c.turn_back.ensures.told refused

pub returns-in-Closed-clause-refused : goal.returns-in-Closed-clause-refused
returns-in-Closed-clause-refused g c =
    let stm = c.args.stm.now in
    let good = g.K.MemRule.good stm.rule in
    let w = known c.try_begin_as.new.desc in
    let refused = begin-closed good stm.config (number c.args.desc.now) c.try_begin_as.result _ (known c.args.desc.now) w c.in-Closed.is c.try_begin_as.ensures.begins in
    turned-back g.O.Observer.hears good stm.config (number c.args.desc.now) ends.Closed c.refuse.new.self.last (known c.args.desc.now) w
    (account g.O.Observer.heard c.args.pace.now) (account g.O.Observer.heard c.refuse.new.self) c.refuse.ensures.last c.refuse.ensures.told refused

pub returns-in-Held-clause-refused : goal.returns-in-Held-clause-refused
returns-in-Held-clause-refused g c =
    let stm = c.args.stm.now in
    let good = g.K.MemRule.good stm.rule in
    let w = known c.try_begin_as.new.desc in
    let refused = begin-held good stm.config (number c.args.desc.now) c.try_begin_as.result _ (known c.args.desc.now) w c.in-Held.is c.try_begin_as.ensures.begins in
    turned-back g.O.Observer.hears good stm.config (number c.args.desc.now) ends.Held c.refuse-in-Held.new.self.last (known c.args.desc.now) w
    (account g.O.Observer.heard c.args.pace.now) (account g.O.Observer.heard c.refuse-in-Held.new.self) c.refuse-in-Held.ensures.last c.refuse-in-Held.ensures.told refused

pub returns-in-ClockFull-clause-refused : goal.returns-in-ClockFull-clause-refused
returns-in-ClockFull-clause-refused g c =
    let stm = c.args.stm.now in
    let good = g.K.MemRule.good stm.rule in
    let w = known c.try_begin_as.new.desc in
    let refused = begin-full good stm.config (number c.args.desc.now) c.try_begin_as.result _ (known c.args.desc.now) w c.in-ClockFull.is c.try_begin_as.ensures.begins in
    turned-back g.O.Observer.hears good stm.config (number c.args.desc.now) ends.ClockFull c.refuse-in-ClockFull.new.self.last (known c.args.desc.now) w
    (account g.O.Observer.heard c.args.pace.now) (account g.O.Observer.heard c.refuse-in-ClockFull.new.self) c.refuse-in-ClockFull.ensures.last c.refuse-in-ClockFull.ensures.told refused
