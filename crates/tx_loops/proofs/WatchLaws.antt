-- Laws of a wait that was announced.
use Rattle.std.proofs.Common.{◌≡◌, ◌≢◌, ◌∙◌, true, false, refl, sym, ap, subst, inl, inr}
use Rattle.std.specs.Prelude.{Bool, ◌⊎◌, IfSome, Option, None, Some, is_some, Result, Ok, Err}
use Rattle.tx_checked.specs.declared.checked_caller.CheckedCaller.{CheckedCaller}
use Rattle.tx_checked.specs.declared.misuse.Misuse.{Misuse}
use Rattle.tx_checked.specs.declared.refusal.Refusal.{Refusal}
use Rattle.tx_checked.specs.declared.refusal.Refusal.TheVariants as refusals
use Rattle.tx_checked.specs.Misuses.{outside}
use Rattle.tx_loops.specs.declared.looping_caller.LoopingCaller.{LoopingCaller}
use Rattle.tx_loops.specs.declared.turn.Turn.{Turn}
use Rattle.tx_loops.specs.declared.turn.Turn.TheVariants as turns
use Rattle.tx_loops.specs.declared.watch.Watch.{Watch}
use Rattle.tx_loops.specs.Loops.{DoneSays, FinishSays, OpenSays, Opens}
use Rattle.tx_loops.specs.Turns.{IsAfter, IsAfterRefusal, IsPause}
use Rattle.tx_loops.specs.declared.plan.Plan.{Plan}
use Rattle.tx_loops.specs.Stages.{has_body}
use Rattle.tx_loops.specs.Waits.{HasLooked, KeepsWatch}
use Rattle.tx_loops.specs.Watches.{EndsWatch, SleepsBy, StandsStill, WatchesFrom}

-- one that is there stays
pub there : (o : Option Watch) → is_some o ≡ true → (w : Watch) × (o ≡ Some w) × (o ≡ Some w)
there None is = absurd (let no : false ≡ true = is in cc)
there (Some w) is = (w, refl, refl)

-- STILL. As it was, or none
pub still_same : (o p : Option Watch) → p ≡ o → StandsStill o p
still_same o None e = tt
still_same o (Some w) e = sym e

pub still_none : (o p : Option Watch) → p ≡ None → StandsStill o p
still_none o p e = subst (λ (q : Option Watch). StandsStill o q) (sym e) tt

pub ends_still : (t : Turn) (o k p : Option Watch) → k ≡ o → EndsWatch t k p → StandsStill o p
ends_still turns.Run o k p e h = still_same o p (h ∙ e)
ends_still (turns.Pause times) o k p e h = still_same o p (h ∙ e)
ends_still turns.Sleep o k p e h = still_same o p (h ∙ e)
ends_still turns.Done o k p e h = still_none o p h
ends_still turns.Over o k p e h = still_none o p h
ends_still turns.Full o k p e h = still_none o p h
ends_still turns.ClockFull o k p e h = still_none o p h
ends_still turns.Memory o k p e h = still_none o p h
ends_still turns.Irrevocable o k p e h = still_none o p h

-- KEPT by what begins an attempt
kept : (m : LoopingCaller) (o : Option Watch) → StandsStill m.plan.watch o → IfSome o (λ w. (m.plan.watch ≡ Some w) ⊎ ((w.since.value ≡ m.caller) × (outside m.caller ≡ None)))
kept m None h = tt
kept m (Some w) h = inl h

pub keeps_still : (m n : LoopingCaller) → StandsStill m.plan.watch n.plan.watch → KeepsWatch m n
keeps_still m n h = kept m n.plan.watch h

pub keeps_same : (m n : LoopingCaller) → n.plan.watch ≡ m.plan.watch → KeepsWatch m n
keeps_same m n e = kept m n.plan.watch (still_same m.plan.watch n.plan.watch e)

pub keeps_none : (m n : LoopingCaller) → n.plan.watch ≡ None → KeepsWatch m n
keeps_none m n e = kept m n.plan.watch (still_none m.plan.watch n.plan.watch e)

since : (m k : LoopingCaller) (o : Option Watch) → k.caller ≡ m.caller → WatchesFrom m.caller k.plan.watch → outside m.caller ≡ None
    → IfSome o (λ w. (k.plan.watch ≡ Some w) ⊎ ((w.since.value ≡ k.caller) × (outside k.caller ≡ None)))
    → IfSome o (λ w. (m.plan.watch ≡ Some w) ⊎ ((w.since.value ≡ m.caller) × (outside m.caller ≡ None)))
since m k None same from out h = tt
since m k (Some w) same from out (inl e) = inr (subst (λ (p : Option Watch). WatchesFrom m.caller p) e from, out)
since m k (Some w) same from out (inr q) = inr (q.0 ∙ same, out)

-- after it was announced
pub keeps_after : (m k n : LoopingCaller) → k.caller ≡ m.caller → WatchesFrom m.caller k.plan.watch → outside m.caller ≡ None → KeepsWatch k n → KeepsWatch m n
keeps_after m k n same from out h = since m k n.plan.watch same from out h

pub open_after : (m k n : LoopingCaller) (r : Result Turn Misuse) → k.caller ≡ m.caller → outside m.caller ≡ None → OpenSays k n r → OpenSays m n r
open_after m k n (Ok t) same out h = subst (λ (c : CheckedCaller). Opens c n t) same h
open_after m k n (Err e) same out h = absurd (let no : None ≡ Some e = sym out ∙ (sym (ap outside same) ∙ h.0) in cc)

-- WHO SLEEPS
pub awake_looks : (ran : Bool) (o p : Option Watch) (t : Turn) → t ≢ turns.Sleep → SleepsBy ran o p t
awake_looks ran o p turns.Sleep awake = absurd (awake refl)
awake_looks ran o p turns.Run awake = tt
awake_looks ran o p (turns.Pause times) awake = tt
awake_looks ran o p turns.Done awake = tt
awake_looks ran o p turns.Over awake = tt
awake_looks ran o p turns.Full awake = tt
awake_looks ran o p turns.ClockFull awake = tt
awake_looks ran o p turns.Memory awake = tt
awake_looks ran o p turns.Irrevocable awake = tt

pub irrevocable_looks : (ran : Bool) (o p : Option Watch) (t : Turn) → t ≡ turns.Irrevocable → SleepsBy ran o p t
irrevocable_looks ran o p t e = subst (λ (s : Turn). SleepsBy ran o p s) (sym e) tt

pub ends_sleeps : (ran : Bool) (o k p : Option Watch) (t : Turn) → SleepsBy ran o k t → EndsWatch t k p → SleepsBy ran o p t
ends_sleeps ran o k p turns.Sleep h e = (h.0, h.1, h.2, e ∙ h.3)
ends_sleeps ran o k p turns.Run h e = tt
ends_sleeps ran o k p (turns.Pause times) h e = tt
ends_sleeps ran o k p turns.Done h e = tt
ends_sleeps ran o k p turns.Over h e = tt
ends_sleeps ran o k p turns.Full h e = tt
ends_sleeps ran o k p turns.ClockFull h e = tt
ends_sleeps ran o k p turns.Memory h e = tt
ends_sleeps ran o k p turns.Irrevocable h e = tt

pub looked : (ran : Bool) (m k l n : LoopingCaller) (t : Turn) → ran ≡ has_body m.stage → k.plan ≡ m.plan → SleepsBy ran k.plan.watch l.plan.watch t → EndsWatch t l.plan.watch n.plan.watch → HasLooked m n t
looked ran m k l n t is plan by ends =
    let b = subst (λ (p : Plan). SleepsBy ran p.watch l.plan.watch t) plan by in
    subst (λ (r : Bool). SleepsBy r m.plan.watch n.plan.watch t) is (ends_sleeps ran m.plan.watch l.plan.watch n.plan.watch t b ends)

-- nobody sleeps after a refusal
none-sleeps : (e : Refusal) → IsAfter e turns.Sleep → ⊥
none-sleeps (refusals.Conflict cause) h = h
none-sleeps (refusals.GateClosed gate) h = h
none-sleeps (refusals.Held word) h = h
none-sleeps (refusals.Busy caller status) h = h
none-sleeps (refusals.Again word had now) h = h
none-sleeps (refusals.ReadsFull limit) h = h
none-sleeps (refusals.WritesFull limit) h = h
none-sleeps (refusals.ClockFull clock) h = let no : turns.Sleep ≡ turns.ClockFull = h in cc
none-sleeps refusals.Irrevocable h = h
none-sleeps (refusals.Deep limit) h = h
none-sleeps (refusals.RangeTaken gate) h = h

after-looks : (ran : Bool) (o p : Option Watch) (e : Refusal) (t : Turn) → IsAfter e t → SleepsBy ran o p t
after-looks ran o p e t h = awake_looks ran o p t (λ s. none-sleeps e (subst (λ (u : Turn). IsAfter e u) s h))

pub refusal_looks : (ran : Bool) (o p : Option Watch) (r : Option Refusal) (t : Turn) → IsAfterRefusal r t → SleepsBy ran o p t
refusal_looks ran o p None t h = awake_looks ran o p t (λ s. subst (λ (u : Turn). IsPause u) s h)
refusal_looks ran o p (Some e) t h = after-looks ran o p e t h

done-awake : (ran : Bool) (o p : Option Watch) (t : Turn) → t ≡ turns.Done → SleepsBy ran o p t
done-awake ran o p t e = subst (λ (s : Turn). SleepsBy ran o p s) (sym e) tt

pub finish_looks : (ran : Bool) (o p : Option Watch) (m : CheckedCaller) (n : LoopingCaller) (t : Turn) → FinishSays m n t → SleepsBy ran o p t
finish_looks ran o p m n t (inl a) = done-awake ran o p t a.0
finish_looks ran o p m n t (inr a) = after-looks ran o p a.1.0 t a.1.2

pub done_looks : (ran : Bool) (o p : Option Watch) (m n : LoopingCaller) (t : Turn) → DoneSays m n (Ok t) → SleepsBy ran o p t
done_looks ran o p m n t (inl a) = done-awake ran o p t a.0
done_looks ran o p m n t (inr (out, inl lapsed)) = refusal_looks ran o p m.caller.refusal t lapsed.after
done_looks ran o p m n t (inr (out, inr b)) = after-looks ran o p b.0 t b.2
