-- How a caller's user comes to sleep.
use Rattle.std.specs.Prelude.{◌≡◌, ◌≢◌, ◌⊎◌, Bool, true, false, IfSome, None, Some, Result, Ok, Err}
use Rattle.tx_checked.specs.declared.misuse.Misuse.{Misuse}
use Rattle.tx_checked.specs.Misuses.{or_else, outside}
use Rattle.tx_loops.specs.Accesses.{free_misuse}
use Rattle.tx_loops.specs.declared.looping_caller.LoopingCaller.{LoopingCaller}
use Rattle.tx_loops.specs.declared.turn.Turn.{Turn}
use Rattle.tx_loops.specs.declared.watch.Watch.{Watch}
use Rattle.tx_loops.specs.Stages.{has_body}
use Rattle.tx_loops.specs.Watches.{SleepsBy, WatchesFrom}

-- a wait that stands is that of before, or was announced before anything else, in no attempt
abbrev pub KeepsWatch : LoopingCaller → LoopingCaller → Type 0
KeepsWatch m n = IfSome n.plan.watch (λ w. (m.plan.watch ≡ Some w) ⊎ ((w.since.value ≡ m.caller) × (outside m.caller ≡ None)))

-- WHO SLEEPS HAS LOOKED since the wait was announced: it stood before the body ended, whose attempt was open
abbrev pub HasLooked : LoopingCaller → LoopingCaller → Turn → Type 0
HasLooked m n turn = SleepsBy (has_body m.stage) m.plan.watch n.plan.watch turn

-- the same of a caller in no loop: since its wait was announced an attempt of it has committed, and wrote nothing
abbrev pub HasLookedSince : LoopingCaller → Type 0
HasLookedSince m = (w : Watch) × (m.plan.watch ≡ Some w) × (w.since.value.counts.read_only ≢ m.caller.counts.read_only)

-- its user may sleep by that wait, or one is announced now
abbrev pub WaitSays : LoopingCaller → LoopingCaller → Result Bool Misuse → Type 0
WaitSays m n (Ok true) = (n.caller ≡ m.caller) × (n.stage ≡ m.stage) × (n.plan.watch ≡ m.plan.watch) × HasLookedSince m
WaitSays m n (Ok false) = (n.caller ≡ m.caller) × (n.stage ≡ m.stage) × (outside m.caller ≡ None) × WatchesFrom m.caller n.plan.watch
WaitSays m n (Err e) = (or_else (free_misuse m.stage) (outside m.caller) ≡ Some e) × (n ≡ m)
