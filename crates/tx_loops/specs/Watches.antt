-- A wait that was announced, along the calls of a loop.
use Rattle.std.specs.Prelude.{◌≡◌, Bool, true, IfSome, Option, Some, None}
use Rattle.tx_checked.specs.declared.checked_caller.CheckedCaller.{CheckedCaller}
use Rattle.tx_loops.specs.declared.turn.Turn.{Turn}
use Rattle.tx_loops.specs.declared.turn.Turn.TheVariants as turns
use Rattle.tx_loops.specs.declared.watch.Watch.{Watch}

-- it was announced by the caller as it was here
abbrev pub WatchesFrom : CheckedCaller → Option Watch → Type 0
WatchesFrom m None = ⊥
WatchesFrom m (Some w) = w.since.value ≡ m

-- it stands still, or none does
abbrev pub StandsStill : Option Watch → Option Watch → Type 0
StandsStill old new = IfSome new (λ w. old ≡ Some w)

-- the end of a loop leaves none
abbrev pub EndsWatch : Turn → Option Watch → Option Watch → Type 0
EndsWatch turns.Run old new = new ≡ old
EndsWatch (turns.Pause times) old new = new ≡ old
EndsWatch turns.Sleep old new = new ≡ old
EndsWatch turn old new = new ≡ None

-- a sleep is by the wait that stood as the attempt of the body ended,
-- and by none where no attempt of it `ran` to the end
abbrev pub SleepsBy : Bool → Option Watch → Option Watch → Turn → Type 0
SleepsBy ran old new turns.Sleep = (ran ≡ true) × (w : Watch) × (old ≡ Some w) × (new ≡ Some w)
SleepsBy ran old new turn = Unit {0}
