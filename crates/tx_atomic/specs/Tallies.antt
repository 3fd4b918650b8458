-- What came of a caller's attempts.
use Rattle.std.specs.Prelude.{ℕ, Bool, true, false, ◌≡◌, ◌+◌, ◌-◌, ◌^◌, min}
use Rattle.tx_atomic.specs.declared.tally.Ended.{Ended}
use Rattle.tx_atomic.specs.declared.tally.Ended.TheVariants as ends
use Rattle.tx_atomic.specs.declared.tally.Tally.{Tally}

-- a count stands still at its greatest
abbrev pub total : ℕ → ℕ → ℕ
total m n = min (m + n) (2 ^ 64 - 1)

abbrev pub none : Tally
none = record { commits = 0; closed = 0; held = 0; fenced = 0; conflicts = 0; full = 0; busy = 0; taken = 0; again = 0; promotions = 0 }

abbrev pub with_commit : Tally → Tally
with_commit t = record t { commits = total t.commits 1 }

abbrev pub with_promotion : Tally → Tally
with_promotion t = record t { promotions = total t.promotions 1 }

-- with one more of its kind
abbrev pub noted : Ended → Tally → Tally
noted ends.Closed t = record t { closed = total t.closed 1 }
noted ends.Held t = record t { held = total t.held 1 }
noted ends.Fenced t = record t { fenced = total t.fenced 1 }
noted (ends.Conflict cause) t = record t { conflicts = total t.conflicts 1 }
noted ends.Full t = record t { full = total t.full 1 }
noted ends.Busy t = record t { busy = total t.busy 1 }
noted ends.Taken t = record t { taken = total t.taken 1 }
noted ends.Again t = record t { again = total t.again 1 }
noted ends.ClockFull t = t

-- the counts of both
abbrev pub both : Tally → Tally → Tally
both s t =
    record {
      commits = total s.commits t.commits;
      closed = total s.closed t.closed;
      held = total s.held t.held;
      fenced = total s.fenced t.fenced;
      conflicts = total s.conflicts t.conflicts;
      full = total s.full t.full;
      busy = total s.busy t.busy;
      taken = total s.taken t.taken;
      again = total s.again t.again;
      promotions = total s.promotions t.promotions;
    }

-- no commit was counted, or one was
abbrev pub CommitsStay : Tally → Tally → Type 0
CommitsStay s t = t.commits ≡ s.commits

abbrev pub CommitsRise : Tally → Tally → Type 0
CommitsRise s t = t.commits ≡ total s.commits 1

-- the count of attempts that another was in the way of, after one more that ended so: a log that was too short will be
-- so again; who didn't begin isn't counted
abbrev pub failed_next : ℕ → Ended → ℕ
failed_next failed ends.Closed = failed
failed_next failed ends.Held = failed
failed_next failed ends.Fenced = failed
failed_next failed ends.Full = 16
failed_next failed e = min (failed + 1) (2 ^ 32 - 1)

-- where a log was lengthened after it, it isn't counted either
abbrev pub failed_after : Bool → ℕ → Ended → ℕ
failed_after true failed e = failed
failed_after false failed e = failed_next failed e
