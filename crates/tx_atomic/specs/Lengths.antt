-- How long the logs of a caller become, between two attempts.
use Rattle.std.specs.Prelude.{ℕ, ◌≡◌, ◌<◌, ◌*◌, ◌==◌, ◌⊎◌, if◌then◌else◌, max, min}
use Rattle.stm_answers.specs.CallerState.{CallerState}

-- twice as long, up to `most`
abbrev pub doubled : ℕ → ℕ → ℕ
doubled most len = max 1 (min (2 * len) most)

-- how long a log is to be at least that had so many items: no longer than it is, unless it had its length
abbrev pub length_wanted : ℕ → ℕ → ℕ → ℕ
length_wanted most count len = if count == len then doubled most len else 1

-- it is as long as it was, or was lengthened
abbrev pub MayLengthen : ℕ → ℕ → ℕ → Type 0
MayLengthen most len new = (new ≡ len) ⊎ ((len < new) × (new ≡ doubled most len))

-- a log was lengthened: nothing else changes, but what was kept of an attempt that is over
pub record Lengthens (most : ℕ) (v w : CallerState) : Type 0 where
  pub is : w
      ≡ record v {
        committing = w.committing;
        log = record v.log { writes = w.log.writes };
        depth = w.depth;
        marks = w.marks;
        kept = w.kept;
        reads_limit = w.reads_limit;
        writes_limit = w.writes_limit;
      }
  pub reads : MayLengthen most v.reads_limit w.reads_limit
  pub writes : MayLengthen most v.writes_limit w.writes_limit
  pub longer : (v.reads_limit < w.reads_limit) ⊎ (v.writes_limit < w.writes_limit)
