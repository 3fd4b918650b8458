-- What a commit leaves in the write log.
use Rattle.std.specs.Prelude.{◌≡◌, ⊤}
use Rattle.stm_rule.specs.Callers.{Handle}
use Rattle.stm_answers.specs.declared.answers.Commit.{Commit}
use Rattle.stm_answers.specs.declared.answers.Commit.TheVariants.{Committed, ReadOnly, Conflict, Again, ClockFull}

module _ {K : Type 0} where
  -- after a commit that wrote, what lay in the write log lies there still
  abbrev pub KeepsBuffered : Commit → Handle K → Handle K → Type 0
  KeepsBuffered (Committed time) d e = e.own.buffered ≡ d.own.buffered
  KeepsBuffered (ReadOnly time) d e = ⊤
  KeepsBuffered (Conflict cause) d e = ⊤
  KeepsBuffered (Again word had now) d e = ⊤
  KeepsBuffered (ClockFull clock) d e = ⊤

  -- so it is where the write log stays in any case
  pub keeps-buffered : (answer : Commit) (d e : Handle K) → e.own.buffered ≡ d.own.buffered → KeepsBuffered answer d e
  keeps-buffered (Committed time) d e same = same
  keeps-buffered (ReadOnly time) d e same = tt
  keeps-buffered (Conflict cause) d e same = tt
  keeps-buffered (Again word had now) d e same = tt
  keeps-buffered (ClockFull clock) d e same = tt
