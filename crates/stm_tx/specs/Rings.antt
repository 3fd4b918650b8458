-- What a caller rings for at the end of a commit.
use Rattle.std.specs.Prelude.{ℕ, ◌≡◌, Bool, true, ⊤, Option, Some, None}
use Rattle.rule_base.specs.Bridge.{addresses}
use Rattle.rule_base.specs.History.{member, touches}
use Rattle.stm_rule.specs.Callers.{Handle}
use Rattle.stm_rule.specs.declared.rung.Rung.{Rung}
use Rattle.stm_answers.specs.declared.answers.Commit.{Commit}
use Rattle.stm_answers.specs.declared.answers.Commit.TheVariants.{Committed, ReadOnly, Conflict, Again, ClockFull}
use Rattle.stm_bell.specs.Bells.{rung_for}
use Rattle.stm_bell.specs.Stripes.{Has}
use Rattle.stm_tx.specs.Descs.{known}

module _ {K : Type 0} where
  -- the attempt has written the word at a, or read it
  abbrev pub Wrote : Handle K → ℕ → Type 0
  Wrote d a = member (addresses (known d).log.writes) a ≡ true

  abbrev pub HasSeen : Handle K → ℕ → Type 0
  HasSeen d a = member (addresses (known d).log.reads) a ≡ true

  -- it rang as it stood afterwards, when all its steps were taken, and for each word that the attempt had written
  pub record Rings (rung : Rung K) (d e : Handle K) : Type 0 where
    pub last : rung.at.value ≡ e
    pub covers : (a : ℕ) → Wrote d a → Has a (rung_for rung.ring)

  -- who has written has rung
  abbrev pub HasRung : Commit → Option (Rung K) → Handle K → Handle K → Type 0
  HasRung (Committed time) (Some rung) d e = Rings rung d e
  HasRung (Committed time) None d e = ⊥
  HasRung (ReadOnly time) rung d e = ⊤
  HasRung (Conflict cause) rung d e = ⊤
  HasRung (Again word had now) rung d e = ⊤
  HasRung (ClockFull clock) rung d e = ⊤

  -- the write log has all that the attempt has written
  abbrev pub IsLogged : Handle K → Type 0
  IsLogged d = (a : ℕ) → Wrote d a → touches d.own.buffered a ≡ true

  -- it rang as it stands, for each word of its write log; where that is not said to have all, for each word
  pub record RingsAs (logged : Bool) (rung : Rung K) (e : Handle K) : Type 0 where
    pub last : rung.at.value ≡ e
    pub covers : (a : ℕ) → (logged ≡ true → touches e.own.buffered a ≡ true) → Has a (rung_for rung.ring)

  abbrev pub HasRungAs : Bool → Commit → Option (Rung K) → Handle K → Type 0
  HasRungAs logged (Committed time) (Some rung) e = RingsAs logged rung e
  HasRungAs logged (Committed time) None e = ⊥
  HasRungAs logged (ReadOnly time) rung e = ⊤
  HasRungAs logged (Conflict cause) rung e = ⊤
  HasRungAs logged (Again word had now) rung e = ⊤
  HasRungAs logged (ClockFull clock) rung e = ⊤
