-- What the steps of RingSW show, with what they say of the other callers and of the clock.
use Rattle.std.specs.Prelude.{ℕ, ◌≡◌, ◌≤◌, true, false}
use Rattle.stm_model.specs.declared.config.Config.{Config}
use Rattle.stm_model.specs.declared.config.TheConstants.{CLOCK_LIMIT}
use Rattle.rule_base.specs.declared.views.View.{View}
use Rattle.rule_base.specs.History.{upto, word_now, Explains}
use Rattle.rule_base.specs.World.{World}
use Rattle.rule_ring.specs.RingSteps.{RingBegins, RingLooks, RingMoves, moved}
use Rattle.stm_rule.specs.Findings.{FindsSole}

module _ (good : (ℕ → ℕ) → Type 0) (c : Config) (w : World) (v : View) where
  -- DONE as the start
  pub record FindsStart (done : ℕ) : Type 0 where
    pub begins : RingBegins good c w v done
    -- with one caller alone DONE is the clock
    pub sole : v.ring_commit.committed ≡ false → v.attempt.entered ≡ false → FindsSole c w v done
    -- who doesn't hold the gate doesn't know the clock as its holder
    pub not_quiescent : v.gate.holds ≡ false → v.gate.quiescent ≡ false

  -- the clock, at which a check begins or passes
  pub record FindsLook (clock : ℕ) : Type 0 where
    pub looks : RingLooks good c w v clock
    pub sole : FindsSole c w v clock
    -- it stands while the caller has the lock, and while it knows the clock as the gate's holder
    pub ticked : v.lock.taken ≡ true → v.ring_commit.ticked ≡ true → clock ≡ v.ring_commit.clock
    pub settled : v.gate.quiescent ≡ true → clock ≡ v.gate.time
    -- what was read before is the memory at the start
    pub kept : Explains (word_now (upto w.history v.attempt.start)) v.attempt.reads

  -- the clock after the slots
  pub record FindsAgain (clock : ℕ) : Type 0 where
    pub later : v.attempt.start ≤ clock

  -- DONE, with which a check ends
  pub record FindsMove (done : ℕ) : Type 0 where
    pub moves : RingMoves good c w v done
    -- what was read before is the memory at the new start too, also where the word under way was among it
    pub kept : Explains (word_now (upto w.history (moved v done))) v.attempt.reads
    -- under the lock it is the clock
    pub level : v.lock.taken ≡ true → v.ring_commit.committed ≡ false → v.ring_commit.ticked ≡ true → v.gate.quiescent ≡ false → done ≡ v.ring_commit.clock

  -- and so it is for who is to be promoted
  pub record FindsLevel (done : ℕ) : Type 0 where
    pub moves : RingMoves good c w v done
    pub kept : Explains (word_now (upto w.history (moved v done))) v.attempt.reads
    pub level : v.attempt.entered ≡ false → done ≡ v.gate.time

  -- the clock under the lock
  pub record FindsTick (clock : ℕ) : Type 0 where
    pub sole : FindsSole c w v clock
    pub within : clock ≤ CLOCK_LIMIT
    pub later : v.attempt.start ≤ clock
