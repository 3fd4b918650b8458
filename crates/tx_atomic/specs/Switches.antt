-- How a caller came to be alone with the memory, and why an algorithm was not installed.
use Rattle.std.specs.Prelude.{ℕ, zero, suc, ◌≡◌, ◌+◌, ◌-◌, ◌^◌, min, List}
use Rattle.stm_model.specs.declared.alg.Alg.{Alg}
use Rattle.stm_model.specs.declared.config.Config.{Config}
use Rattle.stm_answers.specs.declared.answers.CloseGate.TheVariants as gates
use Rattle.stm_answers.specs.declared.answers.Look.TheVariants as looks
use Rattle.stm_answers.specs.Answers.{Closes, Looks, Installs, Reopens}
use Rattle.stm_answers.specs.CallerState.{CallerState}
use Rattle.tx_atomic.specs.declared.switching.Hindrance.{Hindrance}
use Rattle.tx_atomic.specs.declared.switching.Hindrance.TheVariants.{Taken, Busy}

-- good is what the user keeps true of memory; c is the memory's configuration, and n the caller
module _ (good : List ℕ → Type 0) (c : Config) (n : ℕ) where
  -- another caller had the gate; or it was closed, a look found another caller in an attempt, and it was reopened
  abbrev pub IsHindered : Hindrance → CallerState → CallerState → Type 0
  IsHindered (Taken gate) v w = Closes good c n (gates.Taken gate) v w
  IsHindered (Busy caller status) v w =
      (closed : CallerState) × Closes good c n gates.Closed v closed × (looked : CallerState) × Looks good c n (looks.Busy caller status) closed looked × Reopens good c n looked w

  -- so many calls, one after the other, found the gate closed by another
  abbrev pub FindsTaken : ℕ → CallerState → CallerState → Type 0
  FindsTaken zero u w = w ≡ u
  FindsTaken (suc k) u w = (v : CallerState) × FindsTaken k u v × (gate : ℕ) × Closes good c n (gates.Taken gate) v w

  -- so many looks, one after the other, found another caller in an attempt
  abbrev pub FindsInside : ℕ → CallerState → CallerState → Type 0
  FindsInside zero u w = w ≡ u
  FindsInside (suc k) u w = (v : CallerState) × FindsInside k u v × (caller : ℕ) × (status : ℕ) × Looks good c n (looks.Busy caller status) v w

  -- so many looks, of which the last alone found nobody in an attempt;
  -- more than 64 bits hold are counted as the most that they hold
  pub record SeesLeave (count : ℕ) (u w : CallerState) : Type 0 where
    pub busy : ℕ
    pub counted : count ≡ min (busy + 1) (2 ^ 64 - 1)
    pub last : CallerState
    pub inside : FindsInside busy u last
    pub quiet : Looks good c n looks.Quiet last w

  -- it closed the gate, once nobody else had, and took so many looks
  pub record ComesAlone (count : ℕ) (u w : CallerState) : Type 0 where
    pub refused : ℕ
    pub opened : CallerState
    pub taken : FindsTaken refused u opened
    pub closed : CallerState
    pub closes : Closes good c n gates.Closed opened closed
    pub leave : SeesLeave count closed w

  -- alone after so many looks, it installed the algorithm, and reopened the gate
  pub record Switches (alg : Alg) (count : ℕ) (u w : CallerState) : Type 0 where
    pub alone : CallerState
    pub comes : ComesAlone count u alone
    pub installed : CallerState
    pub installs : Installs good c n alg alone installed
    pub reopens : Reopens good c n installed w
