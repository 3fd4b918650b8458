-- What a caller did from one moment to another, call by call.
use Rattle.std.specs.Prelude.{ℕ, zero, suc, ◌≡◌, ◌⊎◌, List, Option}
use Rattle.stm_model.specs.declared.alg.Alg.{Alg}
use Rattle.stm_model.specs.declared.config.Config.{Config}
use Rattle.stm_answers.specs.CallerState.{CallerState}
use Rattle.tx_atomic.specs.declared.tally.Ended.{Ended}
use Rattle.tx_atomic.specs.Accounts.{Account}
use Rattle.tx_atomic.specs.Switches.{Switches}
use Rattle.tx_atomic.specs.Tries.{Ran}

-- good is what the user keeps true of memory; c is the memory's configuration, and n the caller
module _ (good : List ℕ → Type 0) (c : Config) (n : ℕ) {H : Type 0} (hears : Ended → Option ℕ → H → H) where
  -- a run of attempts, each told and counted; or a change of algorithm, of which nothing is
  abbrev pub Called : CallerState → CallerState → Account H → Account H → Type 0
  Called u w s t = ((last : Option Ended) × Ran good c n hears last u w s t) ⊎ ((alg : Alg) × (looks : ℕ) × Switches good c n alg looks u w × (t ≡ s))

  -- so many calls, one after the other
  abbrev pub CalledTimes : ℕ → CallerState → CallerState → Account H → Account H → Type 0
  CalledTimes zero u w s t = (w ≡ u) × (t ≡ s)
  CalledTimes (suc k) u w s t = (v : CallerState) × (r : Account H) × CalledTimes k u v s r × Called v w r t

  -- ITS COURSE: what it keeps of its attempts is what these came to
  abbrev pub HasCourse : CallerState → CallerState → Account H → Account H → Type 0
  HasCourse u w s t = (calls : ℕ) × CalledTimes calls u w s t
