-- What callers leave.
use Rattle.std.specs.Prelude.{ℕ, ◌≡◌, ◌<◌, List, [], map, length, get_or}
use Rattle.stm_model.specs.declared.alg.Alg.{Alg}
use Rattle.stm_model.specs.declared.config.Config.{Config}
use Rattle.stm_rule.specs.Callers.{Handle}
use Rattle.stm_tx.specs.Descs.{known, number}
use Rattle.tx_atomic.specs.Callers.{IsThrough}
use Rattle.tx_start.specs.declared.working.Left.{Left}
use Rattle.tx_atomic.specs.declared.tally.Tally.{Tally}
use Rattle.tx_atomic.specs.Tallies.{none}
use Rattle.tx_jobs.specs.Known.{Known}
use Rattle.tx_jobs.specs.Stories.{first_installs}
use Rattle.tx_start.specs.Counts.{Counts}
use Rattle.tx_start.specs.Seats.{shown}

-- none has made an entry yet, nor installed anything but the memory's first algorithm
abbrev pub AllNew : {K : Type 0} → Alg → List (Handle K) → Type 0
AllNew {K = K} alg ds = (i : ℕ) (x : Handle K) → i < length ds → ((known (get_or ds i x)).made ≡ []) × ((known (get_or ds i x)).installs ≡ first_installs alg i)

module _ {K V : Type 0} where
  abbrev pub desc_in : Left K V → Handle K
  desc_in l = l.desc

  abbrev pub descs_in : List (Left K V) → List (Handle K)
  descs_in ls = map desc_in ls

  abbrev pub answer_in : Left K V → V
  answer_in l = l.answer

  abbrev pub answers_in : List (Left K V) → List V
  answers_in ls = map answer_in ls

  abbrev pub tally_in : Left K V → Tally
  tally_in l = l.tally

  abbrev pub tallies_in : List (Left K V) → List Tally
  tallies_in ls = map tally_in ls

  -- a caller did its job, whose answers tell this, and its tally counts what it did
  pub record Works (good : List ℕ → Type 0) (c : Config) (tells : ℕ → V → Known → Known → Type 0) (d : Handle K) (l : Left K V) : Type 0 where
    pub through : IsThrough d l.desc
    pub told : tells (number d) l.answer (shown (known d) 0) (shown (known l.desc) l.tally.commits)
    pub counts : Counts good c (number d) (known d) (known l.desc) none l.tally
