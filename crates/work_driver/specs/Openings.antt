-- A memory that is open for a workload: the header's algorithm is installed, and nobody has begun.
use Rattle.std.specs.Prelude.{All, ℕ, zero, suc, ◌≡◌, ◌≤◌, List, [], ◌∷◌, length}
use Rattle.stm_rule.specs.declared.stm.Stm.{Stm}
use Rattle.rule_base.specs.declared.seats.Role.TheVariants.{Caller}
use Rattle.stm_model.specs.declared.alg.Alg.{Alg}
use Rattle.work_script.specs.declared.workload.Header.{Header}
use Rattle.work_script.specs.Workloads.{config_of}
use Rattle.stm_rule.specs.Callers.{Handle, IsOf}
use Rattle.stm_answers.specs.Answers.{HoldsClosed}
use Rattle.stm_answers.specs.CallerState.{CallerState, IsIdle}
use Rattle.stm_tx.specs.Descs.{known}
use Rattle.work_worker.specs.Workers.{HasLengths}

-- it has no entry, has raised the clock by one at most for each install, and has installed these
pub record HasDone (these : List Alg) (v : CallerState) : Type 0 where
  pub made : v.made ≡ []
  pub rises : v.rises ≤ length these
  pub installs : v.installs ≡ these

pub record IsNew (these : List Alg) (v : CallerState) : Type 0 where
  pub idle : IsIdle v
  pub done : HasDone these v

-- its logs are as long as they were
abbrev pub SameLengths : CallerState → CallerState → Type 0
SameLengths v w = (w.reads_limit ≡ v.reads_limit) × (w.writes_limit ≡ v.writes_limit)

-- it has closed the gate
pub record HoldsGate (v : CallerState) : Type 0 where
  pub holds : HoldsClosed v
  pub done : HasDone [] v

-- caller 0 installs the header's algorithm, before all else
abbrev pub first_installs : Alg → ℕ → List Alg
first_installs alg zero = alg ∷ []
first_installs alg (suc n) = []

module _ {K : Type 0} (stm : Stm K) (alg : Alg) where
  -- the callers from n on
  abbrev pub AllNew : ℕ → List (Handle K) → Type 0
  AllNew n [] = Unit {0}
  AllNew n (d ∷ ds) = IsOf d stm × (d.who.role ≡ Caller n) × IsNew (first_installs alg n) (known d) × HasLengths stm.config (known d) × AllNew (suc n) ds

pub record OpensFor {K : Type 0} (h : Header) (stm : Stm K) (ds : List (Handle K)) : Type 0 where
  pub sized : stm.config ≡ config_of h
  pub count : length ds ≡ h.callers
  pub new : AllNew stm h.alg 0 ds
  -- a caller alone knows the algorithm that it installed
  pub knows : All (λ (d : Handle K). stm.config.callers ≡ 1 → (known d).alg ≡ h.alg) ds
