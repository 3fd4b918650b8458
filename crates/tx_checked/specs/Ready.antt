-- A memory that was just opened, and its callers.
use Rattle.std.specs.Prelude.{ℕ, suc, zero, ◌≡◌, ◌<◌, List, [], ◌∷◌, None, map, length, get_or}
use Rattle.rule_base.specs.Opening.{first_view}
use Rattle.stm_model.specs.declared.alg.Alg.{Alg}
use Rattle.stm_model.specs.declared.config.Config.{Config}
use Rattle.stm_model.specs.declared.rule.AnyMem.{AnyMem}
use Rattle.stm_rule.specs.declared.stm.Stm.{Stm}
use Rattle.stm_rule.specs.Callers.{Handle, IsOf, idle_own}
use Rattle.stm_rule.specs.Refusals.{first_fault, IsRefusal}
use Rattle.stm_tx.specs.Descs.{known, number}
use Rattle.stm_answers.specs.CallerState.{CallerState, IsIdle, known_of}
use Rattle.tx_atomic.specs.declared.switching.Hindrance.{Hindrance}
use Rattle.tx_atomic.specs.Switches.{IsHindered}
use Rattle.tx_checked.specs.Counting.{no_counts}
use Rattle.tx_checked.specs.declared.checked_caller.CheckedCaller.{CheckedCaller}
use Rattle.tx_checked.specs.declared.opening.NotOpened.{NotOpened}
use Rattle.tx_checked.specs.declared.opening.OpenError.{OpenError}
use Rattle.tx_checked.specs.declared.opening.OpenError.TheVariants as opens
use Rattle.tx_checked.specs.declared.phase.CallerPhase.TheVariants.{Idle}
use Rattle.tx_checked.specs.CheckedCallers.{config_of, known_to, memory_of, number_of}
use Rattle.tx_checked.specs.Phases.{Any}

-- of caller i, where the first of the callers installed these and nobody else any
abbrev pub by_first : List Alg → ℕ → List Alg
by_first algs zero = algs
by_first algs (suc i) = []

-- caller i of this memory, which has done nothing else
pub record IsFresh (stm : Stm AnyMem) (algs : List Alg) (i : ℕ) (d : Handle AnyMem) : Type 0 where
  pub own : IsOf d stm
  pub idle : IsIdle (known d)
  pub number : number d ≡ i
  pub made : (known d).made ≡ []
  pub installs : (known d).installs ≡ by_first algs i

abbrev pub AreFresh : Stm AnyMem → List Alg → List (Handle AnyMem) → Type 0
AreFresh stm algs ds = (i : ℕ) (d : Handle AnyMem) → i < length ds → IsFresh stm algs i (get_or ds i d)

abbrev pub HasMadeNone : Handle AnyMem → Type 0
HasMadeNone d = (known d).made ≡ []

abbrev pub desc_in : CheckedCaller → Handle AnyMem
desc_in m = m.desc

abbrev pub descs_in : List CheckedCaller → List (Handle AnyMem)
descs_in ms = map desc_in ms

-- a caller of this memory that no call has been made of
pub record IsUnused (stm : Stm AnyMem) (m : CheckedCaller) : Type 0 where
  pub memory : memory_of m ≡ stm
  pub phase : m.phase ≡ Idle
  pub range : m.range ≡ None
  pub refusal : m.refusal ≡ None
  pub counts : m.counts ≡ no_counts

-- caller i of this memory of these sizes, which has installed these
pub record IsNew (stm : Stm AnyMem) (c : Config) (algs : List Alg) (i : ℕ) (m : CheckedCaller) : Type 0 where
  pub unused : IsUnused stm m
  pub config : config_of m ≡ c
  pub number : number_of m ≡ i
  pub made : (known_to m).made ≡ []
  pub installs : (known_to m).installs ≡ by_first algs i

-- all are callers of one memory, numbered in order, of which the first has installed these
abbrev pub AreNewWith : Config → List Alg → List CheckedCaller → Type 0
AreNewWith c algs ms = (i : ℕ) (m : CheckedCaller) → i < length ms → IsNew (memory_of (get_or ms 0 m)) c algs i (get_or ms i m)

abbrev pub AreNew : Config → Alg → List CheckedCaller → Type 0
AreNew c alg ms = AreNewWith c (alg ∷ []) ms

-- what a caller knows that has taken no step
abbrev pub unmoved : Config → CallerState
unmoved c = known_of (first_view c) (idle_own c)

-- another was in the way of the first of the callers, which had taken no step before: one caller alone never meets that
pub record IsHinderedFirst (c : Config) (e : Hindrance) (ds : List (Handle AnyMem)) : Type 0 where
  pub several : 1 < c.callers
  pub hindered : (d : Handle AnyMem) → IsHindered Any c 0 e (unmoved c) (known (get_or ds 0 d))

-- all are callers of one memory, under which so nothing was installed
pub record AreHindered (c : Config) (e : Hindrance) (ms : List CheckedCaller) : Type 0 where
  pub count : length ms ≡ c.callers
  pub new : AreNewWith c [] ms
  pub first : IsHinderedFirst c e (descs_in ms)

-- a number is at fault; or none is, and memory was refused, or another was in the way of the install:
-- then the callers are handed out
abbrev pub IsOpenError : Config → OpenError → List CheckedCaller → Type 0
IsOpenError c (opens.Refused e) ms = IsRefusal c e × (ms ≡ [])
IsOpenError c opens.Memory ms = (first_fault c ≡ None) × (ms ≡ [])
IsOpenError c (opens.Busy e) ms = (first_fault c ≡ None) × AreHindered c e ms

abbrev pub IsNotOpened : Config → NotOpened → Type 0
IsNotOpened c n = IsOpenError c n.error n.callers.items
