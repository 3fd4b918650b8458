-- What stands while a caller holds the quiet gate, as statements.
use Rattle.std.specs.Prelude.{ℕ, ◌≡◌, ◌≢◌, ◌+◌, true, List, [], ◌∷◌}
use Rattle.stm_model.specs.declared.config.Config.{Config}
use Rattle.rule_base.specs.Encodings.{alg_of, holder_of}
use Rattle.rule_base.specs.GateRule.{rests}
use Rattle.rule_base.specs.InstallSteps.{HasChecked}
use Rattle.rule_base.specs.Rest.{Rest, AtRest, IsQuiet, HasInstalled}
use Rattle.rule_base.specs.Runs.{run, Allowed}
use Rattle.rule_base.specs.World.{World}
use Rattle.stm_rule.specs.Runs.CoreRuns.{CoreStep, core_kind, CoreMay}
use Rattle.stm_rule.specs.Product.{Invariant}

-- none of the steps is caller n's
abbrev pub OfOthers : ℕ → List (ℕ × CoreStep) → Type 0
OfOthers n [] = Unit {0}
OfOthers n (s ∷ ss) = (s.0 ≢ n) × OfOthers n ss

-- BASE and DONE are the clock, and the gate names the algorithm that caller n installed
pub record IsInstalled (n : ℕ) (w : World) : Type 0 where
  pub base : w.base ≡ w.clock
  pub done : w.done ≡ w.clock
  pub named : alg_of w.gate ≡ (w.views n).gate.algorithm

module _ (good : (ℕ → ℕ) → Type 0) (c : Config) where
  -- who has closed the gate and seen all others idle is alone with the memory
  abbrev pub QuietRests : Type 0
  QuietRests = (n : ℕ) (w : World) → Invariant good c w → IsQuiet c n w → AtRest n w

  -- who holds the gate and has seen all others idle, be it in its attempt, is the only one in an attempt, aiming or
  -- closing
  abbrev pub HolderAlone : Type 0
  HolderAlone = (n : ℕ) (w : World) → Invariant good c w → (w.views n).gate.holds ≡ true → HasChecked c.callers n (w.views n) → (holder_of w.gate ≡ 1 + n) × ((k : ℕ) → k ≢ n → rests (w.views k).gate.phase ≡ true)

  -- whose attempt is promoted is alone with the memory, but for its own stores: that its view says so is enough
  abbrev pub GrantedRests : Type 0
  GrantedRests = (n : ℕ) (w : World) → Invariant good c w → (w.views n).gate.granted ≡ true → Rest n w

  -- and so it stays, whatever steps the others take, until it takes one itself: the history and the clock stand still
  abbrev pub RestLasts : Type 0
  RestLasts = (n : ℕ) (w : World) (steps : List (ℕ × CoreStep)) → Invariant good c w → IsQuiet c n w → OfOthers n steps → Allowed core_kind (CoreMay good c) steps w
      → AtRest n (run core_kind (CoreMay good c) steps w)
      × ((run core_kind (CoreMay good c) steps w).history ≡ w.history)
      × ((run core_kind (CoreMay good c) steps w).clock ≡ w.clock)

  -- and whose attempt is promoted stays alone with its own stores
  abbrev pub GrantedLasts : Type 0
  GrantedLasts = (n : ℕ) (w : World) (steps : List (ℕ × CoreStep)) → Invariant good c w → (w.views n).gate.granted ≡ true → OfOthers n steps → Allowed core_kind (CoreMay good c) steps w
      → Rest n (run core_kind (CoreMay good c) steps w)
      × ((run core_kind (CoreMay good c) steps w).history ≡ w.history)
      × ((run core_kind (CoreMay good c) steps w).clock ≡ w.clock)

  -- who has installed an algorithm since is at rest under it
  abbrev pub InstalledRests : Type 0
  InstalledRests = (n : ℕ) (w : World) → Invariant good c w → IsQuiet c n w → HasInstalled n w → AtRest n w × IsInstalled n w
