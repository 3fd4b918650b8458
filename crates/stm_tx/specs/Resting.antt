-- What the answers say of the memory and of the other callers, whatever the memory is.
use Rattle.std.specs.Prelude.{ℕ, ◌≡◌, ◌&&◌, List, true, false}
use Rattle.stm_model.specs.Algorithms.{closes_gate}
use Rattle.stm_model.specs.declared.config.Config.{Config}
use Rattle.rule_base.specs.Own.{Own}
use Rattle.rule_base.specs.Rest.{Rest, AtRest}
use Rattle.rule_base.specs.World.{World}
use Rattle.stm_rule.specs.Product.{Invariant}
use Rattle.stm_answers.specs.Answers.{HoldsClosed, SeesQuiet}
use Rattle.stm_answers.specs.CallerState.{CallerState, known_of, is_irrevocable}

-- an attempt that can't be taken back any more; but where it was granted by closing the gate, it holds the lock
pub record IsFixed (v : CallerState) : Type 0 where
  pub running : v.running ≡ true
  pub irrevocable : is_irrevocable v ≡ true
  pub locked : (closes_gate v.alg && v.granted) ≡ false → v.locked ≡ true

-- w is any world that meets the rule; what contracts see of caller n in it is made of its view,
-- and of what its descriptor keeps
module _ (good : List ℕ → Type 0) (rule : (ℕ → ℕ) → Type 0) (c : Config) where
  -- a caller of which an answer said that it holds the closed gate and has seen all others idle is at rest
  abbrev pub QuietIsRest : Type 0
  QuietIsRest = (n : ℕ) (own : Own) (w : World) → Invariant rule c w → HoldsClosed (known_of (w.views n) own) → SeesQuiet good c n (known_of (w.views n) own) → AtRest n w

  -- a caller of which an answer said that its attempt was made irrevocable,
  -- by an algorithm that closes the gate for it, is alone with the memory
  abbrev pub GrantedIsRest : Type 0
  GrantedIsRest = (n : ℕ) (own : Own) (w : World) → Invariant rule c w → closes_gate (known_of (w.views n) own).alg ≡ true → (known_of (w.views n) own).granted ≡ true → Rest n w

  -- a caller of which an answer said that it holds the closed gate and has installed since finds BASE and DONE at the
  -- clock
  abbrev pub InstalledIsLevel : Type 0
  InstalledIsLevel = (n : ℕ) (own : Own) (w : World) → Invariant rule c w → HoldsClosed (known_of (w.views n) own) → (known_of (w.views n) own).settled ≡ true → (w.base ≡ w.clock) × (w.done ≡ w.clock)

  -- two callers of which answers said that their attempts are irrevocable are one
  abbrev pub OneIsFixed : Type 0
  OneIsFixed = (m n : ℕ) (own other : Own) (w : World) → Invariant rule c w → IsFixed (known_of (w.views m) own) → IsFixed (known_of (w.views n) other) → m ≡ n
