-- BASE, DONE and the caller that is alone (`quiescent`), under every algorithm: both words lie between the opening
-- clock and the clock, and while a caller is quiescent the clock is the number that it knows. So an install, a
-- promotion or a give-back that stores the clock in BASE and DONE takes nothing back. Without `alone` and `time` the
-- clock could rise between its load and that store. Without `rebased` and `completed` the gate could name the next
-- algorithm too early.
-- Without `promoted` and `giving` their flags could outlast what they stand for.
use Rattle.std.specs.Prelude.{ℕ, ◌≡◌, ◌≢◌, ◌<◌, ◌≤◌, true}
use Rattle.stm_model.specs.declared.config.Config.{Config}
use Rattle.rule_base.specs.declared.views.GateView.{GateView}
use Rattle.rule_base.specs.declared.views.Phase.TheVariants.{In, Closing}
use Rattle.rule_base.specs.declared.views.View.{View}
use Rattle.rule_base.specs.History.{member}
use Rattle.rule_base.specs.World.{World, parts}

-- what these clauses see of the world
pub record InstallProjection : Type 0 where
  pub clock : ℕ
  pub base : ℕ
  pub done : ℕ
  pub views : ℕ → GateView

abbrev pub install_projection : World → InstallProjection
install_projection w = record { clock = w.clock; base = w.base; done = w.done; views = parts (λ (v : View). v.gate) w.views }

pub record InstallRule (c : Config) (s : InstallProjection) : Type 0 where
  -- neither is ahead of the clock: storing the clock there takes nothing back
  pub base : s.base ≤ s.clock
  pub done : s.done ≤ s.clock
  -- nor is one below the opening clock: no attempt begins before it
  pub opened : (c.clock ≤ s.base) × (c.clock ≤ s.done)
  -- who loaded the clock to install, or to be promoted, has closed the gate and seen all others idle,
  -- so the clock is its own until it reopens
  pub holding : (n : ℕ) → (s.views n).quiescent ≡ true → (s.views n).holds ≡ true
  pub promoted : (n : ℕ) → (s.views n).granted ≡ true → ((s.views n).quiescent ≡ true) × ((s.views n).phase ≡ In)
  -- and so has who gave a fence back
  pub giving : (n : ℕ) → (s.views n).giving ≡ true → ((s.views n).quiescent ≡ true) × ((s.views n).phase ≡ Closing)
  pub alone : (n k : ℕ) → (s.views n).quiescent ≡ true → k < c.callers → k ≢ n → member (s.views n).checked k ≡ true
  pub time : (n : ℕ) → (s.views n).quiescent ≡ true → s.clock ≡ (s.views n).time
  -- what it stored in BASE and in DONE is that clock: the next algorithm starts from both
  pub rebased : (n : ℕ) → (s.views n).rebased ≡ true → ((s.views n).quiescent ≡ true) × (s.base ≡ (s.views n).time)
  pub completed : (n : ℕ) → (s.views n).completed ≡ true → ((s.views n).quiescent ≡ true) × (s.done ≡ (s.views n).time)
