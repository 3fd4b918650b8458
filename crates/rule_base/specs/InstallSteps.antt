-- The kinds of step by which who holds the quiet gate installs an algorithm.
use Rattle.std.specs.Prelude.{ℕ, ◌≡◌, ◌≢◌, ◌<◌, ◌≤◌, ◌+◌, ◌%◌, true, false, ◌∷◌}
use Rattle.stm_model.specs.declared.alg.Alg.{Alg}
use Rattle.stm_model.specs.declared.alg.Alg.TheVariants.{Tml}
use Rattle.stm_model.specs.declared.config.TheConstants.{CLOCK_LIMIT}
use Rattle.rule_base.specs.declared.layout.At.TheVariants.{Clock, Gate, Base, Done}
use Rattle.rule_base.specs.declared.views.Phase.TheVariants.{Closing}
use Rattle.rule_base.specs.declared.views.View.{View}
use Rattle.rule_base.specs.Encodings.{gate_word}
use Rattle.rule_base.specs.History.{member}
use Rattle.rule_base.specs.StepKinds.{StepKind, same_history}
use Rattle.rule_base.specs.declared.views.Act.TheVariants.{Load, Store}
use Rattle.rule_base.specs.World.{World}

-- load the clock, which stands while the gate is closed and quiet
abbrev pub settle : StepKind
settle = record {
  place = Clock;
  act = Load;
  after = λ w v clock. record v { gate = record v.gate { quiescent = true; time = clock; rebased = false; completed = false } };
  grown = same_history;
}

-- the clock is within its limit
abbrev pub Settles : World → View → ℕ → Type 0
Settles w v clock = clock ≤ CLOCK_LIMIT

-- all callers but n were seen idle
abbrev pub HasChecked : ℕ → ℕ → View → Type 0
HasChecked callers n v = (k : ℕ) → k < callers → k ≢ n → member v.gate.checked k ≡ true

pub record CanSettle (callers n : ℕ) (v : View) : Type 0 where
  pub holds : v.gate.holds ≡ true
  pub quiet : HasChecked callers n v

-- TML begins at an even clock: store the next number
abbrev pub even_clock : ℕ → StepKind
even_clock t = record {
  place = Clock;
  act = Store t;
  after = λ w v x. record v {
    gate = record v.gate { time = t };
    attempt = record v.attempt { entered = true };
    steps = record v.steps { rises = v.steps.rises + 1 };
  };
  grown = same_history;
}

pub record CanEvenClock (t : ℕ) (v : View) : Type 0 where
  pub phase : v.gate.phase ≡ Closing
  pub ungiven : v.gate.giving ≡ false
  pub quiescent : v.gate.quiescent ≡ true
  pub odd : v.gate.time % 2 ≡ 1
  pub next : t ≡ v.gate.time + 1
  pub unbased : v.gate.rebased ≡ false
  pub uncompleted : v.gate.completed ≡ false

-- store the clock in BASE
abbrev pub store_base : ℕ → StepKind
store_base t = record {
  place = Base;
  act = Store t;
  after = λ w v x. record v { gate = record v.gate { rebased = true } };
  grown = same_history;
}

-- store the clock in DONE
abbrev pub store_done : ℕ → StepKind
store_done t = record {
  place = Done;
  act = Store t;
  after = λ w v x. record v { gate = record v.gate { completed = true } };
  grown = same_history;
}

pub record CanMark (t : ℕ) (v : View) : Type 0 where
  -- who installs, or whose attempt was promoted
  pub closing : v.gate.granted ≡ false → v.gate.phase ≡ Closing
  pub quiescent : v.gate.quiescent ≡ true
  pub time : t ≡ v.gate.time

-- store the gate, still held, with the new algorithm
abbrev pub install : ℕ → ℕ → Alg → StepKind
install n fence alg = record {
  place = Gate;
  act = Store (gate_word fence (1 + n) alg);
  after = λ w v x. record v {
    gate = record v.gate { algorithm = alg };
    attempt = record v.attempt { entered = false };
    steps = record v.steps { installs = alg ∷ v.steps.installs };
  };
  grown = same_history;
}

pub record CanInstall (fence : ℕ) (alg : Alg) (v : View) : Type 0 where
  pub phase : v.gate.phase ≡ Closing
  pub guarded : v.gate.fence ≡ fence
  pub ungiven : v.gate.giving ≡ false
  pub quiescent : v.gate.quiescent ≡ true
  pub rebased : v.gate.rebased ≡ true
  pub completed : v.gate.completed ≡ true
  pub even : alg ≡ Tml → v.gate.time % 2 ≡ 0
