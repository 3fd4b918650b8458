-- The end of an attempt: what the last steps ask, and what they leave.
use Rattle.std.specs.Prelude.{ℕ, ◌≡◌, ◌++◌, if◌then◌else◌, Bool, true, false, List, [], ◌∷◌, None}
use Rattle.stm_model.specs.declared.alg.Alg.{Alg}
use Rattle.rule_base.specs.declared.layout.At.TheVariants.{Gate, Status}
use Rattle.rule_base.specs.declared.views.Act.TheVariants.{Store}
use Rattle.rule_base.specs.declared.views.GateView.{GateView}
use Rattle.rule_base.specs.declared.views.Phase.TheVariants.{Idle, In}
use Rattle.rule_base.specs.declared.views.TracedStep.{TracedStep}
use Rattle.rule_base.specs.declared.views.View.{View}
use Rattle.rule_base.specs.Encodings.{gate_word}

-- nothing of the attempt is left but its status and, where it closed the gate, that
pub record CanLeave (v : View) : Type 0 where
  pub phase : v.gate.phase ≡ In
  pub unlocked : v.lock.taken ≡ false
  pub unfixed : v.lock.irrevocable ≡ false
  pub disowned : v.owned.held ≡ []
  pub unwritten : v.tml.writer ≡ false
  pub uncommitted : v.ring_commit.committed ≡ false
  pub ungranted : v.gate.holds ≡ false → v.gate.granted ≡ false
  -- who wasn't promoted has raised the clock by no step that BASE and DONE are to have
  pub plain : v.gate.granted ≡ false → v.attempt.entered ≡ false
  -- who closed the gate has no store in the heap that isn't in the history,
  -- and the time of its entry is in BASE and in DONE
  pub unstored : v.gate.holds ≡ true → v.attempt.stores ≡ []
  pub marked : v.gate.holds ≡ true → v.attempt.entered ≡ true → (v.gate.rebased ≡ true) × (v.gate.completed ≡ true)

-- the last steps of caller n, the latest first: it stores the gate where it holds it, and its status
abbrev pub last_steps : ℕ → Bool → ℕ → Alg → List TracedStep
last_steps n true fence alg = record { place = Status n; act = Store 0; found = None } ∷ record { place = Gate; act = Store (gate_word fence 0 alg); found = None } ∷ []
last_steps n false fence alg = record { place = Status n; act = Store 0; found = None } ∷ []

-- the caller is idle, and whatever it knew as the gate's holder is gone
abbrev pub gate_left : Bool → GateView → GateView
gate_left held g = record g {
  phase = Idle;
  present = false;
  holds = false;
  granted = false;
  checked = if held then [] else g.checked;
  quiescent = if held then false else g.quiescent;
  rebased = if held then false else g.rebased;
  completed = if held then false else g.completed;
  giving = if held then false else g.giving;
}

abbrev pub left_by : ℕ → Bool → View → View
left_by n held v = record v {
  gate = gate_left held v.gate;
  attempt = record v.attempt { entered = if held then false else v.attempt.entered };
  tml = record v.tml { inside = false };
  owned = record v.owned { inside = false };
  ring_read = record v.ring_read { inside = false };
  steps = record v.steps { step_trace = last_steps n held v.gate.fence v.gate.algorithm ++ v.steps.step_trace };
}

-- the view of caller n after the last steps of its attempt: all else is as it was
abbrev pub left : ℕ → View → View
left n v = left_by n v.gate.holds v
