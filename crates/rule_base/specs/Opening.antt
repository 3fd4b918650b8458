-- The words and the views at the opening.
use Rattle.std.specs.Prelude.{[], false}
use Rattle.stm_model.specs.declared.alg.Alg.TheVariants.{Cgl}
use Rattle.stm_model.specs.declared.config.Config.{Config}
use Rattle.rule_base.specs.declared.views.Phase.TheVariants.{Idle}
use Rattle.rule_base.specs.declared.views.View.{View}
use Rattle.rule_base.specs.World.{World}

-- the view of a caller that has taken no step
abbrev pub first_view : Config → View
first_view c = record {
  history = record { made = []; seen = []; front = c.clock; told = record { seen = []; front = c.clock }; whole = record { seen = []; front = 0 } };
  steps = record { step_trace = []; rises = 0; rises_at_begin = 0; installs = [] };
  gate = record { phase = Idle; present = false; algorithm = Cgl; fence = 0; aim = 0; holds = false; checked = []; quiescent = false; time = 0; rebased = false; completed = false; granted = false; giving = false };
  attempt = record { start = 0; reads = []; stores = []; entered = false };
  lock = record { taken = false; started = false; clocked = false; undo = []; irrevocable = false };
  tml = record { inside = false; writer = false; loaded = false; from = 0; value = 0 };
  owned = record { inside = false; eager = false; held = []; committed = false; time = 0; in_place = []; undo = []; back = []; raised = false };
  sample = record { sampled = false; loaded = false; from = 0; version = 0; value = 0 };
  check = record { checking = false; upto = 0; todo = [] };
  ring_read = record { inside = false; watched = []; loaded = false; from = 0; value = 0; at = 0; checking = false; clock = 0; words = []; sure = false };
  ring_commit = record { slotted = 0; writes = []; ticked = false; clock = 0; committed = false; finished = false; back = [] };
  fence = record { holds = false; number = 0; past = record { seen = []; front = c.clock }; reads = []; stores = [] };
}

-- every heap word 0, the gate open under CGL, BASE and DONE equal to the clock
abbrev pub opening_world : Config → World
opening_world c = record { clock = c.clock; lock = 0; gate = 0; base = c.clock; done = c.clock; status = λ k. 0; records = λ r. 0; slots = λ s. 0; heap = λ a. 0; history = []; views = λ n. first_view c }
