-- The kinds of step by which a promoted attempt of OrecEager ends that holds records still and wrote nothing else: as a
-- rollback does, it raises the clock above the versions that they had, and gives each back one later than it was.
use Rattle.std.specs.Prelude.{ℕ, ◌≡◌, ◌+◌, ◌<◌, ◌≤◌, max, ltb, if◌then◌else◌, [], true, false}
use Rattle.stm_model.specs.declared.alg.Alg.TheVariants.{OrecEager}
use Rattle.stm_model.specs.declared.config.TheConstants.{CLOCK_LIMIT}
use Rattle.rule_base.specs.declared.layout.At.TheVariants.{Clock, Record}
use Rattle.rule_base.specs.declared.views.Act.TheVariants.{Raise, Store}
use Rattle.rule_base.specs.declared.views.Phase.TheVariants.{In}
use Rattle.rule_base.specs.declared.views.View.{View}
use Rattle.rule_base.specs.Encodings.{free_record}
use Rattle.rule_base.specs.History.{over, touches}
use Rattle.rule_base.specs.StepKinds.{StepKind, same_history}
use Rattle.rule_orec.specs.OrecOwning.{clock_raised, released}

-- raise the clock to this number, where it is lower: it makes no entry, and its start is the clock still
abbrev pub direct_raise_clock : ℕ → StepKind
direct_raise_clock least = record {
  place = Clock;
  act = Raise least;
  after = λ w v found. record v {
    history = record v.history { front = max found least };
    steps = if ltb found least then record v.steps { rises = v.steps.rises + 1 } else v.steps;
    gate = record v.gate { time = max found least; rebased = false; completed = false };
    attempt = record { start = max found least; reads = []; stores = []; entered = false };
    owned = clock_raised v.owned;
  };
  grown = same_history;
}

pub record CanDirectRaiseClock (least : ℕ) (v : View) : Type 0 where
  pub phase : v.gate.phase ≡ In
  pub granted : v.gate.granted ≡ true
  pub named : v.gate.algorithm ≡ OrecEager
  pub unwritten : v.attempt.stores ≡ []
  pub unentered : v.attempt.entered ≡ false
  pub limit : least ≤ CLOCK_LIMIT
  pub above : (r : ℕ) → touches v.owned.held r ≡ true → over v.owned.held r 0 < least
  -- the least number that does: the greatest old version and one more
  pub greatest : (r : ℕ) × (touches v.owned.held r ≡ true) × (least ≡ over v.owned.held r 0 + 1)

-- store a free record: it is given back, one later than it was
abbrev pub direct_up : ℕ → ℕ → StepKind
direct_up r version = record {
  place = Record r;
  act = Store (free_record version);
  after = λ w v n. record v { owned = released r v.owned };
  grown = same_history;
}

pub record CanDirectUp (r version : ℕ) (v : View) : Type 0 where
  pub phase : v.gate.phase ≡ In
  pub granted : v.gate.granted ≡ true
  pub named : v.gate.algorithm ≡ OrecEager
  pub unentered : v.attempt.entered ≡ false
  pub held : touches v.owned.held r ≡ true
  pub raised : v.owned.raised ≡ true
  pub next : version ≡ over v.owned.held r 0 + 1
