-- The kinds of step of a promoted attempt.
use Rattle.std.specs.Prelude.{ℕ, ◌≡◌, ◌≢◌, ◌+◌, ◌<◌, ◌≤◌, ◌^◌, ◌==◌, ltb, if◌then◌else◌, Bool, [], ◌∷◌, true, false}
use Rattle.stm_model.specs.declared.alg.Alg.{Alg}
use Rattle.rule_base.specs.declared.layout.At.TheVariants.{Clock, Done, Record, Heap}
use Rattle.stm_model.specs.declared.config.TheConstants.{CLOCK_LIMIT}
use Rattle.rule_base.specs.declared.views.Phase.TheVariants.{In}
use Rattle.rule_base.specs.declared.views.View.{View}
use Rattle.rule_base.specs.GateSteps.{granted_at}
use Rattle.rule_base.specs.Encodings.{free_record}
use Rattle.rule_base.specs.History.{touches, without, Keeps}
use Rattle.rule_base.specs.InstallSteps.{HasChecked}
use Rattle.rule_base.specs.StepKinds.{StepKind, same_history}
use Rattle.rule_base.specs.declared.views.Act.TheVariants.{Load, Store}
use Rattle.rule_seq.specs.CglSteps.{logged, cgl_entry}
use Rattle.stm_model.specs.Algorithms.{entry_rise, has_records}
use Rattle.rule_ring.specs.Filters.{Filters}
use Rattle.rule_ring.specs.RingSteps.{HasRing, ring_look, moved, ring_move, CanRingMove}
use Rattle.rule_seq.specs.TmlSteps.{HasTml}

-- TML: the clock is the start and below its limit
abbrev pub tml_grants : ℕ → View → Bool
tml_grants clock v = if clock == v.attempt.start then ltb clock CLOCK_LIMIT else false

-- TML: load the clock, the last look of a promotion
abbrev pub tml_grant : StepKind
tml_grant = record {
  place = Clock;
  act = Load;
  after = λ w v clock. record v { gate = if tml_grants clock v then granted_at clock v.gate else v.gate };
  grown = same_history;
}

pub record CanTmlGrant (callers n : ℕ) (v : View) : Type 0 where
  pub has : HasTml v
  pub reads : v.tml.writer ≡ false
  pub unlocked : v.lock.taken ≡ false
  pub holds : v.gate.holds ≡ true
  pub quiet : HasChecked callers n v

-- RingSW: load the clock to check, as who has settled: where it is the start, the check passes and grants
abbrev pub ring_look_grant : StepKind
ring_look_grant = record {
  place = Clock;
  act = Load;
  after = λ w v clock. record (ring_look.after w v clock) { gate = if clock == v.attempt.start then granted_at clock v.gate else v.gate };
  grown = same_history;
}

-- RingSW: load DONE, the last of a check: where the start comes to the settled clock, it grants
abbrev pub ring_move_grant : StepKind
ring_move_grant = record {
  place = Done;
  act = Load;
  after = λ w v done. record (ring_move.after w v done) { gate = if moved v done == v.gate.time then granted_at v.gate.time v.gate else v.gate };
  grown = same_history;
}

pub record CanRingGrant (v : View) : Type 0 where
  pub has : HasRing v
  pub quiescent : v.gate.quiescent ≡ true
  pub limit : v.gate.time < CLOCK_LIMIT
  pub unlocked : v.lock.taken ≡ false
  pub uncommitted : v.ring_commit.committed ≡ false
  pub unwritten : v.tml.writer ≡ false

pub record CanRingMoveGrant (F : Filters) (v : View) : Type 0 where
  pub grant : CanRingGrant v
  pub move : CanRingMove F v

-- load a heap word
abbrev pub direct_load : ℕ → StepKind
direct_load a = record {
  place = Heap a;
  act = Load;
  after = λ w v x. record v { attempt = record v.attempt { reads = logged v.attempt a x } };
  grown = same_history;
}

pub record CanDirectLoad (words a : ℕ) (v : View) : Type 0 where
  pub granted : v.gate.granted ≡ true
  pub inside : a < words

-- store a heap word
abbrev pub direct_store : ℕ → ℕ → StepKind
direct_store a x = record {
  place = Heap a;
  act = Store x;
  after = λ w v n. record v { attempt = record v.attempt { stores = record { at = a; value = x } ∷ v.attempt.stores } };
  grown = same_history;
}

pub record CanDirectStore (words a x : ℕ) (v : View) : Type 0 where
  pub granted : v.gate.granted ≡ true
  pub inside : a < words
  pub small : x < 2 ^ 64

-- store the clock, which appends the entry: what the caller knows as the gate's holder is of this time
abbrev pub direct_commit : ℕ → Alg → ℕ → StepKind
direct_commit n alg t = record {
  place = Clock;
  act = Store t;
  after = λ w v x. record v {
    history = record v.history { made = cgl_entry n t v ∷ v.history.made; seen = cgl_entry n t v ∷ w.history; front = t };
    steps = record v.steps { rises = v.steps.rises + entry_rise alg };
    gate = record v.gate { time = t; rebased = false; completed = false };
    attempt = record { start = t; reads = []; stores = []; entered = true };
  };
  grown = λ w v x. cgl_entry n t v ∷ w.history;
}

pub record CanDirectCommit (good : (ℕ → ℕ) → Type 0) (alg : Alg) (t : ℕ) (v : View) : Type 0 where
  pub phase : v.gate.phase ≡ In
  pub granted : v.gate.granted ≡ true
  pub named : v.gate.algorithm ≡ alg
  pub time : t ≡ v.attempt.start + entry_rise alg
  pub limit : t ≤ CLOCK_LIMIT
  pub wrote : v.attempt.stores ≢ []
  pub keeps : Keeps good v.attempt.reads v.attempt.stores

-- store a record that the attempt holds, free with the time of its entry
abbrev pub direct_release : ℕ → ℕ → StepKind
direct_release r t = record {
  place = Record r;
  act = Store (free_record t);
  after = λ w v n. record v { owned = record v.owned { held = without v.owned.held r } };
  grown = same_history;
}

pub record CanDirectRelease (r t : ℕ) (v : View) : Type 0 where
  pub granted : v.gate.granted ≡ true
  pub algorithm : has_records v.gate.algorithm ≡ true
  pub entered : v.attempt.entered ≡ true
  pub held : touches v.owned.held r ≡ true
  pub time : t ≡ v.attempt.start
