-- The kinds of step at the gate: a caller comes to an attempt and leaves it, closes the gate, looks at the others, and
-- reopens.
use Rattle.std.specs.Prelude.{ℕ, ◌≡◌, ◌≢◌, ◌+◌, ◌==◌, if◌then◌else◌, Bool, true, false, [], ◌∷◌}
use Rattle.stm_model.specs.declared.alg.Alg.{Alg}
use Rattle.rule_base.specs.declared.layout.At.TheVariants.{Gate, Status}
use Rattle.rule_base.specs.declared.views.GateView.{GateView}
use Rattle.rule_base.specs.declared.views.Phase.{Phase}
use Rattle.rule_base.specs.declared.views.Phase.TheVariants.{Idle, Announced, Turned, Aiming, In, Closing}
use Rattle.rule_base.specs.declared.views.View.{View}
use Rattle.rule_base.specs.Encodings.{alg_of, holder_of, fence_of, gate_word, announced}
use Rattle.rule_base.specs.StepKinds.{StepKind, same_history}
use Rattle.rule_base.specs.declared.views.Act.TheVariants.{Load, Store, Exchange}

-- store 1 in the own status
abbrev pub announce : ℕ → StepKind
announce n = record {
  place = Status n;
  act = Store announced;
  after = λ w v x. record v {
    gate = record v.gate { phase = Announced; present = true };
    steps = record v.steps { rises_at_begin = v.steps.rises };
  };
  grown = same_history;
}

abbrev pub CanAnnounce : View → Type 0
CanAnnounce v = v.gate.phase ≡ Idle

-- load the gate: an open one lets the caller in
abbrev pub load_gate : StepKind
load_gate = record {
  place = Gate;
  act = Load;
  after = λ w v gate. record v { gate = record v.gate { phase = if holder_of gate == 0 then In else Turned; algorithm = alg_of gate; fence = fence_of gate } };
  grown = same_history;
}

abbrev pub CanLoadGate : View → Type 0
CanLoadGate v = v.gate.phase ≡ Announced

-- the phases from which the own status becomes 0, and the phase after: a closer goes on closing
abbrev pub departs : Phase → Bool
departs Idle = false
departs Announced = false
departs Turned = true
departs Aiming = false
departs In = true
departs Closing = true

abbrev pub departed : Phase → Phase
departed Closing = Closing
departed _ = Idle

-- store 0 in the own status
abbrev pub depart : ℕ → StepKind
depart n = record {
  place = Status n;
  act = Store 0;
  after = λ w v x. record v { gate = record v.gate { phase = departed v.gate.phase; present = false }; tml = record v.tml { inside = false }; owned = record v.owned { inside = false }; ring_read = record v.ring_read { inside = false } };
  grown = same_history;
}

pub record CanDepart (v : View) : Type 0 where
  pub phase : departs v.gate.phase ≡ true
  -- an attempt has reopened the gate, freed the lock and given back its records before
  pub reopened : v.gate.phase ≡ In → v.gate.holds ≡ false
  pub unlocked : v.lock.taken ≡ false
  pub disowned : v.owned.held ≡ []
  pub unwritten : v.tml.writer ≡ false
  pub uncommitted : v.ring_commit.committed ≡ false
  pub unentered : v.gate.phase ≡ In → v.attempt.entered ≡ false

-- load the gate to close it: an open one is aimed at
abbrev pub aim : StepKind
aim = record {
  place = Gate;
  act = Load;
  after = λ w v gate. record v { gate = record v.gate { phase = if holder_of gate == 0 then Aiming else Turned; algorithm = alg_of gate; fence = fence_of gate; aim = gate } };
  grown = same_history;
}

abbrev pub CanAim : View → Type 0
CanAim v = v.gate.phase ≡ Announced

-- the caller has closed the gate that had this word, and has seen nobody idle since
abbrev pub closed_at : ℕ → GateView → GateView
closed_at word g = record g { phase = Closing; algorithm = alg_of word; fence = fence_of word; holds = true; checked = []; quiescent = false; rebased = false; completed = false; giving = false }

-- exchange the gate, the open word aimed at for the own one
abbrev pub take_gate : ℕ → ℕ → StepKind
take_gate n word = record {
  place = Gate;
  act = Exchange word (gate_word (fence_of word) (1 + n) (alg_of word));
  after = λ w v found. record v { gate = if found == word then closed_at word v.gate else record v.gate { phase = Turned } };
  grown = same_history;
}

pub record CanTakeGate (word : ℕ) (v : View) : Type 0 where
  pub phase : v.gate.phase ≡ Aiming
  pub aimed : v.gate.aim ≡ word

-- load another's status: 0 is idle
abbrev pub check : ℕ → StepKind
check k = record {
  place = Status k;
  act = Load;
  after = λ w v status. record v { gate = record v.gate { checked = if status == 0 then k ∷ v.gate.checked else v.gate.checked } };
  grown = same_history;
}

pub record CanCheck (n k : ℕ) (v : View) : Type 0 where
  pub holds : v.gate.holds ≡ true
  pub other : k ≢ n

-- the caller no longer holds the gate
abbrev pub opened : GateView → GateView
opened g = record g { phase = Idle; holds = false; checked = []; quiescent = false; rebased = false; completed = false; giving = false }

-- store the open gate
abbrev pub reopen : ℕ → Alg → StepKind
reopen fence alg = record {
  place = Gate;
  act = Store (gate_word fence 0 alg);
  after = λ w v x. record v { gate = opened v.gate };
  grown = same_history;
}

pub record CanReopen (fence : ℕ) (alg : Alg) (v : View) : Type 0 where
  pub phase : v.gate.phase ≡ Closing
  -- its own status is 0 already: who is idle has no other
  pub absent : v.gate.present ≡ false
  pub named : v.gate.algorithm ≡ alg
  pub guarded : v.gate.fence ≡ fence
  pub ungiven : v.gate.giving ≡ false
  -- BASE and DONE have each number of the clock that the caller stored
  pub unentered : v.attempt.entered ≡ false

-- load the gate in an attempt that is to be promoted
abbrev pub look_gate : StepKind
look_gate = record {
  place = Gate;
  act = Load;
  after = λ w v gate. v;
  grown = same_history;
}

abbrev pub CanLookGate : View → Type 0
CanLookGate v = v.gate.phase ≡ In

-- the caller holds the gate, in its attempt, and has seen nobody idle since
abbrev pub seized : GateView → GateView
seized g = record g { holds = true; checked = []; quiescent = false; rebased = false; completed = false; giving = false }

-- exchange the gate, open for the own word, to promote the attempt
abbrev pub seize : ℕ → ℕ → Alg → StepKind
seize n fence alg = record {
  place = Gate;
  act = Exchange (gate_word fence 0 alg) (gate_word fence (1 + n) alg);
  after = λ w v found. record v { gate = if found == gate_word fence 0 alg then seized v.gate else v.gate };
  grown = same_history;
}

pub record CanSeize (fence : ℕ) (alg : Alg) (v : View) : Type 0 where
  pub phase : v.gate.phase ≡ In
  pub named : v.gate.algorithm ≡ alg
  pub spared : v.gate.fence ≡ fence
  pub free : v.gate.holds ≡ false

-- the attempt was promoted, at this clock
abbrev pub granted_at : ℕ → GateView → GateView
granted_at clock g = record g { quiescent = true; time = clock; rebased = false; completed = false; granted = true }

-- the caller no longer holds the gate, and its attempt is over but for its status
abbrev pub returned : GateView → GateView
returned g = record g { holds = false; checked = []; quiescent = false; rebased = false; completed = false; granted = false; giving = false }

-- store the open gate at the end of an attempt that holds it
abbrev pub return_gate : ℕ → Alg → StepKind
return_gate fence alg = record {
  place = Gate;
  act = Store (gate_word fence 0 alg);
  after = λ w v x. record v { gate = returned v.gate; attempt = record v.attempt { entered = false }; tml = record v.tml { inside = false }; owned = record v.owned { inside = false }; ring_read = record v.ring_read { inside = false } };
  grown = same_history;
}

pub record CanReturn (fence : ℕ) (alg : Alg) (v : View) : Type 0 where
  pub phase : v.gate.phase ≡ In
  pub holds : v.gate.holds ≡ true
  pub named : v.gate.algorithm ≡ alg
  pub spared : v.gate.fence ≡ fence
  -- the time of its entry is in BASE and in DONE
  pub marked : v.attempt.entered ≡ true → (v.gate.rebased ≡ true) × (v.gate.completed ≡ true)
  -- nothing of the attempt is left in the heap, in the lock or in the records
  pub unstored : v.attempt.stores ≡ []
  pub unlocked : v.lock.taken ≡ false
  pub disowned : v.owned.held ≡ []
  pub unwritten : v.tml.writer ≡ false
  pub uncommitted : v.ring_commit.committed ≡ false
  pub plain : v.gate.granted ≡ false → v.attempt.entered ≡ false
