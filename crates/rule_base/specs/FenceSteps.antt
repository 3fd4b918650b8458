-- The kinds of step of a fence: a caller that holds the quiet gate takes a range out of the transactions, loads and
-- stores there, and gives it back.
use Rattle.std.specs.Prelude.{ℕ, ◌≡◌, ◌≢◌, ◌+◌, ◌<◌, ◌≤◌, ◌^◌, if◌then◌else◌, [], ◌∷◌, length, true, false}
use Rattle.stm_model.specs.Algorithms.{entry_rise}
use Rattle.stm_model.specs.declared.alg.Alg.{Alg}
use Rattle.rule_base.specs.declared.entries.Entry.{Entry}
use Rattle.rule_base.specs.declared.layout.At.TheVariants.{Clock, Gate, Heap}
use Rattle.stm_model.specs.declared.config.Config.{Config}
use Rattle.stm_model.specs.declared.config.TheConstants.{CLOCK_LIMIT}
use Rattle.rule_base.specs.declared.views.FenceView.{FenceView}
use Rattle.rule_base.specs.declared.views.Phase.TheVariants.{Closing}
use Rattle.rule_base.specs.declared.views.View.{View}
use Rattle.rule_base.specs.Encodings.{gate_word, fenced, IsNamed}
use Rattle.rule_base.specs.History.{over, touches, word_now, upto, AreWords, Below, Legal}
use Rattle.rule_base.specs.InstallSteps.{HasChecked}
use Rattle.rule_base.specs.StepKinds.{StepKind, same_history}
use Rattle.rule_base.specs.declared.views.Act.TheVariants.{Load, Store}
use Rattle.rule_base.specs.World.{World}

abbrev pub no_fence : FenceView → FenceView
no_fence f = record f { holds = false; number = 0; reads = []; stores = [] }

-- store the gate, still held, with the fence
abbrev pub fence : ℕ → ℕ → Alg → StepKind
fence n number alg = record {
  place = Gate;
  act = Store (gate_word number (1 + n) alg);
  after = λ w v x. record v {
    gate = record v.gate { fence = number };
    fence = record { holds = true; number = number; past = record { seen = w.history; front = w.clock }; reads = []; stores = [] };
  };
  grown = same_history;
}

-- the memory takes fences; the range lies in it, and has a number
pub record CanFence (c : Config) (n from count : ℕ) (alg : Alg) (v : View) : Type 0 where
  pub on : c.fence ≡ true
  pub phase : v.gate.phase ≡ Closing
  pub quiet : HasChecked c.callers n v
  pub named : v.gate.algorithm ≡ alg
  pub free : v.gate.fence ≡ 0
  pub ungiven : v.gate.giving ≡ false
  pub some : 0 < count
  pub inside : from + count ≤ c.words
  pub fits : IsNamed n from count

-- load a word of the range
abbrev pub fence_load : ℕ → StepKind
fence_load a = record {
  place = Heap a;
  act = Load;
  after = λ w v x. record v { fence = record v.fence { reads = if touches v.fence.stores a then v.fence.reads else record { at = a; value = x } ∷ v.fence.reads } };
  grown = same_history;
}

pub record CanFenceLoad (a : ℕ) (v : View) : Type 0 where
  pub holds : v.fence.holds ≡ true
  pub inside : fenced v.fence.number a ≡ true

-- what a load shows: the own latest store there, else the memory at the fence
abbrev pub FenceLoads : ℕ → World → View → ℕ → Type 0
FenceLoads a w v x = x ≡ over v.fence.stores a (word_now v.fence.past.seen a)

-- store a word of the range
abbrev pub fence_store : ℕ → ℕ → StepKind
fence_store a x = record {
  place = Heap a;
  act = Store x;
  after = λ w v n. record v { fence = record v.fence { stores = record { at = a; value = x } ∷ v.fence.stores } };
  grown = same_history;
}

pub record CanFenceStore (a x : ℕ) (v : View) : Type 0 where
  pub holds : v.fence.holds ≡ true
  pub inside : fenced v.fence.number a ≡ true
  pub small : x < 2 ^ 64

abbrev pub fence_entry : ℕ → ℕ → View → Entry
fence_entry n t v = record { time = t; caller = n; number = length v.history.made; reads = v.fence.reads; writes = v.fence.stores }

-- store the clock, which appends the entry of the give-back
abbrev pub fence_commit : ℕ → Alg → ℕ → StepKind
fence_commit n alg t = record {
  place = Clock;
  act = Store t;
  after = λ w v x. record v {
    history = record v.history { made = fence_entry n t v ∷ v.history.made; seen = fence_entry n t v ∷ w.history; front = t };
    steps = record v.steps { rises = v.steps.rises + entry_rise alg };
    gate = record v.gate { time = t; rebased = false; completed = false; giving = true };
    attempt = record v.attempt { entered = true };
    fence = record v.fence { past = record { seen = fence_entry n t v ∷ w.history; front = t }; reads = []; stores = [] };
  };
  grown = λ w v x. fence_entry n t v ∷ w.history;
}

-- THE MEMORY RULE of a give-back: from every good memory of words that has in the range what it had at the fence,
-- the stores lead to a good one
abbrev pub KeepsFenced : ((ℕ → ℕ) → Type 0) → FenceView → Type 0
KeepsFenced good f = (m : ℕ → ℕ) → good m → ((a : ℕ) → fenced f.number a ≡ true → m a ≡ word_now f.past.seen a) → AreWords m → good (λ a. over f.stores a (m a))

pub record CanFenceCommit (good : (ℕ → ℕ) → Type 0) (alg : Alg) (t : ℕ) (v : View) : Type 0 where
  pub phase : v.gate.phase ≡ Closing
  pub quiescent : v.gate.quiescent ≡ true
  pub named : v.gate.algorithm ≡ alg
  pub holds : v.fence.holds ≡ true
  pub ungiven : v.gate.giving ≡ false
  pub time : t ≡ v.gate.time + entry_rise alg
  pub limit : t ≤ CLOCK_LIMIT
  pub wrote : v.fence.stores ≢ []
  pub keeps : KeepsFenced good v.fence

-- what the entry shows: a legal history up to it, of which the seat had seen a part,
-- and found a part as it took the range
pub record FenceCommits (good : (ℕ → ℕ) → Type 0) (c : Config) (n t : ℕ) (w : World) (v : View) (x : ℕ) : Type 0 where
  pub legal : Legal good c (fence_entry n t v ∷ w.history)
  pub below : Below (fence_entry n t v ∷ w.history) (t + 1)
  pub seen : v.history.seen ≡ upto w.history v.history.front
  pub front : v.history.front < t
  pub past : v.fence.past.seen ≡ upto w.history v.fence.past.front
  pub past_front : v.fence.past.front < t

-- store the gate, still held, without a fence
abbrev pub unfence : ℕ → Alg → StepKind
unfence n alg = record {
  place = Gate;
  act = Store (gate_word 0 (1 + n) alg);
  after = λ w v x. record v {
    gate = record v.gate { fence = 0; giving = false };
    attempt = record v.attempt { entered = false };
    fence = no_fence v.fence;
  };
  grown = same_history;
}

pub record CanUnfence (callers n : ℕ) (alg : Alg) (v : View) : Type 0 where
  pub phase : v.gate.phase ≡ Closing
  pub quiet : HasChecked callers n v
  pub named : v.gate.algorithm ≡ alg
  pub holds : v.fence.holds ≡ true
  pub unstored : v.fence.stores ≡ []
  pub plain : v.gate.giving ≡ false → v.attempt.entered ≡ false
  -- the time of its entry is in BASE and in DONE
  pub marked : v.gate.giving ≡ true → (v.gate.quiescent ≡ true) × (v.gate.rebased ≡ true) × (v.gate.completed ≡ true)
