-- The kinds of step that TML takes: what each does, when a seat may take it, and what it shows.
use Rattle.std.specs.Prelude.{ℕ, ◌≡◌, ◌≢◌, ◌+◌, ◌<◌, ◌≤◌, ◌^◌, ◌%◌, ◌==◌, if◌then◌else◌, List, [], ◌∷◌, true, false}
use Rattle.stm_model.specs.declared.alg.Alg.TheVariants.{Tml}
use Rattle.rule_base.specs.declared.entries.Cell.{Cell}
use Rattle.rule_base.specs.declared.layout.At.TheVariants.{Clock, Heap}
use Rattle.stm_model.specs.declared.config.Config.{Config}
use Rattle.stm_model.specs.declared.config.TheConstants.{CLOCK_LIMIT}
use Rattle.rule_base.specs.declared.views.TmlView.{TmlView}
use Rattle.rule_base.specs.declared.views.Phase.TheVariants.{In}
use Rattle.rule_base.specs.declared.views.View.{View}
use Rattle.rule_base.specs.History.{over, word_now, Explains, Keeps, Below, Legal, upto}
use Rattle.rule_base.specs.StepKinds.{StepKind, same_history}
use Rattle.rule_base.specs.declared.views.Act.TheVariants.{Load, Store, Exchange}
use Rattle.rule_base.specs.World.{World}
use Rattle.rule_seq.specs.CglSteps.{no_attempt, logged, cgl_entry}

-- the caller is in an attempt of TML that isn't promoted
pub record RunsTml (v : View) : Type 0 where
  pub phase : v.gate.phase ≡ In
  pub algorithm : v.gate.algorithm ≡ Tml
  pub plain : v.gate.granted ≡ false

-- and has loaded its start
pub record HasTml (v : View) : Type 0 where
  pub runs : RunsTml v
  pub inside : v.tml.inside ≡ true

abbrev pub fresh_tml : TmlView
fresh_tml = record { inside = true; writer = false; loaded = false; from = 0; value = 0 }

abbrev pub no_tml : TmlView
no_tml = record { inside = false; writer = false; loaded = false; from = 0; value = 0 }

-- load the clock: an even one is the start
abbrev pub tml_begin : StepKind
tml_begin = record {
  place = Clock;
  act = Load;
  after = λ w v clock. record v {
    history = if clock % 2 == 0 then record v.history { seen = w.history; front = clock } else v.history;
    attempt = if clock % 2 == 0 then record { start = clock; reads = []; stores = []; entered = false } else v.attempt;
    tml = if clock % 2 == 0 then fresh_tml else v.tml;
  };
  grown = same_history;
}

pub record CanTmlBegin (v : View) : Type 0 where
  pub runs : RunsTml v
  pub outside : v.tml.inside ≡ false
  pub unwritten : v.tml.writer ≡ false

-- what the start shows: a legal history up to it, of which the seat had seen a part
pub record TmlBegins (good : (ℕ → ℕ) → Type 0) (c : Config) (w : World) (v : View) (start : ℕ) : Type 0 where
  pub legal : Legal good c w.history
  pub below : Below w.history (start + 1)
  pub seen : v.history.seen ≡ upto w.history v.history.front
  pub front : v.history.front ≤ start
  pub limit : start ≤ CLOCK_LIMIT

-- load a heap word: a writer reads in place, a reader is to load the clock again
abbrev pub tml_load : ℕ → StepKind
tml_load a = record {
  place = Heap a;
  act = Load;
  after = λ w v x. record v {
    attempt = if v.tml.writer then record v.attempt { reads = logged v.attempt a x } else v.attempt;
    tml = if v.tml.writer then v.tml else record v.tml { loaded = true; from = a; value = x };
  };
  grown = same_history;
}

pub record CanTmlLoad (words a : ℕ) (v : View) : Type 0 where
  pub has : HasTml v
  pub inside : a < words

-- what an attempt sees with these reads: the memory after what was seen, which is legal, explains them
pub record TmlSees (good : (ℕ → ℕ) → Type 0) (c : Config) (v : View) (reads : List Cell) : Type 0 where
  pub sees : Explains (word_now v.history.seen) reads
  pub legal : Legal good c v.history.seen
  pub below : Below v.history.seen (v.attempt.start + 1)

-- what a writer's load shows: the own latest write, else the memory after what was seen, which explains all reads
pub record TmlLoads (good : (ℕ → ℕ) → Type 0) (c : Config) (a : ℕ) (w : World) (v : View) (x : ℕ) : Type 0 where
  pub value : v.tml.writer ≡ true → x ≡ over v.attempt.stores a (word_now v.history.seen a)
  pub sees : v.tml.writer ≡ true → TmlSees good c v (logged v.attempt a x)

-- load the clock again: where it is still the start, the word loaded before is read
abbrev pub still_at : ℕ → View → List Cell
still_at clock v = if clock == v.attempt.start then (if v.tml.loaded then record { at = v.tml.from; value = v.tml.value } ∷ v.attempt.reads else v.attempt.reads) else v.attempt.reads

abbrev pub tml_again : StepKind
tml_again = record {
  place = Clock;
  act = Load;
  after = λ w v clock. record v { attempt = record v.attempt { reads = still_at clock v }; tml = record v.tml { loaded = false } };
  grown = same_history;
}

pub record CanTmlAgain (v : View) : Type 0 where
  pub has : HasTml v
  pub reads : v.tml.writer ≡ false

-- what it shows: where the clock is still the start, the word loaded is that of the memory after what was seen, which
-- explains all reads
pub record TmlAgain (good : (ℕ → ℕ) → Type 0) (c : Config) (w : World) (v : View) (clock : ℕ) : Type 0 where
  pub value : clock ≡ v.attempt.start → v.tml.loaded ≡ true → v.tml.value ≡ word_now v.history.seen v.tml.from
  pub sees : TmlSees good c v (still_at clock v)

-- exchange the clock, the start for the next number: the caller is the writer
abbrev pub tml_write : ℕ → StepKind
tml_write start = record {
  place = Clock;
  act = Exchange start (start + 1);
  after = λ w v found. record v {
    tml = if found == start then record v.tml { writer = true } else v.tml;
    steps = if found == start then record v.steps { rises = v.steps.rises + 1 } else v.steps;
  };
  grown = same_history;
}

pub record CanTmlWrite (from : ℕ) (v : View) : Type 0 where
  pub has : HasTml v
  pub reads : v.tml.writer ≡ false
  pub start : from ≡ v.attempt.start
  pub limit : from + 2 ≤ CLOCK_LIMIT
  pub settled : v.tml.loaded ≡ false
  -- who holds the gate has not yet loaded the clock as its holder
  pub not_quiescent : v.gate.quiescent ≡ false

-- store a heap word
abbrev pub tml_store : ℕ → ℕ → StepKind
tml_store a x = record {
  place = Heap a;
  act = Store x;
  after = λ w v n. record v { attempt = record v.attempt { stores = record { at = a; value = x } ∷ v.attempt.stores } };
  grown = same_history;
}

pub record CanTmlStore (words a x : ℕ) (v : View) : Type 0 where
  pub has : HasTml v
  pub writes : v.tml.writer ≡ true
  pub inside : a < words
  pub small : x < 2 ^ 64

-- store the clock's next even number, which appends the entry
abbrev pub tml_commit : ℕ → ℕ → StepKind
tml_commit n t = record {
  place = Clock;
  act = Store t;
  after = λ w v x. record v {
    history = record v.history { made = cgl_entry n t v ∷ v.history.made; seen = cgl_entry n t v ∷ w.history; front = t };
    steps = record v.steps { rises = v.steps.rises + 1 };
    attempt = no_attempt;
    tml = no_tml;
  };
  grown = λ w v x. cgl_entry n t v ∷ w.history;
}

pub record CanTmlCommit (good : (ℕ → ℕ) → Type 0) (t : ℕ) (v : View) : Type 0 where
  pub has : HasTml v
  pub writes : v.tml.writer ≡ true
  pub not_quiescent : v.gate.quiescent ≡ false
  pub time : t ≡ v.attempt.start + 2
  pub limit : t ≤ CLOCK_LIMIT
  pub wrote : v.attempt.stores ≢ []
  pub keeps : Keeps good v.attempt.reads v.attempt.stores
