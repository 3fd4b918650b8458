-- What the begin of an algorithm asks and tells, where the caller is not between two calls.
use Rattle.std.specs.Prelude.{ℕ, ◌≡◌, ◌<◌, ◌≤◌, true, false, List, [], Result, Ok, Err}
use Rattle.stm_model.specs.Algorithms.{asks_at_begin, takes_lock}
use Rattle.stm_model.specs.declared.alg.Alg.{Alg}
use Rattle.stm_model.specs.declared.config.Config.{Config}
use Rattle.rule_base.specs.declared.layout.At.TheVariants.{Lock}
use Rattle.rule_base.specs.declared.views.Phase.TheVariants.{In}
use Rattle.rule_base.specs.declared.views.View.{View}
use Rattle.rule_base.specs.Encodings.{taken_lock}
use Rattle.rule_base.specs.Own.{Own}
use Rattle.stm_rule.specs.declared.local.Local.{Local}
use Rattle.stm_rule.specs.Attempts.{IsFenceOf, IsClear, IsInside, begun}
use Rattle.stm_answers.specs.declared.answers.Begin.{Begin}
use Rattle.stm_answers.specs.declared.answers.Begin.TheVariants.{Begun, Closed, Held, ClockFull}
use Rattle.stm_answers.specs.Answers.{HasOthers, IsHeld, IsOpaque, start_word}
use Rattle.stm_answers.specs.Causes.{FindsFull}
use Rattle.stm_answers.specs.Evidence.{Found, Exchanged}
use Rattle.stm_answers.specs.CallerState.{CallerState, Grows, known_of, no_log}

-- the caller found the gate open under this algorithm
pub record CanBegin (alg : Alg) (v : View) : Type 0 where
  pub phase : v.gate.phase ≡ In
  pub named : v.gate.algorithm ≡ alg
  pub reopened : v.gate.holds ≡ false
  pub ungranted : v.gate.granted ≡ false
  pub clear : IsClear v
  pub unentered : v.tml.inside ≡ false
  pub rises : v.steps.rises ≡ v.steps.rises_at_begin

-- an idle descriptor keeps nothing of an attempt
abbrev pub IsFresh : Own → Type 0
IsFresh o = (o.committing ≡ false) × (o.buffered ≡ []) × (o.depth ≡ 0) × (o.marks ≡ [])

-- what no begin changes
pub record KeepsCaller (v w : CallerState) : Type 0 where
  pub made : w.made ≡ v.made
  pub grows : Grows v w
  pub rises : w.rises ≡ v.rises
  pub installs : w.installs ≡ v.installs

-- what a refusal leaves: the caller is where it was
pub record Waits (alg : Alg) (v w : View) : Type 0 where
  pub can : CanBegin alg w
  pub keeps : (o : Own) → KeepsCaller (known_of v o) (known_of w o)

module _ (good : List ℕ → Type 0) (c : Config) (n : ℕ) (alg : Alg) where
  -- an attempt stands at a start that was loaded, not before anything that was seen
  pub record StartsFrom (start : ℕ) (v w : CallerState) : Type 0 where
    pub keeps : KeepsCaller v w
    pub found : Found (start_word alg) start v w
    pub is : w.start ≡ start
    pub fresh : v.front ≤ start
    pub log : w.log ≡ no_log
    pub bare : w.kept ≡ []
    pub granted : w.granted ≡ false
    pub opaque : IsOpaque good c n w
    -- with a lock, it was found free, and is held
    pub locked : w.locked ≡ takes_lock alg
    pub took : takes_lock alg ≡ true → Exchanged Lock 0 (taken_lock n) v w

  pub record StartsAt (start : ℕ) (v w : View) : Type 0 where
    pub inside : (l : Local) → IsFenceOf l w → l.holds ≡ false → IsInside good c n (begun alg start l) w
    pub reopened : w.gate.holds ≡ false
    pub fence : w.gate.fence ≡ v.gate.fence
    pub rises : w.steps.rises ≡ w.steps.rises_at_begin
    pub starts : (o : Own) → IsFresh o → StartsFrom start (known_of v o) (known_of w o)

  abbrev pub Refuses : Begin → View → View → Type 0
  Refuses (Begun a) v w = ⊥
  Refuses (Closed gate) v w = ⊥
  Refuses (Held word) v w = Waits alg v w × (0 < word) × ((o : Own) → IsHeld good c n alg word (known_of v o) (known_of w o)) × HasOthers good c n
  Refuses (ClockFull clock) v w = Waits alg v w × (asks_at_begin alg ≡ true) × ((o : Own) → FindsFull clock (known_of v o) (known_of w o))

  -- what the begin tells: its start, or a refusal
  abbrev pub Starts : Result ℕ Begin → View → View → Type 0
  Starts (Ok start) v w = StartsAt start v w
  Starts (Err refusal) v w = Refuses refusal v w
