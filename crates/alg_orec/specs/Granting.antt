-- What the parts of a promotion of OrecLazy or OrecEager ask and tell.
use Rattle.std.specs.Prelude.{ℕ, ◌≡◌, ◌<◌, ◌≤◌, ◌++◌, true, false, List, [], Contains, Result, Ok, Err}
use Rattle.stm_model.specs.declared.config.Config.{Config}
use Rattle.stm_model.specs.declared.config.TheConstants.{CLOCK_LIMIT}
use Rattle.rule_base.specs.declared.entries.Entry.{Entry}
use Rattle.rule_base.specs.declared.layout.At.TheVariants.{Clock}
use Rattle.rule_base.specs.declared.views.TracedStep.{TracedStep}
use Rattle.rule_base.specs.declared.views.View.{View}
use Rattle.rule_base.specs.Bridge.{of_words}
use Rattle.rule_base.specs.GateSteps.{granted_at}
use Rattle.rule_base.specs.History.{over, touches, Inside}
use Rattle.rule_base.specs.Own.{Own}
use Rattle.rule_orec.specs.OrecReading.{no_sample, no_check}
use Rattle.rule_orec.specs.OrecSteps.{direct_attempt, direct_owned, HasStores}
use Rattle.stm_rule.specs.declared.local.Local.{Local}
use Rattle.stm_rule.specs.RecordsKept.{Apart, cells_of}
use Rattle.alg_orec.specs.RecordFindings.{Moves}
use Rattle.stm_gate.specs.Granting.{IsAlone}
use Rattle.stm_answers.specs.declared.answers.Irrev.{Irrev}
use Rattle.stm_answers.specs.declared.answers.Irrev.TheVariants as irrevs
use Rattle.stm_answers.specs.Causes.{Conflicts}
use Rattle.stm_answers.specs.Causes.Asked.{ToPromote}
use Rattle.stm_answers.specs.Evidence.{Found}
use Rattle.stm_answers.specs.CallerState.{known_of}
use Rattle.alg_orec.specs.EagerEnding.{AllBelow}
use Rattle.alg_orec.specs.Validating.{load_of, CanValidate}

-- an attempt of OrecLazy or OrecEager that is alone, and whose reads can be validated
pub record CanPromote (c : Config) (n : ℕ) (l : Local) (v : View) : Type 0 where
  pub validates : CanValidate c l v
  pub alone : IsAlone c.callers n v
  pub stores : HasStores c.words v
  pub not_quiescent : v.gate.quiescent ≡ false
  -- its start has seen the versions of the records that it holds, which are below the limit
  pub olds : (r : ℕ) → touches v.owned.held r ≡ true → over v.owned.held r 0 ≤ l.start
  pub below : AllBelow CLOCK_LIMIT v.owned.held

-- the view after the promotion to the clock t: what lies in place is what the attempt stored
abbrev pub promoted_at : View → List Entry → ℕ → List TracedStep → View
promoted_at v seen t more = record v {
  history = record v.history { seen = seen; front = t };
  attempt = direct_attempt t v;
  owned = direct_owned v.owned;
  gate = granted_at t v.gate;
  sample = no_sample;
  check = no_check;
  steps = record v.steps { step_trace = more ++ v.steps.step_trace };
}

-- the view after steps that only loaded: but for what w knows by them, it is as before
abbrev pub loaded_at : View → View → List TracedStep → View
loaded_at v w more = record v {
  gate = record v.gate { quiescent = w.gate.quiescent; time = w.gate.time; rebased = w.gate.rebased; completed = w.gate.completed };
  sample = w.sample;
  check = w.check;
  steps = record v.steps { step_trace = more ++ v.steps.step_trace };
}

-- its start is the clock, below its limit, and all reads are of the memory there
pub record IsPromoted (good : List ℕ → Type 0) (c : Config) (l : Local) (v : View) (m : Local) (w : View) : Type 0 where
  pub local : m ≡ record l { start = m.start }
  pub seen : List Entry
  pub more : List TracedStep
  pub is : w ≡ promoted_at v seen m.start more
  pub moves : Moves (of_words good c.words) c seen v m.start
  pub found : Contains more (load_of Clock m.start)
  pub limit : m.start < CLOCK_LIMIT

module _ (c : Config) (n : ℕ) where
  -- why an attempt that is alone is not promoted
  abbrev pub RefusesGrant : Irrev → View → View → Type 0
  RefusesGrant irrevs.Granted v w = ⊥
  RefusesGrant (irrevs.Busy caller status) v w = ⊥
  RefusesGrant (irrevs.Taken gate) v w = ⊥
  RefusesGrant (irrevs.Conflict cause) v w = ((o : Own) → Conflicts c n ToPromote cause (known_of v o) (known_of w o)) × (1 < c.callers)
  RefusesGrant (irrevs.ClockFull clock) v w = (CLOCK_LIMIT ≤ clock) × ((o : Own) → Found Clock clock (known_of v o) (known_of w o))

  -- and is to be taken back: a clock that it knows is above the versions of what it holds
  pub record IsNotPromoted (refusal : Irrev) (l : Local) (v : View) (m : Local) (w : View) : Type 0 where
    pub local : m ≡ l
    pub more : List TracedStep
    pub is : w ≡ loaded_at v w more
    pub earlier : w.gate.quiescent ≡ true → AllBelow w.gate.time v.owned.held
    pub why : RefusesGrant refusal v w

abbrev pub Promotes : (List ℕ → Type 0) → Config → ℕ → Result (Unit {0}) Irrev → Local → View → Local → View → Type 0
Promotes good c n (Ok _) l v m w = IsPromoted good c l v m w
Promotes good c n (Err refusal) l v m w = IsNotPromoted c n refusal l v m w

-- the attempt was promoted, and nothing that it wrote lies in the heap
pub record CanStoreAll (words : ℕ) (l : Local) (v : View) : Type 0 where
  pub granted : v.gate.granted ≡ true
  pub unstored : v.attempt.stores ≡ []
  pub inside : Inside words (cells_of l.writes.items)
  pub spared : Apart v.gate.fence (cells_of l.writes.items)

-- all of it does
pub record StoresAll (l : Local) (v w : View) : Type 0 where
  pub more : List TracedStep
  pub is : w ≡ record v { attempt = record v.attempt { stores = cells_of l.writes.items }; steps = record v.steps { step_trace = more ++ v.steps.step_trace } }
