-- What the parts of a read and of a write of OrecEager ask and tell.
use Rattle.std.specs.Prelude.{ℕ, ◌≡◌, ◌+◌, ◌<◌, ◌≤◌, true, false, List, [], ◌∷◌, ◌++◌, length, Contains, None, Result, Ok, Err}
use Rattle.stm_model.specs.declared.config.Config.{Config}
use Rattle.stm_model.specs.declared.config.TheConstants.{CLOCK_LIMIT}
use Rattle.stm_model.specs.Memories.{item_at}
use Rattle.rule_base.specs.Encodings.{fenced}
use Rattle.rule_base.specs.declared.entries.Cell.{Cell}
use Rattle.rule_base.specs.declared.entries.Entry.{Entry}
use Rattle.rule_base.specs.declared.layout.At.TheVariants.{Clock}
use Rattle.rule_base.specs.declared.views.Sample.{Sample}
use Rattle.rule_base.specs.declared.views.TracedStep.{TracedStep}
use Rattle.rule_base.specs.declared.views.Validation.{Validation}
use Rattle.rule_base.specs.declared.views.View.{View}
use Rattle.rule_base.specs.Bridge.{items}
use Rattle.rule_base.specs.History.{over, touches, Inside}
use Rattle.rule_base.specs.Ranks.{home_of}
use Rattle.rule_orec.specs.OrecSteps.{HasOpen}
use Rattle.stm_rule.specs.declared.local.Local.{Local}
use Rattle.stm_answers.specs.declared.answers.Write.{Write}
use Rattle.stm_answers.specs.declared.answers.Write.TheVariants as writes
use Rattle.alg_orec.specs.EagerEnding.{AllBelow}
use Rattle.alg_orec.specs.Loading.{MayMove, MovesOwed, RefusesRead, moved}
use Rattle.alg_orec.specs.Validating.{CanValidate, load_of}

-- each record that is held was free at a version that the start has seen
abbrev pub AllSeen : ℕ → List Cell → Type 0
AllSeen start held = (r : ℕ) → touches held r ≡ true → over held r 0 ≤ start

-- the attempt stores in place, has not stored at a, and may load the word there
pub record CanLoadWord (c : Config) (a : ℕ) (l : Local) (v : View) : Type 0 where
  pub can : CanValidate c l v
  pub eager : v.owned.eager ≡ true
  pub olds : AllSeen v.attempt.start v.owned.held
  pub unwritten : touches v.owned.in_place a ≡ false
  pub front : v.history.front ≡ l.start
  pub inside : a < c.words

-- the attempt stores in place, and may take the record of a where it doesn't hold it
pub record CanTake (c : Config) (a : ℕ) (l : Local) (v : View) : Type 0 where
  pub can : CanValidate c l v
  pub unraised : v.owned.raised ≡ false
  pub olds : AllSeen v.attempt.start v.owned.held
  pub below : AllBelow CLOCK_LIMIT v.owned.held
  pub places : Inside c.records v.owned.held
  pub room : touches v.owned.held (home_of c a) ≡ false → length l.locks.items < l.locks.len
  pub records : 0 < c.records
  pub front : v.history.front ≡ l.start
  pub inside : a < c.words

-- the view with this start and what was seen up to it, with these records held, and with these steps added
abbrev pub taken : View → ℕ → List Entry → List Cell → Sample → Validation → List TracedStep → View
taken v start seen held sample check more = record v {
  history = record v.history { seen = seen; front = start };
  attempt = record v.attempt { start = start };
  owned = record v.owned { held = held };
  sample = sample;
  check = check;
  steps = record v.steps { step_trace = more ++ v.steps.step_trace };
}

module _ (good : (ℕ → ℕ) → Type 0) (c : Config) (n : ℕ) where
  -- the record of a is held, with those that were held before
  pub record HasTaken (a : ℕ) (l : Local) (v : View) (m : Local) (w : View) : Type 0 where
    pub local : m ≡ record l { start = m.start; locks = m.locks }
    pub len : m.locks.len ≡ l.locks.len
    pub seen : List Entry
    pub held : List Cell
    pub sample : Sample
    pub check : Validation
    pub more : List TracedStep
    pub is : w ≡ taken v m.start seen held sample check more
    pub moves : MayMove good c n m.start seen more v
    pub owed : MovesOwed c a m.start more v
    pub its : touches held (home_of c a) ≡ true
    pub keeps : (r : ℕ) → touches v.owned.held r ≡ true → touches held r ≡ true
    pub locks : m.locks.items ≡ items held
    pub few : length m.locks.items ≤ length l.locks.items + 1
    pub places : Inside c.records held
    pub olds : AllSeen m.start held
    pub below : AllBelow CLOCK_LIMIT held

  -- the clock was found at its limit, maybe by a start that moved there
  pub record FindsLimit (clock : ℕ) (l : Local) (v : View) (m : Local) (w : View) : Type 0 where
    pub local : m ≡ record l { start = m.start }
    pub seen : List Entry
    pub more : List TracedStep
    pub is : w ≡ moved v m.start seen v.attempt.reads w.sample w.check more
    pub moves : MayMove good c n m.start seen more v
    pub limit : CLOCK_LIMIT ≤ clock
    pub found : Contains more (load_of Clock clock)

  abbrev pub RefusesTake : ℕ → Write → Local → View → Local → View → Type 0
  RefusesTake a writes.Done l v m w = ⊥
  RefusesTake a (writes.Conflict cause) l v m w = RefusesRead good c n a cause l v m w
  RefusesTake a (writes.Full limit) l v m w = ⊥
  RefusesTake a (writes.ClockFull clock) l v m w = FindsLimit clock l v m w

  abbrev pub Takes : ℕ → Result (Unit {0}) Write → Local → View → Local → View → Type 0
  Takes a (Ok _) l v m w = HasTaken a l v m w
  Takes a (Err refusal) l v m w = RefusesTake a refusal l v m w

-- the attempt holds the record of a, has not stored there, and its logs have room
pub record CanStoreFirst (c : Config) (a : ℕ) (l : Local) (v : View) : Type 0 where
  pub opens : HasOpen v
  pub spared : fenced v.gate.fence a ≡ false
  pub eager : v.owned.eager ≡ true
  pub held : touches v.owned.held (home_of c a) ≡ true
  pub unwritten : touches v.owned.in_place a ≡ false
  pub fresh : item_at a l.undo.items ≡ None
  pub unlogged : item_at a l.writes.items ≡ None
  pub undo_room : length l.undo.items < l.undo.len
  pub room : length l.writes.items < l.writes.len

-- x lies in place, and what the word was is in the undo log
pub record StoresFirst (a x : ℕ) (l : Local) (v : View) (m : Local) (w : View) : Type 0 where
  pub old : ℕ
  pub more : List TracedStep
  pub local : m ≡ record l { undo = record l.undo { items = l.undo.items ++ (a, old) ∷ [] }; writes = record l.writes { items = l.writes.items ++ (a, x) ∷ [] }; wrote = true }
  pub is : w
      ≡ record v {
        owned =
            record v.owned { in_place = record { at = a; value = x } ∷ v.owned.in_place; undo = record { at = a; value = old } ∷ v.owned.undo };
        steps = record v.steps { step_trace = more ++ v.steps.step_trace };
      }
