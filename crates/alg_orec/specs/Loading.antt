-- What the parts of a read ask and tell.
use Rattle.std.specs.Prelude.{ℕ, ◌≡◌, ◌+◌, ◌*◌, ◌<◌, ◌≤◌, ◌%◌, ◌⊎◌, Bool, true, false, List, [], ◌∷◌, ◌++◌, Contains, Result, Ok, Err}
use Rattle.stm_model.specs.declared.config.Config.{Config}
use Rattle.stm_model.specs.declared.stop.Cause.{Cause}
use Rattle.rule_base.specs.declared.entries.Cell.{Cell}
use Rattle.rule_base.specs.declared.entries.Entry.{Entry}
use Rattle.rule_base.specs.declared.layout.At.TheVariants.{Clock, Record}
use Rattle.rule_base.specs.declared.views.Sample.{Sample}
use Rattle.rule_base.specs.declared.views.TracedStep.{TracedStep}
use Rattle.rule_base.specs.declared.views.Validation.{Validation}
use Rattle.rule_base.specs.declared.views.View.{View}
use Rattle.rule_base.specs.Encodings.{is_owned, version_of}
use Rattle.rule_base.specs.History.{over, touches, word_now, Below, Explains, Legal}
use Rattle.rule_base.specs.Own.{Own}
use Rattle.rule_base.specs.Ranks.{home_of}
use Rattle.rule_orec.specs.OrecReading.{no_check, no_sample}
use Rattle.stm_rule.specs.declared.local.Local.{Local}
use Rattle.alg_orec.specs.RecordFindings.{Moves}
use Rattle.stm_answers.specs.Causes.{Conflicts}
use Rattle.stm_answers.specs.Causes.Asked.{ForWord}
use Rattle.stm_answers.specs.CallerState.{CallerState, known_of}
use Rattle.stm_logs.specs.Probing.{IsPlace}
use Rattle.alg_orec.specs.Validating.{CanValidate, OnlyLoads, load_of}

-- where the index of what the attempt has read has a, or would have it
abbrev pub HasPlace : ℕ → ℕ → CallerState → Type 0
HasPlace a place v = IsPlace (2 * v.reads_limit) v.log.reads a place

-- the attempt doesn't hold the record of a, and all that it holds were free at versions that its start has seen
pub record CanLoadValid (c : Config) (a : ℕ) (l : Local) (v : View) : Type 0 where
  pub can : CanValidate c l v
  pub unheld : touches v.owned.held (home_of c a) ≡ false
  pub olds : (r : ℕ) → touches v.owned.held r ≡ true → over v.owned.held r 0 ≤ v.attempt.start
  pub front : v.history.front ≡ l.start
  pub inside : a < c.words

-- whether a record's word is free, at a version that the start has seen
abbrev pub TellsSeen : Bool → ℕ → ℕ → Type 0
TellsSeen true word start = (is_owned word ≡ false) × (version_of word ≤ start)
TellsSeen false word start = (is_owned word ≡ true) ⊎ (start < version_of word)

-- the view with this start and what was seen up to it, and with these steps added
abbrev pub moved : View → ℕ → List Entry → List Cell → Sample → Validation → List TracedStep → View
moved v start seen reads sample check more = record v {
  history = record v.history { seen = seen; front = start };
  attempt = record v.attempt { start = start; reads = reads };
  sample = sample;
  check = check;
  steps = record v.steps { step_trace = more ++ v.steps.step_trace };
}

-- the record of a was found free at this version
abbrev pub sampled_at : ℕ → ℕ → Sample
sampled_at a version = record { sampled = true; loaded = false; from = a; version = version; value = 0 }

-- one of these steps found the record of a free, and newer than the start
abbrev pub ShowsNewer : Config → ℕ → List TracedStep → View → Type 0
ShowsNewer c a more v = (word : ℕ) × Contains more (load_of (Record (a % c.records)) word) × (is_owned word ≡ false) × (v.attempt.start < version_of word)

-- the start moved only where that is so: a validation was owed
abbrev pub MovesOwed : Config → ℕ → ℕ → List TracedStep → View → Type 0
MovesOwed c a start more v = (start ≡ v.attempt.start) ⊎ ShowsNewer c a more v

module _ (good : (ℕ → ℕ) → Type 0) (c : Config) (n : ℕ) where
  -- the start stayed; or it moved to a clock that was loaded, which an older one alone does where there are others
  abbrev pub MayMove : ℕ → List Entry → List TracedStep → View → Type 0
  MayMove start seen more v = ((start ≡ v.attempt.start) × (seen ≡ v.history.seen)) ⊎ (Contains more (load_of Clock start) × Moves good c seen v start × (1 < c.callers))

  -- the record was loaded before the word: it is free, and its version is one that the start has seen
  pub record HasSampled (a word : ℕ) (l : Local) (v : View) (m : Local) (w : View) : Type 0 where
    pub local : m ≡ record l { start = m.start }
    pub seen : List Entry
    pub late : List TracedStep
    pub is : w ≡ moved v m.start seen v.attempt.reads (sampled_at a (version_of word)) w.check (late ++ load_of (Record (a % c.records)) word ∷ [])
    pub loads : OnlyLoads late
    pub free : is_owned word ≡ false
    pub old : version_of word ≤ m.start
    pub moves : MayMove m.start seen late v
    pub owed : MovesOwed c a m.start (late ++ load_of (Record (a % c.records)) word ∷ []) v
    -- what came after that load was of a validation
    pub next : (late ≡ []) ⊎ (1 < c.callers)

  -- a read was refused: what was seen may have grown, and the step trace tells why
  pub record RefusesRead (a : ℕ) (cause : Cause) (l : Local) (v : View) (m : Local) (w : View) : Type 0 where
    pub local : m ≡ record l { start = m.start }
    pub seen : List Entry
    pub more : List TracedStep
    pub is : w ≡ moved v m.start seen v.attempt.reads w.sample w.check more
    pub moves : MayMove m.start seen more v
    pub why : (o p : Own) → Conflicts c n (ForWord a) cause (known_of v o) (known_of w p)
    pub others : 1 < c.callers

  abbrev pub Samples : ℕ → Result ℕ Cause → Local → View → Local → View → Type 0
  Samples a (Ok word) l v m w = HasSampled a word l v m w
  Samples a (Err cause) l v m w = RefusesRead a cause l v m w

  -- the word was loaded, and is read: it is that of the memory at the start
  pub record HasLoaded (a x : ℕ) (l : Local) (v : View) (m : Local) (w : View) : Type 0 where
    pub local : m ≡ record l { start = m.start }
    pub seen : List Entry
    pub more : List TracedStep
    pub is : w ≡ moved v m.start seen (record { at = a; value = x } ∷ v.attempt.reads) no_sample no_check more
    pub moves : MayMove m.start seen more v
    pub owed : MovesOwed c a m.start more v
    pub sees : Explains (word_now seen) (record { at = a; value = x } ∷ v.attempt.reads)
    pub legal : Legal good c seen
    pub below : Below seen (m.start + 1)

  abbrev pub LoadsValid : ℕ → Result ℕ Cause → Local → View → Local → View → Type 0
  LoadsValid a (Ok x) l v m w = HasLoaded a x l v m w
  LoadsValid a (Err cause) l v m w = RefusesRead a cause l v m w
