-- What the parts of a read of OrecEager ask and tell.
use Rattle.std.specs.Prelude.{ℕ, ◌≡◌, ◌≢◌, ◌<◌, ◌≤◌, ◌%◌, ◌⊎◌, true, false, List, [], ◌∷◌, ◌++◌, Option, Some, None, Result, Ok, Err}
use Rattle.stm_model.specs.declared.config.Config.{Config}
use Rattle.stm_model.specs.declared.stop.Cause.{Cause}
use Rattle.stm_model.specs.declared.stop.Cause.TheVariants as causes
use Rattle.stm_model.specs.Memories.{item_at}
use Rattle.rule_base.specs.declared.layout.At.TheVariants.{Record}
use Rattle.rule_base.specs.declared.views.TracedStep.{TracedStep}
use Rattle.rule_base.specs.declared.views.View.{View}
use Rattle.rule_base.specs.Encodings.{free_record}
use Rattle.rule_base.specs.History.{touches}
use Rattle.rule_base.specs.Ranks.{home_of}
use Rattle.stm_gate.specs.Knowing.{known}
use Rattle.stm_rule.specs.Alone.{left_at}
use Rattle.stm_rule.specs.Callers.{Handle}
use Rattle.stm_answers.specs.declared.answers.Read.{Read}
use Rattle.stm_answers.specs.declared.answers.Read.TheVariants as reads
use Rattle.stm_answers.specs.Answers.{HasOthers, HasRead, GoesOn, IsOpaque, Quits}
use Rattle.stm_answers.specs.Causes.{reads_full}
use Rattle.stm_answers.specs.Causes.Asked.{ForWord}
use Rattle.stm_answers.specs.CallerState.{CallerState}
use Rattle.alg_orec.specs.Validating.{load_of, OnlyLoads}

-- the attempt has neither written nor read a, and its read log has room for it
pub record IsNew (a : ℕ) (v : CallerState) : Type 0 where
  pub unwritten : item_at a v.log.writes ≡ None
  pub unread : item_at a v.log.reads ≡ None
  pub room : reads_full a v ≡ false

-- the record of a was found free, at a version that the start has seen
pub record HasSample (a : ℕ) (v : View) : Type 0 where
  pub sampled : v.sample.sampled ≡ true
  pub from : v.sample.from ≡ a
  pub version : v.sample.version ≤ v.attempt.start

module _ (c : Config) (a : ℕ) where
  -- the attempt holds the record of a
  abbrev pub HoldsRecord : View → Type 0
  HoldsRecord v = touches v.owned.held (home_of c a) ≡ true

  -- no own step has changed the record since it was found as this word; or there are others
  abbrev pub IsLeftSo : ℕ → View → Type 0
  IsLeftSo word v = (left_at (a % c.records) v.steps.step_trace ≡ Some word) ⊎ (1 < c.callers)

  -- the record was found as this word
  pub record IsSampled (word : ℕ) (v : View) : Type 0 where
    pub has : HasSample a v
    pub before : word ≡ free_record v.sample.version
    pub left : IsLeftSo word v

  -- and then the word at a as x
  pub record IsLoaded (word x : ℕ) (v : View) : Type 0 where
    pub loaded : v.sample.loaded ≡ true
    pub from : v.sample.from ≡ a
    pub before : word ≡ free_record v.sample.version
    pub value : v.sample.value ≡ x
    pub left : IsLeftSo word v

  -- what was sampled before is loaded now
  abbrev pub LoadsSampled : ℕ → View → View → Type 0
  LoadsSampled x v w = (word : ℕ) → IsSampled word v → IsLoaded word x w

module _ (good : List ℕ → Type 0) (c : Config) (n a : ℕ) where
  -- the attempt goes on after these steps, and has yet to read a
  pub record GoesOnReading (more : List TracedStep) (v w : CallerState) : Type 0 where
    pub goes : GoesOn c (ForWord a) v w
    pub uncommitted : w.committing ≡ false
    pub log : w.log ≡ v.log
    pub kept : w.kept ≡ v.kept
    pub fresh : IsNew a w
    pub opaque : IsOpaque good c n w
    pub step_trace : w.step_trace ≡ more ++ v.step_trace

  -- the first step loaded the record of a as this word, and what came then were loads
  abbrev pub FindsFree : ℕ → CallerState → CallerState → Type 0
  FindsFree word v w = (late : List TracedStep) × OnlyLoads late × GoesOnReading (late ++ load_of (Record (a % c.records)) word ∷ []) v w

  -- what `sample` tells: the record's word; or that the attempt holds the record, and did nothing
  module _ {K : Type 0} where
    abbrev pub Samples : Result (Option ℕ) Read → Handle K → Handle K → Type 0
    Samples (Ok (Some word)) d e = FindsFree word (known d) (known e) × IsSampled c a word e.view
    Samples (Ok None) d e = (e ≡ d) × HoldsRecord c a d.view × IsNew a (known d)
    Samples (Err (reads.Value x)) d e = ⊥
    Samples (Err (reads.Conflict cause)) d e = HasRead good c n a (reads.Conflict cause) (known d) (known e)
    Samples (Err (reads.Full limit)) d e = HasRead good c n a (reads.Full limit) (known d) (known e)

  -- the first step loaded the record of a, and found it otherwise than as this word; then the attempt ended
  pub record FindsMoved (word : ℕ) (cause : Cause) (v w : CallerState) : Type 0 where
    pub quits : Quits v w
    pub others : HasOthers good c n
    pub after : ℕ
    pub apart : word ≢ after
    pub is : cause ≡ causes.Moved (a % c.records) word after
    pub late : List TracedStep
    pub step_trace : w.step_trace ≡ late ++ load_of (Record (a % c.records)) after ∷ v.step_trace

  -- what `confirm` tells of a record that was found as this word before a was loaded as x
  abbrev pub Confirms : ℕ → ℕ → Read → CallerState → CallerState → Type 0
  Confirms word x (reads.Value y) v w = (y ≡ x) × HasRead good c n a (reads.Value x) v w
  Confirms word x (reads.Conflict cause) v w = FindsMoved word cause v w
  Confirms word x (reads.Full limit) v w = ⊥
