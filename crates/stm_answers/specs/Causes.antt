-- Why a call was refused: what must have been so for each cause, by the steps of the call.
use Rattle.std.specs.Prelude.{ℕ, ◌≡◌, ◌≢◌, ◌<◌, ◌≤◌, ◌+◌, ◌%◌, ◌⊎◌, ◌==◌, ◌&&◌, not, Option, Some, None, Bool, true, false, List, ◌∷◌, length, map}
use Rattle.stm_model.specs.Algorithms.{has_records, has_read_log, logs_writes}
use Rattle.stm_model.specs.declared.alg.Alg.TheVariants.{Tml, RingSw}
use Rattle.stm_model.specs.declared.config.Config.{Config}
use Rattle.stm_model.specs.declared.config.TheConstants.{CLOCK_LIMIT}
use Rattle.stm_model.specs.declared.stop.Cause.{Cause}
use Rattle.stm_model.specs.declared.stop.Cause.TheVariants as causes
use Rattle.stm_model.specs.Memories.{item_at}
use Rattle.rule_base.specs.declared.layout.At.TheVariants.{Clock, Lock, Record}
use Rattle.rule_base.specs.Encodings.{is_owned, owner_of, version_of}
use Rattle.rule_base.specs.History.{member}
use Rattle.stm_logs.specs.Filters.{filter_word}
use Rattle.stm_answers.specs.Evidence.{Found, Refused, FoundAsWas, FoundMoved}
use Rattle.stm_answers.specs.CallerState.{CallerState, is_irrevocable}
use Rattle.stm_answers.specs.SlotEvidence.{FindsFirst}

-- the clock was found at its limit
pub record FindsFull (clock : ℕ) (v w : CallerState) : Type 0 where
  pub limit : CLOCK_LIMIT ≤ clock
  pub found : Found Clock clock v w
  pub top : clock ≤ w.top

abbrev pub is_some : Option ℕ → Bool
is_some None = false
is_some (Some x) = true

-- the log has an item for the address
abbrev pub has_item : ℕ → List (ℕ × ℕ) → Bool
has_item a items = is_some (item_at a items)

-- a read of a needs an item more than the read log may have: it was neither read nor written before
abbrev pub reads_full : ℕ → CallerState → Bool
reads_full a v = has_read_log v.alg && (not (is_irrevocable v) && (not (has_item a v.log.writes) && (not (has_item a v.log.reads) && (length v.log.reads == v.reads_limit))))

-- a write of a needs an item more than the write or undo log may have
abbrev pub writes_full : ℕ → CallerState → Bool
writes_full a v = logs_writes v.alg && (not (is_irrevocable v) && (not (member v.kept a) && (length v.kept == v.writes_limit)))

-- what a call asked of the attempt: the word at an address, its commit, or its promotion
pub data Asked : Type 0 where
  ForWord : ℕ → Asked
  ToCommit : Asked
  ToPromote : Asked

-- c is the memory's configuration
module _ (c : Config) where
  -- the record of the address was found free, and newer than the start
  abbrev pub FindsNewer : ℕ → CallerState → CallerState → Type 0
  FindsNewer a v w = (word : ℕ) × Found (Record (a % c.records)) word v w × (is_owned word ≡ false) × (v.start < version_of word)

  -- A VALIDATION IS OWED where the record of the word asked for was newer; in a commit where that of a word written
  -- was, or the call before answered Again; in each promotion
  abbrev pub OwesValidation : Asked → CallerState → CallerState → Type 0
  OwesValidation (ForWord a) v w = FindsNewer a v w
  OwesValidation ToCommit v w = (v.committing ≡ true) ⊎ ((a : ℕ) × (has_item a v.log.writes ≡ true) × FindsNewer a v w)
  OwesValidation ToPromote v w = Unit {0}

  -- the call needs the record itself: it is that of the word asked for, or in a commit of a word that was written
  abbrev pub Needs : Asked → ℕ → CallerState → Type 0
  Needs (ForWord a) index v = index ≡ a % c.records
  Needs ToCommit index v = (a : ℕ) × (index ≡ a % c.records) × (has_item a v.log.writes ≡ true)
  Needs ToPromote index v = ⊥

  -- it is the record of a word that was read
  abbrev pub IsOfRead : ℕ → CallerState → Type 0
  IsOfRead index v = (a : ℕ) × (index ≡ a % c.records) × (has_item a v.log.reads ≡ true)

-- n is the caller
module _ (c : Config) (n : ℕ) where
  -- the number, where it isn't 0, names another caller
  abbrev pub NamesOther : ℕ → Type 0
  NamesOther x = (k : ℕ) × (k < c.callers) × (k ≢ n) × (x ≡ 1 + k)

  -- another caller owns the record
  abbrev pub IsAnothers : ℕ → Type 0
  IsAnothers word = (is_owned word ≡ true) × NamesOther (1 + owner_of word)

  -- another caller owns it, or it is newer than the start
  abbrev pub IsStaleAt : ℕ → ℕ → Type 0
  IsStaleAt start word = IsAnothers word ⊎ ((is_owned word ≡ false) × (start < version_of word))

  module _ (asked : Asked) where
    -- the record is in the way: the call needs it, and another caller owns it; or a validation was owed, and it vouches
    -- no more for a word that was read
    abbrev pub IsInTheWay : ℕ → ℕ → CallerState → CallerState → Type 0
    IsInTheWay index word v w = (Needs c asked index v × IsAnothers word) ⊎ (OwesValidation c asked v w × IsOfRead c index v × IsStaleAt v.start word)

    -- the addresses whose words the attempt loaded, the one asked for included
    abbrev pub addresses : List (ℕ × ℕ) → List ℕ
    addresses reads = map (λ (r : ℕ × ℕ). r.0) reads

    abbrev pub loaded_by : Asked → List (ℕ × ℕ) → List ℕ
    loaded_by (ForWord a) reads = a ∷ addresses reads
    loaded_by ToCommit reads = addresses reads
    loaded_by ToPromote reads = addresses reads

    -- the filter of these addresses
    abbrev pub read_filter : List (ℕ × ℕ) → ℕ → ℕ
    read_filter reads = filter_word (loaded_by asked reads)

    -- why another transaction came in between
    abbrev pub Conflicts : Cause → CallerState → CallerState → Type 0
    Conflicts (causes.Clock had now) v w = (v.alg ≡ Tml) × (had ≡ v.start) × (had ≢ now) × Found Clock now v w
    Conflicts (causes.Record index word start) v w =
        (has_records v.alg ≡ true) × (start ≡ v.start) × FoundAsWas (Record index) word v w × IsInTheWay index word v w
    Conflicts (causes.Moved index before after) v w = (has_records v.alg ≡ true) × Needs c asked index v × FoundMoved (Record index) before after v w
    Conflicts (causes.Filter time bits) v w = (v.alg ≡ RingSw) × FindsFirst c.ring v.start (read_filter v.log.reads) time bits v w
    Conflicts (causes.Overrun start clock) v w = (v.alg ≡ RingSw) × (start ≡ v.start) × Found Clock clock v w × (start + c.ring ≤ clock)

  -- another commit was faster: the exchange of the clock from the start found another number, which after an earlier
  -- Again was loaded in this call; or the lock was another caller's
  abbrev pub IsAgain : ℕ → ℕ → ℕ → CallerState → CallerState → Type 0
  IsAgain word had now v w =
      ((word ≡ 0) × (has_records v.alg ≡ true) × (had ≡ w.start) × Refused Clock had now v w × (v.committing ≡ true → Found Clock had v w))
      ⊎ ((word ≡ 1) × (v.alg ≡ RingSw) × (had ≡ 0) × Refused Lock had now v w × NamesOther now)
