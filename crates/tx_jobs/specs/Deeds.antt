-- What callers do, as deeds: a type of one's own, whose values stand for what one transaction did to what is seen in a
-- memory.
use Rattle.std.specs.Prelude.{ℕ, zero, suc, ◌≡◌, ◌<◌, ◌+◌, ◌==◌, if◌then◌else◌, List, [], ◌∷◌, ◌++◌, length, sum_by, slice_index_or}
use Rattle.stm_model.specs.Histories.{Entry}
use Rattle.stm_model.specs.Logs.{Log}
use Rattle.stm_model.specs.Memories.{overlay, Explains}
use Rattle.tx_jobs.specs.Repeats.{log_of}

-- a transaction with this log was this deed: whatever good memory of so many words has what it read,
-- what is seen there moves so
abbrev pub IsDeed : {D S : Type 0} → (List ℕ → Type 0) → ℕ → (List ℕ → S) → (D → S → S → Type 0) → D → Log → Type 0
IsDeed good words view moves d log = (m : List ℕ) → good m → length m ≡ words → Explains m log.reads → moves d (view m) (view (overlay m log.writes))

-- the entries are these deeds, one by one
abbrev pub AreDeeds : {D : Type 0} → (D → Log → Type 0) → List Entry → List D → Type 0
AreDeeds does [] [] = Unit {0}
AreDeeds does [] (d ∷ ds) = ⊥
AreDeeds does (e ∷ es) [] = ⊥
AreDeeds does (e ∷ es) (d ∷ ds) = does d (log_of e) × AreDeeds does es ds

-- a caller did this, by the entries that it has made since
pub record HasDone {D : Type 0} (does : D → Log → Type 0) (ds : List D) (before after : List Entry) : Type 0 where
  pub entries : List Entry
  pub made : after ≡ before ++ entries
  pub are : AreDeeds does entries ds

-- the deeds of one caller, of which there is one for each entry
abbrev pub deeds_by : {D : Type 0} → ℕ → List Entry → List D → List D
deeds_by n [] ds = []
deeds_by n (e ∷ es) [] = []
deeds_by n (e ∷ es) (d ∷ ds) = if e.caller == n then d ∷ deeds_by n es ds else deeds_by n es ds

-- from one sight to another by these deeds, one after the other
abbrev pub Leads : {D S : Type 0} → (D → S → S → Type 0) → List D → S → S → Type 0
Leads moves [] from to = from ≡ to
Leads {S = S} moves (d ∷ ds) from to = (next : S) × moves d from next × Leads moves ds next to

-- of the callers below n together
abbrev pub over : ℕ → (ℕ → ℕ) → ℕ
over zero f = 0
over (suc n) f = over n f + f n

-- THE LAW of deeds, in any history. Those of all callers stand in one order, a deed for each entry and an entry for
-- each deed; those of each caller are its own, in its order;
-- and from what is seen at first they lead to what is seen at the end.
pub record InOrder {D S : Type 0} (does : D → Log → Type 0) (moves : D → S → S → Type 0) (own : ℕ → List D) (history : List Entry) (from to : S) : Type 0 where
  pub deeds : List D
  pub are : AreDeeds does history deeds
  pub each : (n : ℕ) → deeds_by n history deeds ≡ own n
  pub leads : Leads moves deeds from to

-- In a closed memory of so many callers: those of each caller are what it answers; and whatever is counted of all is
-- what the callers' own come to together.
pub record InOneOrder {D S V : Type 0} (does : D → Log → Type 0) (moves : D → S → S → Type 0) (own : ℕ → V → List D) (callers : ℕ) (answers : List V) (history : List Entry) (from to : S) : Type 0 where
  pub deeds : List D
  pub are : AreDeeds does history deeds
  pub each : (n : ℕ) (v : V) → n < callers → deeds_by n history deeds ≡ own n (slice_index_or answers n v)
  pub leads : Leads moves deeds from to
  pub sums : (f : D → ℕ) (v : V) → sum_by f deeds ≡ over callers (λ n. sum_by f (own n (slice_index_or answers n v)))
