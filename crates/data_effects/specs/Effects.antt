-- What a call over an access does to the memory that it sees.
use Rattle.std.specs.Prelude.{ℕ, ◌≡◌, Bool, true, false, ◌||◌, not, List, length}
use Rattle.stm_model.specs.Memories.{overlay, Explains, is_empty}
use Rattle.stm_model.specs.Logs.{Log}

-- what a call replies, the memory after it, and whether it wrote
pub record Effect (A : Type 0) : Type 0 where
  pub reply : A
  pub memory : List ℕ
  pub wrote : Bool

-- a reply, with the memory as it was
abbrev pub unchanged : {A : Type 0} → A → List ℕ → Effect A
unchanged r m = record { reply = r; memory = m; wrote = false }

-- a reply, and the memory that the call's writes leave
abbrev pub changed : {A : Type 0} → A → List ℕ → Effect A
changed r m = record { reply = r; memory = m; wrote = true }

-- over the memory m under the log l the call had this effect, and left the log k
pub record Does {A : Type 0} (effect : List ℕ → Effect A) (m : List ℕ) (l : Log) (reply : A) (k : Log) : Type 0 where
  pub explained : Explains m l.reads
  pub replied : reply ≡ (effect (overlay m l.writes)).reply
  pub left : overlay m k.writes ≡ (effect (overlay m l.writes)).memory
  pub wrote : not (is_empty k.writes) ≡ not (is_empty l.writes) || (effect (overlay m l.writes)).wrote

-- it did so over every good memory that explains the log: whichever of them there is, the reply is the same
abbrev pub DoesOver : {A : Type 0} → (List ℕ → Type 0) → ℕ → (List ℕ → Effect A) → Log → A → Log → Type 0
DoesOver good words effect l reply k = (m : List ℕ) → good m → length m ≡ words → Explains m k.reads → Does effect m l reply k

-- P holds of every good memory that explains the log, with the log's writes laid over it
abbrev pub Under : (List ℕ → Type 0) → ℕ → Log → (List ℕ → Type 0) → Type 0
Under good words l P = (m : List ℕ) → good m → length m ≡ words → Explains m l.reads → P (overlay m l.writes)

-- the reads between l and k show P of the memory seen under l
abbrev pub Shows : (List ℕ → Type 0) → ℕ → Log → Log → (List ℕ → Type 0) → Type 0
Shows good words l k P = (m : List ℕ) → good m → length m ≡ words → Explains m k.reads → Explains m l.reads × P (overlay m l.writes)

-- the writes between l and k change the memory by f
pub record Turns (l k : Log) (f : List ℕ → List ℕ) : Type 0 where
  pub explains : (m : List ℕ) → Explains m k.reads → Explains m l.reads
  pub left : (m : List ℕ) → overlay m k.writes ≡ f (overlay m l.writes)
  pub wrote : is_empty k.writes ≡ false
