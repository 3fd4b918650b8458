-- Laws for who writes a transaction under a rule: from what an attempt's log shows to what the transaction promises.
use Rattle.std.proofs.Common.{ℕ, ◌≡◌, List, [], length, sym, ap, subst}
use Rattle.stm_model.specs.Logs.{Log, SameMemories, Keeps}
use Rattle.stm_model.specs.Memories.{AreWords, overlay}
use Rattle.data_effects.specs.Effects.{Effect, DoesOver, Under}

-- nothing was read or written
abbrev pub nothing : Log
nothing = record { reads = []; writes = [] }

-- under the rule, with all its words
abbrev pub IsSound : (List ℕ → Type 0) → ℕ → List ℕ → Type 0
IsSound rule words m = rule m × (length m ≡ words)

-- an effect that leads from memories of words under the rule to memories under the rule keeps it
pub keeps-by : {A : Type 0} (rule : List ℕ → Type 0) (words : ℕ) (effect : List ℕ → Effect A) (reply : A) (k : Log)
    → DoesOver rule words effect nothing reply k → ((m : List ℕ) → IsSound rule words m → AreWords m → rule (effect m).memory)
    → Keeps rule words k
keeps-by rule words effect reply k does keeps = λ m g len ex small. subst rule (sym (does m g len ex).left) (keeps m (g, len) small)

-- an attempt that only read keeps every rule
pub reads-keep : (rule : List ℕ → Type 0) (words : ℕ) (k : Log) → k.writes ≡ [] → Keeps rule words k
reads-keep rule words k none = λ m g len ex small. subst (λ ws. rule (overlay m ws)) (sym none) g

-- the access's good memories are those of the rule, and its attempt has done nothing yet
module _ (rule good : List ℕ → Type 0) (words : ℕ) (same : SameMemories good rule) (l : Log) (fresh : l ≡ nothing) where
  -- so what it sees is under the rule
  pub sound-first : Under good words l (IsSound rule words)
  sound-first = λ m g len ex. subst (λ ws. IsSound rule words (overlay m ws)) (sym (ap (λ (k : Log). k.writes) fresh)) ((same m).0 g, len)

  -- and what it does from there is what the transaction does
  pub has-effect : {A : Type 0} (effect : List ℕ → Effect A) (reply : A) (k : Log) → DoesOver good words effect l reply k → DoesOver rule words effect nothing reply k
  has-effect effect reply k does = subst (λ (f : Log). DoesOver rule words effect f reply k) fresh (λ m g. does m ((same m).1 g))
