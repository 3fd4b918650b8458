-- What a part tells of the memory: laws from a structure's call to what a part tells and keeps,
-- and from parts to the whole.
use Rattle.std.proofs.Common.{ℕ, ◌≡◌, ◌∙◌, List, [], ◌∷◌, length, sym, subst, inl, inr}
use Rattle.std.specs.Prelude.{◌⊎◌, Option, Some, None, IfSome, Ok}
use Rattle.stm_model.specs.Logs.{Log, SameMemories}
use Rattle.stm_model.specs.Memories.{overlay, Explains}
use Rattle.stm_model.specs.Overlays.{overlay-same, overlay-length}
use Rattle.data_effects.specs.Effects.{Effect, DoesOver, Under}
use Rattle.data_effects.specs.FreshLaws.{nothing}
use Rattle.tx_parts.specs.declared.wholly.PartOutcome.TheVariants.{Done}
use Rattle.tx_parts.specs.Laying.{EitherTells, Comes, ComesAwaited, ReadsMore}
use Rattle.tx_parts.specs.LayingLaws.{explains-front}

-- so it is of every good memory that explains what was read, as it was seen before and after
abbrev pub Told : (List ℕ → Type 0) → ℕ → (List ℕ → List ℕ → Type 0) → Log → Log → Type 0
Told good words P l k = (m : List ℕ) → good m → length m ≡ words → Explains m k.reads → P (overlay m l.writes) (overlay m k.writes)

pub more-explains : (m : List ℕ) (l k : Log) → ReadsMore l k → Explains m k.reads → Explains m l.reads
more-explains m l k more ex = explains-front m l.reads more.0 (subst (Explains m) more.1 ex)

module _ (good : List ℕ → Type 0) (words : ℕ) where
  -- what was done so far kept the rule: so what is seen is under it
  pub under-rule : (seen : List ℕ → Type 0) (l : Log) (P : List ℕ → Type 0) → SameMemories seen good → Under good words l good → ((m : List ℕ) → good m → P m) → Under seen words l P
  under-rule seen l P same keeps then = λ m g len ex. then (overlay m l.writes) (keeps m ((same m).0 g) len ex)

  module _ {A : Type 0} (seen : List ℕ → Type 0) (effect : List ℕ → Effect A) (l k : Log) (reply : A) (same : SameMemories seen good) (keeps : Under good words l good) (does : DoesOver seen words effect l reply k) where
    -- a call whose effect leads from memories under the rule to such keeps it
    pub keeps-does : ((m : List ℕ) → good m → length m ≡ words → good (effect m).memory) → Under good words k good
    keeps-does then = λ m g len ex. let d = does m ((same m).1 g) len ex in subst good (sym d.left) (then (overlay m l.writes) (keeps m g len d.explained) (overlay-length m l.writes ∙ len))

    -- and what is so of its effect under the rule is told
    pub told-does : (P : List ℕ → List ℕ → Type 0) → ((m : List ℕ) → good m → length m ≡ words → reply ≡ (effect m).reply → P m (effect m).memory) → Told good words P l k
    told-does P then = λ m g len ex. let d = does m ((same m).1 g) len ex in subst (P (overlay m l.writes)) (sym d.left) (then (overlay m l.writes) (keeps m g len d.explained) (overlay-length m l.writes ∙ len) d.replied)

  module _ {T : Type 0} (P Q : Option T → List ℕ → List ℕ → Type 0) where
    -- the first part was done, or it gave way there and then the second came
    pub either-told : (o : Option T) (l k : Log) → EitherTells (λ o. Told good words (P o)) (λ o. Told good words (Q o)) o l k → Told good words (λ m n. P o m n ⊎ ((gone : List ℕ) × P None m gone × Q o m n)) l k
    either-told o l k (inl h) = λ m g len ex. inl (h.1 m g len ex)
    either-told o l k (inr h) = λ m g len ex. inr (overlay m h.0.writes, h.1 m g len (more-explains m h.0 k h.3 ex), h.4 m g len ex)

  module _ {T : Type 0} (tells : Option T → Log → Log → Type 0) (P : Option T → List ℕ → List ℕ → Type 0) (told : (o : Option T) (l k : Log) → tells o l k → Told good words (P o) l k) where
    -- a part that was done is told of the log that it left
    pub done-told : (len : ℕ) (r : T) (l k : Log) → Comes good words len tells (Done r) l k → Told good words (P (Some r)) l k
    done-told len r l k came = λ m g long ex.
        let j = came.0.0 in
        let same = came.0.2 in
        subst (P (Some r) (overlay m l.writes)) (sym (overlay-same m k.writes j.writes same.1)) (told (Some r) l j came.0.1 m g long (subst (Explains m) same.0 ex))

    -- of a transaction that waited for it, from the memory itself
    pub awaited-told : (first room : ℕ) (r : T) (k : Log) → ComesAwaited good words first room tells (Some (Ok r)) k → Told good words (P (Some r)) nothing k
    awaited-told first room r k came = done-told room r (record { reads = (first, came.0) ∷ []; writes = [] }) k came.1

-- A PART THAT IS ONE CALL. Its effect leads from memories under the rule to such, and this is so of it: then the part
-- keeps the rule, and tells this
module _ {A : Type 0} {good seen : List ℕ → Type 0} {words : ℕ} {effect : List ℕ → Effect A} {l k : Log} {reply : A} (same : SameMemories seen good) (keeps : Under good words l good)
    (does : DoesOver seen words effect l reply k) (P : A → List ℕ → List ℕ → Type 0)
    (law : (m : List ℕ) → good m → length m ≡ words → good (effect m).memory × P (effect m).reply m (effect m).memory) where
  pub call-keeps : {T : Type 0} (o : Option T) → IfSome o (λ r. Under good words k good)
  call-keeps None = tt
  call-keeps (Some r) = keeps-does good words seen effect l k reply same keeps does (λ m g long. (law m g long).0)

  pub call-tells : Told good words (P reply) l k
  call-tells = told-does good words seen effect l k reply same keeps does (P reply) (λ m g long is. subst (λ r. P r m (effect m).memory) (sym is) (law m g long).1)
