-- Calls of a map that make calls of their own.
use Rattle.std.proofs.Common.{ℕ, ◌≡◌, List, Bool, true, false, refl, sym, ap, ◌∙◌}
use Rattle.std.specs.Prelude.{◌||◌, not}
use Rattle.stm_model.specs.Memories.{overlay, is_empty}
use Rattle.stm_model.specs.Logs.{Log, SameMemories}
use Rattle.data_effects.specs.Effects.{Effect, DoesOver, Under, Shows}

module _ {A : Type 0} (good : List ℕ → Type 0) (words : ℕ) (l k j : Log) (good' : List ℕ → Type 0) (words' : ℕ) (same : SameMemories good good') (w : words' ≡ words) where
  -- a call that only read, and then left the rest to another
  pub does-then : (effect rest : List ℕ → Effect A) (v : A) (P Q : List ℕ → Type 0) → Under good words l P → k.writes ≡ l.writes
      → Shows good words l k Q → DoesOver good' words' rest k v j → ((m : List ℕ) → P m → Q m → effect m ≡ rest m)
      → DoesOver good words effect l v j
  does-then effect rest v P Q under ws h does next = λ m g len ex.
      let d = does m ((same m).0 g) (len ∙ sym w) ex in
      let s = h m g len d.explained in
      let q : rest (overlay m k.writes) ≡ effect (overlay m l.writes) = ap (λ x. rest (overlay m x)) ws ∙ sym (next (overlay m l.writes) (under m g len s.0) s.1) in
      record {
        explained = s.0;
        replied = d.replied ∙ ap (λ f. f.reply) q;
        left = d.left ∙ ap (λ f. f.memory) q;
        wrote = d.wrote ∙ (ap (λ x. not (is_empty x) || (rest (overlay m k.writes)).wrote) ws ∙ ap (λ f. not (is_empty l.writes) || f.wrote) q);
      }

-- two calls that write, one after the other
pub does-both : {A B : Type 0} (good : List ℕ → Type 0) (words : ℕ) (l k j : Log) (good' : List ℕ → Type 0) (words' : ℕ)
    → SameMemories good good' → words' ≡ words → (first : List ℕ → Effect A) (rest effect : List ℕ → Effect B) (u : A) (v : B)
    → DoesOver good words first l u k → DoesOver good' words' rest k v j → ((m : List ℕ) → (first m).wrote ≡ true)
    → ((m : List ℕ) → effect m ≡ record { reply = (rest (first m).memory).reply; memory = (rest (first m).memory).memory; wrote = true })
    → DoesOver good words effect l v j
does-both good words l k j good' words' same w first rest effect u v one two wrote next = λ m g len ex.
    let d = two m ((same m).0 g) (len ∙ sym w) ex in
    let s = one m g len d.explained in
    let x : List ℕ = overlay m l.writes in
    let e = next x in
    let q : rest (overlay m k.writes) ≡ rest (first x).memory = ap rest s.left in
    let some : not (is_empty k.writes) ≡ true = s.wrote ∙ (ap (λ b. not (is_empty l.writes) || b) (wrote x) ∙ or-true (not (is_empty l.writes))) in
    record {
      explained = s.explained;
      replied = d.replied ∙ (ap (λ f. f.reply) q ∙ ap (λ f. f.reply) (sym e));
      left = d.left ∙ (ap (λ f. f.memory) q ∙ ap (λ f. f.memory) (sym e));
      wrote = d.wrote ∙ (ap (λ b. b || (rest (overlay m k.writes)).wrote) some ∙ (sym (or-true (not (is_empty l.writes))) ∙ ap (λ f. not (is_empty l.writes) || f.wrote) (sym e)));
    }
  where
    or-true : (b : Bool) → b || true ≡ true
    or-true true = refl
    or-true false = refl
