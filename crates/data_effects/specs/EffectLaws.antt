-- Laws of calls over an access.
use Rattle.std.proofs.Common.{ℕ, zero, suc, ◌≡◌, ◌<◌, List, [], ◌∷◌, length, get_or, set, replicate, Bool, true, false, refl, sym, ap, ◌∙◌, arith, subst}
use Rattle.std.specs.Prelude.{◌||◌, ◌==◌, not, Some, slice_index}
use Rattle.std.proofs.lemmas.Bool.Decides.{nat_tests}
use Rattle.stm_model.specs.Memories.{overlay, item_at, is_empty}
use Rattle.stm_model.specs.Logs.{Log, Reads, Writes, SameMemories, IsExplained}
use Rattle.stm_model.specs.Overlays.{reads-see, writes-see, overlay-length}
use Rattle.stm_model.specs.PlainLaws.{put-item}
use Rattle.data_effects.specs.Effects.{Effect, unchanged, changed, DoesOver, Under, Shows, Turns}

or-false : (b : Bool) → b || false ≡ b
or-false true = refl
or-false false = refl

or-true : (b : Bool) → b || true ≡ true
or-true true = refl
or-true false = refl

pub same-trans : (a b c : List ℕ → Type 0) → SameMemories a b → SameMemories b c → SameMemories a c
same-trans a b c f g = λ m. ((λ h. (g m).0 ((f m).0 h)), (λ h. (f m).1 ((g m).1 h)))

module _ (good : List ℕ → Type 0) (words : ℕ) (l : Log) where
  -- nothing read yet
  pub shows-none : (P : List ℕ → Type 0) → Under good words l P → Shows good words l l P
  shows-none P h = λ m g len ex. (ex, h m g len ex)

  -- one more read
  pub shows-read : (k j : Log) (P Q : List ℕ → Type 0) (a v : ℕ) → Shows good words l k P → k.writes ≡ l.writes → a < words → Reads k a v j
      → ((m : List ℕ) → P m → v ≡ slice_index m a → Q m) → Shows good words l j Q
  shows-read k j P Q a v h ws lt rd then = λ m g len ex.
      let s = reads-see m k a v j (subst (λ n. a < n) (sym len) lt) rd ex in
      let p = h m g len s.0 in
      (p.0, then (overlay m l.writes) p.1 (sym s.1 ∙ ap (λ x. get_or (overlay m x) a 0) ws))

  -- what is shown after a call that only read
  pub shows-then : (k j : Log) (good' : List ℕ → Type 0) (words' : ℕ) (P Q : List ℕ → Type 0) → Shows good words l k P → k.writes ≡ l.writes → SameMemories good good' → words' ≡ words
      → Shows good' words' k j Q → Shows good words l j (λ m. P m × Q m)
  shows-then k j good' words' P Q h ws same w more = λ m g len ex.
      let q = more m ((same m).0 g) (len ∙ sym w) ex in
      let p = h m g len q.0 in
      (p.0, (p.1, subst (λ x. Q (overlay m x)) ws q.1))

  -- what holds of all that is shown holds, since a good memory explains the log
  pub shown : (k : Log) (good' : List ℕ → Type 0) (words' : ℕ) (P : List ℕ → Type 0) (Q : Type 0) → Shows good words l k P → SameMemories good good' → words' ≡ words → IsExplained good' words' k
      → ((m : List ℕ) → P m → Q) → Q
  shown k good' words' P Q h same w seen then = then (overlay seen.0 l.writes) (h seen.0 ((same seen.0).1 seen.1) (seen.2 ∙ w) seen.3).1

  -- a call that only read
  pub does-stay : {A : Type 0} (effect : List ℕ → Effect A) (k : Log) (v : A) (P : List ℕ → Type 0) → Under good words l P → k.writes ≡ l.writes
      → (Q : List ℕ → Type 0) → Shows good words l k Q → ((m : List ℕ) → P m → Q m → effect m ≡ unchanged v m) → DoesOver good words effect l v k
  does-stay effect k v P under ws Q h then = λ m g len ex.
      let s = h m g len ex in
      let x : List ℕ = overlay m l.writes in
      let e : effect x ≡ unchanged v x = then x (under m g len s.0) s.1 in
      record {
        explained = s.0;
        replied = ap (λ f. f.reply) (sym e);
        left = ap (overlay m) ws ∙ ap (λ f. f.memory) (sym e);
        wrote = ap (λ x. not (is_empty x)) ws ∙ (sym (or-false (not (is_empty l.writes))) ∙ ap (λ f. not (is_empty l.writes) || f.wrote) (sym e));
      }

  -- a call that read, and then wrote
  pub does-change : {A : Type 0} (effect : List ℕ → Effect A) (k j : Log) (v : A) (P : List ℕ → Type 0) → Under good words l P → k.writes ≡ l.writes
      → (Q : List ℕ → Type 0) → Shows good words l k Q → (f : List ℕ → List ℕ) → Turns k j f → ((m : List ℕ) → P m → Q m → effect m ≡ changed v (f m)) → DoesOver good words effect l v j
  does-change effect k j v P under ws Q h f t then = λ m g len ex.
      let s = h m g len (t.explains m ex) in
      let x : List ℕ = overlay m l.writes in
      let e : effect x ≡ changed v (f x) = then x (under m g len s.0) s.1 in
      record {
        explained = s.0;
        replied = ap (λ f. f.reply) (sym e);
        left = t.left m ∙ (ap (λ x. f (overlay m x)) ws ∙ ap (λ f. f.memory) (sym e));
        wrote = ap not t.wrote ∙ (sym (or-true (not (is_empty l.writes))) ∙ ap (λ f. not (is_empty l.writes) || f.wrote) (sym e));
      }

  -- what is true of the memory after the effect holds under the log after it
  pub under-after : {A : Type 0} (effect : List ℕ → Effect A) (k : Log) (good' : List ℕ → Type 0) (words' : ℕ) (v : A)
      (P R : List ℕ → Type 0) → DoesOver good words effect l v k → Under good words l P → SameMemories good good' → words' ≡ words
      → ((m : List ℕ) → length m ≡ words → P m → R (effect m).memory) → Under good' words' k R
  under-after effect k good' words' v P R does under same w then = λ m g len ex.
      let fine = (same m).1 g in
      let long = len ∙ w in
      let d = does m fine long ex in
      subst R (sym d.left) (then (overlay m l.writes) (overlay-length m l.writes ∙ long) (under m fine long d.explained))

item-some : (a v : ℕ) (ws : List (ℕ × ℕ)) → item_at a ws ≡ Some v → is_empty ws ≡ false
item-some a v [] h = absurd cc
item-some a v (w ∷ ws) h = refl

pub turns-write : (l k : Log) (a v : ℕ) → Writes l a v k → Turns l k (λ m. set m a v)
turns-write l k a v w = record {
  explains = λ m. (writes-see m l a v k w).0;
  left = λ m. (writes-see m l a v k w).1;
  wrote = item-some a v k.writes (w.1 a ∙ (put-item a v a l.writes ∙ (let q : (a == a) ≡ true = grind (arith, nat_tests) in rw q refl)));
}

pub turns-then : (l k j : Log) (f g : List ℕ → List ℕ) → Turns l k f → Turns k j g → Turns l j (λ m. g (f m))
turns-then l k j f g s t = record {
  explains = λ m h. s.explains m (t.explains m h);
  left = λ m. t.left m ∙ ap g (s.left m);
  wrote = t.wrote;
}

-- what was shown so far, as a fact about the log now
pub under-now : (good : List ℕ → Type 0) (words : ℕ) (l k : Log) (good' : List ℕ → Type 0) (words' : ℕ) (P Q : List ℕ → Type 0)
    → Under good words l P → Shows good words l k Q → k.writes ≡ l.writes → SameMemories good good' → words' ≡ words
    → Under good' words' k (λ m. P m × Q m)
under-now good words l k good' words' P Q u h ws same w = λ m g len ex.
    let s = h m ((same m).1 g) (len ∙ w) ex in
    subst (λ x. P (overlay m x) × Q (overlay m x)) (sym ws) (u m ((same m).1 g) (len ∙ w) s.0, s.1)

-- the memory of zeros has 0 everywhere
pub zero-at : (n x : ℕ) → get_or (replicate {A = ℕ} n 0) x 0 ≡ 0
zero-at zero x = refl
zero-at (suc n) zero = refl
zero-at (suc n) (suc x) = zero-at n x
