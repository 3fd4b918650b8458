-- Laws of an operation's effect over a log.
use Rattle.std.proofs.Common.{ℕ, ◌≡◌, ◌<◌, ◌≤◌, ◌+◌, ◌-◌, ◌%◌, ◌^◌, List, [], ◌∷◌, length, get_or, set, Bool, true, false, refl, sym, ap, ◌∙◌, arith}
use Rattle.std.specs.Prelude.{Some, ◌||◌, not, ltb, if◌then◌else◌, ◌==◌}
use Rattle.std.proofs.lemmas.Bool.Decides.{nat_tests}
use Rattle.stm_model.specs.Memories.{overlay, item_at, put, Explains, is_empty}
use Rattle.stm_model.specs.Logs.{Log, Reads, Writes}
use Rattle.stm_model.specs.Overlays.{reads-see, writes-see}
use Rattle.work_script.specs.Operations.{Effect, Does, replies, stores, moved, moves}

put-some-cons : (a v : ℕ) (w : ℕ × ℕ) (ws : List (ℕ × ℕ)) (b : Bool) → (w.0 == a) ≡ b → item_at a (put a v ws) ≡ Some v
    → item_at a (if b then (a, v) ∷ ws else w ∷ put a v ws) ≡ Some v
put-some-cons a v w ws true t h = let e : (a == a) ≡ true = grind (arith, nat_tests) in rw e
put-some-cons a v w ws false t h = rw t h

pub put-some : (a v : ℕ) (ws : List (ℕ × ℕ)) → item_at a (put a v ws) ≡ Some v
put-some a v [] = let e : (a == a) ≡ true = grind (arith, nat_tests) in rw e
put-some a v (w ∷ ws) = put-some-cons a v w ws (w.0 == a) refl (put-some a v ws)

item-empty : (a v : ℕ) (ws : List (ℕ × ℕ)) → item_at a ws ≡ Some v → not (is_empty ws) ≡ true
item-empty a v [] h = absurd cc
item-empty a v (w ∷ ws) h = refl

or-true : (b : Bool) → b || true ≡ true
or-true true = refl
or-true false = refl

or-false : (b : Bool) → b || false ≡ b
or-false true = refl
or-false false = refl

-- a read
pub read-does : (m : List ℕ) (l : Log) (a v : ℕ) (k : Log) → a < length m → Reads l a v k → Explains m k.reads
    → Does (λ x. replies (get_or x a 0) x) m l v k
read-does m l a v k lt r h =
    let s = reads-see m l a v k lt r h in
    record {
      explained = s.0;
      replied = sym s.1;
      left = ap (overlay m) r.0;
      wrote = ap (λ w. not (is_empty w)) r.0 ∙ sym (or-false (not (is_empty l.writes)));
    }

pub write-does : (m : List ℕ) (l : Log) (a v : ℕ) (k : Log) → Writes l a v k → Explains m k.reads
    → Does (stores a v) m l v k
write-does m l a v k w h =
    let s = writes-see m l a v k w in
    record {
      explained = s.0 h;
      replied = refl;
      left = s.1;
      wrote = item-empty a v k.writes (w.1 a ∙ put-some a v l.writes) ∙ sym (or-true (not (is_empty l.writes)));
    }

-- a read of a, and then a write of a function of what was read
pub read-write-does : (m : List ℕ) (l : Log) (a v : ℕ) (k : Log) (f : ℕ → ℕ) (j : Log) → a < length m → Reads l a v k → Writes k a (f v) j → Explains m j.reads
    → Does (λ x. stores a (f (get_or x a 0)) x) m l (f v) j
read-write-does m l a v k f j lt r w h =
    let two = write-does m k a (f v) j w h in
    let one = read-does m l a v k lt r two.explained in
    let value : f v ≡ f (get_or (overlay m l.writes) a 0) = ap f one.replied in
    record {
      explained = one.explained;
      replied = value;
      left = two.left ∙ (ap (λ x. set x a (f v)) one.left ∙ ap (set (overlay m l.writes) a) value);
      wrote = two.wrote ∙ (or-true (not (is_empty k.writes)) ∙ sym (or-true (not (is_empty l.writes))));
    }

-- what an operation did, by its effect on the memory that it saw
does-by : (effect : List ℕ → Effect) (m : List ℕ) (l : Log) (r : ℕ) (k : Log) (f : Effect) → effect (overlay m l.writes) ≡ f → Explains m l.reads
    → r ≡ f.reply → overlay m k.writes ≡ f.memory → not (is_empty k.writes) ≡ not (is_empty l.writes) || f.wrote → Does effect m l r k
does-by effect m l r k f is ex reply memory wrote = record {
  explained = ex;
  replied = reply ∙ ap (λ (e : Effect). e.reply) (sym is);
  left = memory ∙ ap (λ (e : Effect). e.memory) (sym is);
  wrote = wrote ∙ ap (λ (e : Effect). not (is_empty l.writes) || e.wrote) (sym is);
}

moves-none : (a b k : ℕ) (x : List ℕ) → get_or x a 0 < k → moves a b k x ≡ replies 0 x
moves-none a b k x lt = let p : ltb (get_or x a 0) k ≡ true = grind (arith, nat_tests) in rw p

moves-some : (a b k : ℕ) (x : List ℕ) → k ≤ get_or x a 0 → moves a b k x ≡ record { reply = 1; emits = []; memory = moved a b k x; wrote = true }
moves-some a b k x le = let p : ltb (get_or x a 0) k ≡ false = grind (arith, nat_tests) in rw p

-- a move that finds too little
pub little-does : (m : List ℕ) (l : Log) (a b k s : ℕ) (j : Log) → a < length m → s < k → Reads l a s j → Explains m j.reads
    → Does (moves a b k) m l 0 j
little-does m l a b k s j lt less r h =
    let one = read-does m l a s j lt r h in
    let is = one.replied in
    does-by (moves a b k) m l 0 j (replies 0 (overlay m l.writes)) (moves-none a b k (overlay m l.writes) (omega arith)) one.explained refl one.left one.wrote

-- a move: it reads a, writes a, reads b and writes b
pub move-does : (m : List ℕ) (l : Log) (a b k s t : ℕ) (l1 l2 l3 l4 : Log) → a < length m → b < length m → k ≤ s
    → Reads l a s l1 → Writes l1 a (s - k) l2 → Reads l2 b t l3 → Writes l3 b ((t + k) % 2 ^ 64) l4 → Explains m l4.reads
    → Does (moves a b k) m l 1 l4
move-does m l a b k s t l1 l2 l3 l4 lta ltb' enough r1 w1 r2 w2 h =
    let x : List ℕ = overlay m l.writes in
    let four = write-does m l3 b ((t + k) % 2 ^ 64) l4 w2 h in
    let three = read-does m l2 b t l3 ltb' r2 four.explained in
    let two = write-does m l1 a (s - k) l2 w1 three.explained in
    let one = read-does m l a s l1 lta r1 two.explained in
    let is = one.replied in
    let less : overlay m l2.writes ≡ set x a (get_or x a 0 - k) =
    two.left ∙ (ap (λ y. set y a (s - k)) one.left ∙ ap (λ v. set x a (v - k)) one.replied) in
    let sum : t ≡ get_or (set x a (get_or x a 0 - k)) b 0 = three.replied ∙ ap (λ y. get_or y b 0) less in
    does-by (moves a b k) m l 1 l4 (record { reply = 1; emits = []; memory = moved a b k x; wrote = true }) (moves-some a b k x (omega arith)) one.explained refl
    (four.left ∙ (ap (λ y. set y b ((t + k) % 2 ^ 64)) (three.left ∙ less) ∙ ap (λ v. set (set x a (get_or x a 0 - k)) b ((v + k) % 2 ^ 64)) sum))
    (four.wrote ∙ (or-true (not (is_empty l3.writes)) ∙ sym (or-true (not (is_empty l.writes)))))
