-- Laws of the shelves: from what was read and written to where a piece landed.
use Rattle.std.proofs.Common.{ℕ, zero, suc, ◌≡◌, ◌<◌, ◌≤◌, ◌+◌, ◌-◌, List, [], ◌∷◌, length, get_or, set, refl, sym, ap, ◌∙◌, subst, arith, inl, inr}
use Rattle.std.specs.Prelude.{Option, Some, None, IsSome}
use Rattle.nekchhaul.specs.Logs.{Log, Reads, Writes}
use Rattle.nekchhaul.specs.Memories.{overlay, Explains}
use Rattle.nekchhaul.specs.Overlays.{reads-see, writes-see, overlay-same}
use Rattle.nekchhaul.specs.CallerState.{no_log}
use Rattle.nekchhaul.specs.Laying.{EitherTells, Comes, ReadsMore}
use Rattle.nekchhaul.specs.LayingLaws.{explains-front}
use Rattle.nekchhaul.specs.PartOutcome.TheVariants.{Done, GaveWay, NoRoom}
use Rattle.example_shelves.specs.declared.shelves.Stored.TheVariants.{On, NoPiece, Nowhere, Refused}
use Rattle.example_shelves.specs.Shelves.{taken, room_on, IsFull, IsStored, Lands, Told}

-- ONE SHELF: the piece is off the pile, and so many pieces lay on the shelf
pub took : (m : List ℕ) (l k j i : Log) (shelf pile count : ℕ) → 0 < length m → shelf < length m → Reads l 0 pile k → Writes k 0 (pile - 1) j → Reads j shelf count i → Explains m i.reads
    → (Explains m l.reads) × (get_or (taken (overlay m l.writes)) shelf 0 ≡ count) × (overlay m i.writes ≡ taken (overlay m l.writes))
took m l k j i shelf pile count low high one two three ex =
    let c = reads-see m j shelf count i high three ex in
    let b = writes-see m k 0 (pile - 1) j two in
    let a = reads-see m l 0 pile k low one (b.0 c.0) in
    let off : overlay m j.writes ≡ taken (overlay m l.writes) = b.1 ∙ (ap (λ (ws : List (ℕ × ℕ)). set (overlay m ws) 0 (pile - 1)) one.0 ∙ ap (λ (v : ℕ). set (overlay m l.writes) 0 (v - 1)) (sym a.1)) in
    (a.0, ap (λ (x : List ℕ). get_or x shelf 0) (sym off) ∙ c.1, ap (overlay m) three.0 ∙ off)

module _ (words : ℕ) (l k j i : Log) (shelf room pile count : ℕ) (low : 0 < words) (high : shelf < words) (one : Reads l 0 pile k) (two : Writes k 0 (pile - 1) j) (three : Reads j shelf count i) where
  pub full-there : room ≤ count → Told words (Lands shelf room None) l i
  full-there full = λ m len ex.
      let t = took m l k j i shelf pile count (subst (λ (n : ℕ). 0 < n) (sym len) low) (subst (λ (n : ℕ). shelf < n) (sym len) high) one two three ex in
      subst (λ (n : ℕ). room ≤ n) (sym t.1) full

  pub lands-there : (h : Log) → count < room → Writes i shelf (count + 1) h → Told words (Lands shelf room (Some shelf)) l h
  lands-there h fits four = λ m len ex.
      let d = writes-see m i shelf (count + 1) h four in
      let t = took m l k j i shelf pile count (subst (λ (n : ℕ). 0 < n) (sym len) low) (subst (λ (n : ℕ). shelf < n) (sym len) high) one two three (d.0 ex) in
      (refl, subst (λ (n : ℕ). n < room) (sym t.1) fits, d.1 ∙ (ap (λ (x : List ℕ). set x shelf (count + 1)) t.2 ∙ ap (λ (n : ℕ). set (taken (overlay m l.writes)) shelf (n + 1)) (sym t.1)))

-- a shelf is as it was where a piece is taken off the pile
beside : (m : List ℕ) (shelf v : ℕ) → get_or (set m 0 v) (suc shelf) 0 ≡ get_or m (suc shelf) 0
beside [] shelf v = refl
beside (x ∷ m) shelf v = refl

-- THREE SHELVES, each tried where those before it gave way
abbrev pub Tried : ℕ → Option ℕ → Log → Log → Type 0
Tried words o l k = EitherTells (EitherTells (λ p. Told words (Lands 1 2 p)) (λ p. Told words (Lands 2 1 p))) (λ p. Told words (Lands 3 1 p)) o l k

no-some : {P : Type 0} → IsSome {T = ℕ} None → P
no-some h = absurd cc

more-explains : (m : List ℕ) (l k : Log) → ReadsMore l k → Explains m k.reads → Explains m l.reads
more-explains m l k more ex = explains-front m l.reads more.0 (subst (Explains m) more.1 ex)

-- the first two gave way
two-gave : (words : ℕ) (l gave : Log) → EitherTells (λ p. Told words (Lands 1 2 p)) (λ p. Told words (Lands 2 1 p)) None l gave → (m : List ℕ) → length m ≡ words → Explains m gave.reads
    → (2 ≤ get_or (taken (overlay m l.writes)) 1 0) × (1 ≤ get_or (taken (overlay m l.writes)) 2 0)
two-gave words l gave (inl h) m len ex = no-some h.0
two-gave words l gave (inr h) m len ex = (h.1 m len (more-explains m h.0 gave h.3 ex), h.4 m len ex)

full-one : (m : List ℕ) → 2 ≤ get_or (taken m) 1 0 → (b : ℕ) → 1 ≤ b → b < 2 → IsFull m b
full-one m one zero low high = absurd (omega arith)
full-one m one (suc zero) low high = subst (λ (n : ℕ). 2 ≤ n) (beside m 0 (get_or m 0 0 - 1)) one
full-one m one (suc (suc b)) low high = absurd (omega arith)

full-two : (m : List ℕ) → 2 ≤ get_or (taken m) 1 0 → 1 ≤ get_or (taken m) 2 0 → (b : ℕ) → 1 ≤ b → b < 3 → IsFull m b
full-two m one two zero low high = absurd (omega arith)
full-two m one two (suc zero) low high = full-one m one 1 low (omega arith)
full-two m one two (suc (suc zero)) low high = subst (λ (n : ℕ). 1 ≤ n) (beside m 1 (get_or m 0 0 - 1)) two
full-two m one two (suc (suc (suc b))) low high = absurd (omega arith)

full-three : (m : List ℕ) → 2 ≤ get_or (taken m) 1 0 → 1 ≤ get_or (taken m) 2 0 → 1 ≤ get_or (taken m) 3 0 → (b : ℕ) → 1 ≤ b → b ≤ 3 → IsFull m b
full-three m one two three zero low high = absurd (omega arith)
full-three m one two three (suc zero) low high = full-one m one 1 low (omega arith)
full-three m one two three (suc (suc zero)) low high = full-two m one two 2 low (omega arith)
full-three m one two three (suc (suc (suc zero))) low high = subst (λ (n : ℕ). 1 ≤ n) (beside m 2 (get_or m 0 0 - 1)) three
full-three m one two three (suc (suc (suc (suc b)))) low high = absurd (omega arith)

landed : (shelf s : ℕ) (m n : List ℕ) → suc shelf ≤ 3 → 0 < get_or m 0 0 → ((b : ℕ) → 1 ≤ b → b < suc shelf → IsFull m b) → Lands (suc shelf) (room_on (suc shelf)) (Some s) m n → IsStored (On s) m n
landed shelf s m n high pile before h =
    let room = subst (λ (c : ℕ). c < room_on (suc shelf)) (beside m shelf (get_or m 0 0 - 1)) h.1 in
    subst (λ (q : ℕ). IsStored (On q) m n) (sym h.0) (pile, omega arith, high, room, before, h.2)

tried-on : (words : ℕ) (l j : Log) (s : ℕ) → Tried words (Some s) l j → (m : List ℕ) → length m ≡ words → Explains m j.reads
    → 0 < get_or (overlay m l.writes) 0 0 → IsStored (On s) (overlay m l.writes) (overlay m j.writes)
tried-on words l j s (inl (some, inl h)) m len ex pile = landed 0 s (overlay m l.writes) (overlay m j.writes) (omega arith) pile (λ b low high. absurd (omega arith)) (h.1 m len ex)
tried-on words l j s (inl (some, inr h)) m len ex pile =
    landed 1 s (overlay m l.writes) (overlay m j.writes) (omega arith) pile (full-one (overlay m l.writes) (h.1 m len (more-explains m h.0 j h.3 ex))) (h.4 m len ex)
tried-on words l j s (inr h) m len ex pile =
    let two = two-gave words l h.0 h.1 m len (more-explains m h.0 j h.3 ex) in
    landed 2 s (overlay m l.writes) (overlay m j.writes) (omega arith) pile (full-two (overlay m l.writes) two.0 two.1) (h.4 m len ex)

tried-none : (words : ℕ) (l gave : Log) → Tried words None l gave → (m : List ℕ) → length m ≡ words → Explains m gave.reads → (shelf : ℕ) → 1 ≤ shelf → shelf ≤ 3 → IsFull (overlay m l.writes) shelf
tried-none words l gave (inl h) m len ex = no-some h.0
tried-none words l gave (inr h) m len ex =
    let two = two-gave words l h.0 h.1 m len (more-explains m h.0 gave h.3 ex) in
    full-three (overlay m l.writes) two.0 two.1 (h.4 m len ex)

-- THE WHOLE: it first read the pile
module _ (words : ℕ) (low : 0 < words) (l k : Log) (pile : ℕ) (fresh : l ≡ no_log) (read : Reads l 0 pile k) where
  -- what it sees is the memory itself
  plain : (m : List ℕ) → overlay m k.writes ≡ m
  plain m = ap (overlay m) (read.0 ∙ ap (λ (q : Log). q.writes) fresh)

  piled : (m : List ℕ) → length m ≡ words → Explains m k.reads → get_or (overlay m k.writes) 0 0 ≡ pile
  piled m len ex = ap (λ (ws : List (ℕ × ℕ)). get_or (overlay m ws) 0 0) read.0 ∙ (reads-see m l 0 pile k (subst (λ (n : ℕ). 0 < n) (sym len) low) read ex).1

  module _ (good : List ℕ → Type 0) (len : ℕ) (j : Log) where
    pub refused : (limit : ℕ) → Comes good words len (Tried words) (NoRoom limit) k j → Told words (IsStored Refused) no_log j
    refused limit came = λ m long ex. ap (overlay m) came.0.1 ∙ plain m

    pub on-shelf : (s : ℕ) → 0 < pile → Comes good words len (Tried words) (Done s) k j → Told words (IsStored (On s)) no_log j
    on-shelf s some came = λ m long ex.
        let i = came.0.0 in
        let same = came.0.2 in
        let pos = subst (λ (n : ℕ). 0 < n) (sym (piled m long (more-explains m k j came.1 ex))) some in
        let told = tried-on words k i s came.0.1 m long (subst (Explains m) same.0 ex) pos in
        subst (λ (x : List ℕ). IsStored (On s) x (overlay m j.writes)) (plain m) (subst (IsStored (On s) (overlay m k.writes)) (sym (overlay-same m j.writes i.writes same.1)) told)

    pub nowhere : 0 < pile → Comes good words len (Tried words) GaveWay k j → Told words (IsStored Nowhere) no_log j
    nowhere some came = λ m long ex.
        let gave = came.0.0 in
        let pos = subst (λ (n : ℕ). 0 < n) (sym (piled m long (more-explains m k j came.1.0 ex))) some in
        let full = tried-none words k gave came.0.1 m long (subst (λ (q : Log). Explains m q.reads) came.0.2 ex) in
        let there = plain m in (
          subst (λ (x : List ℕ). 0 < get_or x 0 0) there pos,
          (λ shelf a b. subst (λ (x : List ℕ). IsFull x shelf) there (full shelf a b)),
          ap (overlay m) came.1.1 ∙ there,
        )
