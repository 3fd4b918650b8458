-- Laws of the memory at a time: the fold over the entries of a history.
use Rattle.std.proofs.Common.{ℕ, zero, suc, ◌≡◌, ◌<◌, ◌≤◌, ◌-◌, List, [], ◌∷◌, ◌++◌, Bool, true, false, refl, sym, ap, ◌∙◌, arith, length, get_or}
use Rattle.std.specs.Prelude.{leb, if◌then◌else◌}
use Rattle.std.proofs.lemmas.Bool.Decides.{nat_tests}
use Rattle.stm_model.specs.Memories.{overlay}
use Rattle.stm_model.specs.Overlays.{overlay-length}
use Rattle.stm_model.specs.Histories.{Entry, memory_at, memory_after, Ascending}

leb-yes : (a b : ℕ) → a ≤ b → leb a b ≡ true
leb-yes a b h = grind (arith, nat_tests)

leb-no : (a b : ℕ) → b < a → leb a b ≡ false
leb-no a b h = grind (arith, nat_tests)

-- entries that come later leave the memory as it was
pub memory_at-early : (s floor : ℕ) (es : List Entry) (m : List ℕ) → s ≤ floor → Ascending floor es → memory_at s es m ≡ m
memory_at-early s floor [] m le asc = refl
memory_at-early s floor (e ∷ es) m le asc =
    let no : leb e.time s ≡ false = leb-no e.time s (let h = asc.0 in omega arith) in
    rw no (memory_at-early s e.time es m (let h = asc.0 in omega arith) asc.1)

-- an entry that is in time counts
pub memory_at-past : (s : ℕ) (e : Entry) (es : List Entry) (m : List ℕ) → e.time ≤ s → memory_at s (e ∷ es) m ≡ memory_at s es (overlay m e.writes)
memory_at-past s e es m le = let yes : leb e.time s ≡ true = leb-yes e.time s le in rw yes

pub memory_at-first : (e : Entry) (es : List Entry) (m : List ℕ) → Ascending e.time es → memory_at e.time (e ∷ es) m ≡ overlay m e.writes
memory_at-first e es m asc = memory_at-past e.time e es m (omega arith) ∙ memory_at-early e.time e.time es (overlay m e.writes) (omega arith) asc

length-chosen : (b : Bool) (m : List ℕ) (ws : List (ℕ × ℕ)) → length (if b then overlay m ws else m) ≡ length m
length-chosen true m ws = overlay-length m ws
length-chosen false m ws = refl

pub length-memory_at : (s : ℕ) (es : List Entry) (m : List ℕ) → length (memory_at s es m) ≡ length m
length-memory_at s [] m = refl
length-memory_at s (e ∷ es) m = length-memory_at s es (if leb e.time s then overlay m e.writes else m) ∙ length-chosen (leb e.time s) m e.writes

pub memory_at-append : (s : ℕ) (es fs : List Entry) (m : List ℕ) → memory_at s (es ++ fs) m ≡ memory_at s fs (memory_at s es m)
memory_at-append s [] fs m = refl
memory_at-append s (e ∷ es) fs m = memory_at-append s es fs (if leb e.time s then overlay m e.writes else m)

time-above : (floor : ℕ) (es : List Entry) (k : ℕ) → Ascending floor es → k < length es → (d : Entry) → floor < (get_or es k d).time
time-above floor [] k asc lt d = absurd (omega arith)
time-above floor (x ∷ es) zero asc lt d = asc.0
time-above floor (x ∷ es) (suc k) asc lt d = let h = time-above x.time es k asc.1 (omega arith) d in let a = asc.0 in omega arith

-- an entry takes the memory right before it to that at its time
pub memory_at-entry : (floor : ℕ) (es : List Entry) (m : List ℕ) (k : ℕ) (d : Entry) → Ascending floor es → k < length es
    → memory_at (get_or es k d).time es m ≡ overlay (memory_at ((get_or es k d).time - 1) es m) (get_or es k d).writes
memory_at-entry floor [] m k d asc lt = absurd (omega arith)
memory_at-entry floor (x ∷ es) m zero d asc lt =
    let low = asc.0 in
    memory_at-first x es m asc.1 ∙ ap (λ y. overlay y x.writes) (sym (memory_at-early (x.time - 1) (x.time - 1) (x ∷ es) m (omega arith) (omega arith, asc.1)))
memory_at-entry floor (x ∷ es) m (suc k) d asc lt =
    let up = time-above x.time es k asc.1 (omega arith) d in
    let t = (get_or es k d).time in
    memory_at-past t x es m (omega arith) ∙ (memory_at-entry x.time es (overlay m x.writes) k d asc.1 (omega arith)
    ∙ ap (λ y. overlay y (get_or es k d).writes) (sym (memory_at-past (t - 1) x es m (omega arith))))

-- the times of a history end within the limit
abbrev pub Within : ℕ → List Entry → Type 0
Within limit [] = Unit {0}
Within limit (e ∷ es) = (e.time ≤ limit) × Within limit es

-- where all entries are in time the memory is that after all
pub memory_at-all : (s : ℕ) (es : List Entry) (m : List ℕ) → Within s es → memory_at s es m ≡ memory_after es m
memory_at-all s [] m w = refl
memory_at-all s (e ∷ es) m w = memory_at-past s e es m w.0 ∙ memory_at-all s es (overlay m e.writes) w.1
