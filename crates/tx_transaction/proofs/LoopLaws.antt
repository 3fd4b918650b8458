-- One more read or write, for the loops.
use Rattle.std.proofs.Common.{ℕ, zero, suc, ◌≡◌, ◌<◌, ◌≤◌, ◌+◌, ◌∙◌, List, [], ◌∷◌, ◌++◌, length, get_or, set, refl, sym, ap, arith, subst, length-append, get_or-set_other}
use Rattle.stm_model.specs.Logs.{Log, Reads, Writes}
use Rattle.tx_transaction.specs.Words.{AllBelow, ReadEach, WrittenEach, AllRead, AllWritten, RangeRead, valued, placed}

pub below-at : (words : ℕ) (at : List ℕ) (i : ℕ) → AllBelow words at → i < length at → get_or at i 0 < words
below-at words [] i all lt = absurd (omega arith)
below-at words (a ∷ rest) zero all lt = all.0
below-at words (a ∷ rest) (suc i) all lt = below-at words rest i all.1 (omega arith)

each-push : (words : ℕ) (l : Log) (rs : List (ℕ × ℕ)) (k j : Log) (r : ℕ × ℕ) → ReadEach words l rs k → r.0 < words → Reads k r.0 r.1 j → ReadEach words l (rs ++ r ∷ []) j
each-push words l [] k j r same lt one = (lt, j, subst (λ (i : Log). Reads i r.0 r.1 j) (sym same) one, refl)
each-push words l (x ∷ rs) k j r read lt one = (read.0, read.1, read.2, each-push words read.1 rs k j r read.3 lt one)

wrote-push : (l : Log) (ws : List (ℕ × ℕ)) (k j : Log) (w : ℕ × ℕ) → WrittenEach l ws k → Writes k w.0 w.1 j → WrittenEach l (ws ++ w ∷ []) j
wrote-push l [] k j w same one = (j, subst (λ (i : Log). Writes i w.0 w.1 j) (sym same) one, refl)
wrote-push l (x ∷ ws) k j w wrote one = (wrote.0, wrote.1, wrote-push wrote.0 ws k j w wrote.2 one)

valued-push : (i : ℕ) (at vs : List ℕ) (a v n : ℕ) → n ≡ i + length at → get_or vs n 0 ≡ v → valued i (at ++ a ∷ []) vs ≡ valued i at vs ++ (a, v) ∷ []
valued-push i [] vs a v n is there =
    let same : n ≡ i = omega arith in
    ap (λ (x : ℕ). (a, x) ∷ []) (ap (λ (k : ℕ). get_or vs k 0) (sym same) ∙ there)
valued-push i (b ∷ at) vs a v n is there = ap (λ (l : List (ℕ × ℕ)). (b, get_or vs i 0) ∷ l) (valued-push (suc i) at vs a v n (omega arith) there)

valued-set : (i : ℕ) (at vs : List ℕ) (n v : ℕ) → i + length at ≤ n → valued i at (set vs n v) ≡ valued i at vs
valued-set i [] vs n v past = refl
valued-set i (b ∷ at) vs n v past =
    let same : get_or (set vs n v) i 0 ≡ get_or vs i 0 = get_or-set_other vs n i v 0 (omega arith) in
    let more = valued-set (suc i) at vs n v (omega arith) in
    rw (same, more) refl

placed-push : (start : ℕ) (vs : List ℕ) (a v : ℕ) → a ≡ start + length vs → placed start (vs ++ v ∷ []) ≡ placed start vs ++ (a, v) ∷ []
placed-push start [] a v is = let same : start ≡ a = omega arith in ap (λ (x : ℕ). (x, v) ∷ []) same
placed-push start (x ∷ vs) a v is = ap (λ (l : List (ℕ × ℕ)). (start, x) ∷ l) (placed-push (suc start) vs a v (omega arith))

-- one more of the addresses was read, and stands in the values at its place
pub read-next : {words : ℕ} {l : Log} (at vs : List ℕ) {k j : Log} (a v n : ℕ) → AllRead words l (valued 0 at vs) k → length at ≡ n → n < length vs → a < words → Reads k a v j
    → get_or (set vs n v) n 0 ≡ v → AllRead words l (valued 0 (at ++ a ∷ []) (set vs n v)) j
read-next {words} {l} at vs {k} {j} a v n read long room lt one there =
    let is : valued 0 (at ++ a ∷ []) (set vs n v) ≡ valued 0 at vs ++ (a, v) ∷ [] =
    valued-push 0 at (set vs n v) a v n (omega arith) there ∙ ap (λ (x : List (ℕ × ℕ)). x ++ (a, v) ∷ []) (valued-set 0 at vs n v (omega arith)) in
    record { each = subst (λ (x : List (ℕ × ℕ)). ReadEach words l x j) (sym is) (each-push words l (valued 0 at vs) k j (a, v) read.each lt one) }

pub write-next : {l : Log} {ws : List (ℕ × ℕ)} {k j : Log} (w : ℕ × ℕ) → AllWritten l ws k → Writes k w.0 w.1 j → AllWritten l (ws ++ w ∷ []) j
write-next w wrote one = record { each = wrote-push _ _ _ _ w wrote.each one }

-- one more word of a range was
pub range-next : {words : ℕ} {l : Log} {start a : ℕ} {tells : List ℕ → Type 0} {k j : Log} (v : ℕ) → RangeRead words l start a tells k → a < words → Reads k a v j
    → {tells' : List ℕ → Type 0} → ((vs : List ℕ) → tells vs → tells' (vs ++ v ∷ [])) → RangeRead words l start (a + 1) tells' j
range-next {words} {l} {start} {a} {tells} {k} {j} v r lt one then =
    let long = length-append r.found (v ∷ []) in
    let is = placed-push start r.found a v (let all = r.all in omega arith) in
    record {
      found = r.found ++ v ∷ [];
      all = (let all = r.all in omega arith);
      within = omega arith;
      told = then r.found r.told;
      read = record { each = subst (λ (x : List (ℕ × ℕ)). ReadEach words l x j) (sym is) (each-push words l (placed start r.found) k j (a, v) r.read.each lt one) };
    }
