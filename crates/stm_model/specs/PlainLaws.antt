-- Laws of what a plain memory stands for.
use Rattle.std.proofs.Common.{ℕ, zero, suc, ◌≡◌, ◌≢◌, ◌<◌, ◌+◌, List, [], ◌∷◌, ◌++◌, length, get_or, set, Bool, true, false, refl, sym, ap, ◌∙◌, arith}
use Rattle.std.specs.Prelude.{Option, Some, None, ◌==◌, if◌then◌else◌, MatchOption}
use Rattle.std.proofs.lemmas.Bool.Decides.{nat_tests}
use Rattle.stm_model.specs.Memories.{AreWords, item_at, put, Once, Explains}
use Rattle.stm_model.specs.Logs.{IsLog, Reads, Writes, IsExplained}
use Rattle.stm_model.specs.Plains.{openings, reads_from, own_item, writes_from, plain_log}
use Rattle.stm_model.specs.declared.plain.PlainWord.{PlainWord}

same_yes : (a : ℕ) → (a == a) ≡ true
same_yes a = grind (arith, nat_tests)

differ : (a b : ℕ) → a ≢ b → (a == b) ≡ false
differ a b n = grind (arith, nat_tests)

reads-at : (i k : ℕ) (ws : List PlainWord) (d : PlainWord) (a : ℕ) → a ≡ i + k → k < length ws → item_at a (reads_from i ws) ≡ Some (get_or ws k d).opening
reads-at i k [] d a e lt = absurd (omega arith)
reads-at i zero (w ∷ ws) d a e lt = let s : i ≡ a = omega arith in rw s (rw (same_yes a))
reads-at i (suc k) (w ∷ ws) d a e lt = let n = differ i a (λ q. absurd (omega arith)) in rw n (reads-at (suc i) k ws d a (omega arith) (omega arith))

own-skip : (i a : ℕ) (o : Option ℕ) (rest : List (ℕ × ℕ)) → i ≢ a → item_at a (own_item i o rest) ≡ item_at a rest
own-skip i a None rest n = refl
own-skip i a (Some v) rest n = let e = differ i a n in rw e

writes-early : (i a : ℕ) (ws : List PlainWord) → a < i → item_at a (writes_from i ws) ≡ None
writes-early i a [] lt = refl
writes-early i a (w ∷ ws) lt = own-skip i a w.own (writes_from (suc i) ws) (λ q. absurd (omega arith)) ∙ writes-early (suc i) a ws (omega arith)

own-here : (i : ℕ) (o : Option ℕ) (rest : List (ℕ × ℕ)) → item_at i rest ≡ None → item_at i (own_item i o rest) ≡ o
own-here i None rest h = h
own-here i (Some v) rest h = rw (same_yes i)

-- the own value of a word is the log's write there
pub writes-at : (i k : ℕ) (ws : List PlainWord) (d : PlainWord) (a : ℕ) → a ≡ i + k → k < length ws → item_at a (writes_from i ws) ≡ (get_or ws k d).own
writes-at i k [] d a e lt = absurd (omega arith)
writes-at i zero (w ∷ ws) d a e lt = let s : a ≡ i = omega arith in rw s (own-here i w.own (writes_from (suc i) ws) (writes-early (suc i) i ws (omega arith)))
writes-at i (suc k) (w ∷ ws) d a e lt = own-skip i a w.own (writes_from (suc i) ws) (λ q. absurd (omega arith)) ∙ writes-at (suc i) k ws d a (omega arith) (omega arith)

by-own : (ws : List PlainWord) (a v : ℕ) (o own : Option ℕ) → o ≡ own → (r : Option ℕ) (opening : ℕ) → r ≡ Some opening → MatchOption own (v ≡ opening) (λ x. v ≡ x)
    → MatchOption o (MatchOption r (reads_from 0 ws ≡ reads_from 0 ws ++ (a, v) ∷ []) (λ x. (v ≡ x) × (reads_from 0 ws ≡ reads_from 0 ws))) (λ x. (v ≡ x) × (reads_from 0 ws ≡ reads_from 0 ws))
by-own ws a v None None e None opening f h = absurd cc
by-own ws a v None None e (Some x) opening f h = (let q : opening ≡ x = cc in h ∙ q, refl)
by-own ws a v None (Some y) e r opening f h = absurd cc
by-own ws a v (Some x) None e r opening f h = absurd cc
by-own ws a v (Some x) (Some y) e r opening f h = (let q : y ≡ x = cc in h ∙ q, refl)

-- the read of a plain word
pub plain-reads : (ws : List PlainWord) (a : ℕ) (d : PlainWord) (v : ℕ) → a < length ws → MatchOption (get_or ws a d).own (v ≡ (get_or ws a d).opening) (λ x. v ≡ x) → Reads (plain_log ws) a v (plain_log ws)
plain-reads ws a d v lt h = (refl, by-own ws a v (item_at a (writes_from 0 ws)) (get_or ws a d).own (writes-at 0 a ws d a (omega arith) lt) (item_at a (reads_from 0 ws)) (get_or ws a d).opening (reads-at 0 a ws d a (omega arith) lt) h)

pub openings-length : (ws : List PlainWord) → length (openings ws) ≡ length ws
openings-length [] = refl
openings-length (w ∷ ws) = ap suc (openings-length ws)

-- the opening values explain the reads of the words after them
openings-explain : (m : List ℕ) (i : ℕ) (ws : List PlainWord) → ((a k : ℕ) → a ≡ i + k → k < length ws → get_or m a 0 ≡ get_or (openings ws) k 0) → Explains m (reads_from i ws)
openings-explain m i [] h = tt
openings-explain m i (w ∷ ws) h = (h i 0 (omega arith) (omega arith), openings-explain m (suc i) ws (λ a k e lt. h a (suc k) (omega arith) (omega arith)))

pub plain-explained : (ws : List PlainWord) → AreWords (openings ws) → IsExplained (λ m. m ≡ openings ws) (length ws) (plain_log ws)
plain-explained ws small = (openings ws, refl, openings-length ws, openings-explain (openings ws) 0 ws (λ a k e lt. let q : a ≡ k = omega arith in rw q refl), small)

-- a word set without a change of its opening value
pub openings-set : (ws : List PlainWord) (a : ℕ) (d w : PlainWord) → w.opening ≡ (get_or ws a d).opening → openings (set ws a w) ≡ openings ws
openings-set [] a d w e = refl
openings-set (x ∷ ws) zero d w e = ap (λ n. n ∷ openings ws) e
openings-set (x ∷ ws) (suc a) d w e = ap (λ l. x.opening ∷ l) (openings-set ws a d w e)

reads-set : (i : ℕ) (ws : List PlainWord) (a : ℕ) (d w : PlainWord) → w.opening ≡ (get_or ws a d).opening → reads_from i (set ws a w) ≡ reads_from i ws
reads-set i [] a d w e = refl
reads-set i (x ∷ ws) zero d w e = ap (λ n. (i, n) ∷ reads_from (suc i) ws) e
reads-set i (x ∷ ws) (suc a) d w e = ap (λ l. (i, x.opening) ∷ l) (reads-set (suc i) ws a d w e)

put-item-cons : (a v b : ℕ) (w : ℕ × ℕ) (ws : List (ℕ × ℕ)) (t : Bool) → (w.0 == a) ≡ t → item_at b (put a v ws) ≡ (if a == b then Some v else item_at b ws)
    → item_at b (if t then (a, v) ∷ ws else w ∷ put a v ws) ≡ (if a == b then Some v else (if w.0 == b then Some w.1 else item_at b ws))
put-item-cons a v b w ws true e h = grind (arith, nat_tests)
put-item-cons a v b w ws false e h = grind (arith, nat_tests, h)

-- the items after a put
pub put-item : (a v b : ℕ) (ws : List (ℕ × ℕ)) → item_at b (put a v ws) ≡ (if a == b then Some v else item_at b ws)
put-item a v b [] = refl
put-item a v b (w ∷ ws) = put-item-cons a v b w ws (w.0 == a) refl (put-item a v b ws)

writes-set : (i k j : ℕ) (ws : List PlainWord) (w : PlainWord) (v b : ℕ) → w.own ≡ Some v → j ≡ i + k → k < length ws → item_at b (writes_from i (set ws k w)) ≡ (if j == b then Some v else item_at b (writes_from i ws))
writes-set i k j [] w v b e q lt = absurd (omega arith)
writes-set i zero j (x ∷ ws) w v b e q lt = let s : j ≡ i = omega arith in rw (e, s) (here (i == b) refl)
  where
    here : (t : Bool) → (i == b) ≡ t → (if i == b then Some v else item_at b (writes_from (suc i) ws)) ≡ (if i == b then Some v else item_at b (own_item i x.own (writes_from (suc i) ws)))
    here true q = rw q refl
    here false q = let n : i ≢ b = grind (arith, nat_tests) in rw q (sym (own-skip i b x.own (writes_from (suc i) ws) n))
writes-set i (suc k) j (x ∷ ws) w v b e q lt = behind x.own (writes-set (suc i) k j ws w v b e (omega arith) (omega arith))
  where
    behind : (o : Option ℕ) → item_at b (writes_from (suc i) (set ws k w)) ≡ (if j == b then Some v else item_at b (writes_from (suc i) ws))
        → item_at b (own_item i o (writes_from (suc i) (set ws k w))) ≡ (if j == b then Some v else item_at b (own_item i o (writes_from (suc i) ws)))
    behind None h = h
    behind (Some x) h = let n : j ≢ i = omega arith in grind (arith, nat_tests, h, n)

-- the write of a plain word
pub plain-writes : (ws : List PlainWord) (a : ℕ) (d w : PlainWord) (v : ℕ) → a < length ws → w.opening ≡ (get_or ws a d).opening → w.own ≡ Some v → Writes (plain_log ws) a v (plain_log (set ws a w))
plain-writes ws a d w v lt e o = (reads-set 0 ws a d w e, λ b. writes-set 0 a a ws w v b o (omega arith) lt ∙ sym (put-item a v b (writes_from 0 ws)))

-- a plain log has one item an address
reads-early : (i a : ℕ) (ws : List PlainWord) → a < i → item_at a (reads_from i ws) ≡ None
reads-early i a [] lt = refl
reads-early i a (w ∷ ws) lt = let n = differ i a (λ q. absurd (omega arith)) in rw n (reads-early (suc i) a ws (omega arith))

reads-once : (i : ℕ) (ws : List PlainWord) → Once (reads_from i ws)
reads-once i [] = tt
reads-once i (w ∷ ws) = (reads-early (suc i) i ws (omega arith), reads-once (suc i) ws)

own-once : (i : ℕ) (o : Option ℕ) (rest : List (ℕ × ℕ)) → item_at i rest ≡ None → Once rest → Once (own_item i o rest)
own-once i None rest early h = h
own-once i (Some v) rest early h = (early, h)

writes-once : (i : ℕ) (ws : List PlainWord) → Once (writes_from i ws)
writes-once i [] = tt
writes-once i (w ∷ ws) = own-once i w.own (writes_from (suc i) ws) (writes-early (suc i) i ws (omega arith)) (writes-once (suc i) ws)

pub plain-once : (ws : List PlainWord) → IsLog (plain_log ws)
plain-once ws = record { reads = reads-once 0 ws; writes = writes-once 0 ws }
