-- Laws of a commit and a cancel over plain memory.
use Rattle.std.proofs.Common.{ℕ, zero, suc, ◌≡◌, ◌<◌, ◌≤◌, ◌+◌, List, [], ◌∷◌, length, get_or, set, drop, Bool, true, false, refl, sym, ap, ◌∙◌, arith, subst}
use Rattle.std.specs.Prelude.{◌^◌, Option, Some, None, ltb, is_some, not, ◌||◌, MatchOption}
use Rattle.std.proofs.lemmas.List.{drop_more}
use Rattle.std.proofs.lemmas.List.Elements.{All-set}
use Rattle.std.proofs.lemmas.Bool.Decides.{nat_tests}
use Rattle.stm_model.specs.Memories.{AreWords, overlay, is_empty}
use Rattle.stm_model.specs.Overlays.{overlay-length, overlay-at_some, overlay-at_none, same_list, get_past}
use Rattle.stm_model.specs.Plains.{openings, own_item, writes_from, own_writes, value_of, settled, forgotten, change_first, any_own}
use Rattle.stm_model.specs.PlainLaws.{writes-at, openings-length}
use Rattle.stm_model.specs.declared.plain.PlainWord.{PlainWord}

pub value-of : (w : PlainWord) (v : ℕ) → MatchOption w.own (v ≡ w.opening) (λ own. v ≡ own) → v ≡ value_of w.opening w.own
value-of w v h = by w.own h
  where
    by : (o : Option ℕ) → MatchOption o (v ≡ w.opening) (λ own. v ≡ own) → v ≡ value_of w.opening o
    by None h = h
    by (Some own) h = h

pub length-change_first : (f : PlainWord → PlainWord) (i : ℕ) (ws : List PlainWord) → length (change_first f i ws) ≡ length ws
length-change_first f zero ws = refl
length-change_first f (suc i) [] = refl
length-change_first f (suc i) (w ∷ ws) = ap suc (length-change_first f i ws)

-- the next word is still as it was
pub change_first-next : (f : PlainWord → PlainWord) (i : ℕ) (ws : List PlainWord) (d : PlainWord) → get_or (change_first f i ws) i d ≡ get_or ws i d
change_first-next f zero ws d = refl
change_first-next f (suc i) [] d = refl
change_first-next f (suc i) (w ∷ ws) d = change_first-next f i ws d

-- changing the next word goes one on
pub change_first-more : (f : PlainWord → PlainWord) (i : ℕ) (ws : List PlainWord) (d : PlainWord) → i < length ws → set (change_first f i ws) i (f (get_or ws i d)) ≡ change_first f (suc i) ws
change_first-more f i [] d lt = absurd (omega arith)
change_first-more f zero (w ∷ ws) d lt = refl
change_first-more f (suc i) (w ∷ ws) d lt = ap (λ l. f w ∷ l) (change_first-more f i ws d (omega arith))

pub openings-forgotten : (i : ℕ) (ws : List PlainWord) → openings (change_first forgotten i ws) ≡ openings ws
openings-forgotten zero ws = refl
openings-forgotten (suc i) [] = refl
openings-forgotten (suc i) (w ∷ ws) = ap (λ l. w.opening ∷ l) (openings-forgotten i ws)

-- a list whose words are all forgotten, or all settled, has no writes
pub writes-changed : (f : PlainWord → PlainWord) → ((w : PlainWord) → (f w).own ≡ None) → (k i : ℕ) (ws : List PlainWord) → length ws ≤ i → writes_from k (change_first f i ws) ≡ []
writes-changed f none k zero [] le = refl
writes-changed f none k zero (w ∷ ws) le = absurd (omega arith)
writes-changed f none k (suc i) [] le = refl
writes-changed f none k (suc i) (w ∷ ws) le = ap (λ o. own_item k o (writes_from (suc k) (change_first f i ws))) (none w) ∙ writes-changed f none (suc k) i ws (omega arith)

opening-settled : (i : ℕ) (ws : List PlainWord) (k : ℕ) (d : PlainWord) → length ws ≤ i → k < length ws → get_or (openings (change_first settled i ws)) k 0 ≡ value_of (get_or ws k d).opening (get_or ws k d).own
opening-settled i [] k d le lt = absurd (omega arith)
opening-settled zero (w ∷ ws) k d le lt = absurd (omega arith)
opening-settled (suc i) (w ∷ ws) zero d le lt = refl
opening-settled (suc i) (w ∷ ws) (suc k) d le lt = opening-settled i ws k d (omega arith) (omega arith)

opening-at : (ws : List PlainWord) (k : ℕ) (d : PlainWord) → k < length ws → get_or (openings ws) k 0 ≡ (get_or ws k d).opening
opening-at [] k d lt = absurd (omega arith)
opening-at (w ∷ ws) zero d lt = refl
opening-at (w ∷ ws) (suc k) d lt = opening-at ws k d (omega arith)

settled-at : (ws : List PlainWord) (k : ℕ) (d : PlainWord) → k < length ws → (o : Option ℕ) → (get_or ws k d).own ≡ o → get_or (overlay (openings ws) (own_writes ws)) k 0 ≡ value_of (get_or ws k d).opening o
settled-at ws k d lt None e = overlay-at_none (openings ws) k (own_writes ws) (writes-at 0 k ws d k (omega arith) lt ∙ e) ∙ opening-at ws k d lt
settled-at ws k d lt (Some own) e = overlay-at_some (openings ws) k own (own_writes ws) (let l = openings-length ws in omega arith) (writes-at 0 k ws d k (omega arith) lt ∙ e)

settled-each : (i : ℕ) (ws : List PlainWord) (d : PlainWord) → length ws ≤ i → (k : ℕ) (t : Bool) → ltb k (length ws) ≡ t → get_or (openings (change_first settled i ws)) k 0 ≡ get_or (overlay (openings ws) (own_writes ws)) k 0
settled-each i ws d le k true e =
    let lt : k < length ws = grind (arith, nat_tests) in
    opening-settled i ws k d le lt ∙ sym (settled-at ws k d lt (get_or ws k d).own refl)
settled-each i ws d le k false e =
    let past : length ws ≤ k = grind (arith, nat_tests) in
    let a = openings-length (change_first settled i ws) in
    let b = length-change_first settled i ws in
    let c = overlay-length (openings ws) (own_writes ws) in
    let f = openings-length ws in
    get_past (openings (change_first settled i ws)) k (omega arith) ∙ sym (get_past (overlay (openings ws) (own_writes ws)) k (omega arith))

-- a commit leaves the memory under the writes
pub openings-settled : (i : ℕ) (ws : List PlainWord) → length ws ≤ i → openings (change_first settled i ws) ≡ overlay (openings ws) (own_writes ws)
openings-settled i ws le =
    let d : PlainWord = record { opening = 0; own = None } in
    same_list (openings (change_first settled i ws)) (overlay (openings ws) (own_writes ws))
    (openings-length (change_first settled i ws) ∙ (length-change_first settled i ws ∙ sym (overlay-length (openings ws) (own_writes ws) ∙ openings-length ws)))
    (λ k. settled-each i ws d le k (ltb k (length ws)) refl)

pub any_own-writes : (k : ℕ) (ws : List PlainWord) → any_own ws ≡ not (is_empty (writes_from k ws))
any_own-writes k [] = refl
any_own-writes k (w ∷ ws) = by w.own (any_own-writes (suc k) ws)
  where
    by : (o : Option ℕ) → any_own ws ≡ not (is_empty (writes_from (suc k) ws)) → is_some o || any_own ws ≡ not (is_empty (own_item k o (writes_from (suc k) ws)))
    by None rest = rest
    by (Some v) rest = refl

-- one more word asked
pub any_own-drop : (ws : List PlainWord) (i : ℕ) (d : PlainWord) (b : Bool) → i < length ws → (b || is_some (get_or ws i d).own) || any_own (drop (i + 1) ws) ≡ b || any_own (drop i ws)
any_own-drop ws i d b lt = rw (drop_more ws i d lt) (by b (is_some (get_or ws i d).own) (any_own (drop (i + 1) ws)))
  where
    by : (x y z : Bool) → (x || y) || z ≡ x || (y || z)
    by true y z = refl
    by false y z = refl

-- the step of a loop that changes each word in turn
pub change-step : (f : PlainWord → PlainWord) (ws xs : List PlainWord) (i : ℕ) (w y : PlainWord) → xs ≡ change_first f i ws → w ≡ get_or xs i w → i < length ws → f w ≡ y → set xs i y ≡ change_first f (i + 1) ws
change-step f ws xs i w y is at lt new =
    let here : w ≡ get_or ws i w = at ∙ (ap (λ l. get_or l i w) is ∙ change_first-next f i ws w) in
    let next : i + 1 ≡ suc i = omega arith in
    ap (λ l. set l i y) is ∙ (ap (set (change_first f i ws) i) (sym new ∙ ap f here) ∙ (change_first-more f i ws w lt ∙ ap (λ j. change_first f j ws) (sym next)))

pub any_own-step : (ws xs : List PlainWord) (i : ℕ) (w : PlainWord) (b t : Bool) → xs ≡ change_first settled i ws → w ≡ get_or xs i w → i < length ws → t ≡ is_some w.own → b || any_own (drop i ws) ≡ any_own ws
    → (b || t) || any_own (drop (i + 1) ws) ≡ any_own ws
any_own-step ws xs i w b t is at lt test before =
    let here : w ≡ get_or ws i w = at ∙ (ap (λ l. get_or l i w) is ∙ change_first-next settled i ws w) in
    ap (λ x. (b || x) || any_own (drop (i + 1) ws)) (test ∙ ap (λ (x : PlainWord). is_some x.own) here) ∙ (any_own-drop ws i w b lt ∙ before)

pub any_own-end : (ws : List PlainWord) (i : ℕ) (b : Bool) → length ws ≤ i → b || any_own (drop i ws) ≡ any_own ws → b ≡ not (is_empty (own_writes ws))
any_own-end ws i b le h = or-none b (any_own (drop i ws)) (past ws i le) ∙ (h ∙ any_own-writes 0 ws)
  where
    past : (l : List PlainWord) (k : ℕ) → length l ≤ k → any_own (drop k l) ≡ false
    past [] zero h = refl
    past [] (suc k) h = refl
    past (x ∷ l) zero h = absurd (omega arith)
    past (x ∷ l) (suc k) h = past l k (omega arith)

    or-none : (x y : Bool) → y ≡ false → x ≡ x || y
    or-none true y e = refl
    or-none false y e = sym e

-- a word set whose opening value is a word
pub openings-small : (ws : List PlainWord) (i : ℕ) (w : PlainWord) (v : ℕ) → AreWords (openings ws) → w.opening ≡ v → v < 2 ^ 64 → AreWords (openings (set ws i w))
openings-small ws i w v small e lt = subst AreWords (sym (openings-put ws i w)) (All-set (λ (x : ℕ). x < 2 ^ 64) (openings ws) i w.opening (subst (λ (x : ℕ). x < 2 ^ 64) (sym e) lt) small)
  where
    openings-put : (ws : List PlainWord) (i : ℕ) (w : PlainWord) → openings (set ws i w) ≡ set (openings ws) i w.opening
    openings-put [] i w = refl
    openings-put (x ∷ ws) zero w = refl
    openings-put (x ∷ ws) (suc i) w = ap (λ l. x.opening ∷ l) (openings-put ws i w)
