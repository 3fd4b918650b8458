-- The items of logs that are rolled back: those taken back, the last first, and those stored again.
use Rattle.std.proofs.Common.{ℕ, zero, suc, ◌≡◌, ◌<◌, ◌≤◌, ◌+◌, List, [], ◌∷◌, ◌++◌, length, get_or, take, drop, drop-cons, Bool, true, false, refl, sym, ap, ◌∙◌, arith, append_assoc}
use Rattle.std.specs.Prelude.{Some, None, ◌==◌, if◌then◌else◌}
use Rattle.std.proofs.Math.Seq.{take-suc}
use Rattle.std.proofs.lemmas.Bool.Decides.{nat_tests}
use Rattle.std.proofs.lemmas.List.{append-nil, length-take, length-map, take-map}
use Rattle.stm_model.specs.Memories.{item_at, put, Once}
use Rattle.rule_base.specs.declared.entries.Cell.{Cell}
use Rattle.rule_base.specs.Bridge.{addresses, items}
use Rattle.rule_base.specs.Lemmas.BridgeLemmas.{item-some}
use Rattle.rule_base.specs.History.{touches, over, without}
use Rattle.stm_answers.specs.Causes.{has_item, is_some}
use Rattle.stm_logs.specs.LogStates.{firsts}
use Rattle.stm_gate.proofs.Peeling.{minus, items-without, drop-all}

-- whether a log has an item, and how many, is told by the addresses
pub has-by : (a : ℕ) (us ws : List (ℕ × ℕ)) → addresses us ≡ addresses ws → has_item a us ≡ has_item a ws
has-by a [] [] e = refl
has-by a [] (w ∷ ws) e = absurd cc
has-by a (u ∷ us) [] e = absurd cc
has-by a (u ∷ us) (w ∷ ws) e = let head : u.0 ≡ w.0 = cc in let tail : addresses us ≡ addresses ws = cc in
    ap (λ k. is_some (if k == a then Some u.1 else item_at a us)) head ∙ by (w.0 == a) (has-by a us ws tail)
  where
    by : (b : Bool) → has_item a us ≡ has_item a ws → is_some (if b then Some u.1 else item_at a us) ≡ is_some (if b then Some w.1 else item_at a ws)
    by true r = refl
    by false r = r

pub length-by : (us ws : List (ℕ × ℕ)) → addresses us ≡ addresses ws → length us ≡ length ws
length-by [] [] e = refl
length-by [] (w ∷ ws) e = absurd cc
length-by (u ∷ us) [] e = absurd cc
length-by (u ∷ us) (w ∷ ws) e = let tail : addresses us ≡ addresses ws = cc in ap suc (length-by us ws tail)

-- ITEMS of a list with one an address
there : (ws : List (ℕ × ℕ)) (i : ℕ) → i < length ws → has_item (get_or ws i (0, 0)).0 ws ≡ true
there [] i low = absurd (omega arith)
there (w ∷ ws) zero low = ap (λ (b : Bool). is_some (if b then Some w.1 else item_at w.0 ws)) (let here : (w.0 == w.0) ≡ true = grind (arith, nat_tests) in here)
there (w ∷ ws) (suc i) low = by (w.0 == (get_or ws i (0, 0)).0) (there ws i (omega arith))
  where
    by : (b : Bool) → has_item (get_or ws i (0, 0)).0 ws ≡ true → is_some (if b then Some w.1 else item_at (get_or ws i (0, 0)).0 ws) ≡ true
    by true r = refl
    by false r = r

-- an item's address isn't among those before it
once-at : (ws : List (ℕ × ℕ)) (i : ℕ) → Once ws → i < length ws → item_at (get_or ws i (0, 0)).0 (take i ws) ≡ None
once-at [] i o low = absurd (omega arith)
once-at (w ∷ ws) zero o low = refl
once-at (w ∷ ws) (suc i) o low = by (w.0 == (get_or ws i (0, 0)).0) refl (once-at ws i o.1 (omega arith))
  where
    by : (b : Bool) → (w.0 == (get_or ws i (0, 0)).0) ≡ b → item_at (get_or ws i (0, 0)).0 (take i ws) ≡ None → (if w.0 == (get_or ws i (0, 0)).0 then Some w.1 else item_at (get_or ws i (0, 0)).0 (take i ws)) ≡ None
    by true q rec =
        let same : w.0 ≡ (get_or ws i (0, 0)).0 = grind (arith, nat_tests) in
        let no : false ≡ true = ap is_some (sym o.0) ∙ (ap (λ (a : ℕ). has_item a ws) same ∙ there ws i (omega arith)) in
        absurd cc
    by false q rec = rw q rec

minus-last : (ws : List (ℕ × ℕ)) (w : ℕ × ℕ) → item_at w.0 ws ≡ None → minus w.0 (ws ++ w ∷ []) ≡ ws
minus-last [] w e = ap (λ (b : Bool). if b then [] else w ∷ []) (let here : (w.0 == w.0) ≡ true = grind (arith, nat_tests) in here)
minus-last (u ∷ ws) w e = by (u.0 == w.0) refl e (minus-last ws w)
  where
    by : (b : Bool) → (u.0 == w.0) ≡ b → (if u.0 == w.0 then Some u.1 else item_at w.0 ws) ≡ None
        → (item_at w.0 ws ≡ None → minus w.0 (ws ++ w ∷ []) ≡ ws)
        → (if u.0 == w.0 then minus w.0 (ws ++ w ∷ []) else u ∷ minus w.0 (ws ++ w ∷ [])) ≡ u ∷ ws
    by true q f rec = absurd (let g = rw q at f in cc)
    by false q f rec = rw q (ap (λ (l : List (ℕ × ℕ)). u ∷ l) (rec (rw q at f)))

item-last : (ws : List (ℕ × ℕ)) (w : ℕ × ℕ) → item_at w.0 ws ≡ None → item_at w.0 (ws ++ w ∷ []) ≡ Some w.1
item-last [] w e = ap (λ (b : Bool). if b then Some w.1 else None) (let here : (w.0 == w.0) ≡ true = grind (arith, nat_tests) in here)
item-last (u ∷ ws) w e = by (u.0 == w.0) refl e (item-last ws w)
  where
    by : (b : Bool) → (u.0 == w.0) ≡ b → (if u.0 == w.0 then Some u.1 else item_at w.0 ws) ≡ None
        → (item_at w.0 ws ≡ None → item_at w.0 (ws ++ w ∷ []) ≡ Some w.1)
        → (if u.0 == w.0 then Some u.1 else item_at w.0 (ws ++ w ∷ [])) ≡ Some w.1
    by true q f rec = absurd (let g = rw q at f in cc)
    by false q f rec = rw q (rec (rw q at f))

put-at : (a x y : ℕ) (ps qs : List (ℕ × ℕ)) → item_at a ps ≡ None → put a x (ps ++ (a, y) ∷ qs) ≡ ps ++ (a, x) ∷ qs
put-at a x y [] qs e = ap (λ (b : Bool). if b then (a, x) ∷ qs else (a, y) ∷ put a x qs) (let here : (a == a) ≡ true = grind (arith, nat_tests) in here)
put-at a x y (p ∷ ps) qs e = by (p.0 == a) refl e (put-at a x y ps qs)
  where
    by : (b : Bool) → (p.0 == a) ≡ b → (if p.0 == a then Some p.1 else item_at a ps) ≡ None
        → (item_at a ps ≡ None → put a x (ps ++ (a, y) ∷ qs) ≡ ps ++ (a, x) ∷ qs)
        → (if p.0 == a then (a, x) ∷ (ps ++ (a, y) ∷ qs) else p ∷ put a x (ps ++ (a, y) ∷ qs)) ≡ p ∷ (ps ++ (a, x) ∷ qs)
    by true q f rec = absurd (let g = rw q at f in cc)
    by false q f rec = rw q (ap (λ (l : List (ℕ × ℕ)). p ∷ l) (rec (rw q at f)))

pub address-at : (us ws : List (ℕ × ℕ)) (i : ℕ) → addresses us ≡ addresses ws → (get_or us i (0, 0)).0 ≡ (get_or ws i (0, 0)).0
address-at [] [] i e = refl
address-at [] (w ∷ ws) i e = absurd cc
address-at (u ∷ us) [] i e = absurd cc
address-at (u ∷ us) (w ∷ ws) zero e = let head : u.0 ≡ w.0 = cc in head
address-at (u ∷ us) (w ∷ ws) (suc i) e = let tail : addresses us ≡ addresses ws = cc in address-at us ws i tail

-- the last item of those that are left is taken back
pub peeled-last : (zs : List (ℕ × ℕ)) (i : ℕ) (cs : List Cell) (a : ℕ) → i < length zs → Once zs → items cs ≡ take (i + 1) zs → a ≡ (get_or zs i (0, 0)).0
    → (touches cs a ≡ true) × (over cs a 0 ≡ (get_or zs i (0, 0)).1) × (items (without cs a) ≡ take i zs)
peeled-last zs i cs a low once left is = (t.0, t.1, items-without a cs ∙ (ap (minus a) whole ∙ (ap (λ (b : ℕ). minus b (take i zs ++ w ∷ [])) is ∙ minus-last (take i zs) w none)))
  where
    w : ℕ × ℕ
    w = get_or zs i (0, 0)

    next : i + 1 ≡ suc i
    next = omega arith

    none : item_at w.0 (take i zs) ≡ None
    none = once-at zs i once low

    whole : items cs ≡ take i zs ++ w ∷ []
    whole = left ∙ (ap (λ (k : ℕ). take k zs) next ∙ take-suc zs i (0, 0) low)

    t : (touches cs a ≡ true) × (over cs a 0 ≡ w.1)
    t = item-some cs a w.1 (ap (item_at a) whole ∙ (ap (λ (b : ℕ). item_at b (take i zs ++ w ∷ [])) is ∙ item-last (take i zs) w none))

-- the next item is stored again
pub stored-next : (ns zs : List (ℕ × ℕ)) (i : ℕ) (cs : List Cell) (p : ℕ × ℕ) → i < length ns → Once ns → addresses ns ≡ addresses zs → items cs ≡ take i ns ++ drop i zs → p ≡ get_or ns i (0, 0)
    → put p.0 p.1 (items cs) ≡ take (i + 1) ns ++ drop (i + 1) zs
stored-next ns zs i cs p low once same now is =
    ap (put p.0 p.1) (now ∙ ap (λ (l : List (ℕ × ℕ)). take i ns ++ l) (drop-cons zs i (0, 0) (let e = length-by ns zs same in omega arith) ∙ ap (λ (a : ℕ). (a, (get_or zs i (0, 0)).1) ∷ drop (suc i) zs) at))
    ∙ (put-at p.0 p.1 (get_or zs i (0, 0)).1 (take i ns) (drop (suc i) zs) (ap (λ (q : ℕ × ℕ). item_at q.0 (take i ns)) is ∙ once-at ns i once low)
    ∙ (sym (append_assoc (take i ns) (p ∷ []) (drop (suc i) zs)) ∙ (λ j. sym more j ++ drop (sym next j) zs)))
  where
    next : i + 1 ≡ suc i
    next = omega arith

    at : (get_or zs i (0, 0)).0 ≡ p.0
    at = sym (address-at ns zs i same) ∙ sym (ap (λ (q : ℕ × ℕ). q.0) is)

    more : take (i + 1) ns ≡ take i ns ++ p ∷ []
    more = ap (λ (k : ℕ). take k ns) next ∙ (take-suc ns i (0, 0) low ∙ ap (λ (q : ℕ × ℕ). take i ns ++ q ∷ []) (sym is))

pub there-item : (ws : List (ℕ × ℕ)) (i : ℕ) (p : ℕ × ℕ) → i < length ws → p ≡ get_or ws i (0, 0) → has_item p.0 ws ≡ true
there-item ws i p low is = ap (λ (q : ℕ × ℕ). has_item q.0 ws) is ∙ there ws i low

pub take-whole : (ws : List (ℕ × ℕ)) (k : ℕ) → length ws ≤ k → take k ws ≡ ws
take-whole [] zero h = refl
take-whole [] (suc k) h = refl
take-whole (w ∷ ws) zero h = absurd (omega arith)
take-whole (w ∷ ws) (suc k) h = ap (λ (l : List (ℕ × ℕ)). w ∷ l) (take-whole ws k (omega arith))

-- all are
pub stored-all : (ns zs : List (ℕ × ℕ)) (i : ℕ) → length ns ≤ i → addresses ns ≡ addresses zs → take i ns ++ drop i zs ≡ ns
stored-all ns zs i high same = (λ j. take-whole ns i high j ++ drop-all zs i (let e = length-by ns zs same in omega arith) j) ∙ append-nil ns

-- ADDRESSES of the first items
pub addresses-firsts : (ws : List (ℕ × ℕ)) → addresses ws ≡ firsts ws
addresses-firsts [] = refl
addresses-firsts (w ∷ ws) = ap (λ (l : List ℕ). w.0 ∷ l) (addresses-firsts ws)

-- items whose addresses are the first of others
pub first-addresses : (ns ws : List (ℕ × ℕ)) → firsts ns ≡ take (length ns) (firsts ws) → addresses ns ≡ addresses (take (length ns) ws)
first-addresses ns ws e = addresses-firsts ns ∙ (e ∙ (take-map (λ (w : ℕ × ℕ). w.0) (length ns) ws ∙ sym (addresses-firsts (take (length ns) ws))))

pub first-fewer : (ns ws : List (ℕ × ℕ)) → firsts ns ≡ take (length ns) (firsts ws) → length ns ≤ length ws
first-fewer ns ws e =
    let k : length (firsts ns) ≡ length ns = length-map ns (λ (w : ℕ × ℕ). w.0) in
    let m : length (firsts ws) ≡ length ws = length-map ws (λ (w : ℕ × ℕ). w.0) in
    let t = ap length e ∙ length-take (length ns) (firsts ws) in
    omega arith

pub has-take : (a k : ℕ) (ws : List (ℕ × ℕ)) → has_item a (take k ws) ≡ true → has_item a ws ≡ true
has-take a zero ws h = absurd cc
has-take a (suc k) [] h = absurd cc
has-take a (suc k) (w ∷ ws) h = by (w.0 == a) h (has-take a k ws)
  where
    by : (b : Bool) → is_some (if b then Some w.1 else item_at a (take k ws)) ≡ true → (has_item a (take k ws) ≡ true → has_item a ws ≡ true) → is_some (if b then Some w.1 else item_at a ws) ≡ true
    by true h rec = refl
    by false h rec = rec h
