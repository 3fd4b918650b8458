-- Cells whose items are taken off one after the other, in the order in which their addresses came.
use Rattle.std.proofs.Common.{ℕ, zero, suc, ◌≡◌, ◌<◌, ◌≤◌, ◌+◌, List, [], ◌∷◌, length, drop, drop-cons, get_or, Bool, true, false, refl, sym, ap, ◌∙◌, arith, subst}
use Rattle.std.specs.Prelude.{Some, None, ◌==◌, if◌then◌else◌}
use Rattle.std.proofs.lemmas.Bool.Decides.{nat_tests}
use Rattle.stm_model.specs.Memories.{item_at, put, Once}
use Rattle.rule_base.specs.declared.entries.Cell.{Cell}
use Rattle.rule_base.specs.Bridge.{items}
use Rattle.rule_base.specs.Lemmas.BridgeLemmas.{item-some, item-none}
use Rattle.rule_base.specs.History.{touches, over, without, Inside}
use Rattle.rule_base.specs.Lemmas.HistoryLemmas.{touches-without}
use Rattle.stm_answers.specs.Causes.{has_item, is_some}
use Rattle.stm_gate.specs.Logging.{item-touched}

-- the items of other addresses
abbrev pub minus : ℕ → List (ℕ × ℕ) → List (ℕ × ℕ)
minus a [] = []
minus a (w ∷ ws) = if w.0 == a then minus a ws else w ∷ minus a ws

minus-put : (a b x : ℕ) (ws : List (ℕ × ℕ)) → minus a (put b x ws) ≡ (if b == a then minus a ws else put b x (minus a ws))
minus-put a b x [] = refl
minus-put a b x (w ∷ ws) = by (w.0 == b) refl (b == a) refl (w.0 == a) refl (minus-put a b x ws)
  where
    by : (p : Bool) → (w.0 == b) ≡ p → (q : Bool) → (b == a) ≡ q → (r : Bool) → (w.0 == a) ≡ r → minus a (put b x ws) ≡ (if b == a then minus a ws else put b x (minus a ws))
        → minus a (if w.0 == b then (b, x) ∷ ws else w ∷ put b x ws) ≡ (if b == a then (if w.0 == a then minus a ws else w ∷ minus a ws) else put b x (if w.0 == a then minus a ws else w ∷ minus a ws))
    by true p true q true r rec = rw (p, q, r) refl
    by true p true q false r rec = absurd (grind (arith, nat_tests))
    by true p false q true r rec = absurd (grind (arith, nat_tests))
    by true p false q false r rec = rw (p, q, r) (rw p refl)
    by false p true q true r rec = rw (p, q, r) (rw q at rec)
    by false p true q false r rec = rw (p, q, r) (ap (λ l. w ∷ l) (rw q at rec))
    by false p false q true r rec = rw (p, q, r) (rw q at rec)
    by false p false q false r rec = rw (p, q, r) (ap (λ (l : List (ℕ × ℕ)). w ∷ l) (rw q at rec) ∙ ap (λ (t : Bool). if t then (b, x) ∷ minus a ws else w ∷ put b x (minus a ws)) (sym p))

minus-none : (a : ℕ) (ws : List (ℕ × ℕ)) → item_at a ws ≡ None → minus a ws ≡ ws
minus-none a [] e = refl
minus-none a (w ∷ ws) e = by (w.0 == a) refl e (minus-none a ws)
  where
    by : (b : Bool) → (w.0 == a) ≡ b → (if w.0 == a then Some w.1 else item_at a ws) ≡ None → (item_at a ws ≡ None → minus a ws ≡ ws) → (if w.0 == a then minus a ws else w ∷ minus a ws) ≡ w ∷ ws
    by true q f rec = absurd (let g = rw q at f in cc)
    by false q f rec = rw q (ap (λ l. w ∷ l) (rec (rw q at f)))

pub items-without : (a : ℕ) (cs : List Cell) → items (without cs a) ≡ minus a (items cs)
items-without a [] = refl
items-without a (c ∷ cs) = by (c.at == a) refl (items-without a cs) ∙ sym (minus-put a c.at c.value (items cs))
  where
    by : (b : Bool) → (c.at == a) ≡ b → items (without cs a) ≡ minus a (items cs) → items (if c.at == a then without cs a else c ∷ without cs a) ≡ (if c.at == a then minus a (items cs) else put c.at c.value (minus a (items cs)))
    by true q e = rw q e
    by false q e = rw q (ap (put c.at c.value) e)

-- the first item of a log is taken back
pub without-first : (w : ℕ × ℕ) (ws : List (ℕ × ℕ)) (cs : List Cell) → Once (w ∷ ws) → items cs ≡ w ∷ ws → items (without cs w.0) ≡ ws
without-first w ws cs once e = items-without w.0 cs ∙ ap (minus w.0) e ∙ first ∙ minus-none w.0 ws once.0
  where
    here : (w.0 == w.0) ≡ true
    here = grind (arith, nat_tests)

    first : minus w.0 (w ∷ ws) ≡ minus w.0 ws
    first = ap (λ b. if b then minus w.0 ws else w ∷ minus w.0 ws) here

pub first-some : (w : ℕ × ℕ) (ws : List (ℕ × ℕ)) (cs : List Cell) → items cs ≡ w ∷ ws → (touches cs w.0 ≡ true) × (over cs w.0 0 ≡ w.1)
first-some w ws cs e = item-some cs w.0 w.1 (ap (item_at w.0) e ∙ ap (λ b. if b then Some w.1 else item_at w.0 ws) here)
  where
    here : (w.0 == w.0) ≡ true
    here = grind (arith, nat_tests)

-- an address that is touched has an item, and the other way round
pub has-touched : (a : ℕ) (cs : List Cell) → touches cs a ≡ has_item a (items cs)
has-touched a cs = by (touches cs a) refl
  where
    by : (b : Bool) → touches cs a ≡ b → b ≡ has_item a (items cs)
    by true t = sym (ap is_some (item-touched cs a t))
    by false t = sym (ap is_some (item-none cs a t))

-- no address touched, no cell
pub untouched-none : (cs : List Cell) → ((a : ℕ) → touches cs a ≡ true → ⊥) → cs ≡ []
untouched-none [] h = refl
untouched-none (c ∷ cs) h = absurd (h c.at (ap (λ b. if b then true else touches cs c.at) here))
  where
    here : (c.at == c.at) ≡ true
    here = grind (arith, nat_tests)

once-drop : (ws : List (ℕ × ℕ)) (i : ℕ) → Once ws → Once (drop i ws)
once-drop ws zero o = o
once-drop [] (suc i) o = tt
once-drop (w ∷ ws) (suc i) o = once-drop ws i o.1

-- item i is what is to be taken back next
pub peeled : (ws : List (ℕ × ℕ)) (i : ℕ) (cs : List Cell) (p : ℕ × ℕ) → i < length ws → Once ws → items cs ≡ drop i ws → p ≡ get_or ws i (0, 0)
    → (touches cs p.0 ≡ true) × (p.1 ≡ over cs p.0 0) × (items (without cs p.0) ≡ drop (i + 1) ws)
peeled ws i cs p low once left is = let f = first-some p (drop (suc i) ws) cs head in (f.0, sym f.1, without-first p (drop (suc i) ws) cs (subst Once whole (once-drop ws i once)) head ∙ ap (λ k. drop k ws) next)
  where
    next : suc i ≡ i + 1
    next = omega arith

    whole : drop i ws ≡ p ∷ drop (suc i) ws
    whole = drop-cons ws i (0, 0) low ∙ ap (λ q. q ∷ drop (suc i) ws) (sym is)

    head : items cs ≡ p ∷ drop (suc i) ws
    head = left ∙ whole

pub inside-without : (words a : ℕ) (cs : List Cell) → Inside words cs → Inside words (without cs a)
inside-without words a cs h b t = h b (by (a == b) (sym (touches-without cs a b) ∙ t))
  where
    by : (q : Bool) → (if q then false else touches cs b) ≡ true → touches cs b ≡ true
    by true e = absurd cc
    by false e = e

pub drop-all : (ws : List (ℕ × ℕ)) (k : ℕ) → length ws ≤ k → drop k ws ≡ []
drop-all [] zero l = refl
drop-all [] (suc k) l = refl
drop-all (w ∷ ws) zero l = absurd (omega arith)
drop-all (w ∷ ws) (suc k) l = drop-all ws k (omega arith)

pub no-items : (cs : List Cell) → items cs ≡ [] → cs ≡ []
no-items cs e = untouched-none cs (λ a t. let no : true ≡ false = sym t ∙ (has-touched a cs ∙ ap (has_item a) e) in absurd cc)
