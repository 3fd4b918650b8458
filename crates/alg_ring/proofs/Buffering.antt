-- What a write log has, as cells, the latest first: what is stored of it in the order of its items.
use Rattle.std.proofs.Common.{ℕ, zero, suc, ◌≡◌, ◌<◌, ◌≤◌, ◌+◌, List, [], ◌∷◌, ◌++◌, length, drop, take, drop-cons, get_or, Bool, true, false, refl, sym, ap, ◌∙◌, arith, subst}
use Rattle.std.specs.Prelude.{None, Some, ◌==◌, if◌then◌else◌}
use Rattle.std.proofs.lemmas.Bool.Decides.{nat_tests}
use Rattle.std.proofs.lemmas.List.{append-nil}
use Rattle.stm_model.specs.Memories.{item_at, Once}
use Rattle.rule_base.specs.declared.entries.Cell.{Cell}
use Rattle.rule_base.specs.declared.views.TracedStep.{TracedStep}
use Rattle.rule_base.specs.declared.views.View.{View}
use Rattle.rule_base.specs.History.{over, touches, without}
use Rattle.stm_rule.specs.RecordsKept.{cells_of}

touches-append : (xs ys : List Cell) (a : ℕ) → touches (xs ++ ys) a ≡ (if touches xs a then true else touches ys a)
touches-append [] ys a = refl
touches-append (x ∷ xs) ys a = by (touches-append xs ys a) (x.at == a)
  where
    by : touches (xs ++ ys) a ≡ (if touches xs a then true else touches ys a) → (b : Bool) → (if b then true else touches (xs ++ ys) a) ≡ (if (if b then true else touches xs a) then true else touches ys a)
    by rec true = refl
    by rec false = rec

over-append : (xs ys : List Cell) (a d : ℕ) → over (xs ++ ys) a d ≡ over xs a (over ys a d)
over-append [] ys a d = refl
over-append (x ∷ xs) ys a d = by (over-append xs ys a d) (x.at == a)
  where
    by : over (xs ++ ys) a d ≡ over xs a (over ys a d) → (b : Bool) → (if b then x.value else over (xs ++ ys) a d) ≡ (if b then x.value else over xs a (over ys a d))
    by rec true = refl
    by rec false = rec

without-append : (xs ys : List Cell) (a : ℕ) → without (xs ++ ys) a ≡ without xs a ++ without ys a
without-append [] ys a = refl
without-append (x ∷ xs) ys a = by (without-append xs ys a) (x.at == a)
  where
    by : without (xs ++ ys) a ≡ without xs a ++ without ys a → (b : Bool) → (if b then without (xs ++ ys) a else x ∷ without (xs ++ ys) a) ≡ (if b then without xs a else x ∷ without xs a) ++ without ys a
    by rec true = rec
    by rec false = ap (λ l. x ∷ l) rec

-- an address that the log doesn't have
pub untouched-items : (a : ℕ) (ws : List (ℕ × ℕ)) → item_at a ws ≡ None → touches (cells_of ws) a ≡ false
untouched-items a [] e = refl
untouched-items a (w ∷ ws) e = touches-append (cells_of ws) (record { at = w.0; value = w.1 } ∷ []) a ∙ by (w.0 == a) e (untouched-items a ws)
  where
    by : (b : Bool) → (if b then Some w.1 else item_at a ws) ≡ None → (item_at a ws ≡ None → touches (cells_of ws) a ≡ false) → (if touches (cells_of ws) a then true else (if b then true else false)) ≡ false
    by true f rec = absurd cc
    by false f rec = ap (λ (t : Bool). if t then true else false) (rec f)

over-none : (xs : List Cell) (a d : ℕ) → touches xs a ≡ false → over xs a d ≡ d
over-none [] a d t = refl
over-none (x ∷ xs) a d t = by (x.at == a) t (over-none xs a d)
  where
    by : (b : Bool) → (if b then true else touches xs a) ≡ false → (touches xs a ≡ false → over xs a d ≡ d) → (if b then x.value else over xs a d) ≡ d
    by true f rec = absurd cc
    by false f rec = rec f

without-none : (xs : List Cell) (a : ℕ) → touches xs a ≡ false → without xs a ≡ xs
without-none [] a t = refl
without-none (x ∷ xs) a t = by (x.at == a) t (without-none xs a)
  where
    by : (b : Bool) → (if b then true else touches xs a) ≡ false → (touches xs a ≡ false → without xs a ≡ xs) → (if b then without xs a else x ∷ without xs a) ≡ x ∷ xs
    by true f rec = absurd cc
    by false f rec = ap (λ l. x ∷ l) (rec f)

-- the first item of those that are left is written back
first-back : (w : ℕ × ℕ) (ws : List (ℕ × ℕ)) → Once (w ∷ ws) → (touches (cells_of (w ∷ ws)) w.0 ≡ true) × (w.1 ≡ over (cells_of (w ∷ ws)) w.0 0) × (without (cells_of (w ∷ ws)) w.0 ≡ cells_of ws)
first-back w ws once = (
  touches-append (cells_of ws) (last ∷ []) w.0 ∙ touched (touches (cells_of ws) w.0) (w.0 == w.0) here,
  sym (over-append (cells_of ws) (last ∷ []) w.0 0 ∙ (over-none (cells_of ws) w.0 (over (last ∷ []) w.0 0) none ∙ ap (λ (b : Bool). if b then w.1 else 0) here)),
  without-append (cells_of ws) (last ∷ []) w.0 ∙ ((λ i. without-none (cells_of ws) w.0 none i ++ (if here i then [] else last ∷ [])) ∙ nil (cells_of ws)),
)
  where
    last : Cell
    last = record { at = w.0; value = w.1 }

    here : (w.0 == w.0) ≡ true
    here = grind (arith, nat_tests)

    none : touches (cells_of ws) w.0 ≡ false
    none = untouched-items w.0 ws once.0

    touched : (b d : Bool) → d ≡ true → (if b then true else (if d then true else false)) ≡ true
    touched true d e = refl
    touched false true e = refl
    touched false false e = absurd cc

    nil : (xs : List Cell) → xs ++ [] ≡ xs
    nil xs = append-nil xs

once-drop : (ws : List (ℕ × ℕ)) (i : ℕ) → Once ws → Once (drop i ws)
once-drop ws zero o = o
once-drop [] (suc i) o = tt
once-drop (w ∷ ws) (suc i) o = once-drop ws i o.1

pub next-back : (ws : List (ℕ × ℕ)) (i : ℕ) (p : ℕ × ℕ) → i < length ws → Once ws → p ≡ get_or ws i (0, 0)
    → (touches (cells_of (drop i ws)) p.0 ≡ true) × (p.1 ≡ over (cells_of (drop i ws)) p.0 0) × (without (cells_of (drop i ws)) p.0 ≡ cells_of (drop (i + 1) ws))
next-back ws i p low once is =
    let whole : drop i ws ≡ p ∷ drop (suc i) ws = drop-cons ws i (0, 0) low ∙ ap (λ q. q ∷ drop (suc i) ws) (sym is) in
    let next : suc i ≡ i + 1 = omega arith in
    let f = first-back p (drop (suc i) ws) (subst Once whole (once-drop ws i once)) in (
      ap (λ (l : List (ℕ × ℕ)). touches (cells_of l) p.0) whole ∙ f.0,
      f.1 ∙ ap (λ (l : List (ℕ × ℕ)). over (cells_of l) p.0 0) (sym whole),
      ap (λ (l : List (ℕ × ℕ)). without (cells_of l) p.0) whole ∙ (f.2 ∙ ap (λ (k : ℕ). cells_of (drop k ws)) next),
    )

-- what is left is of the log
pub sub-inside : (ws : List (ℕ × ℕ)) (i a : ℕ) → touches (cells_of (drop i ws)) a ≡ true → touches (cells_of ws) a ≡ true
sub-inside ws zero a t = t
sub-inside [] (suc i) a t = t
sub-inside (w ∷ ws) (suc i) a t = touches-append (cells_of ws) (record { at = w.0; value = w.1 } ∷ []) a ∙ ap (λ (b : Bool). if b then true else touches (record { at = w.0; value = w.1 } ∷ []) a) (sub-inside ws i a t)

pub drop-all : (ws : List (ℕ × ℕ)) (k : ℕ) → length ws ≤ k → drop k ws ≡ []
drop-all [] zero l = refl
drop-all [] (suc k) l = refl
drop-all (w ∷ ws) zero l = absurd (omega arith)
drop-all (w ∷ ws) (suc k) l = drop-all ws k (omega arith)

-- the view with this left to be written back
abbrev pub back_at : View → List Cell → List TracedStep → View
back_at v back more = record v { ring_commit = record v.ring_commit { back = back }; steps = record v.steps { step_trace = more ++ v.steps.step_trace } }

cells-snoc : (xs : List (ℕ × ℕ)) (p : ℕ × ℕ) → cells_of (xs ++ p ∷ []) ≡ record { at = p.0; value = p.1 } ∷ cells_of xs
cells-snoc [] p = refl
cells-snoc (x ∷ xs) p = ap (λ (l : List Cell). l ++ record { at = x.0; value = x.1 } ∷ []) (cells-snoc xs p)

take-next : (ws : List (ℕ × ℕ)) (i : ℕ) → i < length ws → take (suc i) ws ≡ take i ws ++ get_or ws i (0, 0) ∷ []
take-next [] i l = absurd (omega arith)
take-next (w ∷ ws) zero l = refl
take-next (w ∷ ws) (suc i) l = ap (λ q. w ∷ q) (take-next ws i (omega arith))

-- one item more is stored
pub next-stored : (ws : List (ℕ × ℕ)) (i : ℕ) (p : ℕ × ℕ) → i < length ws → p ≡ get_or ws i (0, 0) → record { at = p.0; value = p.1 } ∷ cells_of (take i ws) ≡ cells_of (take (i + 1) ws)
next-stored ws i p low is = sym (ap cells_of (ap (λ (k : ℕ). take k ws) (let e : i + 1 ≡ suc i = omega arith in e) ∙ take-next ws i low ∙ ap (λ q. take i ws ++ q ∷ []) (sym is)) ∙ cells-snoc (take i ws) p)

pub take-all : (ws : List (ℕ × ℕ)) (k : ℕ) → length ws ≤ k → take k ws ≡ ws
take-all [] zero l = refl
take-all [] (suc k) l = refl
take-all (w ∷ ws) zero l = absurd (omega arith)
take-all (w ∷ ws) (suc k) l = ap (λ q. w ∷ q) (take-all ws k (omega arith))

-- an item of the log has its address among the cells
pub item-inside : (ws : List (ℕ × ℕ)) (i : ℕ) (p : ℕ × ℕ) → i < length ws → p ≡ get_or ws i (0, 0) → touches (cells_of ws) p.0 ≡ true
item-inside ws i p low is =
    sub-inside ws i p.0
    (ap (λ (l : List (ℕ × ℕ)). touches (cells_of l) p.0) (drop-cons ws i (0, 0) low ∙ ap (λ q. q ∷ drop (suc i) ws) (sym is))
    ∙ (touches-append (cells_of (drop (suc i) ws)) (record { at = p.0; value = p.1 } ∷ []) p.0
    ∙ by (touches (cells_of (drop (suc i) ws)) p.0) (p.0 == p.0) (grind (arith, nat_tests))))
  where
    by : (b d : Bool) → d ≡ true → (if b then true else (if d then true else false)) ≡ true
    by true d e = refl
    by false true e = refl
    by false false e = absurd cc

-- the view with these stores
abbrev pub stored_at : View → List Cell → List TracedStep → View
stored_at v stores more = record v { attempt = record v.attempt { stores = stores ++ v.attempt.stores }; steps = record v.steps { step_trace = more ++ v.steps.step_trace } }
