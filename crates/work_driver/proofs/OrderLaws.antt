-- A sort by the key of the report gives the order of the report.
use Rattle.std.proofs.Common.{ℕ, suc, ◌≡◌, ◌<◌, ◌≤◌, ◌+◌, Bool, true, false, List, [], ◌∷◌, length, get_or, refl, sym, ap, ◌∙◌, arith, subst, inl, inr, cond}
use Rattle.std.specs.Prelude.{◌⊎◌, nat_lt, ◌==◌}
use Rattle.std.specs.declared.cmp.Ordering.{Ordering}
use Rattle.std.specs.declared.cmp.Ordering.TheVariants.{Less, Equal, Greater}
use Rattle.std.specs.Ordering.{ordering_then, nat_cmp, is_lt}
use Rattle.std.proofs.lemmas.Bool.Decides.{nat_tests}
use Rattle.work_script.specs.declared.report.Row.{Row}
use Rattle.work_script.specs.declared.report.Kind.{Kind}
use Rattle.work_script.specs.declared.report.Kind.TheVariants.{W, R, C}
use Rattle.work_script.specs.Reports.{Ordered, AllAfter, IsBefore, code}

then-assoc : (a b c : Ordering) → ordering_then (ordering_then a b) c ≡ ordering_then a (ordering_then b c)
then-assoc Less b c = refl
then-assoc Equal b c = refl
then-assoc Greater b c = refl

step-by : (p q : ℕ) (o : Ordering) (x : Bool) → nat_lt q p ≡ x → (y : Bool) → (q == p) ≡ y → is_lt (ordering_then (cond x Less (cond y Equal Greater)) o) ≡ false → (p < q) ⊎ ((p ≡ q) × (is_lt o ≡ false))
step-by p q o true e y f h = absurd cc
step-by p q o false e true f h = inr (grind (arith, nat_tests), h)
step-by p q o false e false f h = inl (grind (arith, nat_tests))

step : (p q : ℕ) (o : Ordering) → is_lt (ordering_then (nat_cmp q p) o) ≡ false → (p < q) ⊎ ((p ≡ q) × (is_lt o ≡ false))
step p q o h = step-by p q o (nat_lt q p) refl (q == p) refl h

last-by : (s t : ℕ) (x : Bool) → nat_lt t s ≡ x → (y : Bool) → (t == s) ≡ y → is_lt (cond x Less (cond y Equal Greater)) ≡ false → s ≤ t
last-by s t true e y f h = absurd cc
last-by s t false e y f h = grind (arith, nat_tests)

code-small : (k : Kind) → code k ≤ 1
code-small W = omega arith
code-small R = omega arith
code-small C = omega arith

last-two : (k l s t : ℕ) → (k < l) ⊎ ((k ≡ l) × (is_lt (nat_cmp t s) ≡ false)) → (k < l) ⊎ ((k ≡ l) × (s ≤ t))
last-two k l s t (inl h) = inl h
last-two k l s t (inr h) = inr (h.0, last-by s t (nat_lt t s) refl (t == s) refl h.1)

inner : (r x : Row) → r.place ≡ x.place → (code r.kind < code x.kind) ⊎ ((code r.kind ≡ code x.kind) × (is_lt (ordering_then (nat_cmp x.caller r.caller) (nat_cmp x.seq r.seq)) ≡ false)) → IsBefore r x
inner r x e (inl h) = inl (omega arith)
inner r x e (inr h) = let k = h.0 in inr (omega arith, last-two r.caller x.caller r.seq x.seq (step r.caller x.caller (nat_cmp x.seq r.seq) h.1))

outer : (r x : Row) → (r.place < x.place) ⊎ ((r.place ≡ x.place) × (is_lt (ordering_then (nat_cmp (code x.kind) (code r.kind)) (ordering_then (nat_cmp x.caller r.caller) (nat_cmp x.seq r.seq))) ≡ false)) → IsBefore r x
outer r x (inl h) = let a = code-small r.kind in inl (omega arith)
outer r x (inr h) = inner r x h.0 (step (code r.kind) (code x.kind) (ordering_then (nat_cmp x.caller r.caller) (nat_cmp x.seq r.seq)) h.1)

-- what the sort says of two neighbours
pub neighbours : (r x : Row)
    → is_lt (ordering_then
    (ordering_then (ordering_then (nat_cmp x.place r.place) (nat_cmp (code x.kind) (code r.kind))) (nat_cmp x.caller r.caller))
    (nat_cmp x.seq r.seq)) ≡ false → IsBefore r x
neighbours r x h =
    let a = nat_cmp x.place r.place in let b = nat_cmp (code x.kind) (code r.kind) in let c = nat_cmp x.caller r.caller in let d = nat_cmp x.seq r.seq in
    let e : ordering_then (ordering_then (ordering_then a b) c) d ≡ ordering_then a (ordering_then b (ordering_then c d)) =
    then-assoc (ordering_then a b) c d ∙ then-assoc a b (ordering_then c d) in
    outer r x (step r.place x.place (ordering_then b (ordering_then c d)) (ap is_lt (sym e) ∙ h))

tail-trans : (a b c s t u : ℕ) → (a < b) ⊎ ((a ≡ b) × (s ≤ t)) → (b < c) ⊎ ((b ≡ c) × (t ≤ u)) → (a < c) ⊎ ((a ≡ c) × (s ≤ u))
tail-trans a b c s t u (inl p) (inl q) = inl (omega arith)
tail-trans a b c s t u (inl p) (inr q) = let e = q.0 in inl (omega arith)
tail-trans a b c s t u (inr p) (inl q) = let e = p.0 in inl (omega arith)
tail-trans a b c s t u (inr p) (inr q) = let e = p.0 in let f = q.0 in let g = p.1 in let h = q.1 in inr (omega arith, omega arith)

before-trans : (r x y : Row) → IsBefore r x → IsBefore x y → IsBefore r y
before-trans r x y (inl a) (inl b) = inl (omega arith)
before-trans r x y (inl a) (inr b) = let e = b.0 in inl (omega arith)
before-trans r x y (inr a) (inl b) = let e = a.0 in inl (omega arith)
before-trans r x y (inr a) (inr b) = let e = a.0 in let f = b.0 in inr (omega arith, tail-trans r.caller x.caller y.caller r.seq x.seq y.seq a.1 b.1)

pub after-head : (r x : Row) (xs : List Row) → IsBefore r x → AllAfter x xs → AllAfter r xs
after-head r x [] b h = tt
after-head r x (y ∷ ys) b h = (before-trans r x y b h.0, after-head r x ys b h.1)

ordered-suc : (xs : List Row) → ((k : ℕ) (d : Row) → suc k < length xs → IsBefore (get_or xs k d) (get_or xs (suc k) d)) → Ordered xs
ordered-suc [] h = tt
ordered-suc (x ∷ []) h = (tt, tt)
ordered-suc (x ∷ y ∷ ys) h =
    let rest = ordered-suc (y ∷ ys) (λ k d lt. h (suc k) d (omega arith)) in
    let one : IsBefore x y = h 0 x (omega arith) in
    ((one, after-head x y ys one rest.0), rest)

pub ordered-from : (xs : List Row) → ((k : ℕ) (d : Row) → k + 1 < length xs → IsBefore (get_or xs k d) (get_or xs (k + 1) d)) → Ordered xs
ordered-from xs h = ordered-suc xs (λ k d lt. (let e : k + 1 ≡ suc k = omega arith in subst (λ j. IsBefore (get_or xs k d) (get_or xs j d)) e (h k d (omega arith))))
