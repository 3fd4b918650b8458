-- A write log and an undo log that has an item for each of its addresses, and keeps more.
use Rattle.std.proofs.Common.{ℕ, suc, ◌≡◌, ◌<◌, ◌≤◌, List, [], ◌∷◌, ◌++◌, length, Bool, true, false, refl, sym, ap, ◌∙◌, arith}
use Rattle.std.specs.Prelude.{Some, None, Option, not, ◌||◌, ◌==◌, if◌then◌else◌}
use Rattle.std.proofs.lemmas.Bool.Decides.{nat_tests}
use Rattle.stm_model.specs.Algorithms.{logs_writes}
use Rattle.stm_model.specs.declared.alg.Alg.{Alg}
use Rattle.stm_model.specs.declared.alg.Alg.TheVariants.{Cgl, Tml, OrecLazy, OrecEager, RingSw, Serial}
use Rattle.stm_model.specs.Memories.{item_at, put, Once}
use Rattle.rule_base.specs.declared.entries.Cell.{Cell}
use Rattle.rule_base.specs.declared.views.View.{View}
use Rattle.rule_base.specs.Bridge.{addresses, items}
use Rattle.rule_base.specs.Lemmas.BridgeLemmas.{items-once}
use Rattle.rule_base.specs.History.{member, touches}
use Rattle.rule_base.specs.Own.{Own}
use Rattle.stm_answers.specs.Answers.{kept_with}
use Rattle.stm_answers.specs.Causes.{has_item, is_some}
use Rattle.stm_answers.specs.CallerState.{CallerState, kept_under, is_irrevocable}
use Rattle.stm_gate.proofs.Peeling.{minus, has-touched}

-- THE ADDRESSES of a log
pub member-item : (a : ℕ) (us : List (ℕ × ℕ)) → member (addresses us) a ≡ has_item a us
member-item a [] = refl
member-item a (u ∷ us) = by (u.0 == a) (member-item a us)
  where
    by : (b : Bool) → member (addresses us) a ≡ has_item a us → (if b then true else member (addresses us) a) ≡ is_some (if b then Some u.1 else item_at a us)
    by true e = refl
    by false e = e

pub length-addresses : (us : List (ℕ × ℕ)) → length (addresses us) ≡ length us
length-addresses [] = refl
length-addresses (u ∷ us) = ap suc (length-addresses us)

-- an address that a log has is taken out of it
minus-no-more : (a : ℕ) (us : List (ℕ × ℕ)) → length (minus a us) ≤ length us
minus-no-more a [] = omega arith
minus-no-more a (u ∷ us) = by (u.0 == a) (minus-no-more a us)
  where
    by : (b : Bool) → length (minus a us) ≤ length us → length (if b then minus a us else u ∷ minus a us) ≤ suc (length us)
    by true l = omega arith
    by false l = omega arith

minus-fewer : (a : ℕ) (us : List (ℕ × ℕ)) → has_item a us ≡ true → length (minus a us) < length us
minus-fewer a [] h = absurd cc
minus-fewer a (u ∷ us) h = by (u.0 == a) h (minus-no-more a us) (minus-fewer a us)
  where
    by : (b : Bool) → is_some (if b then Some u.1 else item_at a us) ≡ true → length (minus a us) ≤ length us
        → (has_item a us ≡ true → length (minus a us) < length us) → length (if b then minus a us else u ∷ minus a us) < suc (length us)
    by true h l rec = omega arith
    by false h l rec = let r = rec h in omega arith

minus-other : (a b : ℕ) (us : List (ℕ × ℕ)) → (a == b) ≡ false → has_item b us ≡ true → has_item b (minus a us) ≡ true
minus-other a b [] n h = absurd cc
minus-other a b (u ∷ us) n h = by (u.0 == a) refl (u.0 == b) refl h (minus-other a b us n)
  where
    by : (p : Bool) → (u.0 == a) ≡ p → (q : Bool) → (u.0 == b) ≡ q → is_some (if q then Some u.1 else item_at b us) ≡ true → (has_item b us ≡ true → has_item b (minus a us) ≡ true)
        → is_some (item_at b (if p then minus a us else u ∷ minus a us)) ≡ true
    by true p true q h rec = absurd (grind (arith, nat_tests))
    by true p false q h rec = rec h
    by false p true q h rec = rw q refl
    by false p false q h rec = rw q (rec h)

none-of : (o : Option ℕ) → is_some o ≡ false → o ≡ None
none-of None e = refl
none-of (Some x) e = absurd cc

-- each of these addresses is an address of those
abbrev pub AreKept : List (ℕ × ℕ) → List (ℕ × ℕ) → Type 0
AreKept ws us = (a : ℕ) → has_item a ws ≡ true → has_item a us ≡ true

-- A LOG is no longer than one that has all its addresses
pub kept-longer : (ws us : List (ℕ × ℕ)) → Once ws → AreKept ws us → length ws ≤ length us
kept-longer [] us once h = omega arith
kept-longer (w ∷ ws) us once h = let l = minus-fewer w.0 us (h w.0 here) in let r = kept-longer ws (minus w.0 us) once.1 rest in omega arith
  where
    here : has_item w.0 (w ∷ ws) ≡ true
    here = ap (λ (b : Bool). is_some (if b then Some w.1 else item_at w.0 ws)) (let same : (w.0 == w.0) ≡ true = grind (arith, nat_tests) in same)

    at : (b : ℕ) → (q : Bool) → (w.0 == b) ≡ q → has_item b ws ≡ true → (q ≡ false) × (has_item b (w ∷ ws) ≡ true)
    at b true q t = let same : w.0 ≡ b = grind (arith, nat_tests) in let no : false ≡ true = ap is_some (sym once.0) ∙ (ap (λ (k : ℕ). has_item k ws) same ∙ t) in absurd cc
    at b false q t = (refl, ap (λ (p : Bool). is_some (if p then Some w.1 else item_at b ws)) q ∙ t)

    rest : (b : ℕ) → has_item b ws ≡ true → has_item b (minus w.0 us) ≡ true
    rest b t = let e = at b (w.0 == b) refl t in minus-other w.0 b us e.0 (h b e.1)

-- and is shorter where that has one more
pub kept-shorter : (a : ℕ) (ws us : List (ℕ × ℕ)) → Once ws → AreKept ws us → has_item a us ≡ true → has_item a ws ≡ false → length ws < length us
kept-shorter a ws us once h there new = kept-longer ((a, 0) ∷ ws) us (none-of (item_at a ws) new, once) more
  where
    more : (b : ℕ) → has_item b ((a, 0) ∷ ws) ≡ true → has_item b us ≡ true
    more b t = by (a == b) refl t
      where
        by : (q : Bool) → (a == b) ≡ q → is_some (if q then Some 0 else item_at b ws) ≡ true → has_item b us ≡ true
        by true q e = let same : a ≡ b = grind (arith, nat_tests) in ap (λ (k : ℕ). has_item k us) (sym same) ∙ there
        by false q e = h b e

-- the same, of cells
pub touched-kept : (ws us : List Cell) → ((a : ℕ) → touches ws a ≡ true → touches us a ≡ true) → AreKept (items ws) (items us)
touched-kept ws us h a t = sym (has-touched a us) ∙ h a (has-touched a ws ∙ t)

pub cells-longer : (ws us : List Cell) → ((a : ℕ) → touches ws a ≡ true → touches us a ≡ true) → length (items ws) ≤ length (items us)
cells-longer ws us h = kept-longer (items ws) (items us) (items-once ws) (touched-kept ws us h)

pub cells-shorter : (a : ℕ) (ws us : List Cell) → ((b : ℕ) → touches ws b ≡ true → touches us b ≡ true) → touches us a ≡ true → touches ws a ≡ false → length (items ws) < length (items us)
cells-shorter a ws us h there new = kept-shorter a (items ws) (items us) (items-once ws) (touched-kept ws us h) (sym (has-touched a us) ∙ there) (sym (has-touched a ws) ∙ new)

-- an address whose item is kept is a kept address
pub member-touched : (a : ℕ) (us : List Cell) → member (addresses (items us)) a ≡ touches us a
member-touched a us = member-item a (items us) ∙ sym (has-touched a us)

-- WHAT IS KEPT doesn't depend on the steps, nor on the marks
pub kept-same : (a : Alg) (v w : View) (o p : Own) → p.buffered ≡ o.buffered → w.owned.undo ≡ v.owned.undo → w.lock.undo ≡ v.lock.undo → kept_under a w p ≡ kept_under a v o
kept-same Cgl v w o p b e l = refl
kept-same Tml v w o p b e l = refl
kept-same OrecLazy v w o p b e l = ap (λ (cs : List Cell). addresses (items cs)) b
kept-same OrecEager v w o p b e l = ap (λ (cs : List Cell). addresses (items cs)) e
kept-same RingSw v w o p b e l = ap (λ (cs : List Cell). addresses (items cs)) b
kept-same Serial v w o p b e l = ap (λ (cs : List Cell). addresses (items cs)) l

-- A WRITE of what needs no item leaves it
or-yes : (b c : Bool) → (b || (true || c)) ≡ true
or-yes true c = refl
or-yes false c = refl

pub kept-irrevocable : (a : ℕ) (v : CallerState) → is_irrevocable v ≡ true → kept_with a v ≡ v.kept
kept-irrevocable a v e = ap (λ b. if not (logs_writes v.alg) || (b || member v.kept a) then v.kept else v.kept ++ a ∷ []) e
    ∙ ap (λ b. if b then v.kept else v.kept ++ a ∷ []) (or-yes (not (logs_writes v.alg)) (member v.kept a))

pub kept-unlogged : (a : ℕ) (v : CallerState) → logs_writes v.alg ≡ false → kept_with a v ≡ v.kept
kept-unlogged a v e = ap (λ b. if not b || (is_irrevocable v || member v.kept a) then v.kept else v.kept ++ a ∷ []) e

-- and puts an address that is new after the others
pub addresses-put : (a x : ℕ) (us : List (ℕ × ℕ)) → addresses (put a x us) ≡ (if member (addresses us) a then addresses us else addresses us ++ a ∷ [])
addresses-put a x [] = refl
addresses-put a x (u ∷ us) = by (u.0 == a) refl (member (addresses us) a) (addresses-put a x us)
  where
    by : (b : Bool) → (u.0 == a) ≡ b → (m : Bool) → addresses (put a x us) ≡ (if m then addresses us else addresses us ++ a ∷ [])
        → addresses (if b then (a, x) ∷ us else u ∷ put a x us) ≡ (if (if b then true else m) then u.0 ∷ addresses us else u.0 ∷ (addresses us ++ a ∷ []))
    by true q m e = let s : u.0 ≡ a = grind (arith, nat_tests) in ap (λ (k : ℕ). k ∷ addresses us) (sym s)
    by false q true e = ap (λ (ks : List ℕ). u.0 ∷ ks) e
    by false q false e = ap (λ (ks : List ℕ). u.0 ∷ ks) e

-- which an attempt that can be taken back keeps
pub kept-plain : (a : ℕ) (v : CallerState) → logs_writes v.alg ≡ true → is_irrevocable v ≡ false → kept_with a v ≡ (if member v.kept a then v.kept else v.kept ++ a ∷ [])
kept-plain a v logs revocable = λ j. if not (logs j) || (revocable j || member v.kept a) then v.kept else v.kept ++ a ∷ []

pub kept-put : (a x : ℕ) (us : List (ℕ × ℕ)) (v : CallerState) → logs_writes v.alg ≡ true → is_irrevocable v ≡ false → v.kept ≡ addresses us → addresses (put a x us) ≡ kept_with a v
kept-put a x us v logs revocable kept = addresses-put a x us ∙ (ap (λ (ks : List ℕ). if member ks a then ks else ks ++ a ∷ []) (sym kept) ∙ sym (kept-plain a v logs revocable))

pub kept-there : (a : ℕ) (v : CallerState) → member v.kept a ≡ true → kept_with a v ≡ v.kept
kept-there a v e = ap (λ b. if not (logs_writes v.alg) || (is_irrevocable v || b) then v.kept else v.kept ++ a ∷ []) e
    ∙ ap (λ b. if b then v.kept else v.kept ++ a ∷ []) (or-last (not (logs_writes v.alg)) (is_irrevocable v))
  where
    or-last : (b c : Bool) → (b || (c || true)) ≡ true
    or-last true c = refl
    or-last false true = refl
    or-last false false = refl
