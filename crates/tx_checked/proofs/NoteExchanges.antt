-- The steps on a note exchange keep its rule.
use Rattle.std.proofs.Common.{◌≡◌, ◌≢◌, ◌<◌, ⊎_elim, ℕ, zero, suc, List, [], ◌∷◌, map, length, get_or, refl, sym, ap, ◌∙◌, subst, arith, eqb}
use Rattle.std.proofs.lemmas.List.{length-set, length-map, length-replicate, get_or-set_same, get_or-set_other, get_or-replicate, set-get_or}
use Rattle.std.specs.Prelude.{Option, None, slice_index, slice_set, replicate}
use mathlib.Core.Option.{some, none, some-injective, some-ne-none}
use mathlib.Core.Logic.{dite}
use native.Mathlib.Decide.{ℕ_discrete}
use prog.Atomic.{either}
use lib.ListN.{get_elem?}
use Rattle.atomic_table.specs.Table.{State, Allows, Enters, Act, keeps, takes, gives, Valid, stepped, carried_after, put_back, step, opening}
use Rattle.atomic_table.proofs.Lists.{at_set, at_snoc, set_here, set_else, set_again, some_there, exchanged}
use Rattle.stm_model.specs.declared.rule.AnyMem.{AnyMem}
use Rattle.stm_rule.specs.Callers.{Handle}
use Rattle.tx_checked.specs.declared.note_exchange.Letter.{Letter}
use Rattle.tx_checked.specs.NoteExchanges.{IsOurs, Kept, Hand, Entered, Opened}

abbrev Slot : Type 0
Slot = Option Letter

abbrev vacant : Slot
vacant = None

-- a new seat has the key for its view
pub entered : (key : Handle AnyMem) (slots k : ℕ) → Enters (Kept key) slots k (λ n w. Entered (step slots k 0 0 none) (key, []) n (w, []))
entered key slots k s kept len low =
    (key, record { even = kept.even; views = λ i v at. ⊎_elim (kept.views i v) (λ (e : key ≡ v). sym e) (at_snoc s.views key v i at); ours = kept.ours; home = kept.home }, refl)

-- the rule after the word k became n and the place k was set to h
changed : (key : Handle AnyMem) (s : State Slot (Handle AnyMem)) (id k n : ℕ) (v : Handle AnyMem) (h : mathlib.Core.Option.Option Slot)
    → Kept key s → get_elem? s.views id ≡ some v → k < length s.homes
    → ((x : Slot) → h ≡ some x → IsOurs key x) → (n ≢ 1 → (x : Slot) × (h ≡ some x))
    → Kept key (record { words = slice_set s.words k n; homes = slice_set s.homes k h; views = slice_set s.views id v })
changed key s id k n v h kept at low ours home = record {
  even = length-set s.words k n ∙ (kept.even ∙ sym (length-set s.homes k h));
  views = subst (λ (vs : List (Handle AnyMem)). (i : ℕ) (u : Handle AnyMem) → get_elem? vs i ≡ some u → u ≡ key) (sym (set_again s.views id v at)) kept.views;
  ours = λ i x e. ⊎_elim (λ (c : (i ≡ k) × (h ≡ some x)). ours x c.1) (λ (c : (i ≢ k) × (get_elem? s.homes i ≡ some (some x))). kept.ours i x c.1) (at_set s.homes k i h (some x) e);
  home = λ i less away. dite (ℕ_discrete i k)
      (λ (e : i ≡ k).
      let word : slice_index (slice_set s.words k n) k ≡ n = get_or-set_same s.words k n 0 (let l = kept.even in omega arith) in
      let out : n ≢ 1 = λ q. away (ap (λ j. slice_index (slice_set s.words k n) j) e ∙ (word ∙ q)) in
      let there = home out in
      (there.0, subst (λ j. get_elem? (slice_set s.homes k h) j ≡ some (some there.0)) (sym e) (set_here s.homes k h low ∙ ap some there.1)))
      (λ (ne : i ≢ k).
      let word : slice_index (slice_set s.words k n) i ≡ slice_index s.words i = get_or-set_other s.words k i n 0 ne in
      let there = kept.home i (let l = length-set s.homes k h in omega arith) (λ q. away (word ∙ q)) in
      (there.0, set_else s.homes k i h ne ∙ there.1));
}

-- the rule where nothing changed
same : (key : Handle AnyMem) (s : State Slot (Handle AnyMem)) (id k : ℕ) (v : Handle AnyMem)
    → Kept key s → get_elem? s.views id ≡ some v
    → Kept key (record { words = slice_set s.words k (slice_index s.words k); homes = s.homes; views = slice_set s.views id v })
same key s id k v kept at =
    subst (λ (ws : List ℕ). Kept key (record { words = ws; homes = s.homes; views = slice_set s.views id v })) (sym (set-get_or s.words k 0))
    (subst (λ (vs : List (Handle AnyMem)). Kept key (record { words = s.words; homes = s.homes; views = vs })) (sym (set_again s.views id v at)) kept)

-- a place is opened where its word was the one wanted, which isn't that of an open one
pub opened : (key : Handle AnyMem) (slots id k old : ℕ) (me : Hand) → old ≢ 1 → k < slots
    → Allows (Kept key) slots id me k (λ n. either (eqb n old) 1 n) (Opened (step slots k old 1 none) me)
opened key slots id k old me shut low s kept len at small =
    exchanged (slice_index s.words k) old 1 (λ f.
    (w : Handle AnyMem) × (a : Act Slot) × Valid s.homes me.1 a × Kept key (stepped s k f id me.1 w a)
    × Opened (step slots k old 1 none) me (slice_index s.words k) (w, carried_after me.1 a))
    (λ (e : slice_index s.words k ≡ old).
    let there = kept.home k (omega (arith, len)) (λ q. shut (sym e ∙ q)) in (
      me.0,
      takes k there.0,
      there.1,
      changed key s id k 1 me.0 none kept at (omega (arith, len)) (λ x q. absurd (some-ne-none x (sym q))) (λ q. absurd (q refl)),
      (
        refl,
        λ f. (there.0, refl, subst (λ (u : Handle AnyMem). IsOurs u there.0) (sym (kept.views id me.0 at)) (kept.ours k there.0 there.1)),
      ),
    ))
    (λ (ne : slice_index s.words k ≢ old).
    (me.0, keeps, tt, same key s id k me.0 kept at, (refl, λ e. absurd (ne e))))

-- it is shut with what is to lie there
pub shut : (key : Handle AnyMem) (slots id k new : ℕ) (me : Hand) (x : Slot) → me.1 ≡ (k, x) ∷ [] → IsOurs me.0 x → k < slots
    → Allows (Kept key) slots id me k (λ n. new) (λ n m'. Unit {0})
shut key slots id k new me x out ours low s kept len at small = (
  me.0,
  gives,
  tt,
  subst (λ (c : List (ℕ × Slot)). Kept key (record { words = slice_set s.words k new; homes = put_back s.homes c; views = slice_set s.views id me.0 })) (sym out)
      (changed key s id k new me.0 (some x) kept at (omega (arith, len)) (λ y q. subst (IsOurs key) (some-injective x y q) (subst (λ (u : Handle AnyMem). IsOurs u x) (kept.views id me.0 at) ours)) (λ q. (x, refl))),
  tt,
)

-- nothing lies in places that are free
bare : (key : Handle AnyMem) (l : List Slot) → ((i : ℕ) → i < length l → get_or l i None ≡ None) → (k : ℕ) (x : Slot) → get_elem? (map some l) k ≡ some (some x) → IsOurs key x
bare key [] none-there k x e = absurd (some-ne-none (some x) (sym e))
bare key (a ∷ l) none-there zero x e = subst (IsOurs key) (sym (none-there 0 (omega arith)) ∙ some-injective a x (some-injective (some a) (some x) e)) tt
bare key (a ∷ l) none-there (suc k) x e = bare key l (λ i low. none-there (suc i) (omega arith)) k x e

alone : (key : Handle AnyMem) (i : ℕ) (v : Handle AnyMem) → get_elem? (key ∷ []) i ≡ some v → v ≡ key
alone key zero v e = sym (some-injective key v e)
alone key (suc i) v e = absurd (some-ne-none v (sym e))

-- at the start each place is free
pub fresh : (key : Handle AnyMem) (ws : List ℕ) (n : ℕ) → length ws ≡ n → Kept key (opening ws (replicate n None) key)
fresh key ws n e =
    let count : length (replicate n vacant) ≡ n = length-replicate n vacant in
    let laid : length (map some (replicate n vacant)) ≡ length (replicate n vacant) = length-map (replicate n vacant) some in record {
      even = e ∙ sym (laid ∙ count);
      views = alone key;
      ours = bare key (replicate n vacant) (λ i low. get_or-replicate n i vacant vacant (omega (arith, count)));
      home = λ k low away. some_there (replicate n vacant) k (omega (arith, laid));
    }
