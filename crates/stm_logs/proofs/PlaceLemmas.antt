-- A place in the index: the items alone decide it.
use Rattle.std.proofs.Common.{ℕ, zero, suc, ◌≡◌, ◌≢◌, ◌<◌, ◌+◌, ◌*◌, inl, inr, List, [], ◌∷◌, ◌++◌, length, get_or, set, sym, ap, ◌∙◌, subst, arith}
use Rattle.std.specs.Prelude.{Option, Some, None, MatchOption}
use Rattle.std.proofs.lemmas.Bool.{cases_order}
use Rattle.stm_model.specs.Memories.{item_at}
use Rattle.stm_logs.specs.declared.index.Bucket.{Bucket}
use Rattle.stm_logs.specs.declared.index.Homes.{Homes}
use Rattle.stm_logs.specs.declared.index.Homes.TheVariants.{Mixed}
use Rattle.stm_logs.specs.declared.index.Lookup.{Lookup}
use Rattle.stm_logs.specs.Buckets.{home_of, blank, bucket_at, address_of, AllTaken, IsIndex, IsLookup}
use Rattle.stm_logs.specs.LogStates.{LogState}
use Rattle.stm_logs.specs.Probing.{HasBuckets, Passes, IsPlace, after_home}
use Rattle.stm_logs.proofs.ItemLemmas.{none-other, none-where}
use Rattle.stm_logs.proofs.BucketLemmas.{here-is, home-below, wrapped-below, index-more}
use Rattle.stm_logs.proofs.ProbingLaws as laws

same-item : (o : Option ℕ) (i j : ℕ) → o ≡ Some i → o ≡ Some j → i ≡ j
same-item o i j e f = cc

none-some : (o : Option ℕ) (i : ℕ) → o ≡ None → o ≡ Some i → ⊥
none-some None i e f = absurd cc
none-some (Some j) i e f = absurd cc

behind-below : (homes : Homes) (buckets a k : ℕ) → k < buckets → after_home homes buckets a k < buckets
behind-below homes buckets a k l = wrapped-below buckets (home_of homes buckets a + k) (let h : home_of homes buckets a < buckets = home-below homes buckets a (omega arith) in omega arith)

-- a place by what contracts see of a log
pub place-in : (buckets : ℕ) (l h : LogState) (a place : ℕ) → buckets ≡ 2 * l.len → l ≡ h → IsPlace (2 * h.len) h.items a place → IsPlace buckets l.items a place
place-in buckets l h a place e f is = subst (λ (m : ℕ). IsPlace m l.items a place) (sym e) (subst (λ (q : LogState). IsPlace (2 * q.len) q.items a place) (sym f) is)

-- two indexes of the same items have each item in the same bucket
agree : (homes : Homes) (buckets : ℕ) (items : List (ℕ × ℕ)) (o p : ℕ → Option ℕ) → HasBuckets homes buckets items o
    → HasBuckets homes buckets items p → (n i : ℕ) → i < n → i < length items → (y : ℕ) → y < buckets → o y ≡ Some i → p y ≡ Some i
agree homes buckets items o p h k zero i b l y ly e = absurd (omega arith)
agree homes buckets items o p h k (suc n) i b l y ly e =
    let s = h.placed i l in let t = k.placed i l in
    let here : y ≡ after_home homes buckets (address_of items i) s.0 = h.single y _ i ly (behind-below homes buckets (address_of items i) s.0 s.1) e s.2 in
    elim (cases_order s.0 t.0) [
      | inl same ↦ rw (here, same) t.2
      | inr other ↦ elim other [
        | inl before ↦ (let j = t.3 s.0 before in
            let q : o (after_home homes buckets (address_of items i) s.0) ≡ Some j.0 = agree homes buckets items p o k h n j.0
            (let m = j.1 in omega arith) (let m = j.1 in omega arith) (after_home homes buckets (address_of items i) s.0)
            (behind-below homes buckets (address_of items i) s.0 s.1) j.2 in
            absurd (let m = j.1 in omega (arith, same-item _ i j.0 s.2 q)))
        | inr after ↦ (let j = s.3 t.0 after in
            let q : p (after_home homes buckets (address_of items i) t.0) ≡ Some j.0 = agree homes buckets items o p h k n j.0
            (let m = j.1 in omega arith) (let m = j.1 in omega arith) (after_home homes buckets (address_of items i) t.0)
            (behind-below homes buckets (address_of items i) t.0 t.1) j.2 in
            absurd (let m = j.1 in omega (arith, same-item _ i j.0 t.2 q)))
      ]
    ]

module _ (g : ℕ) (items : List (ℕ × ℕ)) (bs : List Bucket) (a place : ℕ) (x : IsIndex Mixed g items bs) (is : IsPlace (length bs) items a place) where
  abbrev mine : ℕ → Option ℕ
  mine = laws.owner Mixed g items bs x

  abbrev passed : ℕ
  passed = is.0

  abbrev goes : Passes Mixed (length bs) items a is.0
  goes = is.2

  to-mine : (i : ℕ) → i < length items → (y : ℕ) → y < length bs → goes.owner y ≡ Some i → mine y ≡ Some i
  to-mine i l = agree Mixed (length bs) items goes.owner mine goes.has (laws.has Mixed g items bs x) (i + 1) i (omega arith) l

  to-its : (i : ℕ) → i < length items → (y : ℕ) → y < length bs → mine y ≡ Some i → goes.owner y ≡ Some i
  to-its i l = agree Mixed (length bs) items mine goes.owner (laws.has Mixed g items bs x) goes.has (i + 1) i (omega arith) l

  pub place-below : place < length bs
  place-below = rw is.1 (behind-below Mixed (length bs) a passed goes.within)

  -- a taken bucket there names the address's item
  pub place-found : (get_or bs place blank).mark ≡ g → ((get_or bs place blank).item < length items) × (address_of items (get_or bs place blank).item ≡ a)
  place-found m =
      let i = (get_or bs place blank).item in
      let e : mine place ≡ Some i = laws.owns Mixed g items bs x (get_or bs place blank) m in
      let l : i < length items = (laws.has Mixed g items bs x).named place i place-below e in
      let its : goes.owner (after_home Mixed (length bs) a passed) ≡ Some i = rw (← is.1) (to-its i l place place-below e) in
      (l, subst (λ (o : Option ℕ). MatchOption o (Unit {0}) (λ j. address_of items j ≡ a)) its goes.last)

  -- an open one tells that there is none
  pub place-open : (get_or bs place blank).mark ≢ g → item_at a items ≡ None
  place-open n = none-where items a absent
    where
      none : mine place ≡ None
      none = laws.disowned Mixed g items bs x (get_or bs place blank) n

      here : after_home Mixed (length bs) a passed ≡ place
      here = sym is.1

      absent : (i : ℕ) → i < length items → address_of items i ≢ a
      absent i l e =
          let s = subst
          (λ (b : ℕ).
          (d : ℕ) × (d < length bs) × (mine (after_home Mixed (length bs) b d) ≡ Some i)
          × ((k : ℕ) → k < d → (j : ℕ) × (j < i) × (mine (after_home Mixed (length bs) b k) ≡ Some j))) e
          ((laws.has Mixed g items bs x).placed i l) in
          elim (cases_order s.0 passed) [
            | inl same ↦ none-some (mine place) i none (subst (λ (z : ℕ). mine z ≡ Some i) here (subst (λ (k : ℕ). mine (after_home Mixed (length bs) a k) ≡ Some i) same s.2))
            | inr other ↦ elim other [
              | inl before ↦ (let j = goes.others s.0 before in
                  let f = to-mine j.0 j.1 (after_home Mixed (length bs) a s.0) (behind-below Mixed (length bs) a s.0 s.1) j.2 in
                  j.3 (ap (address_of items) (same-item _ j.0 i f s.2) ∙ e))
              | inr after ↦ (let j = s.3 passed after in none-some (mine place) j.0 none (subst (λ (z : ℕ). mine z ≡ Some j.0) here j.2))
            ]
          ]

  -- a new item goes there
  pub place-taken : (v : ℕ) → item_at a items ≡ None → IsIndex Mixed g (items ++ (a, v) ∷ []) (set bs place (record { mark = g; item = length items }))
  place-taken v new = index-more g items bs a v place passed x new place-below goes.within is.1 taken-before untaken
    where
      taken-before : AllTaken g bs (home_of Mixed (length bs) a) passed
      taken-before k l =
          let j = goes.others k l in
          let f = to-mine j.0 j.1 (after_home Mixed (length bs) a k) (behind-below Mixed (length bs) a k (let w = goes.within in omega arith)) j.2 in
          (laws.owned Mixed g items bs x (bucket_at bs (home_of Mixed (length bs) a + k)) j.0 f).0

      untaken : (bucket_at bs place).mark ≢ g
      untaken m =
          let f = place-found (sym (ap (λ (b : Bucket). b.mark) (here-is bs place place-below)) ∙ m) in
          none-other items a (get_or bs place blank).item new f.0 f.1

-- the place where a lookup ends
pub place-of : (g : ℕ) (items : List (ℕ × ℕ)) (bs : List Bucket) (a : ℕ) (s : Lookup) → IsIndex Mixed g items bs → length items < length bs → IsLookup Mixed g items bs a s → IsPlace (length bs) items a s.at
place-of g items bs a s x room l = (s.distance, l.at, laws.passes Mixed g items bs x a s room l)
