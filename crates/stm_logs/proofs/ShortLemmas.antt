-- What is kept of a short log.
use Rattle.std.proofs.Common.{ℕ, zero, suc, ◌≡◌, ◌≢◌, ◌<◌, ◌≤◌, ◌+◌, ◌%◌, ◌^◌, inl, inr, List, [], ◌∷◌, ◌++◌, length, get_or, take, refl, sym, ap, ◌∙◌, subst, arith, length-append}
use Rattle.std.specs.Prelude.{Some, None, bit_and, bit_or}
use Rattle.std.specs.Int.{bit_at}
use Rattle.std.proofs.lemmas.Bool.{cases_lt}
use Rattle.std.proofs.lemmas.List.{length-take-le, take_more, get_or-take, get_or_append_left}
use Rattle.std.proofs.Math.Seq.{get_or-append_seam, take-length}
use Rattle.std.proofs.lemmas.Nat.Bits.{bit_at-zero, bit_at_and, bit_at_or, bit_at-pow_same, bit_at-lt}
use Rattle.stm_model.specs.Memories.{item_at, Once}
use Rattle.stm_logs.specs.declared.index.Bucket.{Bucket}
use Rattle.stm_logs.specs.declared.index.Homes.TheVariants.{Mixed}
use Rattle.stm_logs.specs.Buckets.{address_of, IsIndex}
use Rattle.stm_logs.specs.ShortLogs.{HasSeen, IsKept, IsPosition}
use Rattle.stm_logs.proofs.ItemLemmas.{SameAddresses, none-where, item-here, once-same, once-more, once-less}
use Rattle.stm_logs.proofs.BucketLemmas.{index-same, raised}

-- the bit of an address whose bit is missing belongs to no item
pub unseen : (seen a : ℕ) (items : List (ℕ × ℕ)) → HasSeen seen items → bit_and seen (2 ^ (a % 64)) ≡ 0 → item_at a items ≡ None
unseen seen a items h z = none-where items a (λ i l e. apart (a % 64) (subst (λ (b : ℕ). bit_at seen (b % 64) ≡ 1) e (h i l)) z)
  where
    apart : (k : ℕ) → bit_at seen k ≡ 1 → bit_and seen (2 ^ k) ≡ 0 → ⊥
    apart k b n = omega (arith, sym (bit_at_and seen (2 ^ k) k) ∙ (ap (λ (x : ℕ). bit_at x k) n ∙ bit_at-zero k), b, bit_at-pow_same k)

-- one more address
pub seen-more : (seen a v : ℕ) (items : List (ℕ × ℕ)) → HasSeen seen items → HasSeen (bit_or seen (2 ^ (a % 64))) (items ++ (a, v) ∷ [])
seen-more seen a v items h i l = elim (cases_lt i (length items)) [
  | inl b ↦ (let e : address_of (items ++ (a, v) ∷ []) i ≡ address_of items i = ap (λ (p : ℕ × ℕ). p.0) (get_or_append_left items ((a, v) ∷ []) (0, 0) i b) in rw e (left (address_of items i % 64) (h i b)))
  | inr b ↦ (let z : i ≡ length items = omega (arith, length-append items ((a, v) ∷ [])) in
      let e : address_of (items ++ (a, v) ∷ []) i ≡ a = rw z (ap (λ (p : ℕ × ℕ). p.0) (get_or-append_seam items (a, v) [] (0, 0))) in rw e (right (a % 64)))
]
  where
    left : (k : ℕ) → bit_at seen k ≡ 1 → bit_at (bit_or seen (2 ^ (a % 64))) k ≡ 1
    left k b = bit_at_or seen (2 ^ (a % 64)) k ∙ (let l : bit_at (2 ^ (a % 64)) k < 2 = bit_at-lt (2 ^ (a % 64)) k in omega arith)

    right : (k : ℕ) → bit_at (bit_or seen (2 ^ k)) k ≡ 1
    right k = bit_at_or seen (2 ^ k) k ∙ (let l : bit_at seen k < 2 = bit_at-lt seen k in omega (arith, bit_at-pow_same k))

pub seen-take : (seen n : ℕ) (items : List (ℕ × ℕ)) → n ≤ length items → HasSeen seen items → HasSeen seen (take n items)
seen-take seen n items most h i l =
    let low : i < n = omega (arith, length-take-le n items most) in
    let e : address_of (take n items) i ≡ address_of items i = ap (λ (p : ℕ × ℕ). p.0) (get_or-take n items i (0, 0) low) in
    rw e (h i (omega arith))

seen-same : (seen : ℕ) (items others : List (ℕ × ℕ)) → SameAddresses items others → HasSeen seen items → HasSeen seen others
seen-same seen items others s h i l = rw (s.each i (omega (arith, s.size))) (h i (omega (arith, s.size)))

-- another value for an item
pub kept-same : (short seen g : ℕ) (items others : List (ℕ × ℕ)) (bs : List Bucket) → SameAddresses items others → IsKept short seen g items bs → IsKept short seen g others bs
kept-same short seen g items others bs s k = record {
  once = once-same items others s k.once;
  front = seen-same seen items others s k.front;
  most = k.most;
  few = λ n. rw s.size (k.few n);
  blank = k.blank;
  indexed = λ z. index-same g items others bs s (k.indexed z);
}

-- an empty log
pub kept-empty : (short seen g : ℕ) (bs : List Bucket) → short ≤ 8 → IsIndex Mixed g [] bs → IsKept short seen g [] bs
kept-empty short seen g bs most x = record {
  once = tt;
  front = λ i l. absurd (omega arith);
  most = most;
  few = λ n. omega arith;
  blank = λ n. x;
  indexed = λ z. x;
}

-- a new item in a short log
pub kept-more : (short seen g a v : ℕ) (items : List (ℕ × ℕ)) (bs : List Bucket) → length items < short → item_at a items ≡ None
    → IsKept short seen g items bs → IsKept short (bit_or seen (2 ^ (a % 64))) g (items ++ (a, v) ∷ []) bs
kept-more short seen g a v items bs l new k = record {
  once = once-more items a v k.once new;
  front = seen-more seen a v items k.front;
  most = k.most;
  few = λ n. omega (arith, length-append items ((a, v) ∷ []));
  blank = k.blank;
  indexed = λ z. absurd (omega arith);
}

-- all items in the index
pub kept-indexed : (seen g a v : ℕ) (items : List (ℕ × ℕ)) (bs : List Bucket) → HasSeen seen items → IsIndex Mixed g (items ++ (a, v) ∷ []) bs → IsKept 0 (bit_or seen (2 ^ (a % 64))) g (items ++ (a, v) ∷ []) bs
kept-indexed seen g a v items bs h x = record {
  once = x.once;
  front = seen-more seen a v items h;
  most = omega arith;
  few = λ n. absurd (n refl);
  blank = λ n. absurd (n refl);
  indexed = λ z. x;
}

once-take : (n : ℕ) (items : List (ℕ × ℕ)) → n + 1 ≡ length items → Once items → Once (take n items)
once-take n items e o =
    let all : take n items ++ get_or items n (0, 0) ∷ [] ≡ items = sym (take_more items n (0, 0) (omega arith)) ∙ (ap (λ (k : ℕ). take k items) e ∙ take-length items) in
    once-less (take n items) (get_or items n (0, 0)).0 (get_or items n (0, 0)).1 (subst Once (sym all) o)

-- the last item goes
pub kept-less : (short seen g n : ℕ) (items : List (ℕ × ℕ)) (bs : List Bucket) → short ≢ 0 → n + 1 ≡ length items → IsKept short seen g items bs → IsKept short seen g (take n items) bs
kept-less short seen g n items bs some e k = record {
  once = once-take n items e k.once;
  front = seen-take seen n items (omega arith) k.front;
  most = k.most;
  few = λ s. (let f = k.few s in omega (arith, length-take-le n items (omega arith)));
  blank = k.blank;
  indexed = λ z. absurd (some z);
}

pub kept-less-indexed : (short seen g n : ℕ) (items : List (ℕ × ℕ)) (bs : List Bucket) → short ≡ 0 → n + 1 ≡ length items
    → HasSeen seen items → short ≤ 8 → IsIndex Mixed g (take n items) bs → IsKept short seen g (take n items) bs
kept-less-indexed short seen g n items bs z e h most x = record {
  once = x.once;
  front = seen-take seen n items (omega arith) h;
  most = most;
  few = λ s. absurd (s z);
  blank = λ s. absurd (s z);
  indexed = λ y. x;
}

-- a greater generation leaves every bucket open
pub kept-raised : (short seen g : ℕ) (items : List (ℕ × ℕ)) (bs : List Bucket) → IsKept short seen g items bs → IsIndex Mixed (g + 1) [] bs
kept-raised zero seen g items bs k = raised g items bs (k.indexed refl)
kept-raised (suc s) seen g items bs k = raised g [] bs (k.blank (λ e. omega arith))

-- what a position finds
pub found-at : (a i : ℕ) (items : List (ℕ × ℕ)) → Once items → IsPosition a items i → i ≢ length items → item_at a items ≡ Some (get_or items i (0, 0)).1
found-at a i items o p n = let l : i < length items = omega (arith, p.within, n) in item-here items i a o l (p.there l)
