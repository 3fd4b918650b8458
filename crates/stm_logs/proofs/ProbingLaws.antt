-- How many buckets a lookup looks at, by the index.
use Rattle.std.proofs.Common.{ℕ, ◌≡◌, ◌≢◌, ◌<◌, ◌+◌, List, length, get_or, Bool, true, false, refl, sym, ap, ◌∙◌, subst, arith}
use Rattle.std.specs.Prelude.{Option, Some, None, MatchOption, ◌==◌, if◌then◌else◌}
use Rattle.std.proofs.lemmas.Bool.Decides.{nat_tests}
use Rattle.stm_model.specs.Memories.{item_at}
use Rattle.stm_logs.specs.declared.index.Bucket.{Bucket}
use Rattle.stm_logs.specs.declared.index.Lookup.{Lookup}
use Rattle.stm_logs.specs.declared.index.Homes.{Homes}
use Rattle.stm_logs.specs.declared.index.Homes.TheVariants.{Modulo}
use Rattle.stm_logs.specs.Buckets.{home_of, wrapped, blank, bucket_at, address_of, IsIndex, IsLookup}
use Rattle.stm_logs.specs.Probing.{HasBuckets, Passes, IsProbed}
use Rattle.stm_logs.proofs.BucketLemmas.{here-is, home-below, wrapped-below}

module _ (homes : Homes) (g : ℕ) (items : List (ℕ × ℕ)) (bs : List Bucket) (x : IsIndex homes g items bs) where
  abbrev pub item_of : Bucket → Option ℕ
  item_of b = if b.mark == g then Some b.item else None

  abbrev pub owner : ℕ → Option ℕ
  owner y = item_of (get_or bs y blank)

  pub owns : (b : Bucket) → b.mark ≡ g → item_of b ≡ Some b.item
  owns b e = by (b.mark == g) (grind (arith, nat_tests))
    where
      by : (t : Bool) → t ≡ true → (if t then Some b.item else None) ≡ Some b.item
      by true q = refl
      by false q = absurd cc

  pub owned : (b : Bucket) (i : ℕ) → item_of b ≡ Some i → (b.mark ≡ g) × (b.item ≡ i)
  owned b i e = by (b.mark == g) refl e
    where
      by : (t : Bool) → (b.mark == g) ≡ t → (if t then Some b.item else None) ≡ Some i → (b.mark ≡ g) × (b.item ≡ i)
      by true q k = (grind (arith, nat_tests), cc)
      by false q k = absurd cc

  pub disowned : (b : Bucket) → b.mark ≢ g → item_of b ≡ None
  disowned b n = by (b.mark == g) refl
    where
      by : (t : Bool) → (b.mark == g) ≡ t → (if t then Some b.item else None) ≡ None
      by true q = absurd (n (grind (arith, nat_tests)))
      by false q = refl

  pub has : HasBuckets homes (length bs) items owner
  has = record {
    placed = λ i l. let r = x.reached i l in (
      r.distance,
      r.within,
      owns (bucket_at bs (home_of homes (length bs) (address_of items i) + r.distance)) r.mark ∙ ap Some r.item,
      λ k h. ((bucket_at bs (home_of homes (length bs) (address_of items i) + k)).item, r.earlier k h, owns (bucket_at bs (home_of homes (length bs) (address_of items i) + k)) (r.passed k h)),
    );
    named = λ y i l e. let o = owned (get_or bs y blank) i e in let h = here-is bs y l in
        let n : (bucket_at bs y).item < length items = x.names y l (ap (λ (b : Bucket). b.mark) h ∙ o.0) in
        let same : (bucket_at bs y).item ≡ i = ap (λ (b : Bucket). b.item) h ∙ o.1 in omega arith;
    single = λ y z i ly lz e f.
        let o = owned (get_or bs y blank) i e in let p = owned (get_or bs z blank) i f in
        let h = here-is bs y ly in let k = here-is bs z lz in
        x.single y z ly lz (ap (λ (b : Bucket). b.mark) h ∙ o.0) (ap (λ (b : Bucket). b.mark) k ∙ p.0) (ap (λ (b : Bucket). b.item) h ∙ (o.1 ∙ sym (ap (λ (b : Bucket). b.item) k ∙ p.1)));
  }

  pub passes : (a : ℕ) (s : Lookup) → length items < length bs → IsLookup homes g items bs a s → Passes homes (length bs) items a s.distance
  passes a s room l = record {
    owner = owner;
    has = has;
    within = omega (arith, room, l.distance);
    others = λ k h. let b = bucket_at bs (home_of homes (length bs) a + k) in let m = l.passed k h in (
      b.item,
      has.named (wrapped (length bs) (home_of homes (length bs) a + k)) b.item (below k h) (owns b m),
      owns b m,
      l.others k h,
    );
    last = subst (λ (y : ℕ). MatchOption (owner y) (Unit {0}) (λ j. address_of items j ≡ a)) l.at (by s.item l.answer);
  }
    where
      below : (k : ℕ) → k < s.distance → wrapped (length bs) (home_of homes (length bs) a + k) < length bs
      below k h = wrapped-below (length bs) (home_of homes (length bs) a + k) (let m : home_of homes (length bs) a < length bs = home-below homes (length bs) a (omega (arith, room)) in let d = l.distance in omega arith)

      by : (o : Option ℕ)
          → MatchOption o ((item_at a items ≡ None) × ((bucket_at bs s.at).mark ≢ g)) (λ i.
          (i < length items) × (address_of items i ≡ a) × ((bucket_at bs s.at).mark ≡ g) × ((bucket_at bs s.at).item ≡ i))
          → MatchOption (owner s.at) (Unit {0}) (λ j. address_of items j ≡ a)
      by None f = subst (λ (o : Option ℕ). MatchOption o (Unit {0}) (λ j. address_of items j ≡ a)) (sym (disowned (get_or bs s.at blank) (λ e. f.1 (ap (λ (b : Bucket). b.mark) (here-is bs s.at l.within) ∙ e)))) tt
      by (Some i) f = let h = here-is bs s.at l.within in
          let e : item_of (get_or bs s.at blank) ≡ Some i = owns (get_or bs s.at blank) (sym (ap (λ (b : Bucket). b.mark) h) ∙ f.2) ∙ ap Some (sym (ap (λ (b : Bucket). b.item) h) ∙ f.3) in
          subst (λ (o : Option ℕ). MatchOption o (Unit {0}) (λ j. address_of items j ≡ a)) (sym e) f.1

pub probed : (g : ℕ) (items : List (ℕ × ℕ)) (bs : List Bucket) (a : ℕ) (s : Lookup) → IsIndex Modulo g items bs → length items < length bs → IsLookup Modulo g items bs a s → IsProbed (length bs) items a (s.distance + 1)
probed g items bs a s x room l = (s.distance, refl, passes Modulo g items bs x a s room l)
