-- Laws of the callers of a run.
use Rattle.std.proofs.Common.{ℕ, ◌≡◌, ◌<◌, ◌∙◌, List, [], ◌∷◌, ◌++◌, length, get_or, take, drop, refl, sym, ap, arith, subst, zero, suc}
use Rattle.std.specs.Prelude.{All}
use Rattle.std.proofs.lemmas.List.{get_or-map, length-map}
use Rattle.crossbeam_utils.specs.declared.cache_padded.CachePadded.{CachePadded}
use Rattle.stm_rule.specs.declared.stm.Stm.{Stm}
use Rattle.stm_rule.specs.Callers.{Handle}
use Rattle.tx_atomic.specs.Callers.{AllReady, IsReady, IsThrough}
use Rattle.tx_atomic.specs.CallerLaws.{ready-at, ready-each}
use Rattle.perf_core.specs.declared.caller.Caller.{Caller}
use Rattle.perf_core.specs.declared.work_region.WorkRegion.{WorkRegion}
use Rattle.perf_core.specs.Callers.{desc_in, descs_in}

-- a caller's work, told of what was lent and given back
pub through-as : (x y c d : CachePadded Caller) → x ≡ c → y ≡ d → IsThrough (desc_in x) (desc_in y) → IsThrough (desc_in c) (desc_in d)
through-as x y c d lent left t = subst (λ (b : CachePadded Caller). IsThrough (desc_in c) (desc_in b)) left (subst (λ (a : CachePadded Caller). IsThrough (desc_in a) (desc_in y)) lent t)

module _ (stm : Stm WorkRegion) where
  pub ready-callers : (cs : List (CachePadded Caller)) → AllReady stm 0 (descs_in cs) → All (λ c. IsReady stm (desc_in c)) cs
  ready-callers cs ready = λ i c lt.
      let many = length-map cs desc_in in
      subst (IsReady stm) (get_or-map desc_in cs i c (desc_in c) lt) (ready-at stm 0 i (descs_in cs) (desc_in c) ready (omega (arith, lt)))

  -- each did its work
  pub each-worked : (cs es : List (CachePadded Caller)) → AllReady stm 0 (descs_in cs) → length es ≡ length cs
      → ((i : ℕ) (d : CachePadded Caller) → i < length cs → IsThrough (desc_in (get_or cs i d)) (desc_in (get_or es i d))) → AllReady stm 0 (descs_in es)
  each-worked [] [] ready count each = tt
  each-worked [] (e ∷ es) ready count each = absurd cc
  each-worked (c ∷ cs) es ready count each =
      let many = length-map (c ∷ cs) desc_in in
      let left = length-map es desc_in in
      ready-each stm 0 (descs_in (c ∷ cs)) (descs_in es) ready (left ∙ (count ∙ sym many)) (λ i x lt.
      let here : i < length (c ∷ cs) = omega (arith, lt) in
      let there : i < length es = omega (arith, here) in
      subst (λ (d : Handle WorkRegion). IsThrough d (get_or (descs_in es) i x)) (sym (get_or-map desc_in (c ∷ cs) i c x here))
      (subst (λ (e : Handle WorkRegion). IsThrough (desc_in (get_or (c ∷ cs) i c)) e) (sym (get_or-map desc_in es i c x there))
      (each i c here)))

-- what a slice that was lent whole left
written : {A : Type 0} (n : ℕ) (xs ys : List A) → length xs ≡ n → length ys ≡ n → take n (xs ++ drop (length xs) ys) ≡ xs
written zero [] [] a b = refl
written zero (x ∷ xs) ys a b = absurd (omega arith)
written zero [] (y ∷ ys) a b = absurd (omega arith)
written (suc n) [] ys a b = absurd (omega arith)
written (suc n) (x ∷ xs) [] a b = absurd (omega arith)
written (suc n) (x ∷ xs) (y ∷ ys) a b = ap (λ l. x ∷ l) (written n xs ys (omega arith) (omega arith))

-- the callers, lent for their work, came back
pub came-back : (cs lent left : List (CachePadded Caller)) (n : ℕ) → lent ≡ cs → length lent ≡ n → length left ≡ length lent → take n (left ++ drop (length left) cs) ≡ left
came-back cs lent left n same long count = written n left cs (count ∙ long) (sym (ap length same) ∙ long)
