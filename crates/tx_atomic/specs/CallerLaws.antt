-- Laws of callers between their transactions.
use Rattle.std.proofs.Common.{ℕ, zero, suc, true, false, ◌≡◌, ◌<◌, ◌+◌, ◌∙◌, List, [], ◌∷◌, ◌++◌, length, get_or, set, take, drop, refl, sym, ap, arith, subst}
use Rattle.std.specs.Prelude.{All}
use Rattle.rule_base.specs.declared.views.View.{View}
use Rattle.stm_rule.specs.declared.stm.Stm.{Stm}
use Rattle.rule_base.specs.Bridge.{public_history}
use Rattle.stm_model.specs.Histories.{made_by}
use Rattle.stm_rule.specs.Callers.{Handle, IsOf, AllOpened, AllIdle, BeginsHistory}
use Rattle.stm_rule.specs.Closings.{AllTold, Ended}
use Rattle.stm_tx.specs.Descs.{known}
use Rattle.stm_answers.specs.CallerState.{IsIdle, known_of}
use Rattle.tx_atomic.specs.Callers.{IsReady, IsThrough, HasWorked, AllReady}
use Rattle.tx_atomic.specs.Extends.{Extends}
use Rattle.tx_atomic.specs.ExtendsLaws.{extends-refl, extends-trans}

-- what a slice that was lent whole left
written : {A : Type 0} (n : ℕ) (xs ys : List A) → length xs ≡ n → length ys ≡ n → take n (xs ++ drop (length xs) ys) ≡ xs
written zero [] [] a b = refl
written zero (x ∷ xs) ys a b = absurd (omega arith)
written zero [] (y ∷ ys) a b = absurd (omega arith)
written (suc n) [] ys a b = absurd (omega arith)
written (suc n) (x ∷ xs) [] a b = absurd (omega arith)
written (suc n) (x ∷ xs) (y ∷ ys) a b = ap (λ l. x ∷ l) (written n xs ys (omega arith) (omega arith))

-- a caller that did nothing, and one that did more
pub worked-refl : {K : Type 0} (d : Handle K) → IsIdle (known d) → HasWorked d d
worked-refl d idle = record { through = record { same = record { table = refl; who = refl }; idle = idle }; grew = extends-refl (known d) }

pub worked-trans : {K : Type 0} (d e f : Handle K) → HasWorked d e → IsThrough e f → Extends (known e) (known f) → HasWorked d f
worked-trans d e f a b g = record {
  through = record { same = record { table = b.same.table ∙ a.through.same.table; who = b.same.who ∙ a.through.same.who }; idle = b.idle };
  grew = extends-trans (known d) (known e) (known f) a.grew g;
}

module _ {K : Type 0} (stm : Stm K) where
  -- those of a new memory
  pub opened-ready : (n : ℕ) (ds : List (Handle K)) → AllOpened stm n ds → AllReady stm n ds
  opened-ready n [] h = tt
  opened-ready n (d ∷ ds) h = (h.0, h.1, subst (λ (v : View). IsIdle (known_of v d.own)) (sym h.2) (refl, refl, refl, refl, refl), opened-ready (suc n) ds h.4)

  -- as `close` asks for them, where the memory takes no fences
  pub ready-idle : stm.config.fence ≡ false → (n : ℕ) (ds : List (Handle K)) → AllReady stm n ds → AllIdle stm n ds
  ready-idle plain n [] h = tt
  ready-idle plain n (d ∷ ds) h = (h.0, h.1, (h.2.0, λ on. absurd (let f : true ≡ false = sym on ∙ plain in cc)), ready-idle plain (suc n) ds h.3)

  pub ready-at : (n i : ℕ) (ds : List (Handle K)) (x : Handle K) → AllReady stm n ds → i < length ds → IsReady stm (get_or ds i x)
  ready-at n i [] x h lt = absurd (omega arith)
  ready-at n zero (d ∷ ds) x h lt = record { own = h.0; idle = h.2 }
  ready-at n (suc i) (d ∷ ds) x h lt = ready-at (suc n) i ds x h.3 (omega arith)

  pub ready-all : (n : ℕ) (ds : List (Handle K)) → AllReady stm n ds → All (IsReady stm) ds
  ready-all n ds h = λ i d lt. ready-at n i ds d h lt

  pub through : (d e : Handle K) → IsOf d stm → IsThrough d e → IsOf e stm
  through d e of t = record {
    table = t.same.table ∙ of.table;
    config = ap (λ q. q.config) t.same.who ∙ of.config;
    rule = ap (λ q. q.rule) t.same.who ∙ of.rule;
  }

  -- one caller did its work
  pub ready-set : (n i : ℕ) (ds : List (Handle K)) (x e : Handle K) → AllReady stm n ds → IsThrough (get_or ds i x) e → i < length ds → AllReady stm n (set ds i e)
  ready-set n i [] x e h t lt = absurd (omega arith)
  ready-set n zero (d ∷ ds) x e h t lt = (through d e h.0 t, ap (λ q. q.role) t.same.who ∙ h.1, t.idle, h.3)
  ready-set n (suc i) (d ∷ ds) x e h t lt = (h.0, h.1, h.2, ready-set (suc n) i ds x e h.3 t (omega arith))

  -- each did its own
  pub ready-each : (n : ℕ) (ds es : List (Handle K)) → AllReady stm n ds → length es ≡ length ds → ((i : ℕ) (x : Handle K) → i < length ds → IsThrough (get_or ds i x) (get_or es i x)) → AllReady stm n es
  ready-each n [] [] h len t = tt
  ready-each n [] (e ∷ es) h len t = absurd cc
  ready-each n (d ∷ ds) [] h len t = absurd cc
  ready-each n (d ∷ ds) (e ∷ es) h len t =
      let first : IsThrough d e = t 0 d (omega arith) in
      (through d e h.0 first, ap (λ q. q.role) first.same.who ∙ h.1, first.idle, ready-each (suc n) ds es h.3 (omega arith) (λ i x lt. t (suc i) x (omega (arith, lt))))

  -- they were lent as a slice, and came back
  pub came-back : (ds lent left : List (Handle K)) (n : ℕ) → lent ≡ ds → length lent ≡ n → length left ≡ length lent → AllReady stm 0 left → AllReady stm 0 (take n (left ++ drop (length left) ds))
  came-back ds lent left n same long count ready = subst (AllReady stm 0) (sym (written n left ds (count ∙ long) (sym (ap length same) ∙ long))) ready

  -- none of a new memory has made an entry
  pub opened-made : (n : ℕ) (xs ys : List (Handle K)) (d : Handle K) → AllOpened stm n (xs ++ d ∷ ys) → (known d).made ≡ []
  opened-made n [] ys d h = ap (λ (v : View). public_history v.history.made) h.2
  opened-made n (x ∷ xs) ys d h = opened-made (suc n) xs ys d h.4

module _ {K : Type 0} (e : Ended) where
  -- what a descriptor had seen begins the history that closing gives
  pub closed-seen : (n : ℕ) (xs ys : List (Handle K)) (d : Handle K) → AllTold e n (xs ++ d ∷ ys) → BeginsHistory (known d).seen (known d).front e.history
  closed-seen n [] ys d told = told.0.seen
  closed-seen n (x ∷ xs) ys d told = closed-seen (suc n) xs ys d told.1

  -- and what it made is what the history has of its caller
  pub closed-made : (n : ℕ) (xs ys : List (Handle K)) (d : Handle K) → AllTold e n (xs ++ d ∷ ys) → (known d).made ≡ made_by (n + length xs) e.history
  closed-made n [] ys d told = told.0.made ∙ (let here : n ≡ n + 0 = omega arith in ap (λ k. made_by k e.history) here)
  closed-made n (x ∷ xs) ys d told = closed-made (suc n) xs ys d told.1 ∙ (let next : suc n + length xs ≡ n + suc (length xs) = omega arith in ap (λ k. made_by k e.history) next)
