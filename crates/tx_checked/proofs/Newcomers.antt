-- Callers of a memory that was just opened.
use Rattle.std.proofs.Common.{ℕ, zero, suc, ◌≡◌, ◌<◌, ◌+◌, ◌∙◌, List, [], ◌∷◌, ◌++◌, length, get_or, set, refl, sym, ap, arith, subst}
use Rattle.std.specs.Prelude.{All, Result, Ok, Err, OnOk, OnErr, IfErr}
use Rattle.std.proofs.lemmas.List.{append-nil, get_or-map, length-map}
use Rattle.rule_base.specs.declared.views.View.{View}
use Rattle.stm_model.specs.declared.alg.Alg.{Alg}
use Rattle.stm_model.specs.declared.config.Config.{Config}
use Rattle.stm_model.specs.declared.rule.AnyMem.{AnyMem}
use Rattle.stm_rule.specs.declared.stm.Stm.{Stm}
use Rattle.stm_rule.specs.Callers.{Handle, IsOf, AllOpened}
use Rattle.stm_tx.specs.Descs.{known, number}
use Rattle.stm_answers.specs.CallerState.{CallerState, IsIdle, known_of, caller_of}
use Rattle.tx_atomic.specs.declared.switching.Hindrance.{Hindrance}
use Rattle.tx_atomic.specs.declared.switching.Hindrance.TheVariants.{Taken, Busy}
use Rattle.tx_atomic.specs.Switches.{IsHindered}
use Rattle.tx_atomic.specs.Callers.{IsReady, IsThrough}
use Rattle.tx_atomic.specs.CallerLaws.{through}
use Rattle.tx_checked.specs.declared.checked_caller.CheckedCaller.{CheckedCaller}
use Rattle.tx_checked.specs.Phases.{Any}
use Rattle.tx_checked.specs.Ready.{IsFresh, AreFresh, AreHindered, IsHinderedFirst, IsUnused, AreNewWith, HasMadeNone, desc_in, descs_in, unmoved}

-- a caller that has done nothing at all
record IsOpened (stm : Stm AnyMem) (i : ℕ) (d : Handle AnyMem) : Type 0 where
  own : IsOf d stm
  idle : IsIdle (known d)
  number : number d ≡ i
  made : (known d).made ≡ []
  installs : (known d).installs ≡ []

module _ (stm : Stm AnyMem) where
  opened : (n i : ℕ) (ds : List (Handle AnyMem)) (x : Handle AnyMem) → AllOpened stm n ds → i < length ds → IsOpened stm (n + i) (get_or ds i x)
  opened n i [] x h lt = absurd (omega arith)
  opened n zero (d ∷ ds) x h lt = let here : n ≡ n + 0 = omega arith in record {
    own = h.0;
    idle = subst (λ (v : View). IsIdle (known_of v d.own)) (sym h.2) (refl, refl, refl, refl, refl);
    number = ap caller_of h.1 ∙ here;
    made = ap (λ (v : View). (known_of v d.own).made) h.2;
    installs = ap (λ (v : View). (known_of v d.own).installs) h.2;
  }
  opened n (suc i) (d ∷ ds) x h lt = let next : suc n + i ≡ n + suc i = omega arith in subst (λ k. IsOpened stm k (get_or ds i x)) next (opened (suc n) i ds x h.4 (omega (arith, lt)))

  pub opened-ready : (ds : List (Handle AnyMem)) (x : Handle AnyMem) → AllOpened stm 0 ds → 0 < length ds → IsReady stm (get_or ds 0 x)
  opened-ready ds x h some = let one = opened 0 0 ds x h some in record { own = one.own; idle = one.idle }

  -- the first has installed these
  one-installed : (algs : List Alg) (ds : List (Handle AnyMem)) (x d e : Handle AnyMem) → AllOpened stm 0 ds → d ≡ get_or ds 0 x → IsThrough d e → (known e).made ≡ (known d).made
      → (known e).installs ≡ (known d).installs ++ algs → AreFresh stm algs (set ds 0 e)
  one-installed algs [] x d e h at t made installs i y lt = absurd (omega (arith, lt))
  one-installed algs (f ∷ ds) x d e h at t made installs zero y lt = let one = opened 0 0 (f ∷ ds) x h (omega arith) in let t' = subst (λ (g : Handle AnyMem). IsThrough g e) at t in record {
    own = through stm f e one.own t';
    idle = t.idle;
    number = ap (λ q. caller_of q.role) t'.same.who ∙ one.number;
    made = made ∙ (ap (λ (g : Handle AnyMem). (known g).made) at ∙ one.made);
    installs = installs ∙ ap (λ (l : List Alg). l ++ algs) (ap (λ (g : Handle AnyMem). (known g).installs) at ∙ one.installs);
  }
  one-installed algs (f ∷ ds) x d e h at t made installs (suc i) y lt = let one = opened 0 (suc i) (f ∷ ds) y h (omega (arith, lt)) in let here : 0 + suc i ≡ suc i = omega arith in record {
    own = one.own;
    idle = one.idle;
    number = one.number ∙ here;
    made = one.made;
    installs = one.installs;
  }

  pub first-fresh : (r : Result (Unit {0}) Hindrance) (alg : Alg) (ds : List (Handle AnyMem)) (x d e : Handle AnyMem) → AllOpened stm 0 ds → d ≡ get_or ds 0 x → IsThrough d e → (known e).made ≡ (known d).made
      → OnOk r ((known e).installs ≡ (known d).installs ++ alg ∷ []) → OnOk r (AreFresh stm (alg ∷ []) (set ds 0 e))
  first-fresh (Ok u) alg ds x d e h at t made installs = one-installed (alg ∷ []) ds x d e h at t made installs
  first-fresh (Err q) alg ds x d e h at t made installs = tt

  -- or none
  pub first-bare : (r : Result (Unit {0}) Hindrance) (ds : List (Handle AnyMem)) (x d e : Handle AnyMem) → AllOpened stm 0 ds → d ≡ get_or ds 0 x → IsThrough d e → (known e).made ≡ (known d).made
      → OnErr r ((known e).installs ≡ (known d).installs) → OnErr r (AreFresh stm [] (set ds 0 e))
  first-bare (Ok u) ds x d e h at t made installs = tt
  first-bare (Err q) ds x d e h at t made installs = one-installed [] ds x d e h at t made (installs ∙ sym (append-nil (known d).installs))

  has-others : (n : ℕ) (q : Hindrance) (v w : CallerState) → IsHindered Any stm.config n q v w → 1 < stm.config.callers
  has-others n (Taken gate) v w h = h.3
  has-others n (Busy caller status) v w h = h.3.1.other.2

  -- it was hindered, having taken no step before
  hindered-first : (q : Hindrance) (ds : List (Handle AnyMem)) (x d e : Handle AnyMem) → AllOpened stm 0 ds → 0 < length ds → d ≡ get_or ds 0 x
      → IsHindered Any stm.config (number d) q (known d) (known e) → IsHinderedFirst stm.config q (set ds 0 e)
  hindered-first q [] x d e h some at hindered = absurd (omega (arith, some))
  hindered-first q (f ∷ ds) x d e h some at hindered =
      let one = opened 0 0 (f ∷ ds) x h some in
      let still : known d ≡ unmoved stm.config = ap (λ (g : Handle AnyMem). known g) at ∙ (λ i. known_of (h.2 i) (h.3 i)) in record {
        several = has-others (number d) q (known d) (known e) hindered;
        hindered = λ y. subst (λ n. IsHindered Any stm.config n q (unmoved stm.config) (known e)) (ap number at ∙ one.number)
            (subst (λ (v : CallerState). IsHindered Any stm.config (number d) q v (known e)) still hindered);
      }

  pub first-hindered : (r : Result (Unit {0}) Hindrance) (ds : List (Handle AnyMem)) (x d e : Handle AnyMem) → AllOpened stm 0 ds → 0 < length ds → d ≡ get_or ds 0 x
      → IfErr r (λ q. IsHindered Any stm.config (number d) q (known d) (known e)) → IfErr r (λ q. IsHinderedFirst stm.config q (set ds 0 e))
  first-hindered (Ok u) ds x d e h some at hindered = tt
  first-hindered (Err q) ds x d e h some at hindered = hindered-first q ds x d e h some at hindered

  pub fresh-ready : (algs : List Alg) (ds : List (Handle AnyMem)) → AreFresh stm algs ds → All (IsReady stm) ds
  fresh-ready algs ds h = λ i d lt. let one = h i d lt in record { own = one.own; idle = one.idle }

  pub installed-ready : (r : Result (Unit {0}) Hindrance) (alg : Alg) (ds : List (Handle AnyMem)) → OnOk r (AreFresh stm (alg ∷ []) ds) → OnErr r (AreFresh stm [] ds) → All (IsReady stm) ds
  installed-ready (Ok u) alg ds fresh bare = fresh-ready (alg ∷ []) ds fresh
  installed-ready (Err q) alg ds fresh bare = fresh-ready [] ds bare

  -- and none has made an entry
  fresh-none : (algs : List Alg) (ds : List (Handle AnyMem)) → AreFresh stm algs ds → All HasMadeNone ds
  fresh-none algs ds h = λ i d lt. (h i d lt).made

  pub installed-none : (r : Result (Unit {0}) Hindrance) (alg : Alg) (ds : List (Handle AnyMem)) → OnOk r (AreFresh stm (alg ∷ []) ds) → OnErr r (AreFresh stm [] ds) → All HasMadeNone ds
  installed-none (Ok u) alg ds fresh bare = fresh-none (alg ∷ []) ds fresh
  installed-none (Err q) alg ds fresh bare = fresh-none [] ds bare

  -- each with its descriptor
  pub all-new : (c : Config) (algs : List Alg) (ds : List (Handle AnyMem)) (ms : List CheckedCaller) → stm.config ≡ c → AreFresh stm algs ds → descs_in ms ≡ ds → All (IsUnused stm) ms → AreNewWith c algs ms
  all-new c algs ds ms sizes fresh same unused i m lt =
      let many : length (descs_in ms) ≡ length ms = length-map ms desc_in in
      let long = ap length same in
      let within : i < length ds = omega (arith, lt, many, long) in
      let at : get_or ds i (desc_in m) ≡ (get_or ms i m).desc = sym (ap (λ l. get_or l i (desc_in m)) same) ∙ get_or-map desc_in ms i m (desc_in m) lt in
      let one = subst (IsFresh stm algs i) at (fresh i (desc_in m) within) in
      let first = (unused 0 m (omega (arith, lt))).memory in
      let bare = unused i m lt in
      record {
        unused = record { memory = bare.memory ∙ sym first; phase = bare.phase; range = bare.range; refusal = bare.refusal; counts = bare.counts };
        config = ap (λ (s : Stm AnyMem). s.config) bare.memory ∙ sizes;
        number = one.number;
        made = one.made;
        installs = one.installs;
      }

  -- and the first was hindered
  pub all-hindered : (c : Config) (e : Hindrance) (ds : List (Handle AnyMem)) (ms : List CheckedCaller) → stm.config ≡ c → length ds ≡ c.callers → AreFresh stm [] ds → IsHinderedFirst stm.config e ds
      → descs_in ms ≡ ds → All (IsUnused stm) ms → AreHindered c e ms
  all-hindered c e ds ms sizes count fresh first same unused = record {
    count = sym (length-map ms desc_in) ∙ (ap length same ∙ count);
    new = all-new c [] ds ms sizes fresh same unused;
    first = subst (IsHinderedFirst c e) (sym same) (subst (λ (k : Config). IsHinderedFirst k e ds) sizes first);
  }

pub all-head : {X : Type 0} (P : X → Type 0) (x : X) (xs : List X) → All P (x ∷ xs) → P x
all-head P x xs h = h 0 x (omega arith)

pub all-tail : {X : Type 0} (P : X → Type 0) (x : X) (xs : List X) → All P (x ∷ xs) → All P xs
all-tail P x xs h = λ i d lt. h (suc i) d (omega (arith, lt))
