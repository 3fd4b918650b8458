-- The room for the replies to come.
use Rattle.std.proofs.Common.{ℕ, false, ◌≡◌, ◌<◌, ◌+◌, List, [], ◌∷◌, ◌++◌, length, refl, sym, ap, ◌∙◌, arith, subst, length-append}
use Rattle.std.specs.Prelude.{None}
use Rattle.work_profile.specs.declared.policy.Policy.{Policy}
use Rattle.work_profile.specs.Profiles.{Noted}
use Rattle.work_script.specs.declared.workload.Item.{Item}
use Rattle.work_script.specs.declared.workload.Item.TheVariants.{Tx, Switch, Reserve}
use Rattle.work_script.specs.Outputs.{Output}
use Rattle.stm_model.specs.declared.alg.Alg.{Alg}
use Rattle.work_script.specs.declared.report.Row.{Row}
use Rattle.work_trace.specs.Adapting.{no_profile}
use Rattle.work_trace.specs.declared.said.Phase.TheVariants.{Between}
use Rattle.work_trace.specs.Places.{CallerProgress, script_at, rest_of}
use Rattle.work_trace.specs.Turns.{BeforeTx}
use Rattle.work_worker.specs.Workers.{cleared, blank, spares}

pub last-same : {A : Type 0} (xs ys : List A) (x y : A) → xs ++ x ∷ [] ≡ ys ++ y ∷ [] → (xs ≡ ys) × (x ≡ y)
last-same [] [] x y e = (refl, cc)
last-same [] (b ∷ []) x y e = absurd cc
last-same [] (b ∷ c ∷ ys) x y e = absurd cc
last-same (a ∷ []) [] x y e = absurd cc
last-same (a ∷ b ∷ xs) [] x y e = absurd cc
last-same (a ∷ xs) (b ∷ ys) x y e =
    let h : a ≡ b = cc in
    let t : xs ++ x ∷ [] ≡ ys ++ y ∷ [] = cc in
    let r = last-same xs ys x y t in
    (ap (λ l. a ∷ l) r.0 ∙ ap (λ z. z ∷ ys) h, r.1)

tx-spares : (left : List Item) → BeforeTx left → spares left ≡ spares (rest_of left) ++ blank (length (script_at left)) ∷ []
tx-spares [] b = absurd b
tx-spares (Tx caller script ∷ items) b = refl
tx-spares (Switch caller alg ∷ items) b = absurd b
tx-spares (Reserve caller reads writes ∷ items) b = absurd b

-- what is in use has the room of the next script, and what is spare that of those after it
pub spare-next : (left : List Item) (spare : List Output) (out : Output) → BeforeTx left → spare ++ cleared out ∷ [] ≡ spares left → (spare ≡ spares (rest_of left)) × (cleared out ≡ blank (length (script_at left)))
spare-next left spare out b h = last-same spare (spares (rest_of left)) (cleared out) (blank (length (script_at left))) (h ∙ tx-spares left b)

pub room-of : (left : List Item) (spare : List Output) (out : Output) → BeforeTx left → spare ++ cleared out ∷ [] ≡ spares left → out.room ≡ length (script_at left)
room-of left spare out b h = ap (λ (o : Output). o.room) (spare-next left spare out b h).1

-- there always is one
pub some-spare : (left : List Item) → 0 < length (spares left)
some-spare [] = omega arith
some-spare (Tx caller script ∷ items) = let l = length-append (spares items) (blank (length script) ∷ []) in omega arith
some-spare (Switch caller alg ∷ items) = some-spare items
some-spare (Reserve caller reads writes ∷ items) = some-spare items

-- so there is room after an open transaction
pub room-left : (left : List Item) (spare : List Output) (out : Output) → BeforeTx left → spare ++ cleared out ∷ [] ≡ spares left → 0 < length spare
room-left left spare out b h = subst (λ l. 0 < length l) (sym (spare-next left spare out b h).0) (some-spare (rest_of left))

-- each is empty
pub spare-empty : (left : List Item) (spare : List Output) (out : Output) → spare ++ out ∷ [] ≡ spares left → out ≡ cleared out
spare-empty [] spare out e = let is = (last-same spare [] out (blank 0) e).1 in is ∙ ap cleared (sym is)
spare-empty (Tx caller script ∷ items) spare out e = let is = (last-same spare (spares items) out (blank (length script)) e).1 in is ∙ ap cleared (sym is)
spare-empty (Switch caller alg ∷ items) spare out e = spare-empty items spare out e
spare-empty (Reserve caller reads writes ∷ items) spare out e = spare-empty items spare out e

-- what was the last spare is now in use
pub room-ended : (left : List Item) (spare less : List Output) (out fresh : Output) → BeforeTx left
    → spare ++ cleared out ∷ [] ≡ spares left → spare ≡ less ++ fresh ∷ []
    → (fresh ≡ cleared fresh) × (less ++ cleared fresh ∷ [] ≡ spares (rest_of left))
room-ended left spare less out fresh b h was =
    let next = sym was ∙ (spare-next left spare out b h).0 in
    let empty = spare-empty (rest_of left) less fresh next in
    (empty, ap (λ o. less ++ o ∷ []) (sym empty) ∙ next)

pub one-less : {A : Type 0} (xs ys : List A) (x : A) → xs ≡ ys ++ x ∷ [] → length xs ≡ length ys + 1
one-less xs ys x e = ap length e ∙ length-append ys (x ∷ [])

abbrev first_at : ℕ → List Item → Alg → Policy → ℕ → ℕ → CallerProgress
first_at n items alg policy reads writes =
    record {
      caller = n;
      left = items;
      failed = 0;
      must = false;
      phase = Between;
      alg = alg;
      rest = [];
      replies = [];
      emits = [];
      wrote = false;
      granted = false;
      rows = [];
      policy = policy;
      profile = no_profile;
      chosen = None;
      reads_limit = reads;
      writes_limit = writes;
    }

-- a worker's place at first, where what is in use is empty
pub start-at : (n : ℕ) (items : List Item) (alg : Alg) (policy : Policy) (reads writes : ℕ) (p : Noted) (o : Output) (rows : List Row) → o ≡ cleared o → rows ≡ [] → p ≡ no_profile
    → record {
      caller = n;
      left = items;
      failed = 0;
      must = false;
      phase = Between;
      alg = alg;
      rest = [];
      replies = o.replies;
      emits = o.emits;
      wrote = false;
      granted = false;
      rows = rows;
      policy = policy;
      profile = p;
      chosen = None;
      reads_limit = reads;
      writes_limit = writes;
    } ≡ first_at n items alg policy reads writes
start-at n items alg policy reads writes p o rows empty none new =
    let r = ap (λ (x : Output). x.replies) empty in let e = ap (λ (x : Output). x.emits) empty in cc
