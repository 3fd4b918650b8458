-- What stands of a worker whatever its turn is.
use Rattle.std.proofs.Common.{ℕ, zero, suc, ◌≡◌, ◌≤◌, ◌+◌, true, false, List, [], ◌∷◌, ◌++◌, length, get_or, drop, refl, sym, ap, ◌∙◌, arith, subst, length-append, append_assoc, inl, inr}
use Rattle.std.specs.Prelude.{◌⊎◌, ◌==◌}
use Rattle.std.proofs.lemmas.Bool.Decides.{nat_tests}
use Rattle.stm_model.specs.declared.alg.Alg.{Alg}
use Rattle.stm_model.specs.declared.config.Config.{Config}
use Rattle.work_script.specs.declared.op.Op.{Op}
use Rattle.work_script.specs.declared.op.Op.TheVariants.{Read, Write, Add, Move, Emit, Irrev, Cancel, Count, Total, ListInsert, ListRemove, ListContains, ListLength, HashInsert, HashRemove, HashContains, TreeInsert, TreeRemove, TreeContains, TreeLeast, QueuePut, QueueGet, MapPut, MapRemove, MapGet, MapSum}
use Rattle.data_regions.specs.declared.region.Region.{Region}
use Rattle.work_script.specs.declared.report.Row.{Row}
use Rattle.work_script.specs.declared.workload.Item.{Item}
use Rattle.work_script.specs.declared.workload.Item.TheVariants.{Tx, Switch, Reserve}
use Rattle.work_script.specs.GrowthLaws.{Grew, grew-trans, worked-grows}
use Rattle.work_script.specs.Keeping.{ScriptKeeps}
use Rattle.work_script.specs.Operations.{ScriptFits, emits_of}
use Rattle.work_script.specs.Outputs.{Output, HasRoom}
use Rattle.work_script.specs.Parts.{Worked}
use Rattle.work_script.specs.Reports.{scripts_of, script_of, zeros}
use Rattle.stm_rule.specs.Callers.{Handle, IsSameCaller}
use Rattle.stm_answers.specs.Answers.{HoldsClosed}
use Rattle.stm_answers.specs.CallerState.{CallerState, caller_of}
use Rattle.work_trace.specs.declared.said.Phase.{Phase}
use Rattle.work_trace.specs.declared.said.Phase.TheVariants.{Between, Inside, Closing, Quiet}
use Rattle.work_trace.specs.Places.{script_at, rest_of}
use Rattle.work_trace.specs.Turns.{BeforeTx, Lengthens, SwitchesTo, Next}
use Rattle.work_worker.specs.Workers.{IsAt, WhenInside, ItemsFit, DidFirst, Works, WorksSince, Stands, cleared, spares}

pub callers-same : {K : Type 0} (d e : Handle K) → IsSameCaller d e → caller_of e.who.role ≡ caller_of d.who.role
callers-same d e s = ap (λ x. caller_of x.role) s.who

pub same-twice : {K : Type 0} (d e f : Handle K) → IsSameCaller d e → IsSameCaller e f → IsSameCaller d f
same-twice d e f a b = record { table = b.table ∙ a.table; who = b.who ∙ a.who }

pub head-fits : (good : List ℕ → Type 0) (words : ℕ) (regions : List Region) (n : ℕ) (left : List Item) → BeforeTx left → ItemsFit good words regions n left
    → ScriptFits regions words (script_at left) × ScriptKeeps good words regions (script_at left)
head-fits good words regions n [] b h = absurd b
head-fits good words regions n (Tx caller script ∷ items) b h = (h.1, h.2)
head-fits good words regions n (Switch caller alg ∷ items) b h = absurd b
head-fits good words regions n (Reserve caller reads writes ∷ items) b h = absurd b

pub rest-fits : (good : List ℕ → Type 0) (words : ℕ) (regions : List Region) (n : ℕ) (left : List Item) → ItemsFit good words regions n left → ItemsFit good words regions n (rest_of left)
rest-fits good words regions n [] h = h
rest-fits good words regions n (Tx caller script ∷ items) h = h.3
rest-fits good words regions n (Switch caller alg ∷ items) h = h.1
rest-fits good words regions n (Reserve caller reads writes ∷ items) h = h.3

pub tx-scripts : (good : List ℕ → Type 0) (words : ℕ) (regions : List Region) (n : ℕ) (left : List Item) → BeforeTx left
    → ItemsFit good words regions n left → scripts_of n left ≡ script_at left ∷ scripts_of n (rest_of left)
tx-scripts good words regions n [] b h = absurd b
tx-scripts good words regions n (Tx caller script ∷ items) b h =
    let e = h.0 in
    let test : (caller == n) ≡ true = grind (arith, nat_tests) in rw test refl
tx-scripts good words regions n (Switch caller alg ∷ items) b h = absurd b
tx-scripts good words regions n (Reserve caller reads writes ∷ items) b h = absurd b

-- a transaction stands first
-- a switch stands first
pub switch-left : (n : ℕ) (alg : Alg) (left : List Item) → SwitchesTo alg left
    → (scripts_of n (rest_of left) ≡ scripts_of n left) × (spares left ≡ spares (rest_of left))
switch-left n alg [] h = absurd h
switch-left n alg (Tx caller script ∷ items) h = absurd h
switch-left n alg (Switch caller a ∷ items) h = (refl, refl)
switch-left n alg (Reserve caller reads writes ∷ items) h = absurd h

-- longer logs stand first
pub reserve-left : (n reads writes : ℕ) (left : List Item) → Lengthens reads writes left
    → (scripts_of n (rest_of left) ≡ scripts_of n left) × (spares left ≡ spares (rest_of left))
reserve-left n reads writes [] h = absurd h
reserve-left n reads writes (Tx caller script ∷ items) h = absurd h
reserve-left n reads writes (Switch caller alg ∷ items) h = absurd h
reserve-left n reads writes (Reserve caller r w ∷ items) h = (refl, refl)

pub drop-head : {A : Type 0} (k : ℕ) (d x : A) (xs ys : List A) → x ∷ ys ≡ drop k xs → (get_or xs k d ≡ x) × (ys ≡ drop (suc k) xs)
drop-head zero d x [] ys h = absurd cc
drop-head zero d x (y ∷ xs) ys h = (cc, cc)
drop-head (suc k) d x [] ys h = absurd cc
drop-head (suc k) d x (y ∷ xs) ys h = drop-head k d x xs ys h

pub drop-more : {A : Type 0} (k : ℕ) (x : A) (xs ys : List A) → x ∷ ys ≡ drop k xs → suc k ≤ length xs
drop-more zero x [] ys h = absurd cc
drop-more zero x (y ∷ xs) ys h = omega arith
drop-more (suc k) x [] ys h = absurd cc
drop-more (suc k) x (y ∷ xs) ys h = let r = drop-more k x xs ys h in omega arith

pub next-is : (op : Op) (ops : List Op) → Next op ops → ops ≡ op ∷ rest_of ops
next-is op [] h = absurd h
next-is op (o ∷ ops) h = ap (λ x. x ∷ ops) h

-- there is room for one reply of the operation that comes next, and then for the others
pub room-now : (op : Op) (ops : List Op) (o : Output) → Next op ops → HasRoom o (length ops) → HasRoom o 1
room-now op [] o n h = absurd n
room-now op (x ∷ ops) o n h = let a = h.0 in let b = h.1 in (omega (arith, a), omega (arith, b))

pub room-next : (o p : Output) (reply n : ℕ) (emits : List ℕ) → p ≡ record o { replies = o.replies ++ reply ∷ []; emits = o.emits ++ emits } → length emits ≤ 1 → HasRoom o (suc n) → HasRoom p n
room-next o p reply n emits e few h =
    let a = h.0 in let b = h.1 in
    let l : length p.replies ≡ length o.replies + 1 = ap (λ (x : Output). length x.replies) e ∙ length-append o.replies (reply ∷ []) in
    let k : length p.emits ≡ length o.emits + length emits = ap (λ (x : Output). length x.emits) e ∙ length-append o.emits emits in
    let r : p.room ≡ o.room = ap (λ (x : Output). x.room) e in
    (omega (arith, a, l, r), omega (arith, b, k, r, few))

pub room-told : (o p : Output) (reply n : ℕ) → p ≡ record o { replies = o.replies ++ reply ∷ [] } → HasRoom o (suc n) → HasRoom p n
room-told o p reply n e h =
    let a = h.0 in let b = h.1 in
    let l : length p.replies ≡ length o.replies + 1 = ap (λ (x : Output). length x.replies) e ∙ length-append o.replies (reply ∷ []) in
    let k : length p.emits ≡ length o.emits = ap (λ (x : Output). length x.emits) e in
    let r : p.room ≡ o.room = ap (λ (x : Output). x.room) e in
    (omega (arith, a, l, r), omega (arith, b, k, r))

-- an operation emits once at most
pub few-emits : (op : Op) (reply : ℕ) → length (emits_of op reply) ≤ 1
few-emits (Read a) reply = omega arith
few-emits (Write a v) reply = omega arith
few-emits (Add a k) reply = omega arith
few-emits (Move a b k) reply = omega arith
few-emits (Emit a) reply = omega arith
few-emits Irrev reply = omega arith
few-emits Cancel reply = omega arith
few-emits (Count r stripe k) reply = omega arith
few-emits (Total r) reply = omega arith
few-emits (ListInsert r key) reply = omega arith
few-emits (ListRemove r key) reply = omega arith
few-emits (ListContains r key) reply = omega arith
few-emits (ListLength r) reply = omega arith
few-emits (HashInsert r key) reply = omega arith
few-emits (HashRemove r key) reply = omega arith
few-emits (HashContains r key) reply = omega arith
few-emits (TreeInsert r key) reply = omega arith
few-emits (TreeRemove r key) reply = omega arith
few-emits (TreeContains r key) reply = omega arith
few-emits (TreeLeast r) reply = omega arith
few-emits (QueuePut r v) reply = omega arith
few-emits (QueueGet r) reply = omega arith
few-emits (MapPut r key v) reply = omega arith
few-emits (MapRemove r key) reply = omega arith
few-emits (MapGet r key) reply = omega arith
few-emits (MapSum r lo hi) reply = omega arith

-- a reply more is in the room that was there
pub cleared-told : (o p : Output) (rs : List ℕ) → p ≡ record o { replies = rs } → cleared p ≡ cleared o
cleared-told o p rs e = ap cleared e

pub cleared-more : (o p : Output) (rs es : List ℕ) → p ≡ record o { replies = rs; emits = es } → cleared p ≡ cleared o
cleared-more o p rs es e = ap cleared e

pub works-later : (good : List ℕ → Type 0) (words : ℕ) (regions : List Region) (all : List Item) (n : ℕ) (v w : CallerState)
    (rows : List Row) → w.made ≡ v.made → Grew v.seen v.front w.seen w.front → Works good words regions all n v rows
    → Works good words regions all n w rows
works-later good words regions all n v w rows made grows h =
    subst (λ m. Worked good (zeros words) regions (script_of all) n m w.seen w.front rows) (sym made) (worked-grows good (zeros words) regions (script_of all) n v.made v.seen v.front w.seen w.front rows grows h)

pub since-later : (good : List ℕ → Type 0) (words : ℕ) (regions : List Region) (all : List Item) (n : ℕ) (v w : CallerState)
    (rows : List Row) → w.made ≡ v.made → Grew v.seen v.front w.seen w.front → v.start ≤ w.start
    → WorksSince good words regions all n v rows → WorksSince good words regions all n w rows
since-later good words regions all n v w rows made grows start h = record {
  seen = h.seen;
  front = h.front;
  works = subst (λ m. Worked good (zeros words) regions (script_of all) n m h.seen h.front rows) (sym made) h.works;
  grew = grew-trans h.seen h.front v.seen v.front w.seen w.front h.grew grows;
  fresh = (let f = h.fresh in omega arith);
}

pub since-begin : (good : List ℕ → Type 0) (words : ℕ) (regions : List Region) (all : List Item) (n : ℕ) (v w : CallerState)
    (rows : List Row) → w.made ≡ v.made → Grew v.seen v.front w.seen w.front → v.front ≤ w.start → Works good words regions all n v rows
    → WorksSince good words regions all n w rows
since-begin good words regions all n v w rows made grows fresh h = record {
  seen = v.seen;
  front = v.front;
  works = subst (λ m. Worked good (zeros words) regions (script_of all) n m v.seen v.front rows) (sym made) h;
  grew = grows;
  fresh = fresh;
}

-- no attempt is open
abbrev pub Rest : Phase → Type 0
Rest Between = Unit {0}
Rest Inside = ⊥
Rest Closing = Unit {0}
Rest Quiet = Unit {0}

pub rest-between : (p : Phase) → p ≡ Between → Rest p
rest-between p e = subst Rest (sym e) tt

pub rest-closing : (p : Phase) → p ≡ Closing → Rest p
rest-closing p e = subst Rest (sym e) tt

pub rest-quiet : (p : Phase) → p ≡ Quiet → Rest p
rest-quiet p e = subst Rest (sym e) tt

pub rest-closed : (p : Phase) → (p ≡ Closing) ⊎ (p ≡ Quiet) → Rest p
rest-closed p (inl e) = rest-closing p e
rest-closed p (inr e) = rest-quiet p e

pub at-closed : (good : List ℕ → Type 0) (c : Config) (n : ℕ) (p : Phase) (v : CallerState) → (p ≡ Closing) ⊎ (p ≡ Quiet) → IsAt good c n p v → HoldsClosed v
at-closed good c n p v (inl e) h = subst (λ q. IsAt good c n q v) e h
at-closed good c n p v (inr e) h = (subst (λ q. IsAt good c n q v) e h).0

pub when-rest : (p : Phase) → Rest p → (P : Type 0) → WhenInside p P
when-rest Between r P = tt
when-rest Inside r P = absurd r
when-rest Closing r P = tt
when-rest Quiet r P = tt

pub rest-runs : (good : List ℕ → Type 0) (c : Config) (n : ℕ) (p : Phase) (v : CallerState) → Rest p → IsAt good c n p v → v.running ≡ false
rest-runs good c n Between v r h = h.1
rest-runs good c n Inside v r h = absurd r
rest-runs good c n Closing v r h = h.running
rest-runs good c n Quiet v r h = h.0.running

module _ (good : List ℕ → Type 0) (words : ℕ) (regions : List Region) (all : List Item) (n : ℕ) (v : CallerState) (rows : List Row) where
  pub rest-stands : (p : Phase) → Rest p → Stands good words regions all n v rows p → Works good words regions all n v rows
  rest-stands Between r h = h
  rest-stands Inside r h = absurd r
  rest-stands Closing r h = h
  rest-stands Quiet r h = h

  pub stands-rest : (p : Phase) → Rest p → Works good words regions all n v rows → Stands good words regions all n v rows p
  stands-rest Between r h = h
  stands-rest Inside r h = absurd r
  stands-rest Closing r h = h
  stands-rest Quiet r h = h

-- an attempt that is over has left what was seen before and during it
pub works-over : (good : List ℕ → Type 0) (words : ℕ) (regions : List Region) (all : List Item) (n : ℕ) (v w : CallerState)
    (rows : List Row) → w.made ≡ v.made → Grew v.seen v.front w.seen w.front → WorksSince good words regions all n v rows
    → Works good words regions all n w rows
works-over good words regions all n v w rows made grows h =
    subst (λ m. Worked good (zeros words) regions (script_of all) n m w.seen w.front rows) (sym made)
    (worked-grows good (zeros words) regions (script_of all) n v.made h.seen h.front w.seen w.front rows (grew-trans h.seen h.front v.seen v.front w.seen w.front h.grew grows) h.works)

-- the next item is done
pub did-first : (all left : List Item) → DidFirst all left → DidFirst all (rest_of left)
did-first all [] h = h
did-first all (i ∷ left) h = (h.0 ++ i ∷ [], h.1 ∙ sym (append_assoc h.0 (i ∷ []) left))
