-- Cursors say where their callers stand.
use Rattle.std.proofs.Common.{ℕ, zero, suc, ◌≡◌, ◌<◌, ◌≤◌, ◌+◌, List, [], ◌∷◌, length, drop, replicate, refl, sym, ap, ◌∙◌, arith, subst}
use Rattle.std.specs.Prelude.{Option, Some, None, MatchOption, true, false, ltb, slice_index_or, slice_set}
use Rattle.std.proofs.lemmas.Bool.Decides.{nat_tests}
use Rattle.work_script.specs.declared.op.Op.{Op}
use Rattle.work_script.specs.declared.workload.Item.{Item}
use Rattle.work_script.specs.declared.workload.Version.{Version}
use Rattle.work_trace.specs.declared.line.Line.{Line}
use Rattle.work_trace.specs.declared.line.Line.TheVariants.{Of}
use Rattle.work_trace.specs.declared.said.Said.{Said}
use Rattle.draw_core.specs.declared.cursor.Cursor.{Cursor}
use Rattle.draw_pictures.specs.declared.step.Deed.{Deed}
use Rattle.draw_pictures.specs.declared.step.Step.{Step}
use Rattle.draw_core.specs.declared.turn.Turn.{Turn}
use Rattle.draw_core.specs.Turns.{Stand, past_next, turn_of, after, told_by}
use Rattle.draw_core.specs.Walks.{first_from, stand_at, deed_of, turned, goes, opened, stand_of, stands_of, AreWithin}

pub length-stands : (items : List Item) (n : ℕ) (cs : List Cursor) → length (stands_of items n cs) ≡ length cs
length-stands items n [] = refl
length-stands items n (c ∷ cs) = ap suc (length-stands items (n + 1) cs)

-- one caller's

stand-from : (items : List Item) (n k : ℕ) (cs : List Cursor) (none : Stand) (d : Cursor) → k < length cs → slice_index_or (stands_of items n cs) k none ≡ stand_of items (n + k) (slice_index_or cs k d)
stand-from items n k [] none d lt = absurd (omega arith)
stand-from items n zero (c ∷ cs) none d lt = ap (λ (m : ℕ). stand_of items m c) (let e : n ≡ n + 0 = omega arith in e)
stand-from items n (suc k) (c ∷ cs) none d lt =
    stand-from items (n + 1) k cs none d (omega arith) ∙ ap (λ (m : ℕ). stand_of items m (slice_index_or cs k d)) (let e : n + 1 + k ≡ n + suc k = omega arith in e)

pub stand-of : (items : List Item) (k : ℕ) (cs : List Cursor) (d : Cursor) → k < length cs → stand_at (stands_of items 0 cs) k ≡ stand_of items k (slice_index_or cs k d)
stand-of items k cs d lt =
    stand-from items 0 k cs (record { scripts = []; attempt = None }) d lt ∙ ap (λ (m : ℕ). stand_of items m (slice_index_or cs k d)) (let e : 0 + k ≡ k = omega arith in e)

set-from : (items : List Item) (n k : ℕ) (cs : List Cursor) (c : Cursor) → slice_set (stands_of items n cs) k (stand_of items (n + k) c) ≡ stands_of items n (slice_set cs k c)
set-from items n k [] c = refl
set-from items n zero (b ∷ cs) c = ap (λ (m : ℕ). stand_of items m c ∷ stands_of items (n + 1) cs) (let e : n + 0 ≡ n = omega arith in e)
set-from items n (suc k) (b ∷ cs) c =
    ap (λ (x : List Stand). stand_of items n b ∷ x)
    (ap (λ (m : ℕ). slice_set (stands_of items (n + 1) cs) k (stand_of items m c)) (let e : n + suc k ≡ n + 1 + k = omega arith in e) ∙ set-from items (n + 1) k cs c)

pub set-stand : (items : List Item) (k : ℕ) (cs : List Cursor) (c : Cursor) → slice_set (stands_of items 0 cs) k (stand_of items k c) ≡ stands_of items 0 (slice_set cs k c)
set-stand items k cs c = ap (λ (m : ℕ). slice_set (stands_of items 0 cs) k (stand_of items m c)) (let e : k ≡ 0 + k = omega arith in e) ∙ set-from items 0 k cs c

-- each looks on from an item, or after the last one

pub within-at : (items : List Item) (k : ℕ) (cs : List Cursor) (d : Cursor) → AreWithin items cs → k < length cs → (slice_index_or cs k d).item ≤ length items
within-at items k [] d a lt = absurd (omega arith)
within-at items zero (c ∷ cs) d a lt = a.0
within-at items (suc k) (c ∷ cs) d a lt = within-at items k cs d a.1 (omega arith)

pub within-set : (items : List Item) (k : ℕ) (cs : List Cursor) (c : Cursor) → AreWithin items cs → c.item ≤ length items → AreWithin items (slice_set cs k c)
within-set items k [] c a le = tt
within-set items zero (b ∷ cs) c a le = (le, a.1)
within-set items (suc k) (b ∷ cs) c a le = (a.0, within-set items k cs c a.1 le)

-- at first

abbrev pub first_cursor : Cursor
first_cursor = record { item = 0; done = None }

pub first-stands : (items : List Item) (n callers : ℕ) → stands_of items n (replicate callers first_cursor) ≡ first_from items n callers
first-stands items n zero = refl
first-stands items n (suc k) = ap (λ (x : List Stand). stand_of items n first_cursor ∷ x) (first-stands items (n + 1) k)

pub first-within : (items : List Item) (callers : ℕ) → AreWithin items (replicate callers first_cursor)
first-within items zero = tt
first-within items (suc k) = (omega arith, first-within items k)

-- the next operation is done
pub past-open : (scripts later : List (List Op)) (script : List Op) (done : ℕ) (op : Op) → scripts ≡ script ∷ later
    → drop done script ≡ op ∷ drop (done + 1) script → opened scripts (Some (done + 1)) ≡ past_next (opened scripts (Some done))
past-open scripts later script done op e cut =
    ap (λ (x : List (List Op)). opened x (Some (done + 1))) e
    ∙ sym (ap (λ (x : List (List Op)). past_next (opened x (Some done))) e ∙ ap (λ (x : List Op). past_next (Some x)) cut)

-- a line

module _ (version : Version) (stands : List Stand) (n : ℕ) (said : Said) where
  pub goes-out : length stands ≤ n → goes version stands (Of n said) ≡ None
  goes-out le = let t : ltb n (length stands) ≡ false = grind (arith, nat_tests) in rw t refl

  goes-in : n < length stands → goes version stands (Of n said) ≡ turned version stands n said (after (stand_at stands n) (turn_of said))
  goes-in lt = let t : ltb n (length stands) ≡ true = grind (arith, nat_tests) in rw t refl

  module _ (at : Stand) (lt : n < length stands) (is : stand_at stands n ≡ at) where
    goes-at : goes version stands (Of n said) ≡ turned version stands n said (after at (turn_of said))
    goes-at = goes-in lt ∙ ap (λ (x : Stand). turned version stands n said (after x (turn_of said))) is

    pub goes-none : (turn : Turn) → turn ≡ turn_of said → after at turn ≡ None → goes version stands (Of n said) ≡ None
    goes-none turn t none = goes-at ∙ ap (turned version stands n said) (ap (after at) (sym t) ∙ none)

    pub goes-some : (turn : Turn) (to : Stand) (op : Option Op) → turn ≡ turn_of said → after at turn ≡ Some to → op ≡ told_by at turn
        → goes version stands (Of n said) ≡ Some (record { line = Of n said; deed = deed_of version op }, slice_set stands n to)
    goes-some turn to op t some told =
        goes-at
        ∙ (ap (turned version stands n said) (ap (after at) (sym t) ∙ some)
        ∙ ap
        (λ (o : Option Op).
        (let p : Option (Step × List Stand) = Some (record { line = Of n said; deed = deed_of version o }, slice_set stands n to) in p))
        (sym (told ∙ ap (told_by at) t ∙ ap (λ (x : Stand). told_by x (turn_of said)) (sym is))))

pub step-same : (l : Line) (d e : Option Deed) (xs ys : List Stand) → d ≡ e → xs ≡ ys
    → (let p : Option (Step × List Stand) = Some (record { line = l; deed = d }, xs) in p) ≡ Some (record { line = l; deed = e }, ys)
step-same l d e xs ys q r = cc

pub none-goes : (o : Option Step) (version : Version) (stands new : List Stand) (line : Line) → o ≡ None → goes version stands line ≡ None
    → MatchOption o (goes version stands line ≡ None) (λ s. goes version stands line ≡ Some (s, new))
none-goes o version stands new line e none = subst (λ (x : Option Step). MatchOption x (goes version stands line ≡ None) (λ s. goes version stands line ≡ Some (s, new))) (sym e) none
