-- What a push makes of what a log holds.
use Rattle.std.proofs.Common.{ℕ, ◌≡◌, ◌<◌, ◌+◌, List, [], ◌∷◌, ◌++◌, inl, inr, length, get_or, set, take, refl, sym, ap, ◌∙◌, arith}
use Rattle.std.specs.Prelude.{None, IsSome}
use Rattle.std.proofs.lemmas.List.{take_more, length-take-le}
use Rattle.stm_model.specs.Memories.{item_at, put, Once}
use Rattle.stm_logs.specs.declared.push.Repeat.{Repeat}
use Rattle.stm_logs.specs.declared.push.Repeat.TheVariants.{Keep, Replace}
use Rattle.stm_logs.specs.declared.push.Push.{Push}
use Rattle.stm_logs.specs.declared.push.Push.TheVariants.{Done, Full}
use Rattle.stm_logs.specs.Buckets.{address_of}
use Rattle.stm_logs.specs.LogStates.{LogState, keep, pushed, Pushes}
use Rattle.stm_logs.proofs.ItemLemmas.{item-here, none-take, put-there, keep-there, put-new, keep-new}

with-items : (l : LogState) (xs ys : List (ℕ × ℕ)) → xs ≡ ys → ◌≡◌ {A = LogState} (record l { items = xs }) (record l { items = ys })
with-items l xs ys e = ap (λ (zs : List (ℕ × ℕ)). let h : LogState = record l { items = zs } in h) e

some-there : (items : List (ℕ × ℕ)) (i a : ℕ) → Once items → i < length items → address_of items i ≡ a → IsSome (item_at a items)
some-there items i a o l e = let h = item-here items i a o l e in rw h refl

pub pushes-kept : (l : LogState) (a v i : ℕ) → Once l.items → i < length l.items → address_of l.items i ≡ a → Pushes l a (pushed Keep a v l.items) Done l
pushes-kept l a v i o b e = (inl (some-there l.items i a o b e), with-items l l.items (keep a v l.items) (sym (keep-there l.items i a v b e)))

pub pushes-replaced : (l : LogState) (a v i : ℕ) → Once l.items → i < length l.items → address_of l.items i ≡ a → Pushes l a (pushed Replace a v l.items) Done (record l { items = set l.items i (a, v) })
pushes-replaced l a v i o b e = (inl (some-there l.items i a o b e), with-items l (set l.items i (a, v)) (put a v l.items) (sym (put-there l.items i a v o b e)))

pushed-new : (r : Repeat) (items : List (ℕ × ℕ)) (a v : ℕ) → item_at a items ≡ None → pushed r a v items ≡ items ++ (a, v) ∷ []
pushed-new Keep items a v h = keep-new items a v h
pushed-new Replace items a v h = put-new items a v h

pub pushes-new : (l : LogState) (r : Repeat) (a v : ℕ) (items : List (ℕ × ℕ)) → item_at a l.items ≡ None → length l.items < l.len
    → items ≡ l.items ++ (a, v) ∷ [] → Pushes l a (pushed r a v l.items) Done (record l { items = items })
pushes-new l r a v items h room e = (inr room, with-items l items (pushed r a v l.items) (e ∙ sym (pushed-new r l.items a v h)))

-- the step of a rebuilding: the next item goes to the end
pub pushes-next : (l k : LogState) (a v i : ℕ) (items : List (ℕ × ℕ)) (r : Push) → Once items → i < length items
    → get_or items i (0, 0) ≡ (a, v) → l.items ≡ take i items → i < l.len → Pushes l a (pushed Keep a v l.items) r k
    → k ≡ record l { items = take (i + 1) items }
pushes-next l k a v i items (Full limit) o b e is room p = absurd (omega (arith, p.1, ap length is, length-take-le i items (omega arith)))
pushes-next l k a v i items Done o b e is room p =
    let new : item_at a l.items ≡ None = rw is (ap (λ (w : ℕ × ℕ). item_at w.0 (take i items)) (sym e) ∙ none-take items i o b) in
    let more : take (i + 1) items ≡ take i items ++ (a, v) ∷ [] = take_more items i (0, 0) b ∙ ap (λ (w : ℕ × ℕ). take i items ++ w ∷ []) e in
    p.1 ∙ with-items l (keep a v l.items) (take (i + 1) items) (keep-new l.items a v new ∙ (ap (λ (xs : List (ℕ × ℕ)). xs ++ (a, v) ∷ []) is ∙ sym more))
